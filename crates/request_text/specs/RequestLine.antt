-- The line of a request, byte by byte: a JSON object without spaces, with a member for each part that is given, and an LF.
use Rattle.std.specs.Prelude.{ℕ, ◌&&◌, Bool, true, List, [], ◌∷◌, codes, if◌then◌else◌, Option, None, Some}
use Rattle.std.specs.Fmt.{decimal}
use Rattle.std.specs.List.{concat}
use Rattle.std.specs.Option.{is_none, option_map}
use Rattle.text_parts.specs.Parts.{escaped}

-- a brace before the first member, and a comma before each other
abbrev pub opener : Bool → List ℕ
opener is_first = if is_first then codes "{" else codes ","

-- a member, by its name with the colon and its value; one that is not given is nothing
abbrev pub member_text : Bool → List ℕ → Option (List ℕ) → List ℕ
member_text is_first name None = []
member_text is_first name (Some value) = concat (opener is_first ∷ name ∷ value ∷ [])

-- a text as a value
abbrev pub quoted : List ℕ → List ℕ
quoted text = concat (codes "\"" ∷ escaped text ∷ codes "\"" ∷ [])

-- `true` or `false`
abbrev pub truth : Bool → List ℕ
truth b = if b then codes "true" else codes "false"

-- the end of the line: without members an empty object
abbrev pub closing : Bool → List ℕ
closing is_first = if is_first then codes "{}\n" else codes "}\n"

-- the line of a request with these parts
abbrev pub request_line : Option (List ℕ) → Option Bool → Option ℕ → Option ℕ → List ℕ
request_line cursor final_only start stop =
    let none_of_one = is_none cursor in
    let none_of_two = none_of_one && is_none final_only in
    let none_of_three = none_of_two && is_none start in
    let none_of_four = none_of_three && is_none stop in
    concat (
    member_text true (codes "\"cursor\":") (option_map quoted cursor)
    ∷ member_text none_of_one (codes "\"final_blocks_only\":") (option_map truth final_only)
    ∷ member_text none_of_two (codes "\"start_block_num\":") (option_map decimal start)
    ∷ member_text none_of_three (codes "\"stop_block_num\":") (option_map decimal stop)
    ∷ closing none_of_four ∷ []
    )
