-- The parts of a cursor's text, and the first bad one.
use Rattle.std.specs.Prelude.{ℕ, ◌+◌, ◌==◌, ◌&&◌, ◌||◌, Bool, true, false, not, List, [], ◌∷◌, length, codes, if◌then◌else◌, Option, None, Some, Result, Ok, Err, slice_get, option_and_then}
use Rattle.std.specs.Option.{is_some, unwrap_or}
use Rattle.std.specs.List.{slice_split}
use Rattle.std.specs.Str.{bytes_eq}
use Rattle.base64.specs.declared.decode.DecodeError.{DecodeError}
use Rattle.base64.specs.GeneralPurpose.{decode_of}
use Rattle.base64.specs.Engines.{url_safe_no_pad}
use Rattle.block_record.specs.Number.{number_of}
use Rattle.block_record.specs.Texts.{is_id_text}
use Rattle.chain_model.specs.declared.places.Step.{Step}
use Rattle.chain_model.specs.declared.places.Step.TheVariants as step
use Rattle.step_cursor.specs.declared.form.Form.{Form}
use Rattle.step_cursor.specs.declared.form.Form.TheVariants.{AtEnd, AtLib, Apart}

-- the parts of a plain text between its slashes
abbrev pub parts : List ℕ → List (List ℕ)
parts plain = slice_split (λ b. b == 47) plain

-- the words of what stands before the first slash, between its colons
abbrev pub words : List (List ℕ) → List (List ℕ)
words ps = slice_split (λ b. b == 58) (unwrap_or (slice_get ps 0) [])

-- the form that a word names
abbrev pub form_named : List ℕ → Option Form
form_named word = if bytes_eq word (codes "c1") then Some AtEnd else if bytes_eq word (codes "c2") then Some AtLib else if bytes_eq word (codes "c3") then Some Apart else None

-- the step whose number a word is
abbrev pub step_named : List ℕ → Option Step
step_named word = if bytes_eq word (codes "1") then Some step.New else if bytes_eq word (codes "2") then Some step.Undo else if bytes_eq word (codes "16") then Some step.Final else if bytes_eq word (codes "17") then Some step.NewFinal else None

-- the id that a word is
abbrev pub id_of : List ℕ → Option (List ℕ)
id_of word = if is_id_text word then Some word else None

-- whether a part is there and can be read
abbrev pub is_read : {A : Type 0} → (List ℕ → Option A) → Option (List ℕ) → Bool
is_read read part = is_some (option_and_then read part)

-- whether a part is this text
abbrev pub is_text : List ℕ → Option (List ℕ) → Bool
is_text text None = false
is_text text (Some part) = bytes_eq part text

-- whether two parts are there and are one text
abbrev pub is_same : Option (List ℕ) → Option (List ℕ) → Bool
is_same None b = false
is_same (Some a) b = is_text a b

-- whether the pair that begins at the k-th word is `0:-`, a missing block
abbrev pub is_missing : List (List ℕ) → ℕ → Bool
is_missing ws k = is_text (codes "0") (slice_get ws k) && is_text (codes "-") (slice_get ws (k + 1))

-- whether the number of the pair that begins at the k-th word is good
abbrev pub is_pair_num : List (List ℕ) → ℕ → Bool
is_pair_num ws k = is_missing ws k || is_read number_of (slice_get ws k)

-- whether its id is
abbrev pub is_pair_id : List (List ℕ) → ℕ → Bool
is_pair_id ws k = is_missing ws k || is_read id_of (slice_get ws (k + 1))

-- whether the pair that begins at the k-th word is the pair of the block
abbrev pub is_block_again : List (List ℕ) → ℕ → Bool
is_block_again ws k = is_same (slice_get ws k) (slice_get ws 2) && is_same (slice_get ws (k + 1)) (slice_get ws 3)

-- whether a form has a second pair after the block
abbrev pub has_second : Option Form → Bool
has_second None = false
has_second (Some AtEnd) = false
has_second (Some AtLib) = false
has_second (Some Apart) = true

-- whether an earlier form fits the same value: of `c2` where the end is the block, of `c3` where the end or the lib is
abbrev pub earlier_fits : Option Form → List (List ℕ) → Bool
earlier_fits None ws = false
earlier_fits (Some AtEnd) ws = false
earlier_fits (Some AtLib) ws = is_block_again ws 4
earlier_fits (Some Apart) ws = is_block_again ws 4 || is_block_again ws 6

-- whether each part of a plain text is good, in the order of their places from 1 on
abbrev pub are_good : Option Form → List (List ℕ) → List (List ℕ) → List Bool
are_good form ws ps =
    is_some form
    ∷ is_read step_named (slice_get ws 1)
    ∷ is_read number_of (slice_get ws 2)
    ∷ is_read id_of (slice_get ws 3)
    ∷ is_pair_num ws 4
    ∷ is_pair_id ws 4
    ∷ (not (has_second form) || is_pair_num ws 6)
    ∷ (not (has_second form) || is_pair_id ws 6)
    ∷ (length ps == 1 || is_read number_of (slice_get ps 1))
    ∷ (length ps == 1 || (length ps == 3 && is_read number_of (slice_get ps 2)))
    ∷ (length ws == (if has_second form then 8 else 6) && not (earlier_fits form ws))
    ∷ []

-- the place of the first test that fails, where the first of them has this place
abbrev pub first_failure : ℕ → List Bool → Option ℕ
first_failure place [] = None
first_failure place (good ∷ more) = if good then first_failure (place + 1) more else Some place

-- the place of the first bad part of a plain text, from 1 on
abbrev pub plain_fault : List ℕ → Option ℕ
plain_fault plain =
    let ps = parts plain in
    let ws = words ps in
    first_failure 1 (are_good (option_and_then form_named (slice_get ws 0)) ws ps)

-- that of a text which decodes so: one that is no base64url is bad at 0
abbrev pub fault_of : Result (List ℕ) DecodeError → Option ℕ
fault_of (Err error) = Some 0
fault_of (Ok plain) = plain_fault plain

-- the place of the first bad part of a cursor's text, and none where each part is good
abbrev pub cursor_fault : List ℕ → Option ℕ
cursor_fault text = fault_of (decode_of url_safe_no_pad text)
