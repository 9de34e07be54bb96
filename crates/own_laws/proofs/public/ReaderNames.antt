-- The name of a block's own file tells its reader, which follows the last dash.
use Rattle.std.proofs.Common.{◌≡◌, ℕ, true, false, ◌&&◌, cond, eqb, nat_lt, nat_le, List, [], ◌∷◌, ◌++◌, length, Option, Some, None, refl, sym, ◌∙◌, ap}
use Rattle.std.specs.Prelude.{codes}
use Rattle.std.specs.Fmt.{decimal}
use Rattle.std.specs.List.{list_all}
use Rattle.std.specs.Option.{option_or}
use Rattle.std.specs.Str.{bytes_eq}
use Rattle.std.proofs.lemmas.Bool.{and_parts, eqb-true, false_from_ne_true}
use Rattle.std.proofs.lemmas.Slice.Eq.{bytes_eq-Decides}
use Rattle.block_record.specs.declared.blocks.Slip.{Slip}
use Rattle.block_record.specs.Texts.{is_reader_byte, IsReaderName}
use Rattle.one_block.specs.declared.names.NameParts.{NameParts}
use Rattle.one_block.specs.Files.{bare_text}
use Rattle.one_block.specs.Moments.{moment_of, moment_text}
use Rattle.one_block.specs.Names.{name_text, parts_of, one_block_name, own_file}
use Rattle.one_block.specs.Numerals.{padded}
use Rattle.one_block.proofs.public.FileFacts.{bare_again}
use Rattle.one_block.proofs.public.OptionFacts.{some_is}

-- what follows the last dash, where there is one
abbrev after_dash : List ℕ → Option (List ℕ)
after_dash [] = None
after_dash (b ∷ rest) = option_or (after_dash rest) (cond (eqb b 45) (Some rest) None)

not_dash : (b : ℕ) → is_reader_byte b ≡ true → eqb b 45 ≡ false
not_dash b e = false_from_ne_true (eqb b 45) (λ is. let dash : is_reader_byte 45 ≡ true = ap is_reader_byte (sym (eqb-true b 45 is)) ∙ e in cc dash)

no_dash : (word : List ℕ) → list_all is_reader_byte word ≡ true → after_dash word ≡ None
no_dash [] e = refl
no_dash (b ∷ rest) e =
    let p = and_parts (is_reader_byte b) (list_all is_reader_byte rest) e in
    let later = no_dash rest p.1 in
    let here = not_dash b p.0 in
    rw (later, here) refl

last_word : (word : List ℕ) → IsReaderName word → after_dash (45 ∷ word) ≡ Some word
last_word word is =
    let none = no_dash word (and_parts (nat_lt 0 (length word) && nat_le (length word) 64) (list_all is_reader_byte word) is).1 in
    rw none refl

after_front : (front rest word : List ℕ) → after_dash rest ≡ Some word → after_dash (front ++ rest) ≡ Some word
after_front [] rest word e = e
after_front (b ∷ front) rest word e = let later = after_front front rest word e in rw later refl

name_ends : (p : NameParts) → IsReaderName p.reader → after_dash (name_text p) ≡ Some p.reader
name_ends p is =
    let r4 : List ℕ = 45 ∷ p.reader in
    let r3 : List ℕ = 45 ∷ (decimal p.lib_num ++ r4) in
    let r2 : List ℕ = 45 ∷ (p.parent_end ++ r3) in
    let r1 : List ℕ = 45 ∷ (p.id_end ++ r2) in
    let r0 : List ℕ = 45 ∷ (moment_text (moment_of p.tenths) ++ r1) in
    after_front (padded 10 p.num) r0 p.reader
    (after_front (45 ∷ moment_text (moment_of p.tenths)) r1 p.reader
    (after_front (45 ∷ p.id_end) r2 p.reader
    (after_front (45 ∷ p.parent_end) r3 p.reader
    (after_front (45 ∷ decimal p.lib_num) r4 p.reader (last_word p.reader is)))))

-- so one own file has one reader
pub one_reader : (s t : Slip) (by by' : List ℕ) → IsReaderName by → IsReaderName by' → own_file s by ≡ own_file t by' → by ≡ by'
one_reader s t by by' is is' e =
    let names : one_block_name s by ≡ one_block_name t by' = some_is (one_block_name s by) (one_block_name t by') (sym (bare s by) ∙ ap bare_text e ∙ bare t by') in
    some_is by by' (sym (name_ends (parts_of s by) is) ∙ ap after_dash names ∙ name_ends (parts_of t by') is')
  where
    bare : (x : Slip) (reader : List ℕ) → bare_text (own_file x reader) ≡ Some (one_block_name x reader)
    bare x reader = bare_again (codes "one") (one_block_name x reader) (refl, (refl, (refl, tt)))

-- and those of two readers have two names
pub readers_apart : (s t : Slip) (by by' : List ℕ) → IsReaderName by → IsReaderName by' → (by ≡ by' → ⊥) → bytes_eq (own_file s by) (own_file t by') ≡ false
readers_apart s t by by' is is' other =
    false_from_ne_true (bytes_eq (own_file s by) (own_file t by')) (λ same. other (one_reader s t by by' is is' ((bytes_eq-Decides (own_file s by) (own_file t by')).0 same)))
