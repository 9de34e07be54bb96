-- The number with which the name of a file of one block begins.
use Rattle.std.proofs.Common.{arith, ◌≡◌, ℕ, suc, ◌+◌, ◌-◌, ◌<◌, ◌^◌, Bool, true, false, ◌&&◌, cond, eqb, ltb, List, [], ◌∷◌, ◌++◌, length, take, drop, replicate, Option, Some, None, refl, sym, ap, ◌∙◌}
use Rattle.std.specs.Prelude.{All, codes}
use Rattle.std.specs.Fmt.{decimal}
use Rattle.std.specs.Char.{is_ascii_digit}
use Rattle.std.specs.List.{position, position_or_len}
use Rattle.std.specs.Option.{option_map, is_some}
use Rattle.std.proofs.lemmas.Bool.{eqb-true, lt-ltb}
use Rattle.std.proofs.lemmas.List.{take_at, length-append}
use Rattle.std.proofs.lemmas.List.Elements.{All-append, All-replicate}
use Rattle.std.proofs.lemmas.List.Recursion.{is_position_or_len}
use Rattle.std.proofs.lemmas.List.Sums.{AllPass-from_list_all}
use Rattle.block_record.specs.declared.blocks.Slip.{Slip}
use Rattle.block_record.proofs.public.NumberTexts.{decimal_digits}
use Rattle.one_block.specs.Files.{whole_text, bare_text}
use Rattle.one_block.specs.Forms.{by_block_at, bare_form, form_of, is_dash_and_id, own_name}
use Rattle.one_block.specs.Names.{name_parts, name_text, parts_of}
use Rattle.one_block.specs.Moments.{moment_of, moment_text}
use Rattle.one_block.specs.Numerals.{padded, filled_number}
use Rattle.one_block.specs.declared.forms.Folder.{Folder}
use Rattle.one_block.specs.declared.forms.Folder.TheVariants.{One, Forked}
use Rattle.one_block.specs.declared.forms.Form.{Form}
use Rattle.one_block.specs.declared.forms.Form.TheVariants.{ByReader, ByBlock}
use Rattle.one_block.specs.declared.names.NameParts.{NameParts}
use Rattle.one_block.proofs.public.FileFacts.{bare_again, then_is, then_took}
use Rattle.one_block.proofs.public.NameFacts.{name_spelled}
use Rattle.one_block.proofs.public.NumeralFacts.{filled_number-padded}
use Rattle.shelf_load.specs.Singling.{number_before, number_begun, number_in}

-- ---- no dash stands in a number

abbrev Lacks : List ℕ → Type 0
Lacks word = All (λ b. eqb b 45 ≡ false) word

no_digit : (b : ℕ) → is_ascii_digit b ≡ true → eqb b 45 ≡ false
no_digit b digit = by_test (eqb b 45) refl
  where
    by_test : (t : Bool) → eqb b 45 ≡ t → t ≡ false
    by_test false is = refl
    by_test true is = absurd (let dash : is_ascii_digit 45 ≡ true = ap is_ascii_digit (sym (eqb-true b 45 is)) ∙ digit in cc dash)

padded_lacks : (n : ℕ) → n < 2 ^ 64 → Lacks (padded 10 n)
padded_lacks n small =
    All-append (λ x. eqb x 45 ≡ false) (replicate (10 - length (decimal n)) 48) (decimal n) (All-replicate (λ x. eqb x 45 ≡ false) (10 - length (decimal n)) 48 refl)
    (λ k d less. no_digit _ (AllPass-from_list_all is_ascii_digit (decimal n) (decimal_digits n small) k d less))

-- ---- where the first dash stands

abbrev place_of : List ℕ → ℕ
place_of [] = 0
place_of (b ∷ rest) = cond (eqb b 45) 0 (1 + place_of rest)

place_after : (front rest : List ℕ) → Lacks front → place_of (front ++ 45 ∷ rest) ≡ length front
place_after [] rest lacks = refl
place_after (b ∷ front) rest lacks =
    let other : eqb b 45 ≡ false = lacks 0 0 (omega arith) in
    let later = place_after front rest (λ k d less. lacks (suc k) d (omega (arith, less))) in
    rw (other, later) (omega arith)

position_after : (front rest : List ℕ) → Lacks front → position (λ b. eqb b 45) (front ++ 45 ∷ rest) ≡ Some (length front)
position_after front rest lacks =
    let at : position_or_len (λ b. eqb b 45) (front ++ 45 ∷ rest) ≡ length front = sym (is_position_or_len place_of (λ b. eqb b 45) refl (λ b bs. refl) (front ++ 45 ∷ rest)) ∙ place_after front rest lacks in
    let within : ltb (length front) (length (front ++ 45 ∷ rest)) ≡ true = lt-ltb _ _ (omega (arith, length-append front (45 ∷ rest))) in
    rw (at, within) refl

-- ---- numbers that are read

begun_again : (num : ℕ) (rest : List ℕ) → num < 2 ^ 64 → number_begun (padded 10 num ++ 45 ∷ rest) ≡ Some num
begun_again num rest small =
    let front : List ℕ = padded 10 num in
    then_is (number_before (front ++ 45 ∷ rest)) (position (λ b. eqb b 45) (front ++ 45 ∷ rest)) (length front) (position_after front rest (padded_lacks num small))
    ∙ ap (filled_number 10) (take_at front (45 ∷ rest) (length front) refl) ∙ filled_number-padded 10 num small

abbrev name_rest : NameParts → List ℕ
name_rest p = moment_text (moment_of p.tenths) ++ 45 ∷ (p.id_end ++ 45 ∷ (p.parent_end ++ 45 ∷ (decimal p.lib_num ++ 45 ∷ p.reader)))

begun_name : (p : NameParts) → p.num < 2 ^ 64 → number_begun (name_text p) ≡ Some p.num
begun_name p small = begun_again p.num (name_rest p) small

-- a block's own name begins with its number
pub own_number : (form : Form) (s : Slip) → s.num < 2 ^ 64 → number_in (own_name form s) ≡ Some s.num
own_number (ByReader reader) s small =
    then_is number_begun (bare_text (whole_text (codes "one") (name_text (parts_of s reader)))) (name_text (parts_of s reader)) (bare_again (codes "one") (name_text (parts_of s reader)) (refl, (refl, (refl, tt)))) ∙ begun_name (parts_of s reader) small
own_number ByBlock s small =
    let bare : List ℕ = padded 10 s.num ++ 45 ∷ s.id in
    then_is number_begun (bare_text (whole_text (codes "forked") bare)) bare (bare_again (codes "forked") bare (refl, (refl, (refl, (refl, (refl, (refl, tt))))))) ∙ begun_again s.num s.id small

-- ---- a name of a form has a number

abbrev HasSome : Option ℕ → Type 0
HasSome o = (n : ℕ) × (o ≡ Some n)

parts_number : (bare : List ℕ) (o : Option NameParts) (form : Form) → name_parts bare ≡ o → option_map (λ parts. ByReader parts.reader) o ≡ Some form → HasSome (number_begun bare)
parts_number bare None form is e = absurd (cc e)
parts_number bare (Some p) form is e =
    let spelled = name_spelled bare p is in
    (p.num, ap number_begun spelled.1 ∙ begun_name p spelled.0.num)

filled_some : (o : Option ℕ) (t : Bool) (form : Form) → (let none : Option Form = None in cond (is_some o && t) (Some ByBlock) none) ≡ Some form → HasSome o
filled_some None t form e = absurd (cc e)
filled_some (Some n) t form e = (n, refl)

bare_number : (folder : Folder) (bare : List ℕ) (form : Form) → bare_form folder bare ≡ Some form → HasSome (number_begun bare)
bare_number One bare form e = parts_number bare (name_parts bare) form refl e
bare_number Forked bare form e =
    let end = then_took (by_block_at bare) (position (λ b. eqb b 45) bare) form e in
    let n = filled_some (filled_number 10 (take end.0 bare)) (is_dash_and_id (drop end.0 bare)) form end.1.1 in
    (n.0, then_is (number_before bare) (position (λ b. eqb b 45) bare) end.0 end.1.0 ∙ n.1)

-- so a name without a number has no form
pub unformed : (folder : Folder) (name : List ℕ) → number_in name ≡ None → form_of folder name ≡ None
unformed folder name none = by_form (form_of folder name) refl
  where
    by_form : (o : Option Form) → form_of folder name ≡ o → o ≡ None
    by_form None e = refl
    by_form (Some form) e =
        let bare = then_took (bare_form folder) (bare_text name) form e in
        let n = bare_number folder bare.0 form bare.1.1 in
        let clash : (let a : Option ℕ = None in a) ≡ Some n.0 = sym none ∙ then_is number_begun (bare_text name) bare.0 bare.1.0 ∙ n.1 in
        absurd (cc clash)
