-- Made names lie in their folders, and have their forms.
use Rattle.std.proofs.Common.{◌≡◌, ℕ, suc, ◌+◌, ◌<◌, ◌^◌, Bool, false, true, ◌&&◌, cond, eqb, ltb, List, [], ◌∷◌, ◌++◌, length, take, drop, Option, Some, None, refl, sym, ap, ◌∙◌, arith}
use Rattle.std.specs.Prelude.{codes}
use Rattle.std.specs.Str.{bytes_eq}
use Rattle.std.specs.Fmt.{decimal}
use Rattle.std.specs.List.{list_any, position, position_or_len}
use Rattle.std.specs.Option.{option_map, is_some}
use Rattle.std.proofs.lemmas.Bool.{eq-eqb, lt-ltb}
use Rattle.std.proofs.lemmas.List.{take_at, drop_at, length-append}
use Rattle.std.proofs.lemmas.List.Folds.{list_any_none}
use Rattle.std.proofs.lemmas.List.Recursion.{is_position_or_len}
use Rattle.std.proofs.lemmas.Slice.Eq.{bytes_eq-Decides}
use Rattle.block_record.specs.declared.blocks.Slip.{Slip}
use Rattle.block_record.specs.Texts.{is_id_text, IsId}
use Rattle.outer_world.specs.Files.{is_in}
use Rattle.one_block.specs.Moments.{moment_of, moment_text}
use Rattle.one_block.specs.Numerals.{padded, filled_number}
use Rattle.one_block.specs.Files.{whole_text, folder_of_size, merged_text, forked_text, bare_text}
use Rattle.one_block.specs.Names.{name_text, parts_of, one_block_name, own_file, IsName, IsNamed}
use Rattle.one_block.specs.Forms.{is_dash_and_id, by_block_at, bare_form, form_of, own_name}
use Rattle.one_block.specs.declared.forms.Form.{Form}
use Rattle.one_block.specs.declared.forms.Folder.TheVariants.{One, Forked}
use Rattle.one_block.specs.declared.forms.Form.TheVariants.{ByReader, ByBlock}
use Rattle.one_block.specs.declared.names.NameParts.{NameParts}
use Rattle.one_block.proofs.public.FileFacts.{bare_again, then_is, then_took}
use Rattle.one_block.proofs.public.OptionFacts.{some_is}
use Rattle.one_block.proofs.public.NameFacts.{parts_good, names_are_read}
use Rattle.one_block.proofs.public.NumeralFacts.{filled_number-padded}
use Rattle.one_block.proofs.WordFacts.{Lacks, dash_outside, slash_outside, lacks_append, lacks_cons, lacks_decimal, lacks_padded, lacks_moment, lacks_id, lacks_end, lacks_reader}

-- a name without a slash
plain_lies : (folder name : List ℕ) → Lacks 47 name → is_in folder (whole_text folder name) ≡ true
plain_lies folder name plain =
    let last : List ℕ = name ++ codes ".dbin" in
    let front : take (length folder) (whole_text folder name) ≡ folder = take_at folder (47 ∷ last) (length folder) refl in
    let rest : drop (length folder) (whole_text folder name) ≡ 47 ∷ last = drop_at folder (47 ∷ last) (length folder) refl in
    let same : bytes_eq folder folder ≡ true = (bytes_eq-Decides folder folder).1 refl in
    let none : list_any (λ b. eqb b 47) last ≡ false = list_any_none (λ b. eqb b 47) last (lacks_append 47 name (codes ".dbin") plain ending) in
    rw (front, rest, same, none) refl
  where
    ending : Lacks 47 (codes ".dbin")
    ending = lacks_cons 47 46 (codes "dbin") refl (lacks_id 47 (codes "dbin") slash_outside refl)

-- the file of merged blocks of a base
pub merged_lies : (size base : ℕ) → base < 2 ^ 64 → is_in (folder_of_size size) (merged_text size base) ≡ true
merged_lies size base small = plain_lies (folder_of_size size) (padded 10 base) (lacks_padded 47 10 base slash_outside small)

-- the file of a block off the final path
pub forked_lies : (num : ℕ) (id : List ℕ) → num < 2 ^ 64 → IsId id → is_in (codes "forked") (forked_text num id) ≡ true
forked_lies num id small is =
    plain_lies (codes "forked") (padded 10 num ++ 45 ∷ id)
    (lacks_append 47 (padded 10 num) (45 ∷ id) (lacks_padded 47 10 num slash_outside small) (lacks_cons 47 45 id refl (lacks_id 47 id slash_outside is)))

name_plain : (p : NameParts) → IsName p → Lacks 47 (name_text p)
name_plain p is =
    let r5 : List ℕ = p.reader in
    let r4 : List ℕ = decimal p.lib_num ++ 45 ∷ r5 in
    let r3 : List ℕ = p.parent_end ++ 45 ∷ r4 in
    let r2 : List ℕ = p.id_end ++ 45 ∷ r3 in
    let r1 : List ℕ = moment_text (moment_of p.tenths) ++ 45 ∷ r2 in
    let l4 : Lacks 47 r4 = then_dash (decimal p.lib_num) r5 (lacks_decimal 47 p.lib_num slash_outside is.lib_num) (lacks_reader 47 p.reader slash_outside is.reader) in
    let l3 : Lacks 47 r3 = then_dash p.parent_end r4 (lacks_end 47 p.parent_end slash_outside is.parent_end) l4 in
    let l2 : Lacks 47 r2 = then_dash p.id_end r3 (lacks_end 47 p.id_end slash_outside is.id_end) l3 in
    let l1 : Lacks 47 r1 = then_dash (moment_text (moment_of p.tenths)) r2 (lacks_moment 47 p.tenths slash_outside is.tenths) l2 in
    then_dash (padded 10 p.num) r1 (lacks_padded 47 10 p.num slash_outside is.num) l1
  where
    then_dash : (word rest : List ℕ) → Lacks 47 word → Lacks 47 rest → Lacks 47 (word ++ 45 ∷ rest)
    then_dash word rest lw lr = lacks_append 47 word (45 ∷ rest) lw (lacks_cons 47 45 rest refl lr)

-- a block's own file
pub own_lies : (s : Slip) (by : List ℕ) → IsNamed s by → is_in (codes "one") (own_file s by) ≡ true
own_lies s by is = plain_lies (codes "one") (name_text (parts_of s by)) (name_plain (parts_of s by) (parts_good s by is))

-- ---- the forms of made names

pub own_formed : (s : Slip) (by : List ℕ) → IsNamed s by → form_of One (own_file s by) ≡ Some (ByReader by)
own_formed s by is =
    then_is (bare_form One) (bare_text (own_file s by)) (one_block_name s by) (bare_again (codes "one") (one_block_name s by) (refl, (refl, (refl, tt))))
    ∙ ap (option_map (λ parts. ByReader parts.reader)) (names_are_read.block s by is)

-- the place of the first byte like this one
abbrev place_of : ℕ → List ℕ → ℕ
place_of c [] = 0
place_of c (b ∷ rest) = cond (eqb b c) 0 (1 + place_of c rest)

place_after : (c : ℕ) (front rest : List ℕ) → Lacks c front → place_of c (front ++ c ∷ rest) ≡ length front
place_after c [] rest lacks = let same : eqb c c ≡ true = eq-eqb c c refl in rw same refl
place_after c (b ∷ front) rest lacks =
    let other : eqb b c ≡ false = lacks 0 0 (omega arith) in
    let later = place_after c front rest (λ k d less. lacks (suc k) d (omega (arith, less))) in
    rw (other, later) (omega arith)

position_after : (c : ℕ) (front rest : List ℕ) → Lacks c front → position (λ b. eqb b c) (front ++ c ∷ rest) ≡ Some (length front)
position_after c front rest lacks =
    let at : position_or_len (λ b. eqb b c) (front ++ c ∷ rest) ≡ length front = sym (is_position_or_len (place_of c) (λ b. eqb b c) refl (λ b bs. refl) (front ++ c ∷ rest)) ∙ place_after c front rest lacks in
    let within : ltb (length front) (length (front ++ c ∷ rest)) ≡ true = lt-ltb _ _ (omega (arith, length-append front (c ∷ rest))) in
    rw (at, within) refl

pub forked_formed : (num : ℕ) (id : List ℕ) → num < 2 ^ 64 → IsId id → form_of Forked (forked_text num id) ≡ Some ByBlock
forked_formed num id small is =
    let front : List ℕ = padded 10 num in
    let name : List ℕ = front ++ 45 ∷ id in
    let start : take (length front) name ≡ front = take_at front (45 ∷ id) (length front) refl in
    let rest : drop (length front) name ≡ 45 ∷ id = drop_at front (45 ∷ id) (length front) refl in
    let read = filled_number-padded 10 num small in
    let good : is_id_text id ≡ true = is in
    let last : by_block_at name (length front) ≡ Some ByBlock = rw (start, rest, read, good) refl in
    then_is (bare_form Forked) (bare_text (forked_text num id)) name (bare_again (codes "forked") name (refl, (refl, (refl, (refl, (refl, (refl, tt)))))))
    ∙ then_is (by_block_at name) (position (λ b. eqb b 45) name) (length front) (position_after 45 front id (lacks_padded 45 10 num dash_outside small))
    ∙ last

-- the form of a name in `forked/`
ended_form : (bare : List ℕ) (end : ℕ) (form : Form) → by_block_at bare end ≡ Some form → form ≡ ByBlock
ended_form bare end form e = by_test (is_some (filled_number 10 (take end bare)) && is_dash_and_id (drop end bare)) e
  where
    by_test : (t : Bool) → (let none : Option Form = None in cond t (Some ByBlock) none) ≡ Some form → form ≡ ByBlock
    by_test true e = sym (some_is ByBlock form e)
    by_test false e = absurd (cc e)

-- so a file in `forked/` has the name by its block's number and id
pub forked_named : (form : Form) (name : List ℕ) (s : Slip) → form_of Forked name ≡ Some form → name ≡ own_name form s → name ≡ forked_text s.num s.id
forked_named form name s e is =
    let bare = then_took (bare_form Forked) (bare_text name) form e in
    let end = then_took (by_block_at bare.0) (position (λ b. eqb b 45) bare.0) form bare.1.1 in
    let same : form ≡ ByBlock = ended_form bare.0 end.0 form end.1.1 in
    is ∙ ap (λ (f : Form). own_name f s) same

-- and the name tells the id
pub forked_id : (n m : ℕ) (a b : List ℕ) → n < 2 ^ 64 → m < 2 ^ 64 → forked_text n a ≡ forked_text m b → a ≡ b
forked_id n m a b small_n small_m same =
    let x : List ℕ = padded 10 n ++ 45 ∷ a in
    let y : List ℕ = padded 10 m ++ 45 ∷ b in
    let bare : x ≡ y = some_is x y (sym (forked_bare x) ∙ ap bare_text same ∙ forked_bare y) in
    let at = some_is (length (padded 10 n)) (length (padded 10 m))
    (sym (position_after 45 (padded 10 n) a (lacks_padded 45 10 n dash_outside small_n)) ∙ ap (position (λ c. eqb c 45)) bare ∙ position_after 45 (padded 10 m) b (lacks_padded 45 10 m dash_outside small_m)) in
    let ends : 45 ∷ a ≡ 45 ∷ b =
    sym (drop_at (padded 10 n) (45 ∷ a) (length (padded 10 n)) refl) ∙ ap (drop (length (padded 10 n))) bare ∙ ap (λ (k : ℕ). drop k y) at ∙ drop_at (padded 10 m) (45 ∷ b) (length (padded 10 m)) refl in
    ap (drop 1) ends
  where
    forked_bare : (name : List ℕ) → bare_text (whole_text (codes "forked") name) ≡ Some name
    forked_bare name = bare_again (codes "forked") name (refl, (refl, (refl, (refl, (refl, (refl, tt))))))
