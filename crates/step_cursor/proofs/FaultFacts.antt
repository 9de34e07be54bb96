-- The place that a reading names is that of the first bad part.
use Rattle.std.proofs.Common.{◌≡◌, ◌+◌, ℕ, Bool, true, false, not, ◌&&◌, ◌||◌, cond, List, [], ◌∷◌, length, Option, None, Some, Result, Ok, Err, refl, sym, ◌∙◌, ap, option_and_then, add-one, drop}
use Rattle.std.specs.Prelude.{codes, slice_get, ◌==◌, if◌then◌else◌}
use Rattle.std.specs.Option.{is_some, ok_or}
use Rattle.std.specs.Result.{result_err}
use Rattle.std.specs.Fmt.{decimal}
use Rattle.std.specs.Str.{bytes_eq}
use Rattle.std.proofs.lemmas.Slice.Eq.{bytes_eq-Decides}
use Rattle.std.proofs.lemmas.Bool.{and_parts, and_right, eqb-true, eq-eqb, false≢true}
use Rattle.std.proofs.lemmas.Fmt.{decimal_injective}
use Rattle.block_record.specs.declared.blocks.BlockRef.{BlockRef}
use Rattle.block_record.specs.Number.{number_of}
use Rattle.block_record.specs.Ids.{same_id, same_id-true, same_id_refl}
use Rattle.block_record.specs.Texts.{is_id_text}
use Rattle.chain_model.specs.declared.places.Step.{Step}
use Rattle.chain_model.specs.Fold.{same_ref}
use Rattle.step_cursor.specs.declared.cursor.Cursor.{Cursor}
use Rattle.step_cursor.specs.declared.cursor.Tail.{Tail}
use Rattle.step_cursor.specs.declared.form.Form.{Form}
use Rattle.step_cursor.specs.declared.form.Form.TheVariants.{AtEnd, AtLib, Apart}
use Rattle.step_cursor.specs.CursorText.{is_at, form_for, IsRef}
use Rattle.step_cursor.specs.CursorParts.{form_named, step_named, id_of, is_missing, is_pair_num, is_pair_id, is_block_again, has_second, earlier_fits, are_good, first_failure, words, parts, plain_fault}
use Rattle.block_record.specs.Words.{result_map}
use Rattle.step_cursor.specs.Reading.{part_at, second_at, end_by, lib_by, cursor_by, word_count, same_form, rest_of, cursor_of, ◌>>=◌}
use Rattle.step_cursor.proofs.WordFacts.{RefRead, ref_read, PairRead, pair_read}
use Rattle.step_cursor.proofs.ReadFacts.{SecondRead, second_read}

-- a block by what its two words are read as
abbrev ref_parts : Option ℕ → Option (List ℕ) → ℕ → Result BlockRef ℕ
ref_parts num id k = ok_or num k >>= λ n. ok_or id (k + 1) >>= λ i. Ok (record { num = n; id = i })

-- a tail by what its two parts are read as
abbrev tail_parts_of : Bool → Option ℕ → Option ℕ → Result (Option Tail) ℕ
tail_parts_of one run seen = if one then Ok None else (ok_or run 9 >>= λ r. ok_or seen 10 >>= λ s. Ok (Some (record { run = r; seen = s })))

module _ {B : Type 0} where
  -- a part that can't be read is the first bad one
  part_step : {A : Type 0} (k : ℕ) (o : Option A) (gs : List Bool) (f : A → Result B ℕ) → ((a : A) → o ≡ Some a → first_failure (k + 1) gs ≡ result_err (f a))
      → first_failure k (is_some o ∷ gs) ≡ result_err (ok_or o k >>= f)
  part_step k None gs f next = refl
  part_step k (Some a) gs f next = next a refl

  ref_step : (k : ℕ) (num : Option ℕ) (id : Option (List ℕ)) (gs : List Bool) (f : BlockRef → Result B ℕ) → ((r : BlockRef) → ref_parts num id k ≡ Ok r → first_failure ((k + 1) + 1) gs ≡ result_err (f r))
      → first_failure k (is_some num ∷ is_some id ∷ gs) ≡ result_err (ref_parts num id k >>= f)
  ref_step k None id gs f next = refl
  ref_step k (Some n) None gs f next = refl
  ref_step k (Some n) (Some i) gs f next = next (record { num = n; id = i }) refl

  pair_step : (k : ℕ) (missing : Bool) (num : Option ℕ) (id : Option (List ℕ)) (gs : List Bool) (f : Option BlockRef → Result B ℕ)
      → ((r : Option BlockRef) → cond missing (Ok None) (result_map Some (ref_parts num id k)) ≡ Ok r → first_failure ((k + 1) + 1) gs ≡ result_err (f r))
      → first_failure k ((missing || is_some num) ∷ (missing || is_some id) ∷ gs) ≡ result_err (cond missing (Ok None) (result_map Some (ref_parts num id k)) >>= f)
  pair_step k true num id gs f next = next None refl
  pair_step k false None id gs f next = refl
  pair_step k false (Some n) None gs f next = refl
  pair_step k false (Some n) (Some i) gs f next = next (Some (record { num = n; id = i })) refl

  second_step : (form : Form) (ws : List (List ℕ)) (gs : List Bool) (f : Option BlockRef → Result B ℕ)
      → ((r : Option BlockRef) → second_at form ws ≡ Ok r → first_failure 9 gs ≡ result_err (f r))
      → first_failure 7 ((not (has_second (Some form)) || is_pair_num ws 6) ∷ (not (has_second (Some form)) || is_pair_id ws 6) ∷ gs) ≡ result_err (second_at form ws >>= f)
  second_step AtEnd ws gs f next = next None refl
  second_step AtLib ws gs f next = next None refl
  second_step Apart ws gs f next = pair_step 7 (is_missing ws 6) (option_and_then number_of (slice_get ws 6)) (option_and_then id_of (slice_get ws 7)) gs f next

  tail_step : (one third : Bool) (run : Option ℕ) (part : Option (List ℕ)) (seen : Option ℕ) (gs : List Bool) (f : Option Tail → Result B ℕ) → option_and_then number_of part ≡ seen
      → ((t : Option Tail) → tail_parts_of one run (option_and_then number_of (if third then part else None)) ≡ Ok t → first_failure 11 gs ≡ result_err (f t))
      → first_failure 9 ((one || is_some run) ∷ (one || (third && is_some (option_and_then number_of part))) ∷ gs)
      ≡ result_err (tail_parts_of one run (option_and_then number_of (if third then part else None)) >>= f)
  tail_step true third run part seen gs f is next = next None refl
  tail_step false third None part seen gs f is next = refl
  tail_step false false (Some r) part seen gs f is next = refl
  tail_step false true (Some r) part None gs f is next = rw is refl
  tail_step false true (Some r) part (Some s) gs f is next =
      let here = next (Some (record { run = r; seen = s })) (rw is refl) in rw is here

last_step : (good : Bool) (c : Cursor) → first_failure 11 (good ∷ []) ≡ result_err (cond {A = Result Cursor ℕ} good (Ok c) (Err 11))
last_step true c = refl
last_step false c = refl

-- two tests that tell the same
both_ways : (a b : Bool) → (a ≡ true → b ≡ true) → (b ≡ true → a ≡ true) → a ≡ b
both_ways true b h k = sym (h refl)
both_ways false true h k = k refl
both_ways false false h k = refl

not_true : (t : Bool) → (t ≡ true → ⊥) → t ≡ false
not_true true h = absurd (h refl)
not_true false h = refl

-- `-` is no id
pub no_id : (id : List ℕ) → is_id_text id ≡ true → bytes_eq id (codes "-") ≡ false
no_id id is = not_true _ (λ e. let same : id ≡ codes "-" = (bytes_eq-Decides id (codes "-")).0 e in false≢true (ap is_id_text (sym same) ∙ is))

both_true : (a b : Bool) → a ≡ true → b ≡ true → (a && b) ≡ true
both_true a b ea eb = rw (ea, eb) refl

-- the words of a block tell whether it is the one
pub words_same : (p block : BlockRef) → IsRef p → IsRef block → (bytes_eq (decimal block.num) (decimal p.num) && bytes_eq block.id p.id) ≡ same_ref p block
words_same p block hp hb = both_ways _ _ there back
  where
    there : (bytes_eq (decimal block.num) (decimal p.num) && bytes_eq block.id p.id) ≡ true → same_ref p block ≡ true
    there e =
        let parts = and_parts (bytes_eq (decimal block.num) (decimal p.num)) (bytes_eq block.id p.id) e in
        let texts : decimal block.num ≡ decimal p.num = (bytes_eq-Decides _ _).0 parts.0 in
        let num : block.num ≡ p.num = decimal_injective block.num p.num hb.num hp.num texts in
        let id : block.id ≡ p.id = (bytes_eq-Decides _ _).0 parts.1 in
        both_true (same_id p.id block.id) (p.num == block.num) (rw id (same_id_refl p.id)) (rw num (eq-eqb p.num p.num refl))

    back : same_ref p block ≡ true → (bytes_eq (decimal block.num) (decimal p.num) && bytes_eq block.id p.id) ≡ true
    back e =
        let parts = and_parts (same_id p.id block.id) (p.num == block.num) e in
        let num : p.num ≡ block.num = eqb-true p.num block.num parts.1 in
        let id : p.id ≡ block.id = same_id-true p.id block.id parts.0 in
        both_true (bytes_eq (decimal block.num) (decimal p.num)) (bytes_eq block.id p.id) (rw num ((bytes_eq-Decides (decimal block.num) (decimal block.num)).1 refl)) (rw id ((bytes_eq-Decides block.id block.id).1 refl))

again : (ws : List (List ℕ)) (k : ℕ) (r : Option BlockRef) (block : BlockRef) → PairRead ws k r → RefRead ws 2 block → is_block_again ws k ≡ is_at r block
again ws k None block pair read =
    let num : slice_get ws k ≡ Some (codes "0") = pair.stand.0 in
    let id : slice_get ws (k + 1) ≡ Some (codes "-") = rw add-one pair.stand.1.0 in
    let block_num = read.num in
    let block_id = read.id in
    rw (num, id, block_num, block_id) (and_right (bytes_eq (decimal block.num) (codes "0")) (bytes_eq block.id (codes "-")) (no_id block.id read.whole.id))
again ws k (Some p) block pair read =
    let num : slice_get ws k ≡ Some (decimal p.num) = pair.stand.0 in
    let id : slice_get ws (k + 1) ≡ Some p.id = rw add-one pair.stand.1.0 in
    let block_num = read.num in
    let block_id = read.id in
    rw (num, id, block_num, block_id) (words_same p block pair.whole read.whole)

same_itself : (block : BlockRef) → same_ref block block ≡ true
same_itself block = both_true (same_id block.id block.id) (block.num == block.num) (same_id_refl block.id) (eq-eqb block.num block.num refl)

whole_test : (form : Form) (kind : Step) (block : BlockRef) (first second : Option BlockRef) (tail : Option Tail) (ws : List (List ℕ)) → RefRead ws 2 block → PairRead ws 4 first → SecondRead form ws second
    → (let c : Cursor = cursor_by form kind block first second tail in
    ((length ws == (if has_second (Some form) then 8 else 6)) && not (earlier_fits (Some form) ws)) ≡ ((length ws == word_count form) && same_form (form_for c.block c.place.end c.place.lib) form))
whole_test AtEnd kind block first second tail ws b f s = let itself = same_itself block in rw itself refl
whole_test AtLib kind block first second tail ws b f s =
    let itself = same_itself block in
    let one = again ws 4 first block f b in
    ap (λ t. (length ws == 6) && t) (rw (one, itself) (tests (is_at first block)))
  where
    tests : (t : Bool) → not t ≡ same_form (cond t AtEnd AtLib) AtLib
    tests true = refl
    tests false = refl
whole_test Apart kind block first second tail ws b f s =
    let one = again ws 4 first block f b in
    let two = again ws 6 second block s b in
    ap (λ t. (length ws == 8) && t) (rw (one, two) (tests (is_at first block) (is_at second block)))
  where
    tests : (t u : Bool) → not (t || u) ≡ same_form (cond t AtEnd (cond u AtLib Apart)) Apart
    tests true u = refl
    tests false true = refl
    tests false false = refl

fault_from : (ws ps : List (List ℕ)) (form : Option Form) → first_failure 1 (are_good form ws ps) ≡ result_err (ok_or form 1 >>= λ f. part_at 2 step_named (slice_get ws 1) >>= λ kind. rest_of f kind ws ps)
fault_from ws ps None = refl
fault_from ws ps (Some form) =
    let goods : List Bool = are_good (Some form) ws ps in
    part_step 2 (option_and_then step_named (slice_get ws 1)) (drop 2 goods) _ (λ kind is.
    ref_step 3 (option_and_then number_of (slice_get ws 2)) (option_and_then id_of (slice_get ws 3)) (drop 4 goods) _ (λ block block_is.
    pair_step 5 (is_missing ws 4) (option_and_then number_of (slice_get ws 4)) (option_and_then id_of (slice_get ws 5)) (drop 6 goods) _ (λ first first_is.
    second_step form ws (drop 8 goods) _ (λ second second_is.
    tail_step (length ps == 1) (length ps == 3) (option_and_then number_of (slice_get ps 1)) (slice_get ps 2) (option_and_then number_of (slice_get ps 2)) (drop 10 goods) _ refl (λ tail tail_is.
    ap (λ t. first_failure 11 (t ∷ [])) (whole_test form kind block first second tail ws (ref_read ws 2 3 block block_is) (pair_read ws 4 5 first first_is) (second_read form ws second second_is))
    ∙ last_step ((length ws == word_count form) && same_form (form_for block (end_by form block first) (lib_by form block first second)) form) (cursor_by form kind block first second tail))))))

pub fault_read : (plain : List ℕ) → plain_fault plain ≡ result_err (cursor_of (words (parts plain)) (parts plain))
fault_read plain = fault_from (words (parts plain)) (parts plain) (option_and_then form_named (slice_get (words (parts plain)) 0))
