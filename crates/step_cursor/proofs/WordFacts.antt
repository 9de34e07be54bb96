-- The words of a cursor, one by one: what is read of each, and what it is read as.
use Rattle.std.proofs.Common.{◌≡◌, ◌+◌, ◌<◌, ◌^◌, ℕ, suc, Bool, true, false, cond, List, [], ◌∷◌, ◌++◌, Option, None, Some, Result, Ok, Err, refl, sym, ◌∙◌, ap, subst, arith, add-one}
use Rattle.std.specs.Prelude.{codes, slice_get}
use Rattle.std.specs.Option.{ok_or}
use Rattle.std.specs.Fmt.{decimal}
use Rattle.std.specs.Str.{bytes_eq}
use Rattle.std.proofs.lemmas.Slice.Eq.{bytes_eq-Decides}
use Rattle.std.proofs.lemmas.Bool.{and_parts}
use Rattle.std.proofs.lemmas.Fmt.{decimal_digit, decimal_step}
use Rattle.block_record.specs.declared.blocks.BlockRef.{BlockRef}
use Rattle.block_record.specs.Number.{number_of}
use Rattle.block_record.specs.Texts.{is_id_text}
use Rattle.block_record.proofs.public.NumberTexts.{decimal-number_of}
use Rattle.chain_model.specs.declared.places.Step.{Step}
use Rattle.chain_model.specs.declared.places.Step.TheVariants as step
use Rattle.step_cursor.specs.declared.form.Form.{Form}
use Rattle.step_cursor.specs.declared.form.Form.TheVariants.{AtEnd, AtLib, Apart}
use Rattle.step_cursor.specs.CursorText.{step_number, form_word, pair_words, IsRef, IsRefIfAny}
use Rattle.step_cursor.specs.CursorParts.{form_named, step_named, id_of, is_text, is_missing}
use Rattle.block_record.specs.Words.{result_map}
use Rattle.step_cursor.specs.Reading.{part_at, ref_at, pair_at, ◌>>=◌}
use Rattle.step_cursor.proofs.SplitFacts.{Stand}

pub ok_of : {A B : Type 0} (x : Result A ℕ) (f : A → Result B ℕ) (b : B) → (x >>= f) ≡ Ok b → (a : A) × ((x ≡ Ok a) × (f a ≡ Ok b))
ok_of (Ok a) f b e = (a, (refl, e))
ok_of (Err k) f b e = absurd (cc e)

some_of : {A : Type 0} (o : Option A) (k : ℕ) (a : A) → ok_or o k ≡ Ok a → o ≡ Some a
some_of (Some x) k a e = cc e
some_of None k a e = absurd (cc e)

-- a part that was read is there
pub part_read : {A : Type 0} (place : ℕ) (read : List ℕ → Option A) (part : Option (List ℕ)) (a : A) → part_at place read part ≡ Ok a → (w : List ℕ) × ((part ≡ Some w) × (read w ≡ Some a))
part_read place read None a e = absurd (cc e)
part_read place read (Some w) a e = (w, (refl, some_of (read w) place a e))

is_bytes : (a b : List ℕ) → bytes_eq a b ≡ true → a ≡ b
is_bytes a b e = (bytes_eq-Decides a b).0 e

pub number_word : (w : List ℕ) (n : ℕ) → number_of w ≡ Some n → (n < 2 ^ 64) × (w ≡ decimal n)
number_word w n e = decimal-number_of w n e

pub id_word : (w id : List ℕ) → id_of w ≡ Some id → (is_id_text id ≡ true) × (w ≡ id)
id_word w id e = by_test (is_id_text w) refl e
  where
    by_test : (t : Bool) → is_id_text w ≡ t → cond t (Some w) None ≡ Some id → (is_id_text id ≡ true) × (w ≡ id)
    by_test true is e = let same : w ≡ id = cc e in (ap is_id_text (sym same) ∙ is, same)
    by_test false is e = absurd (cc e)

pub form_is : (w : List ℕ) (form : Form) → form_named w ≡ Some form → w ≡ form_word form
form_is w form e = first (bytes_eq w (codes "c1")) refl e
  where
    third : (t : Bool) → bytes_eq w (codes "c3") ≡ t → cond t (Some Apart) None ≡ Some form → w ≡ form_word form
    third true is e = let same : Apart ≡ form = cc e in is_bytes w _ is ∙ ap form_word same
    third false is e = absurd (cc e)

    second : (t : Bool) → bytes_eq w (codes "c2") ≡ t → cond t (Some AtLib) (cond (bytes_eq w (codes "c3")) (Some Apart) None) ≡ Some form → w ≡ form_word form
    second true is e = let same : AtLib ≡ form = cc e in is_bytes w _ is ∙ ap form_word same
    second false is e = third (bytes_eq w (codes "c3")) refl e

    first : (t : Bool) → bytes_eq w (codes "c1") ≡ t → cond t (Some AtEnd) (cond (bytes_eq w (codes "c2")) (Some AtLib) (cond (bytes_eq w (codes "c3")) (Some Apart) None)) ≡ Some form → w ≡ form_word form
    first true is e = let same : AtEnd ≡ form = cc e in is_bytes w _ is ∙ ap form_word same
    first false is e = second (bytes_eq w (codes "c2")) refl e

-- the texts of the numbers of steps
pub step_texts : (kind : Step) → decimal (step_number kind) ≡ (elim kind [ step.New ↦ codes "1" | step.Undo ↦ codes "2" | step.Final ↦ codes "16" | step.NewFinal ↦ codes "17" ])
step_texts step.New = decimal_digit 1 (omega arith)
step_texts step.Undo = decimal_digit 2 (omega arith)
step_texts step.Final = decimal_step 16 (omega arith) (omega arith) ∙ ap (λ l. l ++ 54 ∷ []) (decimal_digit 1 (omega arith))
step_texts step.NewFinal = decimal_step 17 (omega arith) (omega arith) ∙ ap (λ l. l ++ 55 ∷ []) (decimal_digit 1 (omega arith))

pub step_is : (w : List ℕ) (kind : Step) → step_named w ≡ Some kind → w ≡ decimal (step_number kind)
step_is w kind e = first (bytes_eq w (codes "1")) refl e
  where
    fourth : (t : Bool) → bytes_eq w (codes "17") ≡ t → cond t (Some step.NewFinal) None ≡ Some kind → w ≡ decimal (step_number kind)
    fourth true is e = let same : step.NewFinal ≡ kind = cc e in is_bytes w _ is ∙ sym (step_texts step.NewFinal) ∙ ap (λ k. decimal (step_number k)) same
    fourth false is e = absurd (cc e)

    third : (t : Bool) → bytes_eq w (codes "16") ≡ t → cond t (Some step.Final) (cond (bytes_eq w (codes "17")) (Some step.NewFinal) None) ≡ Some kind → w ≡ decimal (step_number kind)
    third true is e = let same : step.Final ≡ kind = cc e in is_bytes w _ is ∙ sym (step_texts step.Final) ∙ ap (λ k. decimal (step_number k)) same
    third false is e = fourth (bytes_eq w (codes "17")) refl e

    second : (t : Bool) → bytes_eq w (codes "2") ≡ t → cond t (Some step.Undo) (cond (bytes_eq w (codes "16")) (Some step.Final) (cond (bytes_eq w (codes "17")) (Some step.NewFinal) None)) ≡ Some kind → w ≡ decimal (step_number kind)
    second true is e = let same : step.Undo ≡ kind = cc e in is_bytes w _ is ∙ sym (step_texts step.Undo) ∙ ap (λ k. decimal (step_number k)) same
    second false is e = third (bytes_eq w (codes "16")) refl e

    first : (t : Bool) → bytes_eq w (codes "1") ≡ t → cond t (Some step.New) (cond (bytes_eq w (codes "2")) (Some step.Undo) (cond (bytes_eq w (codes "16")) (Some step.Final) (cond (bytes_eq w (codes "17")) (Some step.NewFinal) None))) ≡ Some kind → w ≡ decimal (step_number kind)
    first true is e = let same : step.New ≡ kind = cc e in is_bytes w _ is ∙ sym (step_texts step.New) ∙ ap (λ k. decimal (step_number k)) same
    first false is e = second (bytes_eq w (codes "2")) refl e

-- a block that was read: its words, and what it is made of
pub record RefRead (ws : List (List ℕ)) (k : ℕ) (r : BlockRef) : Type 0 where
  pub num : slice_get ws k ≡ Some (decimal r.num)
  pub id : slice_get ws (suc k) ≡ Some r.id
  pub whole : IsRef r

ref_made : (ws : List (List ℕ)) (k : ℕ) (num : ℕ) (id w v : List ℕ) (r : BlockRef) → slice_get ws k ≡ Some w → slice_get ws (k + 1) ≡ Some v → (num < 2 ^ 64) × (w ≡ decimal num) → (is_id_text id ≡ true) × (v ≡ id)
    → (let made : Result BlockRef ℕ = Ok (record { num = num; id = id }) in made ≡ Ok r) → RefRead ws k r
ref_made ws k num id w v r at_k at_next n i e =
    let made : BlockRef = record { num = num; id = id } in
    let same : made ≡ r = cc e in
    let next : slice_get ws (suc k) ≡ Some v = rw (← add-one k) at_next in
    subst (RefRead ws k) same (record {
      num = at_k ∙ ap Some n.1;
      id = next ∙ ap Some i.1;
      whole = record { id = i.0; num = n.0 };
    })

pub ref_read : (ws : List (List ℕ)) (k place : ℕ) (r : BlockRef) → ref_at ws k place ≡ Ok r → RefRead ws k r
ref_read ws k place r e =
    let num = ok_of (part_at place number_of (slice_get ws k)) _ r e in
    let num_word = part_read place number_of (slice_get ws k) num.0 num.1.0 in
    let id = ok_of (part_at (place + 1) id_of (slice_get ws (k + 1))) _ r num.1.1 in
    let id_at = part_read (place + 1) id_of (slice_get ws (k + 1)) id.0 id.1.0 in
    ref_made ws k num.0 id.0 num_word.0 id_at.0 r num_word.1.0 id_at.1.0 (number_word num_word.0 num.0 num_word.1.1) (id_word id_at.0 id.0 id_at.1.1) id.1.1

-- a pair that was read: its words, and what it is made of
pub record PairRead (ws : List (List ℕ)) (k : ℕ) (r : Option BlockRef) : Type 0 where
  pub stand : Stand ws k (pair_words r)
  pub whole : IsRefIfAny r

text_is : (text : List ℕ) (part : Option (List ℕ)) → is_text text part ≡ true → part ≡ Some text
text_is text None e = absurd (cc e)
text_is text (Some w) e = ap Some (is_bytes w text e)

pub pair_read : (ws : List (List ℕ)) (k place : ℕ) (r : Option BlockRef) → pair_at ws k place ≡ Ok r → PairRead ws k r
pair_read ws k place r e = by_test (is_missing ws k) refl e
  where
    some : (x : Result BlockRef ℕ) → ref_at ws k place ≡ x → result_map Some x ≡ Ok r → PairRead ws k r
    some (Err p) is e = absurd (cc e)
    some (Ok b) is e =
        let same : Some b ≡ r = cc e in
        let read = ref_read ws k place b is in
        subst (PairRead ws k) same (record { stand = (read.num, (read.id, tt)); whole = read.whole })

    by_test : (t : Bool) → is_missing ws k ≡ t → cond t (Ok None) (result_map Some (ref_at ws k place)) ≡ Ok r → PairRead ws k r
    by_test false is e = some (ref_at ws k place) refl e
    by_test true is e =
        let none : Option BlockRef = None in
        let same : none ≡ r = cc e in
        let both = and_parts (is_text (codes "0") (slice_get ws k)) (is_text (codes "-") (slice_get ws (k + 1))) is in
        let num : slice_get ws k ≡ Some (codes "0") = text_is _ _ both.0 in
        let next : slice_get ws (k + 1) ≡ Some (codes "-") = text_is _ _ both.1 in
        let id : slice_get ws (suc k) ≡ Some (codes "-") = rw (← add-one k) next in
        subst (PairRead ws k) same (record { stand = (num, (id, tt)); whole = tt })
