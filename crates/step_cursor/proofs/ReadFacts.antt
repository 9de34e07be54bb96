-- A text that is read as a cursor is the cursor's text.
use Rattle.std.proofs.Common.{◌≡◌, ◌<◌, ◌^◌, ℕ, Bool, true, false, ◌&&◌, cond, List, [], ◌∷◌, length, Option, None, Some, Result, Ok, Err, refl, sym, ◌∙◌, ap, subst, arith}
use Rattle.std.specs.Prelude.{slice_get, ◌==◌}
use Rattle.std.specs.Option.{unwrap_or}
use Rattle.std.specs.Fmt.{decimal}
use Rattle.std.specs.List.{join_with_byte}
use Rattle.std.proofs.lemmas.Bool.{and_parts, eqb-true}
use Rattle.std.proofs.lemmas.List.Splits.{join_with_byte-slice_split}
use Rattle.block_record.specs.declared.blocks.BlockRef.{BlockRef}
use Rattle.block_record.specs.Number.{number_of}
use Rattle.chain_model.specs.declared.places.Step.{Step}
use Rattle.step_cursor.specs.declared.cursor.Cursor.{Cursor}
use Rattle.step_cursor.specs.declared.cursor.Tail.{Tail}
use Rattle.step_cursor.specs.declared.form.Form.{Form}
use Rattle.step_cursor.specs.declared.form.Form.TheVariants.{AtEnd, AtLib, Apart}
use Rattle.step_cursor.specs.CursorText.{step_number, form_for, form_word, place_words, cursor_words, tail_parts, plain_text, IsTailIfAny, IsPrintable}
use Rattle.step_cursor.specs.CursorParts.{parts, words, form_named, step_named}
use Rattle.step_cursor.specs.Reading.{part_at, ref_at, pair_at, second_at, third_of, tail_of, end_by, lib_by, cursor_by, word_count, same_form, whole_of, cursor_of, ◌>>=◌}
use Rattle.step_cursor.proofs.SplitFacts.{all_stand}
use Rattle.step_cursor.proofs.WordFacts.{ok_of, part_read, number_word, form_is, step_is, RefRead, ref_read, PairRead, pair_read}

-- the second pair of a form: none, or one that was read
abbrev pub SecondRead : Form → List (List ℕ) → Option BlockRef → Type 0
SecondRead AtEnd ws second = Unit {0}
SecondRead AtLib ws second = Unit {0}
SecondRead Apart ws second = PairRead ws 6 second

pub second_read : (form : Form) (ws : List (List ℕ)) (second : Option BlockRef) → second_at form ws ≡ Ok second → SecondRead form ws second
second_read AtEnd ws second e = tt
second_read AtLib ws second e = tt
second_read Apart ws second e = pair_read ws 6 7 second e

-- a tail that was read: the parts, the first of which is what stands before the first slash
record TailRead (ps : List (List ℕ)) (tail : Option Tail) : Type 0 where
  all : ps ≡ unwrap_or (slice_get ps 0) [] ∷ tail_parts tail
  whole : IsTailIfAny tail

one_part : (ps : List (List ℕ)) → length ps ≡ 1 → ps ≡ unwrap_or (slice_get ps 0) [] ∷ []
one_part [] e = absurd (omega arith)
one_part (p ∷ []) e = refl
one_part (p ∷ q ∷ ps) e = absurd (omega arith)

three_parts : (ps : List (List ℕ)) (a b : List ℕ) → length ps ≡ 3 → slice_get ps 1 ≡ Some a → slice_get ps 2 ≡ Some b → ps ≡ unwrap_or (slice_get ps 0) [] ∷ a ∷ b ∷ []
three_parts [] a b e h1 h2 = absurd (omega arith)
three_parts (p ∷ []) a b e h1 h2 = absurd (omega arith)
three_parts (p ∷ q ∷ []) a b e h1 h2 = absurd (omega arith)
three_parts (p ∷ q ∷ r ∷ []) a b e h1 h2 =
    let one : q ≡ a = let e1 : Some q ≡ Some a = h1 in cc in
    let two : r ≡ b = let e2 : Some r ≡ Some b = h2 in cc in
    rw (one, two) refl
three_parts (p ∷ q ∷ r ∷ s ∷ ps) a b e h1 h2 = absurd (omega arith)

third_is : (ps : List (List ℕ)) (w : List ℕ) → third_of ps ≡ Some w → (length ps ≡ 3) × (slice_get ps 2 ≡ Some w)
third_is ps w e = by_test (length ps == 3) refl e
  where
    by_test : (t : Bool) → (length ps == 3) ≡ t → cond t (slice_get ps 2) None ≡ Some w → (length ps ≡ 3) × (slice_get ps 2 ≡ Some w)
    by_test true is e = (eqb-true (length ps) 3 is, e)
    by_test false is e = absurd (cc e)

tail_made : (ps : List (List ℕ)) (run seen : ℕ) (w v : List ℕ) (tail : Option Tail) → slice_get ps 1 ≡ Some w → third_of ps ≡ Some v → (run < 2 ^ 64) × (w ≡ decimal run) → (seen < 2 ^ 64) × (v ≡ decimal seen)
    → (let made : Result (Option Tail) ℕ = Ok (Some (record { run = run; seen = seen })) in made ≡ Ok tail) → TailRead ps tail
tail_made ps run seen w v tail at_one at_two r s e =
    let made : Tail = record { run = run; seen = seen } in
    let same : Some made ≡ tail = cc e in
    let third = third_is ps v at_two in
    subst (TailRead ps) same (record {
      all = three_parts ps (decimal run) (decimal seen) third.0 (at_one ∙ ap Some r.1) (third.1 ∙ ap Some s.1);
      whole = (r.0, s.0);
    })

tail_read : (ps : List (List ℕ)) (tail : Option Tail) → tail_of ps ≡ Ok tail → TailRead ps tail
tail_read ps tail e = by_test (length ps == 1) refl e
  where
    two : (part_at 9 number_of (slice_get ps 1) >>= λ run. part_at 10 number_of (third_of ps) >>= λ seen. Ok (let t : Tail = record { run = run; seen = seen } in Some t)) ≡ Ok tail → TailRead ps tail
    two e =
        let run = ok_of (part_at 9 number_of (slice_get ps 1)) _ tail e in
        let run_word = part_read 9 number_of (slice_get ps 1) run.0 run.1.0 in
        let seen = ok_of (part_at 10 number_of (third_of ps)) _ tail run.1.1 in
        let seen_word = part_read 10 number_of (third_of ps) seen.0 seen.1.0 in
        tail_made ps run.0 seen.0 run_word.0 seen_word.0 tail run_word.1.0 seen_word.1.0 (number_word run_word.0 run.0 run_word.1.1) (number_word seen_word.0 seen.0 seen_word.1.1) seen.1.1

    by_test : (t : Bool) → (length ps == 1) ≡ t → cond t (Ok None) (part_at 9 number_of (slice_get ps 1) >>= λ run. part_at 10 number_of (third_of ps) >>= λ seen. Ok (let t : Tail = record { run = run; seen = seen } in Some t)) ≡ Ok tail → TailRead ps tail
    by_test true is e =
        let none : Option Tail = None in
        let same : none ≡ tail = cc e in
        subst (TailRead ps) same (record { all = one_part ps (eqb-true (length ps) 1 is); whole = tt })
    by_test false is e = two e

-- two forms that pass the test are one
form_same : (a b : Form) → same_form a b ≡ true → a ≡ b
form_same AtEnd AtEnd e = refl
form_same AtEnd AtLib e = absurd (cc e)
form_same AtEnd Apart e = absurd (cc e)
form_same AtLib AtEnd e = absurd (cc e)
form_same AtLib AtLib e = refl
form_same AtLib Apart e = absurd (cc e)
form_same Apart AtEnd e = absurd (cc e)
form_same Apart AtLib e = absurd (cc e)
form_same Apart Apart e = refl

record WholeRead (form : Form) (count : ℕ) (made c : Cursor) : Type 0 where
  same : made ≡ c
  count_is : count ≡ word_count form
  first : form_for made.block made.place.end made.place.lib ≡ form

whole_read : (form : Form) (count : ℕ) (made c : Cursor) → whole_of form count made ≡ Ok c → WholeRead form count made c
whole_read form count made c e = by_test ((count == word_count form) && same_form (form_for made.block made.place.end made.place.lib) form) refl e
  where
    by_test : (t : Bool) → ((count == word_count form) && same_form (form_for made.block made.place.end made.place.lib) form) ≡ t → cond {A = Result Cursor ℕ} t (Ok made) (Err 11) ≡ Ok c → WholeRead form count made c
    by_test false is e = absurd (cc e)
    by_test true is e =
        let both = and_parts (count == word_count form) (same_form (form_for made.block made.place.end made.place.lib) form) is in
        record { same = cc e; count_is = eqb-true count (word_count form) both.0; first = form_same _ form both.1 }

-- the words of a form with these parts
words_by : Form → Step → BlockRef → Option BlockRef → Option BlockRef → List (List ℕ)
words_by form kind block first second = form_word form ∷ decimal (step_number kind) ∷ decimal block.num ∷ block.id ∷ place_words form (end_by form block first) (lib_by form block first second)

words_made : (form : Form) (kind : Step) (block : BlockRef) (first second : Option BlockRef) (ws : List (List ℕ))
    → slice_get ws 0 ≡ Some (form_word form) → slice_get ws 1 ≡ Some (decimal (step_number kind)) → RefRead ws 2 block → PairRead ws 4 first → SecondRead form ws second → length ws ≡ word_count form
    → ws ≡ words_by form kind block first second
unfolding words_by
words_made AtEnd kind block None second ws h0 h1 b f s count = all_stand ws _ count (h0, (h1, (b.num, (b.id, f.stand))))
words_made AtEnd kind block (Some r) second ws h0 h1 b f s count = all_stand ws _ count (h0, (h1, (b.num, (b.id, f.stand))))
words_made AtLib kind block None second ws h0 h1 b f s count = all_stand ws _ count (h0, (h1, (b.num, (b.id, f.stand))))
words_made AtLib kind block (Some r) second ws h0 h1 b f s count = all_stand ws _ count (h0, (h1, (b.num, (b.id, f.stand))))
words_made Apart kind block None None ws h0 h1 b f s count = all_stand ws _ count (h0, (h1, (b.num, (b.id, (f.stand.0, (f.stand.1.0, s.stand))))))
words_made Apart kind block None (Some t) ws h0 h1 b f s count = all_stand ws _ count (h0, (h1, (b.num, (b.id, (f.stand.0, (f.stand.1.0, s.stand))))))
words_made Apart kind block (Some r) None ws h0 h1 b f s count = all_stand ws _ count (h0, (h1, (b.num, (b.id, (f.stand.0, (f.stand.1.0, s.stand))))))
words_made Apart kind block (Some r) (Some t) ws h0 h1 b f s count = all_stand ws _ count (h0, (h1, (b.num, (b.id, (f.stand.0, (f.stand.1.0, s.stand))))))

printable_made : (form : Form) (kind : Step) (block : BlockRef) (first second : Option BlockRef) (tail : Option Tail) (ws ps : List (List ℕ))
    → RefRead ws 2 block → PairRead ws 4 first → SecondRead form ws second → TailRead ps tail → IsPrintable (cursor_by form kind block first second tail)
printable_made AtEnd kind block first second tail ws ps b f s t = record { block = b.whole; end = b.whole; lib = f.whole; tail = t.whole }
printable_made AtLib kind block first second tail ws ps b f s t = record { block = b.whole; end = f.whole; lib = b.whole; tail = t.whole }
printable_made Apart kind block first second tail ws ps b f s t = record { block = b.whole; end = f.whole; lib = s.whole; tail = t.whole }

-- what was read of words and parts: a cursor that can be printed, and the words and the parts are its own
pub record CursorRead (ws ps : List (List ℕ)) (c : Cursor) : Type 0 where
  pub words : ws ≡ cursor_words c
  pub parts : ps ≡ unwrap_or (slice_get ps 0) [] ∷ tail_parts c.tail
  pub printable : IsPrintable c

made_read : (ws ps : List (List ℕ)) (form : Form) (kind : Step) (block : BlockRef) (first second : Option BlockRef) (tail : Option Tail) (c : Cursor)
    → slice_get ws 0 ≡ Some (form_word form) → slice_get ws 1 ≡ Some (decimal (step_number kind)) → RefRead ws 2 block → PairRead ws 4 first → SecondRead form ws second → TailRead ps tail
    → WholeRead form (length ws) (cursor_by form kind block first second tail) c → CursorRead ws ps c
unfolding words_by
made_read ws ps form kind block first second tail c h0 h1 b f s t w =
    let made : Cursor = cursor_by form kind block first second tail in
    subst (CursorRead ws ps) w.same (record {
      words = words_made form kind block first second ws h0 h1 b f s w.count_is
          ∙ ap (λ g. form_word g ∷ decimal (step_number kind) ∷ decimal block.num ∷ block.id ∷ place_words g (end_by form block first) (lib_by form block first second)) (sym w.first);
      parts = t.all;
      printable = printable_made form kind block first second tail ws ps b f s t;
    })

pub cursor_read : (ws ps : List (List ℕ)) (c : Cursor) → cursor_of ws ps ≡ Ok c → CursorRead ws ps c
cursor_read ws ps c e =
    let form = ok_of (part_at 1 form_named (slice_get ws 0)) _ c e in
    let form_word_is = part_read 1 form_named (slice_get ws 0) form.0 form.1.0 in
    let kind = ok_of (part_at 2 step_named (slice_get ws 1)) _ c form.1.1 in
    let kind_word = part_read 2 step_named (slice_get ws 1) kind.0 kind.1.0 in
    let block = ok_of (ref_at ws 2 3) _ c kind.1.1 in
    let first = ok_of (pair_at ws 4 5) _ c block.1.1 in
    let second = ok_of (second_at form.0 ws) _ c first.1.1 in
    let tail = ok_of (tail_of ps) _ c second.1.1 in
    made_read ws ps form.0 kind.0 block.0 first.0 second.0 tail.0 c
    (form_word_is.1.0 ∙ ap Some (form_is form_word_is.0 form.0 form_word_is.1.1))
    (kind_word.1.0 ∙ ap Some (step_is kind_word.0 kind.0 kind_word.1.1))
    (ref_read ws 2 3 block.0 block.1.0) (pair_read ws 4 5 first.0 first.1.0) (second_read form.0 ws second.0 second.1.0) (tail_read ps tail.0 tail.1.0)
    (whole_read form.0 (length ws) _ c tail.1.1)

-- a plain text that is read as a cursor is its plain text
pub plain_read : (plain : List ℕ) (c : Cursor) → cursor_of (words (parts plain)) (parts plain) ≡ Ok c → (plain ≡ plain_text c) × IsPrintable c
plain_read plain c e =
    let ps : List (List ℕ) = parts plain in
    let front : List ℕ = unwrap_or (slice_get ps 0) [] in
    let read = cursor_read (words ps) ps c e in
    let joined : join_with_byte 47 ps ≡ plain = join_with_byte-slice_split 47 plain in
    let front_joined : join_with_byte 58 (words ps) ≡ front = join_with_byte-slice_split 58 front in (
      sym joined ∙ ap (join_with_byte 47) read.parts
          ∙ ap (λ f. join_with_byte 47 (f ∷ tail_parts c.tail)) (sym front_joined ∙ ap (join_with_byte 58) read.words),
      read.printable,
    )
