-- A batch that is given, and its steps.
use Rattle.std.proofs.Common.{arith, ◌≡◌, ◌-◌, ◌+◌, ℕ, Bool, true, false, cond, eqb, List, [], ◌∷◌, ◌++◌, length, take, map, Option, Some, refl, sym, ◌∙◌, ap, subst, append_assoc}
use Rattle.std.specs.Prelude.{slice_get}
use Rattle.std.proofs.lemmas.Bool.{eqb-true, eqb-false}
use Rattle.std.proofs.lemmas.List.{append-nil}
use Rattle.block_record.specs.declared.blocks.Slip.{Slip}
use Rattle.chain_model.specs.declared.places.Place.{Place}
use Rattle.chain_model.specs.declared.places.Mode.{Mode}
use Rattle.chain_model.specs.Ancestry.{IsHistory}
use Rattle.chain_model.specs.Finality.{ClaimsAgree}
use Rattle.chain_model.specs.Steps.{BlockStep, steps_of}
use Rattle.chain_model.specs.Places.{PlacedStep, PlaceFits, IsAhead, placed, place_along, place_to, steps_to}
use Rattle.chain_laws.specs.Oldest.{oldest}
use Rattle.resume_laws.specs.Sessions.{place_through}
use Rattle.chain_laws.proofs.public.Ends.{place_reached}
use Rattle.chain_laws.proofs.public.Later.{fits_later, history_older, oldest_whole}
use Rattle.step_cursor.specs.declared.cursor.Request.{Request}
use Rattle.relay_model.specs.Looks.{At}
use Rattle.reply_text.specs.Replies.{Head}
use Rattle.session_model.specs.Told.{Told, Opens, Steps, Heads, told}
use Rattle.session_model.specs.Transcript.{first_place, last_block, steps_told, batches_told, body}
use Rattle.session_model.specs.Progress.{OpenBatch, Waits, Sends, batch_stage, idle_head, step_stage, last_head}
use Rattle.session_model.specs.Standing.{HasLengths, IsWithin, StandsAt}
use Rattle.session_model.proofs.public.Batches.{oldest_all, through_go_on, told_go_on, body_some, steps_next, steps_all, length-placed, last_place, end_reached}
use Rattle.session_model.proofs.Lengths.{never_none}

-- no steps
none_of : (xs : List BlockStep) → 0 ≡ length xs → xs ≡ []
none_of [] e = refl
none_of (x ∷ xs) e = absurd (omega arith)

-- the steps of a batch and its head
one_batch : (newest : List Slip) (run : ℕ) (m : Mode) (stop : Option ℕ) (place : Place) (n : ℕ) (older : List Slip) → oldest n newest ≡ older
    → batches_told newest run m stop place (n ∷ []) ≡ steps_told run n (steps_to older place m stop) ++ Heads (last_block older m stop) n ∷ []
one_batch newest run m stop place n older e = ap (λ o. steps_told run n (steps_to o place m stop) ++ Heads (last_block o m stop) n ∷ []) e

-- lines up to the last batch, and the batch
whole_body : (newest : List Slip) (type : List ℕ) (r : Request) (run : ℕ) (lens : List ℕ) (n : ℕ) (place : Place) (older : List Slip) → oldest n newest ≡ older
    → place ≡ place_through newest r.mode r.stop (first_place newest r (lens ++ n ∷ [])) lens
    → Opens type run (first_place newest r (lens ++ n ∷ [])) ∷ batches_told newest run r.mode r.stop (first_place newest r (lens ++ n ∷ [])) lens
    ++ steps_told run n (steps_to older place r.mode r.stop) ++ Heads (last_block older r.mode r.stop) n ∷ []
    ≡ body newest run type r (lens ++ n ∷ [])
whole_body newest type r run lens n place older is_older place_is =
    let first = first_place newest r (lens ++ n ∷ []) in
    let before = batches_told newest run r.mode r.stop first lens in
    let batch = steps_told run n (steps_to older place r.mode r.stop) in
    let head = Heads (last_block older r.mode r.stop) n ∷ [] in
    let apart : (before ++ batch) ++ head ≡ before ++ (batch ++ head) = append_assoc before batch head in
    let last : batch ++ head ≡ batches_told newest run r.mode r.stop place (n ∷ []) = sym (one_batch newest run r.mode r.stop place n older is_older) in
    ap (λ l. Opens type run first ∷ l)
    (apart ∙ ap (λ l. before ++ l) (last ∙ ap (λ p. batches_told newest run r.mode r.stop p (n ∷ [])) place_is)
    ∙ sym (told_go_on newest run r.mode r.stop first lens (n ∷ [])))
    ∙ sym (body_some newest run type r (lens ++ n ∷ []) (never_none lens n))

-- the place after the last batch
place_after_batch : (newest : List Slip) (r : Request) (lens : List ℕ) (n : ℕ) (place : Place) (older : List Slip) → oldest n newest ≡ older
    → place ≡ place_through newest r.mode r.stop (first_place newest r (lens ++ n ∷ [])) lens
    → place_to older place r.mode r.stop ≡ place_through newest r.mode r.stop (first_place newest r (lens ++ n ∷ [])) (lens ++ n ∷ [])
place_after_batch newest r lens n place older is_older place_is =
    ap (λ o. place_to o place r.mode r.stop) (sym is_older)
    ∙ ap (λ p. place_through newest r.mode r.stop p (n ∷ [])) place_is
    ∙ sym (through_go_on newest r.mode r.stop (first_place newest r (lens ++ n ∷ [])) lens (n ∷ []))

-- the same of lengths that are these
pub whole_body_at : (newest : List Slip) (type : List ℕ) (r : Request) (run : ℕ) (all lens : List ℕ) (n : ℕ) (place : Place) (older : List Slip) → oldest n newest ≡ older
    → all ≡ lens ++ n ∷ [] → place ≡ place_through newest r.mode r.stop (first_place newest r all) lens
    → Opens type run (first_place newest r all) ∷ batches_told newest run r.mode r.stop (first_place newest r all) lens
    ++ steps_told run n (steps_to older place r.mode r.stop) ++ Heads (last_block older r.mode r.stop) n ∷ []
    ≡ body newest run type r all
whole_body_at newest type r run all lens n place older is_older e =
    subst
    (λ (l : List ℕ). place ≡ place_through newest r.mode r.stop (first_place newest r l) lens
    → Opens type run (first_place newest r l) ∷ batches_told newest run r.mode r.stop (first_place newest r l) lens
    ++ steps_told run n (steps_to older place r.mode r.stop) ++ Heads (last_block older r.mode r.stop) n ∷ []
    ≡ body newest run type r l)
    (sym e) (whole_body newest type r run lens n place older is_older)

place_after_batch_at : (newest : List Slip) (r : Request) (all lens : List ℕ) (n : ℕ) (place : Place) (older : List Slip) → oldest n newest ≡ older
    → all ≡ lens ++ n ∷ [] → place ≡ place_through newest r.mode r.stop (first_place newest r all) lens
    → place_to older place r.mode r.stop ≡ place_through newest r.mode r.stop (first_place newest r all) all
place_after_batch_at newest r all lens n place older is_older e =
    subst
    (λ (l : List ℕ). place ≡ place_through newest r.mode r.stop (first_place newest r l) lens
    → place_to older place r.mode r.stop ≡ place_through newest r.mode r.stop (first_place newest r l) l)
    (sym e) (place_after_batch newest r lens n place older is_older)

-- the last two lines beside those before
regroup : (before steps : List Told) (s h : Told) → (before ++ steps) ++ (s ∷ h ∷ []) ≡ (before ++ (steps ++ s ∷ [])) ++ h ∷ []
regroup before steps s h = simp append_assoc

-- a batch that is given at a place which fits
pub batch_begins : (newest : List Slip) (type : List ℕ) (r : Request) (run : ℕ) (lens : List ℕ) (lines : List Told) (n : ℕ) (place : Place) (total : ℕ)
    → IsHistory newest → n ≡ length newest → HasLengths newest r run (lens ++ n ∷ [])
    → place ≡ place_through newest r.mode r.stop (first_place newest r (lens ++ n ∷ [])) lens
    → PlaceFits newest place.end place.lib → IsAhead r.stop place.end
    → total ≡ length (steps_of newest place r.mode r.stop)
    → lines ≡ Opens type run (first_place newest r (lens ++ n ∷ [])) ∷ batches_told newest run r.mode r.stop (first_place newest r (lens ++ n ∷ [])) lens
    → StandsAt newest type r run (lens ++ n ∷ []) (batch_stage total n place) (lines ++ map told (idle_head total n place))
batch_begins newest type r run lens lines n place total history n_is lengths place_is fits ahead total_is lines_are = go (eqb total 0) refl
  where
    whole : oldest n newest ≡ newest
    whole = oldest_all newest n n_is

    xs : List BlockStep
    xs = steps_of newest place r.mode r.stop

    none : eqb total 0 ≡ true → xs ≡ []
    none e = none_of xs (sym (eqb-true total 0 e) ∙ total_is)

    settled : eqb total 0 ≡ true → place ≡ place_to newest place r.mode r.stop
    settled e = ap (place_along place) (sym (none e))

    first : Place
    first = first_place newest r (lens ++ n ∷ [])

    before : List Told
    before = batches_told newest run r.mode r.stop first lens

    go : (b : Bool) → eqb total 0 ≡ b → StandsAt newest type r run (lens ++ n ∷ [])
        (cond b (Waits (At place)) (Sends (record { seen = n; place = place; total = total; given = 0 }))) (lines ++ map told (cond b (Head place.end n ∷ []) []))
    go true e = record {
      lengths = lengths;
      some = never_none lens n;
      place_is = settled e ∙ place_after_batch newest r lens n place newest whole place_is;
      fits = fits;
      ahead = ahead;
      lines_are =
          ap (λ l. l ++ Heads place.end n ∷ []) lines_are
          ∙ ap (λ h. Opens type run first ∷ before ++ Heads h n ∷ []) (ap (λ p. p.end) (settled e) ∙ end_reached newest place r.mode r.stop history fits ahead)
          ∙ ap (λ l. Opens type run first ∷ l ++ Heads (last_block newest r.mode r.stop) n ∷ []) (sym (append-nil before))
          ∙ ap (λ ys. Opens type run first ∷ (before ++ steps_told run n (placed place ys)) ++ Heads (last_block newest r.mode r.stop) n ∷ []) (sym (none e))
          ∙ whole_body newest type r run lens n place newest whole place_is;
    }
    go false e = record {
      lengths = lengths;
      before = lens;
      lens_are = refl;
      place_is = place_is;
      fits = subst (λ (o : List Slip). PlaceFits o place.end place.lib) (sym whole) fits;
      ahead = ahead;
      total_is = total_is ∙ sym (length-placed place xs) ∙ ap (λ o. length (steps_to o place r.mode r.stop)) (sym whole);
      more = omega (arith, eqb-false total 0 e);
      lines_are = ap (λ l. l ++ []) lines_are;
    }

-- the next step of an open batch
pub step_follows : (newest : List Slip) (type : List ℕ) (r : Request) (run : ℕ) (lens : List ℕ) (lines : List Told) (b : OpenBatch) (x : PlacedStep)
    → IsHistory newest → ClaimsAgree newest → IsWithin newest type r run lens b lines
    → slice_get (steps_to (oldest b.seen newest) b.place r.mode r.stop) b.given ≡ Some x
    → StandsAt newest type r run lens (step_stage b x.place) (lines ++ Steps x run b.seen ∷ map told (last_head b x.place))
step_follows newest type r run lens lines b x history agreed w next = go (eqb (b.given + 1) b.total) refl
  where
    older : List Slip
    older = oldest b.seen newest

    xs : List PlacedStep
    xs = steps_to older b.place r.mode r.stop

    more : List Slip
    more = take (length newest - b.seen) newest

    whole : more ++ older ≡ newest
    whole = oldest_whole newest b.seen

    old_history : IsHistory older
    old_history = history_older more older (subst IsHistory (sym whole) history)

    first : Place
    first = first_place newest r lens

    before : List Told
    before = batches_told newest run r.mode r.stop first w.before

    go : (c : Bool) → eqb (b.given + 1) b.total ≡ c → StandsAt newest type r run lens
        (cond c (Waits (At x.place)) (Sends (record b { given = b.given + 1 }))) (lines ++ Steps x run b.seen ∷ map told (cond c (Head x.place.end b.seen ∷ []) []))
    go true e =
        let last : b.given + 1 ≡ b.total = eqb-true (b.given + 1) b.total e in
        let reached = place_to older b.place r.mode r.stop in
        let settled : x.place ≡ reached = last_place b.place (steps_of older b.place r.mode r.stop) b.given x next (last ∙ w.total_is) in
        let settles = place_reached older b.place r.mode r.stop old_history w.fits w.ahead in
        let later : PlaceFits (more ++ older) reached.end reached.lib =
        fits_later more older (subst IsHistory (sym whole) history) (subst ClaimsAgree (sym whole) agreed) reached.end reached.lib settles.fits in
        let head : x.place.end ≡ last_block older r.mode r.stop = ap (λ p. p.end) settled ∙ end_reached older b.place r.mode r.stop old_history w.fits w.ahead in
        record {
          lengths = w.lengths;
          some = λ none. never_none w.before b.seen (sym w.lens_are ∙ none);
          place_is = settled ∙ place_after_batch_at newest r lens w.before b.seen b.place older refl w.lens_are w.place_is;
          fits = subst (λ (p : Place). PlaceFits newest p.end p.lib) (sym settled) (subst (λ (h : List Slip). PlaceFits h reached.end reached.lib) whole later);
          ahead = subst (λ (p : Place). IsAhead r.stop p.end) (sym settled) settles.ahead;
          lines_are =
              ap (λ l. l ++ Steps x run b.seen ∷ Heads x.place.end b.seen ∷ []) w.lines_are
              ∙ ap (λ l. Opens type run first ∷ l)
              (regroup before (steps_told run b.seen (take b.given xs)) (Steps x run b.seen) (Heads x.place.end b.seen)
              ∙ ap (λ l. (before ++ l) ++ Heads x.place.end b.seen ∷ []) (steps_all run b.seen xs b.given x next (last ∙ w.total_is))
              ∙ ap (λ h. (before ++ steps_told run b.seen xs) ++ Heads h b.seen ∷ []) head)
              ∙ whole_body_at newest type r run lens w.before b.seen b.place older refl w.lens_are w.place_is;
        }
    go false e = record {
      lengths = w.lengths;
      before = w.before;
      lens_are = w.lens_are;
      place_is = w.place_is;
      fits = w.fits;
      ahead = w.ahead;
      total_is = w.total_is;
      more = omega (arith, eqb-false (b.given + 1) b.total e, w.more);
      lines_are =
          ap (λ l. l ++ Steps x run b.seen ∷ []) w.lines_are
          ∙ ap (λ l. Opens type run first ∷ l)
          (append_assoc before (steps_told run b.seen (take b.given xs)) (Steps x run b.seen ∷ [])
          ∙ ap (λ l. before ++ l) (sym (steps_next run b.seen xs b.given x next)));
    }
