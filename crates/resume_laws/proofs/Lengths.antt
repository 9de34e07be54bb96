-- The lengths of the history, line by line: they do not fall.
use Rattle.std.proofs.Common.{arith, ◌≡◌, ◌≤◌, ℕ, zero, suc, true, List, [], ◌∷◌, ◌++◌, map, take, Option, refl, sym, subst}
use Rattle.std.proofs.lemmas.List.{append-nil}
use Rattle.block_record.specs.declared.blocks.Slip.{Slip}
use Rattle.chain_model.specs.declared.places.Place.{Place}
use Rattle.chain_model.specs.declared.places.Mode.{Mode}
use Rattle.chain_model.specs.Places.{PlacedStep, place_to, steps_to}
use Rattle.chain_laws.specs.Oldest.{oldest}
use Rattle.resume_laws.specs.Sessions.{Line, StepLine, HeadLine, Session, line_len, step_lens, seen_of, ends_in_step, step_lines, batches, received, place_of, Rises, BeginsAt}
use Rattle.resume_laws.specs.Laws.{NeverOlder}

-- a smaller number before
rises_lower : (a b : ℕ) (ns : List ℕ) → a ≤ b → Rises (b ∷ ns) → Rises (a ∷ ns)
rises_lower a b [] le h = tt
rises_lower a b (n ∷ ns) le h = (omega (arith, h.0), h.1)

-- the lines at the front
rises_take : (k seen : ℕ) (lines : List Line) → Rises (seen ∷ map line_len lines) → Rises (seen ∷ map line_len (take k lines))
rises_take zero seen lines h = tt
rises_take (suc k) seen [] h = tt
rises_take (suc k) seen (line ∷ lines) h = (h.0, rises_take k (line_len line) lines h.1)

-- one batch, and what follows
batch_rises : (m : Mode) (stop : Option ℕ) (len seen : ℕ) (xs : List PlacedStep) (rest : List Line) → seen ≤ len → Rises (len ∷ map line_len rest)
    → Rises (seen ∷ map line_len (step_lines len xs ++ HeadLine m stop len ∷ rest))
batch_rises m stop len seen [] rest le h = (le, h)
batch_rises m stop len seen (x ∷ xs) rest le h = (le, batch_rises m stop len len xs rest (omega arith) h)

-- all batches of a session
batches_rise : (newest : List Slip) (m : Mode) (stop : Option ℕ) (lens : List ℕ) (place : Place) (seen : ℕ) → BeginsAt seen lens → Rises lens
    → Rises (seen ∷ map line_len (batches newest m stop place lens))
batches_rise newest m stop [] place seen begins rises = tt
batches_rise newest m stop (len ∷ []) place seen begins rises =
    batch_rises m stop len seen (steps_to (oldest len newest) place m stop) [] begins tt
batches_rise newest m stop (len ∷ next ∷ lens) place seen begins rises =
    let older = oldest len newest in
    let after = place_to older place m stop in
    batch_rises m stop len seen (steps_to older place m stop) (batches newest m stop after (next ∷ lens)) begins
    (batches_rise newest m stop (next ∷ lens) after len rises.0 rises.1)

session_rises : (newest : List Slip) (place : Place) (seen : ℕ) (s : Session) → BeginsAt seen s.lens → Rises s.lens → Rises (seen ∷ map line_len (received newest place s))
session_rises newest place seen s begins rises = rises_take s.cut seen _ (batches_rise newest s.mode s.stop s.lens place seen begins rises)

-- the lines of steps alone
steps_alone : (seen : ℕ) (lines : List Line) → Rises (seen ∷ map line_len lines) → Rises (seen ∷ step_lens lines)
steps_alone seen [] h = tt
steps_alone seen (StepLine len x ∷ lines) h = (h.0, steps_alone len lines h.1)
steps_alone seen (HeadLine mode stop len ∷ lines) h = rises_lower seen len (step_lens lines) h.0 (steps_alone len lines h.1)

-- lines in two parts: the second goes on from what the first has seen
steps_go_on : (seen : ℕ) (lines more : List Line) → Rises (seen ∷ step_lens lines) → Rises (seen_of seen lines ∷ step_lens more) → Rises (seen ∷ step_lens (lines ++ more))
steps_go_on seen [] more h k = k
steps_go_on seen (StepLine len x ∷ lines) more h k = (h.0, steps_go_on len lines more h.1 k)
steps_go_on seen (HeadLine mode stop len ∷ lines) more h k = steps_go_on seen lines more h k

-- where a step comes last, what was seen is what it has seen
seen_at_step : (a b : ℕ) (lines : List Line) → ends_in_step lines ≡ true → seen_of a lines ≡ seen_of b lines
seen_at_step a b [] e = absurd (cc)
seen_at_step a b (StepLine len x ∷ []) e = refl
seen_at_step a b (HeadLine mode stop len ∷ []) e = absurd (cc)
seen_at_step a b (StepLine len x ∷ next ∷ lines) e = refl
seen_at_step a b (HeadLine mode stop len ∷ next ∷ lines) e = seen_at_step a b (next ∷ lines) e

lines_go_on : (seen : ℕ) (lines more : List Line) → ends_in_step lines ≡ true → Rises (seen ∷ map line_len lines) → Rises (seen_of seen lines ∷ map line_len more)
    → Rises (seen ∷ map line_len (lines ++ more))
lines_go_on seen [] more e h k = absurd (cc)
lines_go_on seen (StepLine len x ∷ []) more e h k = (h.0, k)
lines_go_on seen (HeadLine mode stop len ∷ []) more e h k = absurd (cc)
lines_go_on seen (StepLine len x ∷ next ∷ lines) more e h k = (h.0, lines_go_on len (next ∷ lines) more e h.1 k)
lines_go_on seen (HeadLine mode stop len ∷ next ∷ lines) more e h k =
    (h.0, lines_go_on len (next ∷ lines) more e h.1 (subst (λ n. Rises (n ∷ map line_len more)) (seen_at_step seen len (next ∷ lines) e) k))

pub never_older : NeverOlder
never_older newest place seen [] on = record { steps = tt; lines = λ cut. tt }
never_older newest place seen (s ∷ []) on =
    let mine = received newest place s in
    let rises = session_rises newest place seen s on.0 on.1 in
    let whole : mine ++ [] ≡ mine = append-nil mine in
    record {
      steps = subst (λ (l : List Line). Rises (seen ∷ step_lens l)) (sym whole) (steps_alone seen mine rises);
      lines = λ cut. subst (λ (l : List Line). Rises (seen ∷ map line_len l)) (sym whole) rises;
    }
never_older newest place seen (s ∷ next ∷ later) on =
    let mine = received newest place s in
    let rises = session_rises newest place seen s on.0 on.1 in
    let rest = never_older newest (place_of place mine) (seen_of seen mine) (next ∷ later) on.2 in
    record {
      steps = steps_go_on seen mine _ (steps_alone seen mine rises) rest.steps;
      lines = λ cut. lines_go_on seen mine _ cut.0 rises (rest.lines cut.1);
    }
