-- The lines of steps that go on, and one more block of a run, taken or refused.
use Rattle.std.proofs.Common.{◌≡◌, ◌++◌, ℕ, List, ◌∷◌, Option, None, Some, map, refl, sym, ◌∙◌, ap, append_assoc}
use Rattle.std.proofs.lemmas.List.{map-append}
use Rattle.std.proofs.lemmas.List.Concat.{flat_map-append}
use Rattle.block_record.specs.declared.blocks.Slip.{Slip}
use Rattle.chain_model.specs.declared.places.Place.{Place}
use Rattle.chain_model.specs.Steps.{BlockStep, plain_of}
use Rattle.relay_model.specs.Worlds.{World}
use Rattle.relay_model.specs.Offers.{offered}
use Rattle.step_text.specs.declared.refusals.Refusal.{Refusal}
use Rattle.step_text.specs.StepText.{Told, goes_on, place_by, prepend, step_line, step_lines, steps_by, tell}
use Rattle.step_text.specs.Taken.{IsTaken}

-- the lines of steps that go on
pub lines-append : (xs ys : List BlockStep) → step_lines (map plain_of (xs ++ ys)) ≡ step_lines (map plain_of xs) ++ step_lines (map plain_of ys)
lines-append xs ys = ap step_lines (map-append plain_of xs ys) ∙ flat_map-append step_line (map plain_of xs) (map plain_of ys)

-- a text before two others
pub prepend_twice : (a b : List ℕ) (t : Told) → prepend a (prepend b t) ≡ prepend (a ++ b) t
prepend_twice a b t = rw (append_assoc a b t.text) refl

-- no refusal: what is told goes on
on_none : (before text after : List ℕ) (r : Option Refusal) (more same : Told) → None ≡ r → after ≡ before ++ text → same ≡ more → prepend before (goes_on text r more) ≡ prepend after same
on_none before text after r more same none grew e =
    ap (λ o. prepend before (goes_on text o more)) (sym none) ∙ (prepend_twice before text more ∙ (ap (λ a. prepend a more) (sym grew) ∙ ap (prepend after) (sym e)))

-- a refusal: it ends what is told
on_some : (before text after : List ℕ) (r : Refusal) (o : Option Refusal) (more : Told) → Some r ≡ o → after ≡ before ++ text → prepend before (goes_on text o more) ≡ record { text = after; refusal = Some r }
on_some before text after r o more some grew =
    ap (λ x. prepend before (goes_on text x more)) (sym some) ∙ ap (λ a. record { text = a; refusal = Some r }) (sym grew)

-- what is told of some blocks from another world and place that are equal
told_same : (slips : List Slip) (v w : World) (p q : Place) → v ≡ w → p ≡ q → tell slips v p ≡ tell slips w q
told_same slips v w p q ev ep = ap (λ u. tell slips u p) ev ∙ ap (tell slips w) ep

-- one more block that was taken, and not refused
pub told_on : (s : Slip) (slips : List Slip) (old new : World) (from to : Place) (before after : List ℕ) (all : Told) → IsTaken s old new from to before after None
    → prepend before (tell (s ∷ slips) old from) ≡ all → prepend after (tell slips new to) ≡ all
told_on s slips old new from to before after all t h =
    let o = offered old s in
    sym (on_none before (step_lines (map plain_of (steps_by o.answer o.world.history from))) after _ (tell slips o.world (place_by o.answer o.world.history from)) (tell slips new to) t.refusal t.text
    (told_same slips new o.world to (place_by o.answer o.world.history from) t.world t.place)) ∙ h

-- a block that was refused ends what is told
pub told_refusal : (s : Slip) (slips : List Slip) (old new : World) (from to : Place) (before after : List ℕ) (all : Told) (r : Refusal) → IsTaken s old new from to before after (Some r)
    → prepend before (tell (s ∷ slips) old from) ≡ all → all ≡ record { text = after; refusal = Some r }
told_refusal s slips old new from to before after all r t h =
    let o = offered old s in
    sym h ∙ on_some before (step_lines (map plain_of (steps_by o.answer o.world.history from))) after r _ (tell slips o.world (place_by o.answer o.world.history from)) t.refusal t.text
