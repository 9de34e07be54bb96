-- The steps of a run lead a client to the head.
use Rattle.std.proofs.Common.{arith, ◌≡◌, ◌<◌, ◌⊎◌, inl, inr, List, [], ◌∷◌, ◌++◌, length, Option, Some, None, refl, sym, ◌∙◌, ap, subst}
use Rattle.std.specs.List.{AllByRecursion}
use Rattle.std.proofs.lemmas.List.{append-nil}
use mathlib.Core.List.{IsSuffix, IsSuffix-trans}
use Rattle.block_record.specs.declared.blocks.Slip.{Slip}
use Rattle.block_record.specs.declared.blocks.BlockRef.{BlockRef}
use Rattle.chain_model.specs.declared.places.Place.{Place}
use Rattle.chain_model.specs.declared.places.Mode.TheVariants as mode
use Rattle.chain_model.specs.Ancestry.{IsHistory}
use Rattle.chain_model.specs.Finality.{ClaimsAgree}
use Rattle.chain_model.specs.Steps.{BlockStep, steps_of, target, place_after}
use Rattle.chain_model.specs.Places.{PlaceFits, place_to}
use Rattle.chain_model.specs.Fold.{FoldState, fold_steps, after_step}
use Rattle.chain_laws.specs.Standing.{stands, IsUnder}
use Rattle.chain_laws.proofs.public.Lines.{has_id-find_id}
use Rattle.chain_laws.proofs.public.Growth.{IsFound, all_weaker}
use Rattle.chain_laws.proofs.public.Later.{find_later, fits_later, stands_later, under_later}
use Rattle.chain_laws.proofs.public.Walks.{Walk, next}
use Rattle.chain_laws.proofs.public.Starts.{start}
use Rattle.chain_laws.proofs.public.Ends.{walk_along, walk_under, fold_along, place_reached}
use Rattle.relay_model.specs.Worlds.{World}
use Rattle.relay_model.specs.Soundness.{IsBlock, IsSound}
use Rattle.relay_model.specs.Offers.{judge, answer_by, world_by, offered}
use Rattle.relay_model.specs.Verdicts.{Verdict}
use Rattle.relay_model.specs.Verdicts as verdict
use Rattle.relay_model.proofs.public.Sound.{intake_grows, offer_keeps}
use Rattle.step_text.specs.declared.refusals.Refusal.{Refusal}
use Rattle.step_text.specs.StepText.{refusal_of, steps_by, place_by}
use Rattle.step_laws.specs.Telling.{unless_refused, steps_told, world_left, place_left, head_place, at_head}
use Rattle.step_laws.specs.Laws.{StepsFollow}
use Rattle.step_laws.proofs.HeadFacts.{place_at_head, stands_at_head}

-- a fold of steps that go on
fold_steps-append : (f g : FoldState) (xs ys : List BlockStep) → fold_steps f xs ≡ Some g → fold_steps f (xs ++ ys) ≡ fold_steps g ys
fold_steps-append f g [] ys e = let same : f ≡ g = grind (arith, e) in ap (λ h. fold_steps h ys) same
fold_steps-append f g (x ∷ xs) ys e = go (after_step f x) refl (λ h rest. fold_steps-append h g xs ys rest)
  where
    go : (o : Option FoldState) → after_step f x ≡ o → ((h : FoldState) → fold_steps h xs ≡ Some g → fold_steps h (xs ++ ys) ≡ fold_steps g ys) → fold_steps f ((x ∷ xs) ++ ys) ≡ fold_steps g ys
    go None is on = absurd (grind (arith, e, is))
    go (Some h) is on = let rest : fold_steps h xs ≡ Some g = grind (arith, e, is) in rw is (on h rest)

-- each step is of a block of the history
abbrev AllHeld : List Slip → List BlockStep → Type 0
AllHeld newest steps = AllByRecursion (λ x. IsFound newest x.slip) steps

walk_held : (newest goal : List Slip) (base : Option BlockRef) (steps : List BlockStep) (place : Place) → IsHistory newest → Walk newest goal base place steps → AllHeld newest steps
walk_held newest goal base [] place history w = tt
walk_held newest goal base (x ∷ steps) place history w =
    let n = next newest goal base place x steps history w in
    (n.block, walk_held newest goal base steps (place_after place x) history n.walk)

-- and so it is of each later one
held_on : (older last : List Slip) (steps : List BlockStep) → IsHistory last → IsSuffix older last → AllHeld older steps → AllHeld last steps
held_on older last steps history grown held = all_weaker (λ x. IsFound older x.slip) (λ x. IsFound last x.slip) (λ x found. lift x.slip found) steps held
  where
    lift : (s : Slip) → IsFound older s → IsFound last s
    lift s found =
        let h : IsHistory (grown.0 ++ older) = subst IsHistory (sym grown.1) history in
        subst (λ (l : List Slip). IsFound l s) grown.1 (find_later grown.0 older h s.id (has_id-find_id older s.id s found) ∙ found)

held_both : (newest : List Slip) (xs ys : List BlockStep) → AllHeld newest xs → AllHeld newest ys → AllHeld newest (xs ++ ys)
held_both newest [] ys a b = b
held_both newest (x ∷ xs) ys a b = (a.0, held_both newest xs ys a.1 b)

-- what one offer does to a client that stands at a place: it is brought to the head where a block was admitted, and else nothing changes
record Moves (w after : World) (base : Option BlockRef) (from to : Place) (steps : List BlockStep) : Type 0 where
  grown : IsSuffix w.history after.history
  held : AllHeld after.history steps
  fold : fold_steps (stands w.history base from) steps ≡ Some (stands after.history base to)
  fits : PlaceFits after.history to.end to.lib
  under : IsUnder after.history base to.lib
  moved : (to ≡ head_place after.history) ⊎ ((to ≡ from) × (after.history ≡ w.history))

stays : (w after : World) (base : Option BlockRef) (place : Place) → after.history ≡ w.history → PlaceFits w.history place.end place.lib → IsUnder w.history base place.lib → Moves w after base place place []
stays w after base place same fits under = record {
  grown = ([], sym same);
  held = tt;
  fold = ap (λ h. Some (stands h base place)) (sym same);
  fits = subst (λ (h : List Slip). PlaceFits h place.end place.lib) (sym same) fits;
  under = subst (λ (h : List Slip). IsUnder h base place.lib) (sym same) under;
  moved = inr (refl, same);
}

follows_head : (w after : World) (base : Option BlockRef) (place : Place) (more : List Slip) → more ++ w.history ≡ after.history → IsHistory after.history → ClaimsAgree after.history
    → PlaceFits w.history place.end place.lib → IsUnder w.history base place.lib
    → Moves w after base place (place_to after.history place mode.Live None) (steps_of after.history place mode.Live None)
follows_head w after base place more is history agreed fits under =
    let history' : IsHistory (more ++ w.history) = subst IsHistory (sym is) history in
    let agreed' : ClaimsAgree (more ++ w.history) = subst ClaimsAgree (sym is) agreed in
    let fits' : PlaceFits after.history place.end place.lib =
    subst (λ (h : List Slip). PlaceFits h place.end place.lib) is (fits_later more w.history history' agreed' place.end place.lib fits) in
    let under' : IsUnder after.history base place.lib =
    subst (λ (h : List Slip). IsUnder h base place.lib) is (under_later more w.history history' base place fits under) in
    let stood : stands w.history base place ≡ stands after.history base place =
    sym (stands_later more w.history history' base place fits) ∙ ap (λ h. stands h base place) is in
    let steps = steps_of after.history place mode.Live None in
    let goal = target after.history mode.Live None in
    let walk = start after.history base place mode.Live None history fits' under' tt in
    let settles = place_reached after.history place mode.Live None history fits' tt in
    record {
      grown = (more, is);
      held = walk_held after.history goal base steps place history walk;
      fold = ap (λ f. fold_steps f steps) stood ∙ fold_along after.history goal base steps place history walk;
      fits = settles.fits;
      under = walk_under after.history goal base (place_to after.history place mode.Live None) [] history (walk_along after.history goal base steps place history walk);
      moved = inl (settles.reached ∙ place_at_head after.history history);
    }

-- an offer, by the rule that decides it
moves_by : (w : World) (s : Slip) (base : Option BlockRef) (place : Place) → PlaceFits w.history place.end place.lib → IsUnder w.history base place.lib
    → (v : Verdict) → IsSound (world_by w s v)
    → Moves w (world_by w s v) base place (place_by (answer_by w s v) (world_by w s v).history place) (steps_by (answer_by w s v) (world_by w s v).history place)
moves_by w s base place fits under verdict.Closed sound = stays w w base place refl fits under
moves_by w s base place fits under verdict.Duplicate sound = stays w w base place refl fits under
moves_by w s base place fits under (verdict.Conflict c) sound = stays w (world_by w s (verdict.Conflict c)) base place refl fits under
moves_by w s base place fits under verdict.Early sound = stays w w base place refl fits under
moves_by w s base place fits under verdict.Stale sound = stays w w base place refl fits under
moves_by w s base place fits under verdict.WaitFull sound = stays w w base place refl fits under
moves_by w s base place fits under verdict.Waiting sound = stays w (world_by w s verdict.Waiting) base place refl fits under
moves_by w s base place fits under (verdict.HistoryFull need) sound = stays w w base place refl fits under
moves_by w s base place fits under verdict.Admitted sound =
    let grown = intake_grows w s in
    follows_head w (world_by w s verdict.Admitted) base place grown.0 grown.1 sound.history sound.agreed fits under

moves : (w : World) (s : Slip) (base : Option BlockRef) (place : Place) → IsSound w → IsBlock s → PlaceFits w.history place.end place.lib → IsUnder w.history base place.lib
    → Moves w (offered w s).world base place (place_by (offered w s).answer (offered w s).world.history place) (steps_by (offered w s).answer (offered w s).world.history place)
moves w s base place sound block fits under = moves_by w s base place fits under (judge w s) (offer_keeps w s sound block)

-- where blocks lead, with the place that is left at the head where they bring the client there
record Leads (w last : World) (base : Option BlockRef) (from to : Place) (steps : List BlockStep) : Type 0 where
  history : IsHistory last.history
  grown : IsSuffix w.history last.history
  held : AllHeld last.history steps
  fold : fold_steps (stands w.history base from) steps ≡ Some (stands last.history base to)
  fits : PlaceFits last.history to.end to.lib
  stays_at : from ≡ head_place w.history → to ≡ head_place last.history
  brought : length w.history < length last.history → to ≡ head_place last.history

-- a refused block is the last
leads_here : (w after : World) (base : Option BlockRef) (from to : Place) (steps : List BlockStep) → IsHistory after.history → Moves w after base from to steps → Leads w after base from to (steps ++ [])
leads_here w after base from to steps history m = record {
  history = history;
  grown = m.grown;
  held = held_both after.history steps [] m.held tt;
  fold = ap (fold_steps (stands w.history base from)) (append-nil steps) ∙ m.fold;
  fits = m.fits;
  stays_at = λ at. elim m.moved [ inl there ↦ there | inr same ↦ same.0 ∙ at ∙ ap head_place (sym same.1) ];
  brought = λ grown. elim m.moved [ inl there ↦ there | inr same ↦ let e : length after.history ≡ length w.history = ap length same.1 in absurd (omega (arith, grown, e)) ];
}

-- after another the blocks that follow lead on
leads_on : (w after last : World) (base : Option BlockRef) (from mid to : Place) (steps more : List BlockStep) → Moves w after base from mid steps → Leads after last base mid to more
    → Leads w last base from to (steps ++ more)
leads_on w after last base from mid to steps more m l = record {
  history = l.history;
  grown = IsSuffix-trans m.grown l.grown;
  held = held_both last.history steps more (held_on after.history last.history steps l.history l.grown m.held) l.held;
  fold = fold_steps-append (stands w.history base from) (stands after.history base mid) steps more m.fold ∙ l.fold;
  fits = l.fits;
  stays_at = λ at. elim m.moved [ inl there ↦ l.stays_at there | inr same ↦ l.stays_at (same.0 ∙ at ∙ ap head_place (sym same.1)) ];
  brought = λ grown. elim m.moved [
    | inl there ↦ l.stays_at there
    | inr same ↦ let e : length after.history ≡ length w.history = ap length same.1 in l.brought (omega (arith, grown, e))
  ];
}

leads : (slips : List Slip) (w : World) (base : Option BlockRef) (place : Place) → IsSound w → AllByRecursion IsBlock slips → PlaceFits w.history place.end place.lib → IsUnder w.history base place.lib
    → Leads w (world_left slips w) base place (place_left slips w place) (steps_told slips w place)
leads [] w base place sound blocks fits under = record { history = sound.history; grown = ([], refl); held = tt; fold = refl; fits = fits; stays_at = λ at. at; brought = λ grown. absurd (omega (arith, grown)) }
leads (s ∷ slips) w base place sound blocks fits under =
    let answer = (offered w s).answer in
    let after = (offered w s).world in
    let to = place_by answer after.history place in
    let m = moves w s base place sound blocks.0 fits under in
    go (refusal_of answer) m (leads slips after base to (offer_keeps w s sound blocks.0) blocks.1 m.fits m.under)
  where
    go : (r : Option Refusal) → Moves w (offered w s).world base place (place_by (offered w s).answer (offered w s).world.history place) (steps_by (offered w s).answer (offered w s).world.history place)
        → Leads (offered w s).world (world_left slips (offered w s).world) base (place_by (offered w s).answer (offered w s).world.history place)
        (place_left slips (offered w s).world (place_by (offered w s).answer (offered w s).world.history place))
        (steps_told slips (offered w s).world (place_by (offered w s).answer (offered w s).world.history place))
        → Leads w (unless_refused r (offered w s).world (world_left slips (offered w s).world)) base place
        (unless_refused r (place_by (offered w s).answer (offered w s).world.history place)
        (place_left slips (offered w s).world (place_by (offered w s).answer (offered w s).world.history place)))
        (steps_by (offered w s).answer (offered w s).world.history place
        ++ unless_refused r [] (steps_told slips (offered w s).world (place_by (offered w s).answer (offered w s).world.history place)))
    go None m l = leads_on w _ _ base place _ _ _ _ m l
    go (Some r) m l = leads_here w _ base place _ _ (offer_keeps w s sound blocks.0).history m

pub steps_follow : StepsFollow
steps_follow slips w base place sound blocks fits under =
    let l = leads slips w base place sound blocks fits under in
    let last = world_left slips w in
    let to = place_left slips w place in
    let at : to ≡ head_place last.history → fold_steps (stands w.history base place) (steps_told slips w place) ≡ Some (at_head last.history base) =
    λ e. l.fold ∙ ap (λ p. Some (stands last.history base p)) e ∙ ap (λ f. Some f) (stands_at_head last.history base) in
    record {
      fold = l.fold;
      held = l.held;
      fits = l.fits;
      head = λ brought. elim brought [ inl stood ↦ at (l.stays_at stood) | inr grown ↦ at (l.brought grown) ];
    }
