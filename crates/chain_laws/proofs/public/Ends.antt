-- Where a walk ends, what it folds to, and that openings fit.
use Rattle.std.proofs.Common.{arith, ◌≡◌, inl, inr, ℕ, Bool, true, List, [], ◌∷◌, ◌++◌, length, Option, Some, None, refl, sym, ◌∙◌, ap, subst, append_assoc}
use Rattle.std.specs.List.{filter, find}
use Rattle.std.specs.Option.{option_map}
use Rattle.std.proofs.lemmas.Bool.{cases_Bool, ltb-false}
use Rattle.std.proofs.lemmas.List.Elements.{filter-append}
use Rattle.block_record.specs.declared.blocks.Slip.{Slip}
use Rattle.block_record.specs.declared.blocks.BlockRef.{BlockRef}
use Rattle.block_record.specs.Ids.{same_id_refl}
use Rattle.chain_model.specs.declared.places.Place.{Place}
use Rattle.chain_model.specs.declared.places.Mode.{Mode}
use Rattle.chain_model.specs.Ancestry.{find_id, has_id, ancestry, IsHistory}
use Rattle.chain_model.specs.Finality.{final_ancestry}
use Rattle.chain_model.specs.Steps.{BlockStep, ref_of, ancestry_at, keep_while, is_not, cut, steps_of, target, whole_target, place_after}
use Rattle.chain_model.specs.Fold.{fold_steps}
use Rattle.chain_laws.proofs.public.Lines.{some_and, id-find_id}
use Rattle.chain_laws.proofs.public.Growth.{IsFound, find_passes}
use Rattle.chain_laws.proofs.public.ClosedLists.{Passes, filter-passes, Passes-append}
use Rattle.chain_laws.proofs.public.Reach.{IsLine, first_fails, line_found, head_is_found, has_id-append_right}
use Rattle.chain_laws.proofs.public.Meeting.{finals_line, itself_on_path}
use Rattle.chain_laws.proofs.public.Settling.{steps_settle}
use Rattle.chain_laws.specs.Laws.{PlaceReached, OpeningFits, StepsFold, OpeningFolds}
use Rattle.chain_laws.proofs.public.LineFacts.{ref_first, IsBase, line_distinct, after_base_of, line_is, line_suffix, first_is_found}
use Rattle.chain_laws.proofs.public.Walks.{is_final, Fails, based, Walks, Walk, next, walk_fits, stands_is, lib_line}
use Rattle.chain_laws.proofs.public.Starts.{start}
use Rattle.chain_model.specs.Places.{opening, place_along, place_to, PlaceFits, IsAhead, IsHeld}
use Rattle.chain_laws.specs.Standing.{first_of, place_at_end, after_base, stands, has_all, begins, IsUnder}

pub place_same : (p q : Place) → p.end ≡ q.end → p.lib ≡ q.lib → p ≡ q
place_same p q e l = let y : record { end = p.end; lib = p.lib } ≡ q = rw (e, l) refl in y

find_skips : (f : Slip → Bool) (xs ys : List Slip) → Fails f xs → find f (xs ++ ys) ≡ find f ys
find_skips f [] ys all = refl
find_skips f (x ∷ xs) ys all = rw all.0 (find_skips f xs ys all.1)

pub find_at : (f : Slip → Bool) (xs : List Slip) → Passes f xs → find f xs ≡ first_of xs
find_at f [] all = refl
find_at f (x ∷ xs) all = rw all.0 refl

filter_skips : (f : Slip → Bool) (xs : List Slip) → Fails f xs → filter f xs ≡ []
filter_skips f [] all = refl
filter_skips f (x ∷ xs) all = rw all.0 (filter_skips f xs all.1)

-- where no step is left
pub record Ended (newest goal : List Slip) (base : Option BlockRef) (place : Place) : Type 0 where
  pub reached : place ≡ place_at_end (final_ancestry newest) goal
  pub has : stands newest base place ≡ has_all newest base goal

ended : (newest goal : List Slip) (base : Option BlockRef) (place : Place) (free counted lowest : List Slip) → IsHistory newest
    → Walks newest goal base place [] [] free [] [] [] counted lowest → Ended newest goal base place
ended newest goal base place free counted lowest history w =
    let f = is_final newest in
    let parts : goal ≡ free ++ (counted ++ lowest) = w.goal_is ∙ append_assoc free counted lowest in
    let last : find f goal ≡ first_of (counted ++ lowest) = ap (find f) parts ∙ find_skips f free (counted ++ lowest) w.free_not ∙ find_at f (counted ++ lowest) w.low in
    let above : after_base base goal ≡ free ++ counted =
    ap (after_base base) w.goal_is ∙ after_base_of base (free ++ counted) lowest w.base_is (line_distinct newest history _ w.on) in
    let some : filter f (after_base base goal) ≡ counted =
    ap (filter f) above ∙ filter-append f free counted ∙ ap (λ l. l ++ filter f counted) (filter_skips f free w.free_not) ∙ filter-passes f counted (Passes-append f counted lowest w.low).0 in
    record {
      reached = place_same place (place_at_end (final_ancestry newest) goal) (w.end ∙ ap ref_first (sym w.goal_is)) (w.lib ∙ ap (option_map ref_of) (sym last));
      has = stands_is newest goal base place [] [] free [] [] [] counted lowest history w ∙ state_same base _ _ _ _ (sym above) (ap length (sym some));
    }
  where
    state_same : (b : Option BlockRef) (xs ys : List Slip) (m n : ℕ) → xs ≡ ys → m ≡ n
        → based b xs m ≡ based b ys n
    state_same b xs ys m n e k = rw (e, k) refl

end_go : (newest goal : List Slip) (base : Option BlockRef) (place : Place) (gone free due finals news counted lowest : List Slip) → IsHistory newest
    → Walks newest goal base place [] gone free due finals news counted lowest → Ended newest goal base place
end_go newest goal base place (u ∷ gone) free due finals news counted lowest history w = let e = w.steps_are in absurd (cc)
end_go newest goal base place [] free (d ∷ due) finals news counted lowest history w = let e = w.steps_are in absurd (cc)
end_go newest goal base place [] free [] (b ∷ finals) news counted lowest history w = let e = w.steps_are in absurd (cc)
end_go newest goal base place [] free [] [] (c ∷ news) counted lowest history w = let e = w.steps_are in absurd (cc)
end_go newest goal base place [] free [] [] [] counted lowest history w = ended newest goal base place free counted lowest history w

pub walk_end : (newest goal : List Slip) (base : Option BlockRef) (place : Place) → IsHistory newest → Walk newest goal base place [] → Ended newest goal base place
walk_end newest goal base place history w = end_go newest goal base place w.gone w.free w.due w.finals w.news w.counted w.lowest history w.walks

-- the base stays on the path of the lib
under_go : (newest : List Slip) → IsHistory newest → (base : Option BlockRef) (counted lowest : List Slip) (lib : Option BlockRef) → IsBase base lowest → IsLine newest (counted ++ lowest) → lib ≡ ref_first (counted ++ lowest) → IsUnder newest base lib
under_go newest history None counted lowest lib at l e = tt
under_go newest history (Some r) counted [] lib at l e = absurd at
under_go newest history (Some r) counted (y ∷ ys) lib at l e =
    let found = first_is_found newest y ys (line_suffix newest history counted (y ∷ ys) l) in
    let held : IsHeld newest r = rw (sym (ap (find_id newest) at.0) ∙ found) at.1 in
    rw e (go counted l held (has_id-append_right counted (y ∷ ys) r.id (rw (at.0, same_id_refl r.id) refl)))
  where
    go : (xs : List Slip) → IsLine newest (xs ++ y ∷ ys) → IsHeld newest r → has_id (xs ++ y ∷ ys) r.id ≡ true → IsUnder newest (Some r) (ref_first (xs ++ y ∷ ys))
    go [] line held on = (held, rw (line_is newest y ys line) on)
    go (x ∷ xs) line held on = (held, rw (line_is newest x (xs ++ y ∷ ys) line) on)

pub walk_under : (newest goal : List Slip) (base : Option BlockRef) (place : Place) (steps : List BlockStep) → IsHistory newest → Walk newest goal base place steps → IsUnder newest base place.lib
walk_under newest goal base place steps history w =
    under_go newest history base w.counted w.lowest place.lib w.walks.base_is
    (lib_line newest goal base place steps w.gone w.free w.due w.finals w.news w.counted w.lowest history w.walks) w.walks.lib

-- along the steps
pub walk_along : (newest goal : List Slip) (base : Option BlockRef) (xs : List BlockStep) (place : Place) → IsHistory newest → Walk newest goal base place xs → Walk newest goal base (place_along place xs) []
walk_along newest goal base [] place history w = w
walk_along newest goal base (x ∷ xs) place history w = walk_along newest goal base xs (place_after place x) history (next newest goal base place x xs history w).walk

pub fold_along : (newest goal : List Slip) (base : Option BlockRef) (xs : List BlockStep) (place : Place) → IsHistory newest → Walk newest goal base place xs
    → fold_steps (stands newest base place) xs ≡ Some (stands newest base (place_along place xs))
fold_along newest goal base [] place history w = refl
fold_along newest goal base (x ∷ xs) place history w =
    let n = next newest goal base place x xs history w in
    rw n.fold (fold_along newest goal base xs (place_after place x) history n.walk)

-- the last block of the target is not above the stop
ahead_cut : (stop : ℕ) (line : List Slip) → IsAhead (Some stop) (ref_first (cut (Some stop) line))
ahead_cut stop line = go (cut (Some stop) line) refl
  where
    go : (xs : List Slip) → cut (Some stop) line ≡ xs → IsAhead (Some stop) (ref_first xs)
    go [] e = tt
    go (y ∷ ys) e = ltb-false stop y.num (first_fails _ line y ys e)

ahead_of : (newest : List Slip) (m : Mode) (stop : Option ℕ) → IsAhead stop (ref_first (target newest m stop))
ahead_of newest m None = tt
ahead_of newest m (Some stop) = ahead_cut stop (whole_target newest m)

pub place_reached : PlaceReached
place_reached newest place m stop history fits ahead =
    let w = walk_along newest (target newest m stop) None (steps_of newest place m stop) place history (start newest None place m stop history fits tt ahead) in
    let e = walk_end newest (target newest m stop) None (place_to newest place m stop) history w in
    record {
      reached = e.reached;
      still = ap (λ p. steps_of newest p m stop) e.reached ∙ steps_settle newest m stop history;
      fits = walk_fits newest (target newest m stop) None (place_to newest place m stop) [] history w;
      ahead = subst (λ (p : Place). IsAhead stop p.end) (sym e.reached) (ahead_of newest m stop);
    }

pub steps_fold : StepsFold
steps_fold newest base place m stop history fits under ahead =
    let goal = target newest m stop in
    let w = start newest base place m stop history fits under ahead in
    fold_along newest goal base (steps_of newest place m stop) place history w
    ∙ ap (λ f. Some f) (walk_end newest goal base (place_to newest place m stop) history (walk_along newest goal base (steps_of newest place m stop) place history w)).has

-- an opening
find_has : (p : Slip → Bool) (xs : List Slip) (s : Slip) → find p xs ≡ Some s → has_id xs s.id ≡ true
find_has p [] s e = absurd (grind arith)
find_has p (x ∷ xs) s e =
    elim (cases_Bool (p x)) [
      | inl hit ↦ let same : x ≡ s = grind (arith, e, hit) in rw (same, same_id_refl s.id) refl
      | inr miss ↦ let rest : find p xs ≡ Some s = grind (arith, e, miss) in let h = find_has p xs s rest in grind (arith, h)
    ]

fits_at : (newest : List Slip) → IsHistory newest → (p : Slip → Bool) (o : Option Slip) → find p (final_ancestry newest) ≡ o → PlaceFits newest (option_map ref_of o) (option_map ref_of o)
fits_at newest history p None e = tt
fits_at newest history p (Some s) e =
    let found = find_passes (IsFound newest) p (final_ancestry newest) s (line_found newest history (final_ancestry newest) (finals_line newest history)) e in
    let held : IsHeld newest (ref_of s) = rw found refl in
    record { end_held = held; lib_held = held; final = find_has p (final_ancestry newest) s e; on_path = itself_on_path newest s found }

pub opening_fits : OpeningFits
opening_fits newest n history = fits_at newest history _ (find _ (final_ancestry newest)) refl

-- a client that has nothing stands at the base
pub begins_there : (newest : List Slip) (r : Option BlockRef) → PlaceFits newest r r → begins r ≡ stands newest r (record { end = r; lib = r })
begins_there newest None fits = refl
begins_there newest (Some r) fits =
    let s = held_line newest r fits.end_held in
    let e : keep_while (is_not (Some r)) (ancestry_at newest (Some r)) ≡ [] = rw (s.2, s.3, same_id_refl r.id) refl in
    rw e refl
  where
    held_line : (n : List Slip) (q : BlockRef) → IsHeld n q → (x : Slip) × (xs : List Slip) × (ancestry n q.id ≡ x ∷ xs) × (x.id ≡ q.id)
    held_line n q h = let b = some_and _ _ h in let first = head_is_found n q.id b.0 b.1 in (b.0, first.0, first.1, id-find_id n q.id b.0 b.1)

pub under_itself : (newest : List Slip) (r : Option BlockRef) → PlaceFits newest r r → IsUnder newest r r
under_itself newest None fits = tt
under_itself newest (Some r) fits = (fits.lib_held, fits.on_path)

pub opening_folds : OpeningFolds
opening_folds newest n m stop history ahead =
    let p = opening newest n in
    let fits = opening_fits newest n history in
    ap (λ f. fold_steps f (steps_of newest p m stop)) (begins_there newest p.end fits) ∙ steps_fold newest p.end p m stop history fits (under_itself newest p.end fits) ahead
