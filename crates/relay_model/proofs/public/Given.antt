-- A cursor that this run gave is taken up.
use Rattle.std.proofs.Common.{arith, ◌≡◌, inl, inr, ℕ, Bool, true, false, not, cond, List, [], ◌∷◌, ◌++◌, length, map, reverse, Option, Some, None, refl, sym, ◌∙◌, ap, subst, ltb, ◌&&◌, if◌then◌else◌}
use Rattle.std.proofs.Math.Dec.{eqb}
use Rattle.std.specs.List.{AllByRecursion}
use Rattle.std.proofs.lemmas.Bool.{cases_Bool, both_ways, eq-eqb, le-ltb}
use Rattle.std.proofs.lemmas.List.{length-append}
use Rattle.block_record.specs.declared.blocks.Slip.{Slip}
use Rattle.block_record.specs.declared.blocks.BlockRef.{BlockRef}
use Rattle.block_record.specs.Ids.{same_id_refl}
use Rattle.chain_model.specs.declared.places.Place.{Place}
use Rattle.chain_model.specs.declared.places.Step.{Step}
use Rattle.chain_model.specs.declared.places.Step.TheVariants as step
use Rattle.chain_model.specs.Ancestry.{find_id, has_id, IsHistory}
use Rattle.chain_model.specs.Finality.{ClaimsAgree, final_ancestry}
use Rattle.chain_model.specs.Steps.{BlockStep, block_step, ref_of, parent_of, ancestry_at, place_after, steps_of, target}
use Rattle.chain_model.specs.Places.{PlaceFits, BlocksFit, IsHeld}
use Rattle.chain_model.specs.Places.{PlacedStep, placed}
use Rattle.chain_laws.proofs.public.Lines.{some_and, has_id-find_id}
use Rattle.chain_laws.proofs.public.Growth.{IsFound}
use Rattle.chain_laws.proofs.public.LineFacts.{first_is_found}
use Rattle.chain_laws.proofs.public.Walks.{Walks, Walk, next, walk_fits}
use Rattle.chain_laws.proofs.public.Starts.{start}
use Rattle.chain_laws.proofs.public.Later.{history_older, find_later, held_later, fits_later}
use Rattle.step_cursor.specs.declared.cursor.Cursor.{Cursor}
use Rattle.step_cursor.specs.declared.cursor.Request.{Request}
use Rattle.step_cursor.specs.declared.cursor.MisfitField.TheVariants as field
use Rattle.relay_model.specs.Worlds.{World}
use Rattle.chain_model.specs.Fold.{same_ref}
use Rattle.relay_model.specs.Looks.{Look, Batch, NotYet, Done, Closing, Unknown, Misfit, StopBelow, Start, looked, look_from, look_idle, look_known, look_fitted, look_start, is_held, has_num, unknown, misfit, is_ahead, shape_holds, ends_at_parent, end_fits, lib_fits, stops_below}
use Rattle.relay_model.specs.Laws.{cursor_of, IsTakenUp, GivenCursors}

held_is : (newest : List Slip) (r : BlockRef) → IsHeld newest r → (is_held newest r ≡ true) × (has_id newest r.id ≡ true)
held_is newest r h =
    let s = some_and (find_id newest r.id) (λ x. x.num ≡ r.num) h in
    (ap (λ o. has_num o r.num) s.1 ∙ eq-eqb s.0.num r.num s.2, has_id-find_id newest r.id s.0 s.1)

same_ref_refl : (r : BlockRef) → same_ref r r ≡ true
same_ref_refl r = rw (eq-eqb r.num r.num refl, same_id_refl r.id) refl

-- what holds of a cursor that is taken up
record IsGiven (newest : List Slip) (kind : Step) (block : BlockRef) (place : Place) : Type 0 where
  end : BlockRef
  lib : BlockRef
  end_is : place.end ≡ Some end
  lib_is : place.lib ≡ Some lib
  fits : BlocksFit newest end lib
  held : IsHeld newest block
  shape : shape_holds newest kind block place ≡ true

-- the block of an undo is the end of the place before
undo_end : (newest goal : List Slip) (base : Option BlockRef) (place : Place) (slip : Slip) (xs : List BlockStep) (gone free due finals news counted lowest : List Slip)
    → Walks newest goal base place (block_step step.Undo slip ∷ xs) gone free due finals news counted lowest → (place.end ≡ Some (ref_of slip)) × IsFound newest slip
undo_end newest goal base place slip xs (u ∷ gone) free due finals news counted lowest w =
    let e = w.steps_are in
    let same : u ≡ slip = first u e in
    (w.end ∙ ap (λ z. Some (ref_of z)) same, subst (IsFound newest) same (first_is_found newest u ((gone ++ (free ++ (reverse due ++ counted))) ++ lowest) w.on))
  where
    first : (u' : Slip) → block_step step.Undo slip ∷ xs ≡ block_step step.Undo u' ∷ (map (block_step step.Undo) gone ++ (map (block_step step.Final) due ++ (map (block_step step.NewFinal) finals ++ map (block_step step.New) news))) → u' ≡ slip
    first u' e = grind (arith, e)
undo_end newest goal base place slip xs [] free (d ∷ due) finals news counted lowest w = let e = w.steps_are in absurd (grind (arith, e))
undo_end newest goal base place slip xs [] free [] (b ∷ finals) news counted lowest w = let e = w.steps_are in absurd (grind (arith, e))
undo_end newest goal base place slip xs [] free [] [] (c ∷ news) counted lowest w = let e = w.steps_are in absurd (grind (arith, e))
undo_end newest goal base place slip xs [] free [] [] [] counted lowest w = let e = w.steps_are in absurd (grind (arith, e))

given_go : (more older : List Slip) (kind : Step) (slip : Slip) (end lib : Option BlockRef) → IsHistory (more ++ older) → ClaimsAgree (more ++ older) → PlaceFits older end lib
    → PlaceFits (more ++ older) (place_after (record { end = end; lib = lib }) (block_step kind slip)).end (place_after (record { end = end; lib = lib }) (block_step kind slip)).lib
    → (kind ≡ step.Undo → (end ≡ Some (ref_of slip)) × IsFound older slip) → IsGiven (more ++ older) kind (ref_of slip) (place_after (record { end = end; lib = lib }) (block_step kind slip))
given_go more older step.New slip end None history agreed fits after undo = absurd after
given_go more older step.New slip end (Some l) history agreed fits after undo =
    record { end = ref_of slip; lib = l; end_is = refl; lib_is = refl; fits = after; held = after.end_held; shape = same_ref_refl (ref_of slip) }
given_go more older step.NewFinal slip end lib history agreed fits after undo =
    record { end = ref_of slip; lib = ref_of slip; end_is = refl; lib_is = refl; fits = after; held = after.end_held; shape = rw (same_ref_refl (ref_of slip)) refl }
given_go more older step.Final slip None lib history agreed fits after undo = absurd after
given_go more older step.Final slip (Some e) lib history agreed fits after undo =
    record { end = e; lib = ref_of slip; end_is = refl; lib_is = refl; fits = after; held = after.lib_held; shape = same_ref_refl (ref_of slip) }
given_go more older step.Undo slip None lib history agreed fits after undo = let u = undo refl in let e = u.0 in absurd (none e)
  where
    none : None ≡ Some (ref_of slip) → ⊥
    none e = cc
given_go more older step.Undo slip (Some r) None history agreed fits after undo = absurd fits
given_go more older step.Undo slip (Some r) (Some l) history agreed fits after undo =
    let u = undo refl in
    let same : r ≡ ref_of slip = grind (arith, u.0) in
    let later : find_id (more ++ older) slip.id ≡ Some slip = find_later more older history slip.id (has_id-find_id older slip.id slip u.1) ∙ u.1 in
    record {
      end = parent_of slip;
      lib = l;
      end_is = refl;
      lib_is = refl;
      fits = after;
      held = held_later more older history (ref_of slip) (subst (IsHeld older) same fits.end_held);
      shape = ap (λ o. ends_at_parent (Some (parent_of slip)) o) later ∙ same_ref_refl (parent_of slip);
    }

-- whether a look is a refusal of a cursor
abbrev is_refused : Look → Bool
is_refused (Batch len place) = false
is_refused (NotYet len) = false
is_refused (Done len) = false
is_refused (Closing len) = false
is_refused (Unknown id) = true
is_refused (Misfit f) = true
is_refused (StopBelow end) = false

idle_taken : (w : World) → is_refused (look_idle w) ≡ false
idle_taken w = elim (cases_Bool w.closed) [ inl shut ↦ rw shut refl | inr open' ↦ rw open' refl ]

from_taken : (w : World) (r : Request) (place : Place) → is_refused (look_from true w r place) ≡ false
from_taken w r place = elim (cases_Bool (stops_below r.stop place.end)) [ inl below ↦ rw below refl | inr ahead ↦ rw ahead refl ]

chain : (a b c d e : Bool) → a ≡ true → b ≡ true → c ≡ true → d ≡ true → e ≡ false
    → (if not a then Some field.Block else if not b then Some field.End else if not c then Some field.Lib else if not d then Some field.Step else if e then Some field.Seen else None) ≡ None
chain a b c d e h1 h2 h3 h4 h5 = rw (h1, h2, h3, h4, h5) refl

taken_up : (w : World) (r : Request) (c : Cursor) → r.cursor ≡ Some c → unknown w.history c ≡ None → misfit w.run w.history c ≡ None → IsTakenUp w r
taken_up w r c is known fits = record {
  known = λ id e. both_ways _ taken (ap is_refused e);
  fits = λ f e. both_ways _ taken (ap is_refused e);
}
  where
    fitted : is_refused (look_known w r c (unknown w.history c)) ≡ false
    fitted = ap (λ o. is_refused (look_known w r c o)) known ∙ ap (λ o. is_refused (look_fitted w r c o)) fits ∙ from_taken w r c.place

    by_test : (b : Bool) → is_refused (cond b (NotYet (length w.history)) (look_known w r c (unknown w.history c))) ≡ false
    by_test true = refl
    by_test false = fitted

    taken : is_refused (looked w r Start) ≡ false
    taken = ap (λ o. is_refused (look_start w r o)) is ∙ by_test (is_ahead w.run w.history c.tail && not w.closed)

known_given : (newest : List Slip) (c : Cursor) (e l : BlockRef) → c.place.end ≡ Some e → c.place.lib ≡ Some l → has_id newest c.block.id ≡ true → has_id newest e.id ≡ true → has_id newest l.id ≡ true → unknown newest c ≡ None
known_given newest c e l ee el hb he hl = rw (ee, el, hb, he, hl) refl

misfit_given : (run : ℕ) (newest : List Slip) (c : Cursor) (e l : BlockRef) → c.place.end ≡ Some e → c.place.lib ≡ Some l → BlocksFit newest e l → IsHeld newest c.block
    → shape_holds newest c.step c.block c.place ≡ true → is_ahead run newest c.tail ≡ false → misfit run newest c ≡ None
misfit_given run newest c e l ee el fits held shape seen =
    chain (is_held newest c.block) (end_fits newest c.place.end) (lib_fits newest c.place.end c.place.lib) (shape_holds newest c.step c.block c.place) (is_ahead run newest c.tail)
    (held_is newest c.block held).0
    (ap (end_fits newest) ee ∙ (held_is newest e fits.end_held).0)
    (both c.place.end c.place.lib ee el)
    shape seen
  where
    all_true : (a b c' : Bool) → a ≡ true → b ≡ true → c' ≡ true → (a && b && c') ≡ true
    all_true a b c' x y z = rw (x, y, z) refl

    both : (o p : Option BlockRef) → o ≡ Some e → p ≡ Some l → lib_fits newest o p ≡ true
    both o p eo ep = rw (eo, ep) (all_true (is_held newest l) (has_id (final_ancestry newest) l.id) (has_id (ancestry_at newest (Some e)) l.id) (held_is newest l fits.lib_held).0 fits.final fits.on_path)

one_given : (w : World) (older more : List Slip) (x : PlacedStep) → more ++ older ≡ w.history → IsGiven (more ++ older) x.step.step (ref_of x.step.slip) x.place → (r : Request) → r.cursor ≡ Some (cursor_of w.run (length older) x) → IsTakenUp w r
one_given w older more x is g r e =
    let c = cursor_of w.run (length older) x in
    let newest = more ++ older in
    let known = known_given newest c g.end g.lib g.end_is g.lib_is (held_is newest (ref_of x.step.slip) g.held).1 (held_is newest g.end g.fits.end_held).1 (held_is newest g.lib g.fits.lib_held).1 in
    let fits = misfit_given w.run newest c g.end g.lib g.end_is g.lib_is g.fits g.held g.shape (seen (eqb w.run w.run) (ltb (length newest) (length older)) (le-ltb _ _ (omega (arith, length-append more older)))) in
    taken_up w r c e (subst (λ (l : List Slip). unknown l c ≡ None) is known) (subst (λ (l : List Slip). misfit w.run l c ≡ None) is fits)
  where
    seen : (a b : Bool) → b ≡ false → (a && b) ≡ false
    seen true b h = h
    seen false b h = refl

given_along : (w : World) (older more goal : List Slip) (xs : List BlockStep) (place : Place) → IsHistory (more ++ older) → ClaimsAgree (more ++ older) → more ++ older ≡ w.history → PlaceFits older place.end place.lib → Walk older goal None place xs
    → AllByRecursion (λ x. (r : Request) → r.cursor ≡ Some (cursor_of w.run (length older) x) → IsTakenUp w r) (placed place xs)
given_along w older more goal [] place history agreed is fits walk = tt
given_along w older more goal (x ∷ xs) place history agreed is fits walk =
    let before = history_older more older history in
    let n = next older goal None place x xs before walk in
    let after = place_after place x in
    let fits' = walk_fits older goal None after xs before n.walk in
    let g = given_go more older x.step x.slip place.end place.lib history agreed fits (fits_later more older history agreed after.end after.lib fits')
    (λ k. undo_end older goal None place x.slip xs walk.gone walk.free walk.due walk.finals walk.news walk.counted walk.lowest (undo k)) in
    ((λ r e. one_given w older more (record { step = x; place = after }) is g r e), given_along w older more goal xs after history agreed is fits' n.walk)
  where
    undo : x.step ≡ step.Undo → Walks older goal None place (block_step step.Undo x.slip ∷ xs) walk.gone walk.free walk.due walk.finals walk.news walk.counted walk.lowest
    undo k = subst (λ (z : Step). Walks older goal None place (block_step z x.slip ∷ xs) walk.gone walk.free walk.due walk.finals walk.news walk.counted walk.lowest) k walk.walks

pub given_cursors : GivenCursors
given_cursors w older more place m stop sound is fits ahead =
    let history : IsHistory (more ++ older) = subst IsHistory (sym is) sound.history in
    let agreed : ClaimsAgree (more ++ older) = subst ClaimsAgree (sym is) sound.agreed in
    given_along w older more (target older m stop) (steps_of older place m stop) place history agreed is fits (start older None place m stop (history_older more older history) fits tt ahead)
