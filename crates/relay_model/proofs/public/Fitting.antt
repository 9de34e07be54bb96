-- A batch at the start begins at a place that fits.
use Rattle.std.proofs.Common.{arith, ◌≡◌, ◌≤◌, ltb, ℕ, Bool, true, false, not, cond, List, [], ◌∷◌, length, Option, Some, None, refl, sym, ◌∙◌, ap, subst, ◌&&◌, if◌then◌else◌}
use Rattle.std.specs.Prelude.{IsSomeAnd}
use Rattle.std.proofs.lemmas.Bool.{and_parts, both_ways, eq-eqb, eqb-true, ltb-false}
use Rattle.std.proofs.lemmas.Option.{same_Some}
use Rattle.block_record.specs.declared.blocks.Slip.{Slip}
use Rattle.block_record.specs.declared.blocks.BlockRef.{BlockRef}
use Rattle.chain_model.specs.declared.places.Place.{Place}
use Rattle.chain_model.specs.declared.places.Step.{Step}
use Rattle.chain_model.specs.declared.places.Step.TheVariants as step
use Rattle.chain_model.specs.Ancestry.{find_id, has_id, ancestry}
use Rattle.chain_model.specs.Finality.{final_ancestry}
use Rattle.chain_model.specs.Steps.{parent_of}
use Rattle.chain_model.specs.Places.{IsHeld, PlaceFits, IsAhead, opening}
use Rattle.chain_laws.proofs.public.Ends.{opening_fits}
use Rattle.step_cursor.specs.declared.cursor.Cursor.{Cursor}
use Rattle.step_cursor.specs.declared.cursor.Request.{Request}
use Rattle.step_cursor.specs.declared.cursor.Tail.{Tail}
use Rattle.step_cursor.specs.declared.cursor.MisfitField.{MisfitField}
use Rattle.step_cursor.specs.declared.cursor.MisfitField.TheVariants as field
use Rattle.step_cursor.specs.Fitting.{HasShape, StepFitsAt, CursorFits}
use Rattle.relay_model.specs.Worlds.{World}
use Rattle.relay_model.specs.Soundness.{IsSound}
use Rattle.relay_model.specs.Looks.{Batch, NotYet, Closing, StopBelow, look_from, look_idle, look_open, look_known, look_fitted, look_start, look_cursor, is_held, has_num, is_ref, ends_at_parent, unknown, misfit, is_ahead, shape_holds, end_fits, lib_fits, stops_below, end_num}
use Rattle.relay_model.specs.Laws.{BatchBegins, BatchFits}
use Rattle.chain_model.proofs.public.RefFacts.{ref_is}

-- a block that the test finds held is held
held_of : (newest : List Slip) (r : BlockRef) → is_held newest r ≡ true → IsHeld newest r
held_of newest r e = go (find_id newest r.id) e
  where
    go : (o : Option Slip) → has_num o r.num ≡ true → IsSomeAnd o (λ s. s.num ≡ r.num)
    go None h = absurd (both_ways _ refl h)
    go (Some s) h = eqb-true _ _ h

-- the shape that the test finds is the step's
shape_of : (newest : List Slip) (kind : Step) (block end lib : BlockRef)
    → shape_holds newest kind block (record { end = Some end; lib = Some lib }) ≡ true → HasShape newest kind block end lib
shape_of newest step.New block end lib e = ref_is end block e
shape_of newest step.Undo block end lib e = go (find_id newest block.id) e
  where
    go : (o : Option Slip) → ends_at_parent (Some end) o ≡ true → IsSomeAnd o (λ s. end ≡ parent_of s)
    go None h = absurd (both_ways _ refl h)
    go (Some s) h = ref_is end (parent_of s) h
shape_of newest step.Final block end lib e = ref_is lib block e
shape_of newest step.NewFinal block end lib e =
    let p = and_parts (is_ref block (Some end)) (is_ref block (Some lib)) e in
    (ref_is end block p.0, ref_is lib block p.1)

-- what the tests find where no field is wrong
record IsRight (a b c d e : Bool) : Type 0 where
  block : a ≡ true
  end : b ≡ true
  lib : c ≡ true
  shape : d ≡ true
  seen : e ≡ false

right : (a b c d e : Bool)
    → (if not a then Some field.Block else if not b then Some field.End else if not c then Some field.Lib else if not d then Some field.Step else if e then Some field.Seen else None) ≡ None
    → IsRight a b c d e
right true true true true true h = absurd (grind (arith, h))
right true true true true false h = record { block = refl; end = refl; lib = refl; shape = refl; seen = refl }
right true true true false e h = absurd (grind (arith, h))
right true true false d e h = absurd (grind (arith, h))
right true false c d e h = absurd (grind (arith, h))
right false b c d e h = absurd (grind (arith, h))

-- a step of which no field is wrong fits
step_fits : (newest : List Slip) (kind : Step) (block : BlockRef) (end lib : Option BlockRef) (more : Bool)
    → IsRight (is_held newest block) (end_fits newest end) (lib_fits newest end lib) (shape_holds newest kind block (record { end = end; lib = lib })) more
    → StepFitsAt newest kind block end lib
step_fits newest kind block None lib more r = absurd (both_ways _ refl r.end)
step_fits newest kind block (Some e) None more r = absurd (both_ways _ refl r.lib)
step_fits newest kind block (Some e) (Some l) more r =
    let p = and_parts (is_held newest l && has_id (final_ancestry newest) l.id) (has_id (ancestry newest e.id) l.id) r.lib in
    let q = and_parts (is_held newest l) (has_id (final_ancestry newest) l.id) p.0 in
    record {
      place = record { end_held = held_of newest e r.end; lib_held = held_of newest l q.0; final = q.1; on_path = p.1 };
      held = held_of newest block r.block;
      shape = shape_of newest kind block e l r.shape;
    }

-- so does its place
pub place_fits : (newest : List Slip) (kind : Step) (block : BlockRef) (end lib : Option BlockRef) → StepFitsAt newest kind block end lib → PlaceFits newest end lib
place_fits newest kind block None lib f = absurd f
place_fits newest kind block (Some e) None f = absurd f
place_fits newest kind block (Some e) (Some l) f = f.place

-- a cursor of which no field is wrong
right_cursor : (run : ℕ) (newest : List Slip) (c : Cursor) → misfit run newest c ≡ None
    → IsRight (is_held newest c.block) (end_fits newest c.place.end) (lib_fits newest c.place.end c.place.lib) (shape_holds newest c.step c.block c.place) (is_ahead run newest c.tail)
right_cursor run newest c e =
    right (is_held newest c.block) (end_fits newest c.place.end) (lib_fits newest c.place.end c.place.lib) (shape_holds newest c.step c.block c.place) (is_ahead run newest c.tail) e

-- it fits
pub cursor_fits : (run : ℕ) (newest : List Slip) (c : Cursor) → misfit run newest c ≡ None → CursorFits c newest
cursor_fits run newest c e = step_fits newest c.step c.block c.place.end c.place.lib (is_ahead run newest c.tail) (right_cursor run newest c e)

-- and a tail of this run saw no more than there is
saw_no_more : (run : ℕ) (newest : List Slip) (t : Tail) → is_ahead run newest (Some t) ≡ false → t.run ≡ run → t.seen ≤ length newest
saw_no_more run newest t e same = let less : ltb (length newest) t.seen ≡ false = rw (eq-eqb t.run run same) at e in ltb-false (length newest) t.seen less

-- what a batch from a place says
record IsFrom (w : World) (r : Request) (begin : Place) (len : ℕ) (place : Place) : Type 0 where
  whole : len ≡ length w.history
  begins : place ≡ begin
  ahead : IsAhead r.stop begin.end

pub ahead_of : (stop : Option ℕ) (end : Option BlockRef) → stops_below stop end ≡ false → IsAhead stop end
ahead_of None end e = tt
ahead_of (Some n) None e = tt
ahead_of (Some n) (Some r) e = ltb-false _ _ e

same_batch : (a b : ℕ) (p q : Place) → Batch a p ≡ Batch b q → (b ≡ a) × (q ≡ p)
same_batch a b p q e = (grind (arith, e), grind (arith, e))

idle_is_none : (w : World) (len : ℕ) (place : Place) → look_idle w ≡ Batch len place → ⊥
idle_is_none w len place = go w.closed
  where
    go : (b : Bool) → cond b (Closing (length w.history)) (NotYet (length w.history)) ≡ Batch len place → ⊥
    go true e = absurd (grind (arith, e))
    go false e = absurd (grind (arith, e))

from_start : (w : World) (r : Request) (begin : Place) (len : ℕ) (place : Place) → look_from true w r begin ≡ Batch len place → IsFrom w r begin len place
from_start w r begin len place = go (stops_below r.stop begin.end) refl
  where
    go : (b : Bool) → stops_below r.stop begin.end ≡ b → cond b (StopBelow (end_num begin.end)) (Batch (length w.history) begin) ≡ Batch len place → IsFrom w r begin len place
    go true k e = absurd (grind (arith, e))
    go false k e = let s = same_batch (length w.history) len begin place e in record { whole = s.0; begins = s.1; ahead = ahead_of r.stop begin.end k }

-- without a cursor
opened : (w : World) (r : Request) (len : ℕ) (place : Place) → IsSound w → (newest : List Slip) → newest ≡ w.history → r.cursor ≡ None
    → look_open w r newest ≡ Batch len place → BatchBegins w r len place
opened w r len place sound [] is open' e = absurd (idle_is_none w len place e)
opened w r len place sound (s ∷ older) is open' e =
    let f = from_start w r (opening w.history r.start) len place e in
    record {
      whole = f.whole;
      fits = subst (λ (p : Place). PlaceFits w.history p.end p.lib) (sym f.begins) (opening_fits w.history r.start sound.history);
      ahead = subst (λ (p : Place). IsAhead r.stop p.end) (sym f.begins) f.ahead;
      opens = λ k. f.begins;
      cursor = λ c k. absurd (none c (sym open' ∙ k));
      seen = λ c t k. absurd (none c (sym open' ∙ k));
    }
  where
    none : (c : Cursor) → None ≡ Some c → ⊥
    none c h = cc

-- with one
went_on : (w : World) (r : Request) (c : Cursor) (len : ℕ) (place : Place) → r.cursor ≡ Some c → look_cursor w r c ≡ Batch len place → BatchBegins w r len place
went_on w r c len place is = go (is_ahead w.run w.history c.tail && not w.closed)
  where
    some : None ≡ Some c → ⊥
    some h = cc

    fitted : (m : Option MisfitField) → misfit w.run w.history c ≡ m → look_fitted w r c m ≡ Batch len place → BatchBegins w r len place
    fitted (Some f) k e = absurd (grind (arith, e))
    fitted None k e =
        let f = from_start w r c.place len place e in
        let fits = cursor_fits w.run w.history c k in
        record {
          whole = f.whole;
          fits = subst (λ (p : Place). PlaceFits w.history p.end p.lib) (sym f.begins) (place_fits w.history c.step c.block c.place.end c.place.lib fits);
          ahead = subst (λ (p : Place). IsAhead r.stop p.end) (sym f.begins) f.ahead;
          opens = λ h. absurd (some (sym h ∙ is));
          seen = λ d t h tail. saw_no_more w.run w.history t (subst (λ (o : Option Tail). is_ahead w.run w.history o ≡ false) tail (subst (λ (x : Cursor). is_ahead w.run w.history x.tail ≡ false) (same_Some c d (sym is ∙ h)) (right_cursor w.run w.history c k).seen));
          cursor = λ d h. (f.begins ∙ ap (λ x. x.place) (same_Some c d (sym is ∙ h)), subst (λ (x : Cursor). CursorFits x w.history) (same_Some c d (sym is ∙ h)) fits);
        }

    known : (o : Option (List ℕ)) → look_known w r c o ≡ Batch len place → BatchBegins w r len place
    known (Some id) e = absurd (grind (arith, e))
    known None e = fitted (misfit w.run w.history c) refl e

    go : (b : Bool) → cond b (NotYet (length w.history)) (look_known w r c (unknown w.history c)) ≡ Batch len place → BatchBegins w r len place
    go true e = absurd (grind (arith, e))
    go false e = known (unknown w.history c) e

pub batch_fits : BatchFits
batch_fits w r len place sound = go r.cursor refl
  where
    go : (o : Option Cursor) → r.cursor ≡ o → look_start w r o ≡ Batch len place → BatchBegins w r len place
    go None k e = opened w r len place sound w.history refl k e
    go (Some c) k e = went_on w r c len place k e
