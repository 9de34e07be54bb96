-- The answer to a look, step by step.
use Rattle.std.proofs.Common.{arith, ◌≡◌, ℕ, Bool, true, false, cond, List, [], ◌∷◌, length, Option, Some, None, refl, ◌∙◌, ap, nat_lt}
use Rattle.std.proofs.lemmas.Option.{same_Some}
use Rattle.block_record.specs.declared.blocks.Slip.{Slip}
use Rattle.block_record.specs.declared.blocks.BlockRef.{BlockRef}
use Rattle.chain_model.specs.declared.places.Place.{Place}
use Rattle.chain_model.specs.Places.{opening}
use Rattle.chain_model.specs.Steps.{steps_of}
use Rattle.step_cursor.specs.declared.cursor.Cursor.{Cursor}
use Rattle.step_cursor.specs.declared.cursor.Request.{Request}
use Rattle.relay_model.specs.Worlds.{World}
use Rattle.relay_model.specs.Looks.{Batch, NotYet, StopBelow, end_num, is_ahead, look_cursor, look_from, look_known, look_open, stops_below, unknown}
use Rattle.relay_look.specs.Answers.{idle_or_done, sends, stop_passed}

-- the stop is below the end, or not
pub passed : (stop : Option ℕ) (end : Option BlockRef) (n : ℕ) → stop_passed stop end ≡ Some n → (stops_below stop end ≡ true) × (end_num end ≡ n)
passed None end n e = absurd (grind (arith, e))
passed (Some stop) None n e = absurd (grind (arith, e))
passed (Some stop) (Some r) n e = go (nat_lt stop r.num) refl e
  where
    go : (b : Bool) → nat_lt stop r.num ≡ b → cond b (Some r.num) None ≡ Some n → (nat_lt stop r.num ≡ true) × (r.num ≡ n)
    go true is f = (is, same_Some r.num n f)
    go false is f = absurd (grind (arith, f))

pub not_passed : (stop : Option ℕ) (end : Option BlockRef) → stop_passed stop end ≡ None → stops_below stop end ≡ false
not_passed None end e = refl
not_passed (Some stop) None e = refl
not_passed (Some stop) (Some r) e = go (nat_lt stop r.num) refl e
  where
    go : (b : Bool) → nat_lt stop r.num ≡ b → cond b (Some r.num) None ≡ None → nat_lt stop r.num ≡ false
    go true is f = absurd (grind (arith, f))
    go false is f = is

-- the three answers from a place
pub from_below : (first : Bool) (w : World) (r : Request) (place : Place) (n : ℕ) → stop_passed r.stop place.end ≡ Some n → look_from first w r place ≡ StopBelow n
from_below first w r place n e = let p = passed r.stop place.end n e in rw (p.0, p.1) refl

pub from_sent : (first : Bool) (w : World) (r : Request) (place : Place) → stop_passed r.stop place.end ≡ None → sends first (steps_of w.history place r.mode r.stop) ≡ true
    → look_from first w r place ≡ Batch (length w.history) place
from_sent first w r place e sent = rw (not_passed r.stop place.end e, sent) refl

pub from_none : (first : Bool) (w : World) (r : Request) (place : Place) → stop_passed r.stop place.end ≡ None → sends first (steps_of w.history place r.mode r.stop) ≡ false
    → look_from first w r place ≡ idle_or_done w r.stop
from_none first w r place e sent = rw (not_passed r.stop place.end e, sent) refl

-- the answer to a cursor
pub cursor_ahead : (w : World) (r : Request) (c : Cursor) → is_ahead w.run w.history c.tail ≡ true → w.closed ≡ false → look_cursor w r c ≡ NotYet (length w.history)
cursor_ahead w r c e closed = rw (e, closed) refl

pub cursor_closed : (w : World) (r : Request) (c : Cursor) → w.closed ≡ true → look_cursor w r c ≡ look_known w r c (unknown w.history c)
cursor_closed w r c closed = go (is_ahead w.run w.history c.tail) refl
  where
    go : (b : Bool) → is_ahead w.run w.history c.tail ≡ b → look_cursor w r c ≡ look_known w r c (unknown w.history c)
    go true e = rw (e, closed) refl
    go false e = rw e refl

pub cursor_within : (w : World) (r : Request) (c : Cursor) → is_ahead w.run w.history c.tail ≡ false → look_cursor w r c ≡ look_known w r c (unknown w.history c)
cursor_within w r c e = rw e refl

-- the answer at the start of a history with blocks
pub open_on : (w : World) (r : Request) (newest : List Slip) → w.history ≡ newest → (length newest ≡ 0 → ⊥) → look_open w r w.history ≡ look_from true w r (opening newest r.start)
open_on w r [] e some = absurd (some refl)
open_on w r (s ∷ older) e some = ap (look_open w r) e ∙ ap (λ l. look_from true w r (opening l r.start)) e
