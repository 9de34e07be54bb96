-- Scans of the waiting blocks, one block further.
use Rattle.std.proofs.Common.{◌≡◌, ◌<◌, ◌+◌, ℕ, Bool, true, false, cond, Option, Some, List, length, take, drop, get_or, refl, sym, ◌∙◌, ap}
use Rattle.std.specs.List.{slice_get}
use Rattle.std.specs.Option.{option_map}
use Rattle.std.proofs.lemmas.List.{reverse-reverse, drop_more}
use Rattle.std.proofs.lemmas.Option.{slice_get-get_or, slice_get-map, slice_get_read}
use Rattle.block_record.specs.declared.blocks.Slip.{Slip}
use Rattle.block_tree.specs.Places.{slip_at, slip_of}
use Rattle.block_tree.proofs.public.PlaceFacts.{slip_at-reverse}
use Rattle.chain_model.specs.Ancestry.{has_id}
use Rattle.relay_model.specs.Worlds.{lesser, next_waiting, room_bytes}
use Rattle.wait_room.specs.declared.waiters.Waiter.{Waiter}
use Rattle.wait_room.specs.Rooms.{slips_of, waiting_of}
use Rattle.wait_room.proofs.TurnedFacts.{turned_more}

pub slip_at_slices : (ws : List Waiter) (i : ℕ) → slip_at (waiting_of ws) i ≡ option_map (λ (w : Waiter). w.slip) (slice_get ws i)
slip_at_slices ws i =
    slip_at-reverse (waiting_of ws) i ∙ ap (λ l. slice_get l i) (reverse-reverse (slips_of ws)) ∙ slice_get-map (λ (w : Waiter). w.slip) ws i

-- the block at an index is the one at that place
pub slip_at_read : (ws : List Waiter) (i : ℕ) (w : Waiter) → i < length ws → w ≡ get_or ws i w → slip_at (waiting_of ws) i ≡ Some w.slip
slip_at_read ws i w lt e = slip_at_slices ws i ∙ ap (option_map (λ (w : Waiter). w.slip)) (slice_get_read ws (length ws) i w refl lt e)

pub slip_at_got : (ws : List Waiter) (i : ℕ) (d : Waiter) → i < length ws → slip_at (waiting_of ws) i ≡ Some (get_or ws i d).slip
slip_at_got ws i d lt = slip_at_slices ws i ∙ ap (option_map (λ (w : Waiter). w.slip)) (slice_get-get_or ws i d lt)

next_more : (known : List Slip) (ws : List Waiter) (i : ℕ) (w : Waiter) (b : Bool) → i < length ws → w ≡ get_or ws i w → has_id known w.slip.parent_id ≡ b
    → next_waiting known (waiting_of (take (i + 1) ws)) ≡ cond b (lesser (next_waiting known (waiting_of (take i ws))) w.slip) (next_waiting known (waiting_of (take i ws)))
next_more known ws i w true lt e h = ap (next_waiting known) (turned_more (λ (w : Waiter). w.slip) ws i w lt e) ∙ rw h refl
next_more known ws i w false lt e h = ap (next_waiting known) (turned_more (λ (w : Waiter). w.slip) ws i w lt e) ∙ rw h refl

-- a block whose parent is known may be the least so far
pub next_linked : (known : List Slip) (ws : List Waiter) (i : ℕ) (w : Waiter) (best : Option ℕ) (r : ℕ) → i < length ws → w ≡ get_or ws i w → has_id known w.slip.parent_id ≡ true
    → slip_of (waiting_of ws) best ≡ next_waiting known (waiting_of (take i ws))
    → ((s : Slip) → slip_at (waiting_of ws) i ≡ Some s → slip_at (waiting_of ws) r ≡ lesser (slip_of (waiting_of ws) best) s)
    → slip_at (waiting_of ws) r ≡ next_waiting known (waiting_of (take (i + 1) ws))
next_linked known ws i w best r lt e h inv less =
    less w.slip (slip_at_read ws i w lt e) ∙ ap (λ o. lesser o w.slip) inv ∙ sym (next_more known ws i w true lt e h)

-- another is passed over
pub next_passed : (known : List Slip) (ws : List Waiter) (i : ℕ) (w : Waiter) (best : Option ℕ) → i < length ws → w ≡ get_or ws i w → has_id known w.slip.parent_id ≡ false
    → slip_of (waiting_of ws) best ≡ next_waiting known (waiting_of (take i ws))
    → slip_of (waiting_of ws) best ≡ next_waiting known (waiting_of (take (i + 1) ws))
next_passed known ws i w best lt e h inv = inv ∙ sym (next_more known ws i w false lt e h)

pub bytes_more : (ws : List Waiter) (i : ℕ) (w : Waiter) → i < length ws → w ≡ get_or ws i w → room_bytes (slips_of (drop i ws)) ≡ w.slip.length + room_bytes (slips_of (drop (i + 1) ws))
bytes_more ws i w lt e = ap (λ l. room_bytes (slips_of l)) (drop_more ws i w lt) ∙ ap (λ (x : Waiter). x.slip.length + room_bytes (slips_of (drop (i + 1) ws))) (sym e)
