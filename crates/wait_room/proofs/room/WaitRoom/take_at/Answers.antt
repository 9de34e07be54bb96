use Rattle.std.proofs.Common.{arith, ◌≡◌, Some, ◌+◌, ap, sym, ◌∙◌, subst, cond, filter, length}
use Rattle.std.specs.List.{All, remove, slice_get}
use Rattle.std.specs.Option.{option_map}
use Rattle.block_tree.specs.Places.{slip_at}
use Rattle.relay_model.specs.Soundness.{IsDistinct}
use Rattle.relay_model.specs.Worlds.{room_bytes}
use Rattle.wait_room.specs.declared.waiters.Waiter.{Waiter}
use Rattle.wait_room.specs.Rooms.{HasOwnSlip, Room, children_in, find_block, held_of, room_without, slips_of, waiting_of}
use Rattle.block_record.specs.Ids.{same_id, same_id_refl}
use Rattle.wait_room.specs.Numbers.{numbered_in, same_num}
use Rattle.wait_room.proofs.NumberFacts.{same_num-self}
use Rattle.wait_room.proofs.CountFacts.{count_turned, one_there, removed_one}
use Rattle.wait_room.proofs.public.RoomFacts.{all_removed, removed_bytes, taken_out, same_room}
use Rattle.wait_room.proofs.ScanFacts.{slip_at_slices}
use Rattle.wait_room.proofs.room.WaitRoom.take_at.Goals as goal

pub overflow_sub-self : goal.overflow_sub-self
overflow_sub-self c =
    let w = c.unwrap-slip.result in
    let at : slice_get c.self.inside.waiters.keys c.args.at ≡ Some w = sym c.shift_remove_index.ensures.key ∙ c.unwrap-slip.ensures in
    omega (arith, removed_bytes c.self.inside.waiters.keys c.args.at w at, c.self.invariant.3, c.from.ensures)

pub remove_child-requires : goal.remove_child-requires
remove_child-requires c =
    let keys = c.self.inside.waiters.keys in
    let w = c.unwrap-slip.result in
    let at : slice_get keys c.args.at ≡ Some w = sym c.shift_remove_index.ensures.key ∙ c.unwrap-slip.ensures in
    omega (arith, one_there (λ s. same_id s.parent_id w.slip.parent_id) keys c.args.at w at (same_id_refl w.slip.parent_id), c.self.invariant.6 w.slip.parent_id)

pub remove_number-requires : goal.remove_number-requires
remove_number-requires c =
    let keys = c.self.inside.waiters.keys in
    let w = c.unwrap-slip.result in
    let at : slice_get keys c.args.at ≡ Some w = sym c.shift_remove_index.ensures.key ∙ c.unwrap-slip.ensures in
    omega (arith, one_there (λ s. same_num s.num w.slip.num) keys c.args.at w at (same_num-self w.slip.num), c.self.invariant.2 w.slip.num)

pub invariant_of-self : goal.invariant_of-self
invariant_of-self c =
    let keys = c.self.inside.waiters.keys in
    let w = c.unwrap-slip.result in
    let at : slice_get keys c.args.at ≡ Some w = sym c.shift_remove_index.ensures.key ∙ c.unwrap-slip.ensures in
    let left = c.shift_remove_index.ensures.keys in
    let is = taken_out keys c.args.at w at c.self.invariant.0 c.self.invariant.1 in
    let bytes = removed_bytes keys c.args.at w at in (
      subst (λ (l : _). IsDistinct (slips_of l)) (sym left) is.distinct,
      subst (All HasOwnSlip) (sym left) (all_removed HasOwnSlip keys c.args.at w at c.self.invariant.0 c.self.invariant.1),
      λ n. omega (arith, removed_one (λ s. same_num s.num n) keys c.args.at w at, ap (λ l. numbered_in (slips_of l) n) left, c.remove_number.ensures n, c.self.invariant.2 n),
      omega (arith, bytes, ap (λ l. room_bytes (slips_of l)) left, c.self.invariant.3, c.from.ensures),
      omega (arith, c.self.invariant.4),
      omega (arith, c.shift_remove_index.ensures.len, c.self.invariant.5),
      λ id. omega (arith, removed_one (λ s. same_id s.parent_id id) keys c.args.at w at, ap (λ l. children_in (slips_of l) id) left, c.remove_child.ensures id, c.self.invariant.6 id),
    )

pub returns-clause-slip : goal.returns-clause-slip
returns-clause-slip c =
    let at = sym c.shift_remove_index.ensures.key ∙ c.unwrap-slip.ensures in
    ap (λ (v : Room). slip_at v.waiting c.args.at) (sym c.self.view_is) ∙ slip_at_slices c.self.inside.waiters.keys c.args.at ∙ ap (option_map (λ (w : Waiter). w.slip)) at

pub returns-clause-own : goal.returns-clause-own
returns-clause-own c =
    let at = sym c.shift_remove_index.ensures.key ∙ c.unwrap-slip.ensures in
    (taken_out _ _ _ at c.self.invariant.0 c.self.invariant.1).mine

pub returns-clause-block : goal.returns-clause-block
returns-clause-block c =
    let at = sym c.shift_remove_index.ensures.key ∙ c.unwrap-slip.ensures in
    ap (λ (v : Room). find_block v c.unwrap-slip.result.slip.id) (sym c.self.view_is) ∙ (taken_out _ _ _ at c.self.invariant.0 c.self.invariant.1).block

pub returns-clause-room : goal.returns-clause-room
returns-clause-room c =
    let keys = c.self.inside.waiters.keys in
    let w = c.unwrap-slip.result in
    let at : slice_get keys c.args.at ≡ Some w = sym c.shift_remove_index.ensures.key ∙ c.unwrap-slip.ensures in
    let is = taken_out keys c.args.at w at c.self.invariant.0 c.self.invariant.1 in
    let left = c.shift_remove_index.ensures.keys in
    same_room _ _ _ _ _ _ (ap waiting_of left ∙ is.waiting) (ap held_of left ∙ is.held) ∙ ap (λ (v : Room). room_without v (Some w.slip)) c.self.view_is

pub returns-clause-counts : goal.returns-clause-counts
returns-clause-counts c = λ p.
    let keys = c.self.inside.waiters.keys in
    let w = c.unwrap-slip.result in
    let at : slice_get keys c.args.at ≡ Some w = sym c.shift_remove_index.ensures.key ∙ c.unwrap-slip.ensures in
    ap (λ (v : Room). length (filter p v.waiting)) (sym c.self.view_is) ∙ count_turned p (slips_of keys) ∙ removed_one p keys c.args.at w at
    ∙ ap (λ n. n + cond (p w.slip) 1 0) (sym (count_turned p (slips_of (remove keys c.args.at))) ∙ ap (λ l. length (filter p (waiting_of l))) (sym c.shift_remove_index.ensures.keys))
