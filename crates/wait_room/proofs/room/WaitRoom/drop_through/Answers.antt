use Rattle.std.proofs.Common.{arith, length, ap, sym, ◌∙◌, ltb, subst, filter}
use Rattle.std.specs.List.{All}
use Rattle.std.proofs.lemmas.List.Elements.{All-filter}
use Rattle.block_record.specs.declared.blocks.Slip.{Slip}
use Rattle.relay_model.specs.Soundness.{IsDistinct}
use Rattle.relay_model.specs.Worlds.{room_bytes}
use Rattle.relay_model.proofs.public.Intakes.{distinct_filter}
use Rattle.wait_room.specs.declared.waiters.Waiter.{Waiter}
use Rattle.wait_room.specs.Rooms.{HasOwnSlip, children_in, room_above, slips_of, waiting_of, held_of}
use Rattle.wait_room.specs.Numbers.{numbered_in}
use Rattle.wait_room.proofs.NumberFacts.{all_stay}
use Rattle.wait_room.proofs.public.RoomFacts.{above_held, above_waiting, above_slips, bytes_filtered, length_filtered, same_room, where_kept}
use Rattle.wait_room.proofs.room.WaitRoom.drop_through.Goals as goal

pub returns-then-all_above-clause-room : goal.returns-then-all_above-clause-room
returns-then-all_above-clause-room c =
    let keys = c.self.inside.waiters.keys in
    let all = all_stay c.args.num keys (λ n there. c.all_above.ensures c.if-all_above.true n (omega (arith, there, c.self.invariant.2 n))) in
    sym c.self.view_is
    ∙ same_room _ _ _ _ _ _ (sym (ap waiting_of all) ∙ above_waiting c.args.num keys) (sym (ap held_of all) ∙ above_held c.args.num keys)
    ∙ ap (room_above c.args.num) c.self.view_is

pub drop_children-requires : goal.drop_children-requires
drop_children-requires c = λ id. c.self.invariant.6 id ∙ ap (λ l. children_in (slips_of l) id) (sym c.as_slice.ensures.keys)

pub drop_numbers-requires : goal.drop_numbers-requires
drop_numbers-requires c = λ n. c.self.invariant.2 n ∙ ap (λ l. numbered_in (slips_of l) n) (sym c.as_slice-2.ensures.keys)

pub bytes_of-self-inside-requires : goal.bytes_of-self-inside-requires
bytes_of-self-inside-requires c =
    let left = ap slips_of (c.as_slice-3.ensures.keys ∙ c.keep_above.ensures) ∙ above_slips c.args.num c.self.inside.waiters.keys in
    omega (arith, ap room_bytes left, bytes_filtered (λ s. ltb c.args.num s.num) (slips_of c.self.inside.waiters.keys), c.self.invariant.3)

pub invariant_of-self : goal.invariant_of-self
invariant_of-self c =
    let keys = c.self.inside.waiters.keys in
    let test = λ (s : Slip). ltb c.args.num s.num in
    let left = c.keep_above.ensures in
    let slips = ap slips_of left ∙ above_slips c.args.num keys in
    let bytes = c.bytes_of-self-inside.ensures ∙ ap (λ l. room_bytes (slips_of l)) c.as_slice-3.ensures.keys in (
      subst IsDistinct (sym slips) (distinct_filter test (slips_of keys) c.self.invariant.0),
      subst (All HasOwnSlip) (sym left) (All-filter (λ w. ltb c.args.num w.slip.num) HasOwnSlip keys c.self.invariant.1),
      λ n. c.drop_numbers.ensures n ∙ ap (λ l. numbered_in (filter test (slips_of l)) n) c.as_slice-2.ensures.keys ∙ ap (λ l. numbered_in l n) (sym slips),
      bytes,
      omega (arith, bytes, ap room_bytes slips, bytes_filtered test (slips_of keys), c.self.invariant.3, c.self.invariant.4),
      omega (arith, ap length left, length_filtered (λ (w : Waiter). ltb c.args.num w.slip.num) keys, c.self.invariant.5),
      λ id. c.drop_children.ensures id ∙ ap (λ l. children_in (filter test (slips_of l)) id) c.as_slice.ensures.keys ∙ ap (λ l. children_in l id) (sym slips),
    )

pub returns-clause-room : goal.returns-clause-room
returns-clause-room c =
    let keys = c.self.inside.waiters.keys in
    let left = c.keep_above.ensures in
    same_room _ _ _ _ _ _ (ap waiting_of left ∙ above_waiting c.args.num keys) (ap held_of left ∙ above_held c.args.num keys)
    ∙ ap (room_above c.args.num) c.self.view_is

pub returns-clause-kept : goal.returns-clause-kept
returns-clause-kept c = where_kept (λ (s : Slip). ltb c.args.num s.num) c.args.self.now _ (returns-clause-room c)
