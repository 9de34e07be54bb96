use Rattle.std.proofs.Common.{arith, ◌≡◌, ◌<◌, ◌≤◌, ◌+◌, ◌∷◌, Some, false, length, not, subst, ap, sym, ◌∙◌}
use Rattle.std.proofs.lemmas.List.{length-append}
use Rattle.block_record.specs.Ids.{same_id}
use Rattle.block_record.specs.declared.blocks.Slip.{Slip}
use Rattle.std.specs.Option.{option_map}
use Rattle.chain_model.specs.Ancestry.{has_id}
use Rattle.wait_room.specs.Rooms.{Room, linked_in, room_without}
use Rattle.wait_room.proofs.public.RoomFacts.{length_filtered}
use Rattle.relay_model.specs.Worlds.{next_waiting, without}
use Rattle.relay_model.specs.Offers.{Intake, clash, take_one}
use Rattle.relay_model.proofs.public.Intakes.{next_is}
use Rattle.block_intake.specs.Taking.{CanTake, intake_of}
use Rattle.block_intake.proofs.CountFacts.{next_counts}
use Rattle.block_intake.proofs.TakingFacts.{next_can, placed, without_blocks, without_bytes}
use Rattle.block_intake.proofs.taking.take_next.Goals as goal

pub place-requires-clause-fresh : goal.place-requires-clause-fresh
place-requires-clause-fresh c =
    let h = c.args.db.now.history in
    let x = c.in-Some.slip in
    let next : next_waiting h c.args.room.now.waiting ≡ Some x = sym c.take_linked.ensures.next ∙ ap (option_map (λ p. p.0)) c.in-Some.is in
    (next_is h c.args.room.now.waiting x next).has (λ z. has_id h z.id ≡ false) c.requires.can.taking.apart

pub place-requires-clause-parent : goal.place-requires-clause-parent
place-requires-clause-parent c =
    let h = c.args.db.now.history in
    let x = c.in-Some.slip in
    let next : next_waiting h c.args.room.now.waiting ≡ Some x = sym c.take_linked.ensures.next ∙ ap (option_map (λ p. p.0)) c.in-Some.is in
    (next_is h c.args.room.now.waiting x next).parent

pub place-requires-clause-rises : goal.place-requires-clause-rises
place-requires-clause-rises c =
    let h = c.args.db.now.history in
    let x = c.in-Some.slip in
    let next : next_waiting h c.args.room.now.waiting ≡ Some x = sym c.take_linked.ensures.next ∙ ap (option_map (λ p. p.0)) c.in-Some.is in
    (next_is h c.args.room.now.waiting x next).has (λ z. z.parent_num < z.num) c.requires.can.taking.rises

pub place-requires-clause-room : goal.place-requires-clause-room
place-requires-clause-room c =
    let h = c.args.db.now.history in
    let x = c.in-Some.slip in
    let can = c.requires.can in
    let next : next_waiting h c.args.room.now.waiting ≡ Some x = sym c.take_linked.ensures.next ∙ ap (option_map (λ p. p.0)) c.in-Some.is in
    let k = next_counts can.world can.first _ can.counted x (next_is h c.args.room.now.waiting x next) in
    omega (arith, k.fewer, can.enough)

pub place-requires-clause-spare : goal.place-requires-clause-spare
place-requires-clause-spare c =
    let h = c.args.db.now.history in
    let x = c.in-Some.slip in
    let can = c.requires.spare in
    let next : next_waiting h c.args.room.now.waiting ≡ Some x = sym c.take_linked.ensures.next ∙ ap (option_map (λ p. p.0)) c.in-Some.is in
    let k = next_counts can.world can.first _ can.counted x (next_is h c.args.room.now.waiting x next) in
    omega (arith, k.fewer, can.enough)

pub returns-in-Some-clause-can : goal.returns-in-Some-clause-can
returns-in-Some-clause-can c =
    let h = c.args.db.now.history in
    let x = c.in-Some.slip in
    let d = intake_of c.args.db.now c.args.room.now c.args.drops.now in
    let next : next_waiting h c.args.room.now.waiting ≡ Some x = sym c.take_linked.ensures.next ∙ ap (option_map (λ p. p.0)) c.in-Some.is in
    let left : c.take_linked.new.self.waiting ≡ without x c.args.room.now.waiting = ap (λ (r : Room). r.waiting) (c.take_linked.ensures.room ∙ ap (room_without c.args.room.now) next) in
    let after : intake_of c.place.new.db c.take_linked.new.self c.place.new.drops ≡ take_one d (Some x) = placed d x (clash h x) _ _ _ c.place.ensures.history left c.place.ensures.dropped in
    subst (λ (e : Intake). CanTake e c.place.new.db.room) (sym after) (next_can d x c.args.db.now.room c.place.new.db.room c.requires.can next c.place.ensures.room)

pub returns-in-Some-clause-spare : goal.returns-in-Some-clause-spare
returns-in-Some-clause-spare c =
    let h = c.args.db.now.history in
    let x = c.in-Some.slip in
    let d = intake_of c.args.db.now c.args.room.now c.args.drops.now in
    let next : next_waiting h c.args.room.now.waiting ≡ Some x = sym c.take_linked.ensures.next ∙ ap (option_map (λ p. p.0)) c.in-Some.is in
    let left : c.take_linked.new.self.waiting ≡ without x c.args.room.now.waiting = ap (λ (r : Room). r.waiting) (c.take_linked.ensures.room ∙ ap (room_without c.args.room.now) next) in
    let after : intake_of c.place.new.db c.take_linked.new.self c.place.new.drops ≡ take_one d (Some x) = placed d x (clash h x) _ _ _ c.place.ensures.history left c.place.ensures.dropped in
    subst (λ (e : Intake). CanTake e c.place.new.drops.spare) (sym after) (next_can d x c.args.drops.now.spare c.place.new.drops.spare c.requires.spare next c.place.ensures.spare)

pub returns-in-Some-clause-limits : goal.returns-in-Some-clause-limits
returns-in-Some-clause-limits c =
    let o = next_waiting c.args.db.now.history c.args.room.now.waiting in
    record {
      history = c.place.ensures.limit;
      blocks = ap (λ (r : Room). r.most_blocks) c.take_linked.ensures.room ∙ without_blocks c.args.room.now o;
      bytes = ap (λ (r : Room). r.most_bytes) c.take_linked.ensures.room ∙ without_bytes c.args.room.now o;
    }

pub newest_id-requires : goal.newest_id-requires
newest_id-requires c =
    let k = c.requires.can.counted in
    omega (arith, ap length k.history, length-append k.more (c.requires.can.first ∷ c.requires.can.world.history))

pub overflow_add-result : goal.overflow_add-result
overflow_add-result c =
    let most = length_filtered (λ (s : Slip). has_id c.place.new.db.history s.parent_id) c.take_linked.new.self.waiting in
    let fewer : length c.take_linked.new.self.waiting ≤ length c.args.room.now.waiting =
    let h = c.args.db.now.history in
    let x = c.in-Some.slip in
    let next : next_waiting h c.args.room.now.waiting ≡ Some x = sym c.take_linked.ensures.next ∙ ap (option_map (λ p. p.0)) c.in-Some.is in
    let left : c.take_linked.new.self.waiting ≡ without x c.args.room.now.waiting = ap (λ (r : Room). r.waiting) (c.take_linked.ensures.room ∙ ap (room_without c.args.room.now) next) in
    rw left (length_filtered (λ (t : Slip). not (same_id t.id x.id)) c.args.room.now.waiting) in
    let one : c.args.linked ≡ linked_in c.args.db.now.history c.take_linked.new.self.waiting + 1 = rw c.in-Some.is at c.take_linked.ensures.left in
    omega (arith, most, fewer, one, c.place.ensures.linked)
