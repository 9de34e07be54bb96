use Rattle.std.proofs.Common.{arith, ◌≡◌, ap, sym, ◌∙◌, false, subst, length}
use Rattle.std.specs.Arc.{arc_value}
use Rattle.std.specs.Option.{option_map}
use Rattle.std.proofs.lemmas.List.{length-map, length-reverse}
use Rattle.chain_model.specs.Ancestry.{has_id}
use Rattle.relay_model.specs.Worlds.{room_bytes}
use Rattle.wait_room.specs.declared.waiters.Waiter.{Waiter}
use Rattle.wait_room.specs.Rooms.{Room, slips_of, with_block}
use Rattle.indexmap.specs.IndexSet.{insert_key}
use Rattle.wait_room.specs.Keys.{same_key}
use Rattle.block_record.specs.Ids.{same_id}
use Rattle.wait_room.specs.Numbers.{same_num}
use Rattle.wait_room.proofs.CountFacts.{put_one}
use Rattle.wait_room.proofs.public.RoomFacts.{bytes_turned, length_filtered, fits_parts, put_in, same_room}
use Rattle.wait_room.proofs.room.WaitRoom.put.Goals as goal

pub overflow_add-bytes : goal.overflow_add-bytes
overflow_add-bytes c =
    let fits = fits_parts c.args.self.now c.args.slip.length c.requires.fits in
    let bytes = c.self.invariant.3 ∙ sym (bytes_turned _) ∙ ap (λ (v : Room). room_bytes v.waiting) c.self.view_is in
    let most = ap (λ (v : Room). v.most_bytes) c.self.view_is in
    omega (arith, fits.1, bytes, most)

pub count_slip-requires-clause-child : goal.count_slip-requires-clause-child
count_slip-requires-clause-child c =
    let keys = c.self.inside.waiters.keys in
    let fits = fits_parts c.args.self.now c.args.slip.length c.requires.fits in
    let count = ap (λ (v : Room). v.most_blocks) c.self.view_is in
    let len = ap (λ (v : Room). length v.waiting) c.self.view_is in
    omega (arith, fits.0, len, count, length-reverse (slips_of keys), length-map keys (λ (x : Waiter). x.slip), c.self.invariant.6 c.args.slip.parent_id, length_filtered (λ s. same_id s.parent_id c.args.slip.parent_id) (slips_of keys))

pub count_slip-requires-clause-number : goal.count_slip-requires-clause-number
count_slip-requires-clause-number c =
    let keys = c.self.inside.waiters.keys in
    let fits = fits_parts c.args.self.now c.args.slip.length c.requires.fits in
    let count = ap (λ (v : Room). v.most_blocks) c.self.view_is in
    let len = ap (λ (v : Room). length v.waiting) c.self.view_is in
    omega (arith, fits.0, len, count, length-reverse (slips_of keys), length-map keys (λ (x : Waiter). x.slip), c.self.invariant.2 c.args.slip.num, length_filtered (λ s. same_num s.num c.args.slip.num) (slips_of keys))

pub invariant_of-self-2 : goal.invariant_of-self-2
invariant_of-self-2 c =
    let fits = fits_parts c.args.self.now c.args.slip.length c.requires.fits in
    let bytes = c.self.invariant.3 ∙ sym (bytes_turned _) ∙ ap (λ (v : Room). room_bytes v.waiting) c.self.view_is in
    let most = ap (λ (v : Room). v.most_bytes) c.self.view_is in
    let count = ap (λ (v : Room). v.most_blocks) c.self.view_is in
    let len = ap (λ (v : Room). length v.waiting) c.self.view_is in
    let w : Waiter = record { slip = c.args.slip; block = c.args.block } in
    let fresh = subst (λ (v : Room). has_id v.waiting c.args.slip.id ≡ false) (sym c.self.view_is) c.requires.fresh in
    let is = put_in _ _ w (c.push_reserved.ensures ∙ ap (λ l. insert_key same_key l w) c.reserve.ensures.keys) fresh c.self.invariant.0 c.self.invariant.1 c.requires.own in (
      is.distinct,
      is.own,
      λ n. omega (arith, c.in_ok-count_slip.ensures.numbers n, c.self.invariant.2 n, put_one (λ s. same_num s.num n) c.self.inside.waiters.keys _ w (c.push_reserved.ensures ∙ ap (λ l. insert_key same_key l w) c.reserve.ensures.keys) fresh),
      omega (arith, is.bytes, c.from.ensures, c.self.invariant.3),
      omega (arith, fits.1, bytes, most, c.from.ensures),
      omega (arith, fits.0, is.len, len, count, length-reverse (slips_of c.self.inside.waiters.keys), length-map c.self.inside.waiters.keys (λ (x : Waiter). x.slip)),
      λ id. omega (arith, c.in_ok-count_slip.ensures.children id, c.self.invariant.6 id, put_one (λ s. same_id s.parent_id id) c.self.inside.waiters.keys _ w (c.push_reserved.ensures ∙ ap (λ l. insert_key same_key l w) c.reserve.ensures.keys) fresh),
    )

pub returns-clause-ok : goal.returns-clause-ok
returns-clause-ok c =
    let w : Waiter = record { slip = c.args.slip; block = c.args.block } in
    let fresh = subst (λ (v : Room). has_id v.waiting c.args.slip.id ≡ false) (sym c.self.view_is) c.requires.fresh in
    let is = put_in _ _ w (c.push_reserved.ensures ∙ ap (λ l. insert_key same_key l w) c.reserve.ensures.keys) fresh c.self.invariant.0 c.self.invariant.1 c.requires.own in
    same_room _ _ _ _ _ _ is.waiting is.held ∙ ap (λ (v : Room). with_block v c.args.slip (option_map arc_value c.args.block)) c.self.view_is
