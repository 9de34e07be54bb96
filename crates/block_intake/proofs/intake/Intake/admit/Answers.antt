use Rattle.std.proofs.Common.{arith, ◌≡◌, ◌-◌, ◌+◌, length, refl, ap, sym, subst}
use Rattle.std.proofs.lemmas.List.{length-append, length-reverse}
use Rattle.relay_model.specs.Worlds.{descendants}
use Rattle.relay_model.specs.Offers.{Admitted, answer_by, judge, world_by}
use Rattle.relay_model.specs.Verdicts as verdict
use Rattle.block_intake.specs.Intakes.{TakenIn, taken_in, unnoted, world_taken}
use Rattle.block_intake.proofs.public.IntakeFacts.{admitted_sound, admitted_world, brings, brings_most, brings_some, own_parts, said_after}
use Rattle.block_intake.proofs.intake.Intake.admit.Goals as goal

pub admit_with_followers-requires-clause-can : goal.admit_with_followers-requires-clause-can
admit_with_followers-requires-clause-can c =
    let t = c.self.inside in
    let v = taken_in t.first t.db t.room t.drops.spare in
    record {
      world = world_taken v;
      parts = own_parts v;
      sound = c.self.invariant.0;
      block = c.requires.block;
      takes = subst (λ (x : TakenIn). judge (world_taken x) c.args.slip ≡ verdict.Admitted) (sym c.self.view_is) c.requires.takes;
    }

pub overflow_sub-count : goal.overflow_sub-count
overflow_sub-count c =
    let t = c.self.inside in
    let v = taken_in t.first t.db t.room t.drops.spare in
    let b = brings v c.args.slip in
    omega (arith, c.len-from.ensures.len, c.len.ensures.len, ap length c.admit_with_followers.ensures.history, ap length b.1, length-append b.0 t.db.history)

pub invariant_of-self : goal.invariant_of-self
invariant_of-self c =
    let t = c.self.inside in
    let v = taken_in t.first t.db t.room t.drops.spare in
    let rule = subst (λ (x : TakenIn). judge (world_taken x) c.args.slip ≡ verdict.Admitted) (sym c.self.view_is) c.requires.takes in
    let a = c.admit_with_followers.ensures in
    let new = taken_in t.first c.admit_with_followers.new.db c.admit_with_followers.new.room c.finish.new.self.spare in
    (admitted_sound v new c.args.slip c.self.invariant.0 c.requires.block rule (admitted_world v new c.args.slip refl a.history a.waiting a.limits), c.finish.ensures.conflicts)

pub returns-clause-said : goal.returns-clause-said
returns-clause-said c =
    let t = c.self.inside in
    let v = taken_in t.first t.db t.room t.drops.spare in
    let b = brings v c.args.slip in
    let n = c.len.result - c.len-from.result in
    let len : length c.admit_with_followers.new.db.history ≡ n + length t.db.history =
    omega (arith, c.len-from.ensures.len, c.len.ensures.len, ap length c.admit_with_followers.ensures.history, ap length b.1, length-append b.0 t.db.history) in
    subst (λ (x : TakenIn). answer_by (world_taken x) c.args.slip verdict.Admitted ≡ Admitted c.len-from.result n c.finish.result.items) c.self.view_is
    (said_after (world_taken v) t.db.history t.room.waiting c.args.slip c.len-from.result n c.admit_with_followers.new.db.history c.finish.result.items _ refl refl c.admit_with_followers.ensures.history
    c.len-from.ensures.len len c.finish.ensures.told c.admit_with_followers.ensures.dropped)

pub returns-clause-world : goal.returns-clause-world
returns-clause-world c =
    let t = c.self.inside in
    let v = taken_in t.first t.db t.room t.drops.spare in
    let a = c.admit_with_followers.ensures in
    let new = taken_in t.first c.admit_with_followers.new.db c.admit_with_followers.new.room c.finish.new.self.spare in
    subst (λ (x : TakenIn). world_taken new ≡ unnoted (world_by (world_taken x) c.args.slip verdict.Admitted)) c.self.view_is (admitted_world v new c.args.slip refl a.history a.waiting a.limits)

pub returns-clause-most : goal.returns-clause-most
returns-clause-most c =
    let t = c.self.inside in
    let v = taken_in t.first t.db t.room t.drops.spare in
    let b = brings v c.args.slip in
    let most = brings_most v c.args.slip c.self.invariant.0 in
    let same : descendants t.room.waiting c.args.slip.id ≡ descendants c.args.self.now.room.waiting c.args.slip.id = ap (λ (x : TakenIn). descendants x.room.waiting c.args.slip.id) c.self.view_is in
    omega (arith, most, same, c.len-from.ensures.len, c.len.ensures.len, ap length c.admit_with_followers.ensures.history, ap length b.1, length-append b.0 t.db.history, ap length c.admit_with_followers.ensures.dropped, ap length c.finish.ensures.told, length-reverse c.finish.result.items)

pub returns-clause-some : goal.returns-clause-some
returns-clause-some c =
    let t = c.self.inside in
    let some = brings_some (taken_in t.first t.db t.room t.drops.spare) c.args.slip in
    omega (arith, some, c.len-from.ensures.len, c.len.ensures.len, ap length c.admit_with_followers.ensures.history)
