use Rattle.std.proofs.Common.{◌≡◌, refl, sym, subst}
use Rattle.relay_model.specs.Offers.{judge, world_by}
use Rattle.relay_model.specs.Verdicts as verdict
use Rattle.block_intake.specs.Intakes.{TakenIn, taken_in, world_taken}
use Rattle.block_intake.proofs.public.IntakeFacts.{fits_room, lacks_room, waits_sound, waits_world}
use Rattle.block_intake.proofs.intake.Intake.let_wait.Goals as goal

pub put-requires-clause-fits : goal.put-requires-clause-fits
put-requires-clause-fits c =
    let t = c.self.inside in
    fits_room (taken_in t.first t.db t.room t.drops.spare) c.args.slip (subst (λ (v : TakenIn). judge (world_taken v) c.args.slip ≡ verdict.Waiting) (sym c.self.view_is) c.requires.waits)

pub put-requires-clause-fresh : goal.put-requires-clause-fresh
put-requires-clause-fresh c =
    let t = c.self.inside in
    lacks_room (taken_in t.first t.db t.room t.drops.spare) c.args.slip (subst (λ (v : TakenIn). judge (world_taken v) c.args.slip ≡ verdict.Waiting) (sym c.self.view_is) c.requires.waits)

pub invariant_of-self-2 : goal.invariant_of-self-2
invariant_of-self-2 c =
    let t = c.self.inside in
    let v = taken_in t.first t.db t.room t.drops.spare in
    let new = taken_in t.first t.db c.put.new.self t.drops.spare in
    let rule = subst (λ (x : TakenIn). judge (world_taken x) c.args.slip ≡ verdict.Waiting) (sym c.self.view_is) c.requires.waits in
    (waits_sound v new c.args.slip c.self.invariant.0 c.requires.block rule (waits_world v new c.args.slip _ refl refl c.in_ok-put.ensures.ok), c.self.invariant.1)

pub returns-clause-ok : goal.returns-clause-ok
returns-clause-ok c =
    let t = c.self.inside in
    let v = taken_in t.first t.db t.room t.drops.spare in
    let new = taken_in t.first t.db c.put.new.self t.drops.spare in
    subst (λ (x : TakenIn). world_taken new ≡ world_by (world_taken x) c.args.slip verdict.Waiting) c.self.view_is (waits_world v new c.args.slip _ refl refl c.in_ok-put.ensures.ok)
