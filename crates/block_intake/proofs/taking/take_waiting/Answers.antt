use Rattle.std.proofs.Common.{arith, ◌≡◌, ◌-◌, ◌+◌, suc, None, length, ap, sym, ◌∙◌}
use Rattle.relay_model.specs.Worlds.{next_waiting}
use Rattle.relay_model.specs.Offers.{take_in}
use Rattle.relay_model.proofs.public.Intakes.{stays}
use Rattle.wait_room.proofs.public.LinkedFacts.{none_next}
use Rattle.block_intake.specs.Taking.{intake_of}
use Rattle.block_intake.proofs.TakingFacts.{limits_twice, stays_twice}
use Rattle.block_intake.proofs.taking.take_waiting.Goals as goal

pub returns-then-left-eq0-clause-taken : goal.returns-then-left-eq0-clause-taken
returns-then-left-eq0-clause-taken c =
    let d = intake_of c.loop.db c.loop.room c.loop.drops in
    let n = length c.args.room.now.waiting in
    let none : next_waiting c.loop.db.history c.loop.room.waiting ≡ None = none_next c.loop.db.history c.loop.room.waiting (omega (arith, c.loop.invariant.linked, c.if-left-eq0.true)) in
    sym (stays (n - c.loop.counter) d none) ∙ c.loop.invariant.taken

pub loop-preserved : goal.loop-preserved
loop-preserved c =
    let d = intake_of c.loop.db c.loop.room c.loop.drops in
    let n = length c.args.room.now.waiting in
    let one : n - c.loop.counter ≡ suc (n - (c.loop.counter + 1)) = omega (arith, c.blocks-end.ensures.count) in
    record {
      linked = c.take_next-left.ensures.linked;
      taken = ap (take_in (n - (c.loop.counter + 1))) c.take_next-left.ensures.taken ∙ ap (λ k. take_in k d) (sym one) ∙ c.loop.invariant.taken;
      can = c.take_next-left.ensures.can;
      spare = c.take_next-left.ensures.spare;
      limits = limits_twice _ _ _ _ _ _ c.loop.invariant.limits c.take_next-left.ensures.limits;
      held = λ h. stays_twice _ _ _ _ _ (c.loop.invariant.held h) c.take_next-left.ensures.held;
    }
