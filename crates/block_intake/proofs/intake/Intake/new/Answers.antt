use Rattle.block_intake.specs.Intakes.{taken_in}
use Rattle.block_intake.proofs.public.IntakeFacts.{opened_sound, opened_world}
use Rattle.block_intake.proofs.intake.Intake.new.Goals as goal

pub invariant_of-result : goal.invariant_of-result
invariant_of-result c =
    let v = taken_in c.args.first c.in_ok-db.db c.new-2.result c.new-3.result.spare in (
      opened_sound v c.args.limits (opened_world v c.args.limits c.in_ok-db.ensures.history c.in_ok-db.ensures.limit c.new-2.ensures.waiting c.new-2.ensures.most_blocks c.new-2.ensures.most_bytes),
      c.new-3.ensures.conflicts,
    )

pub returns-clause-world : goal.returns-clause-world
returns-clause-world c =
    let v = taken_in c.args.first c.in_ok-db.db c.new-2.result c.new-3.result.spare in
    opened_world v c.args.limits c.in_ok-db.ensures.history c.in_ok-db.ensures.limit c.new-2.ensures.waiting c.new-2.ensures.most_blocks c.new-2.ensures.most_bytes
