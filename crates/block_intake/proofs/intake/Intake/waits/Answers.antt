use Rattle.std.proofs.Common.{is_some, ap, ◌∙◌}
use Rattle.chain_model.specs.Ancestry.{has_id}
use Rattle.block_intake.specs.Intakes.{TakenIn}
use Rattle.block_intake.proofs.public.IntakeFacts.{found_any, some_copied}
use Rattle.block_intake.proofs.intake.Intake.waits.Goals as goal

pub returns : goal.returns
returns c =
    c.is_some.ensures ∙ some_copied c.find.result ∙ ap is_some c.find.ensures ∙ found_any _ _
    ∙ ap (λ (t : TakenIn). has_id t.room.waiting c.args.id.now) c.self.view_is
