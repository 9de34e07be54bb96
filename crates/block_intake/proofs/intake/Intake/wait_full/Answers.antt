use Rattle.std.proofs.Common.{◌∙◌, ap, length}
use Rattle.relay_model.specs.Worlds.{room_bytes}
use Rattle.block_intake.specs.Intakes.{TakenIn}
use Rattle.block_intake.proofs.public.IntakeFacts.{full_answer}
use Rattle.block_intake.proofs.intake.Intake.wait_full.Goals as goal

pub returns : goal.returns
returns c =
    full_answer c.args.self.now _ _ (c.blocks-2.ensures.count ∙ ap (λ (t : TakenIn). length t.room.waiting) c.self.view_is)
    (c.bytes.ensures.bytes ∙ ap (λ (t : TakenIn). room_bytes t.room.waiting) c.self.view_is)
