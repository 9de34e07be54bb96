use Rattle.block_intake.proofs.JudgedFacts.{tip_place}
use Rattle.block_intake.proofs.judged.tip_place.Goals as goal

pub unwrap-requires : goal.unwrap-requires
unwrap-requires c = tip_place c.args.db.now.history c.final_tip.result c.len.ensures.sound c.requires c.final_tip.ensures.tip
