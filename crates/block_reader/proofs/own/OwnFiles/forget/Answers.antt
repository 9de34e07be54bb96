use Rattle.std.proofs.Common.{◌∙◌, ap}
use Rattle.block_reader.specs.Own.{without_own}
use Rattle.block_reader.proofs.OwnFacts.{one_removed}
use Rattle.block_reader.proofs.own.OwnFiles.forget.Goals as goal

pub returns : goal.returns
returns c = c.shift_remove.ensures.keys ∙ one_removed c.args.name.now c.self.inside.files.keys c.len.ensures.unique ∙ ap (without_own c.args.name.now) c.self.view_is
