use Rattle.std.proofs.Common.{◌≡◌, subst}
use Rattle.std.specs.Prelude.{IfSome}
use Rattle.block_reader.specs.Own.{without_own}
use Rattle.block_reader.proofs.OwnFacts.{removed_if}
use Rattle.block_reader.proofs.own.OwnFiles.remove_at.Goals as goal

pub returns-clause-without : goal.returns-clause-without
returns-clause-without c =
    subst (λ (l : _). IfSome c.shift_remove_index.result (λ f. c.shift_remove_index.new.self.keys ≡ without_own f.name l)) c.self.view_is
    (removed_if c.self.inside.files.keys c.shift_remove_index.new.self.keys c.args.at c.shift_remove_index.result c.len.ensures.unique c.shift_remove_index.ensures.key c.shift_remove_index.ensures.keys)
