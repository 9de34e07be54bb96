use Rattle.std.proofs.Common.{◌∙◌, ap, cond, List}
use Rattle.block_reader.specs.declared.own.OwnFile.{OwnFile}
use Rattle.block_reader.specs.Own.{own_of, without_own}
use Rattle.block_reader.proofs.OwnFacts.{noted_out}
use Rattle.block_reader.proofs.puts.put_noted.Goals as goal

pub returns-in-Err-clause-unnoted : goal.returns-in-Err-clause-unnoted
returns-in-Err-clause-unnoted g c =
    c.unnote.ensures ∙ ap (λ (l : List OwnFile). cond c.in_ok-added.added (without_own c.args.name.now l) l) c.in_ok-added.ensures.ok
    ∙ noted_out (own_of c.args.name.now c.args.block.now.num c.args.block.now.id) c.args.own.now c.in_ok-added.added c.in_ok-added.ensures.added
