use Rattle.std.proofs.Common.{ℕ, List, Some, None, ap, ◌∙◌, arith}
use Rattle.dbin_file.specs.Reader.{ReaderState}
use Rattle.dbin_file.proofs.LawFacts.{resumed_is}
use Rattle.dbin_file.proofs.MessageFacts.{nothing_partial}
use Rattle.dbin_file.proofs.reader.DbinReader.resume.Goals as goal

pub invariant_of-result : goal.invariant_of-result
invariant_of-result c = nothing_partial _ c.new.ensures.items

pub returns-clause-state : goal.returns-clause-state
returns-clause-state c = λ messages small here.
    ap (λ (l : List ℕ). let r : ReaderState = record { block_type = Some c.args.block_type; fault = None; at = c.args.at; partial = l } in r) c.new.ensures.items
    ∙ resumed_is c.args.block_type messages c.args.at c.as_bytes-text.ensures.name small here (omega arith)
