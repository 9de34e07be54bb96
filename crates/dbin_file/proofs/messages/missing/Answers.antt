use Rattle.std.proofs.Common.{◌∙◌, sym, arith}
use Rattle.dbin_file.proofs.MessageFacts.{partial_short, length_there}
use Rattle.dbin_file.proofs.messages.missing.Goals as goal

pub overflow_sub-result-in-Some : goal.overflow_sub-result-in-Some
overflow_sub-result-in-Some c =
    let there = length_there c.args.bytes.now c.in-Some.length (sym c.in-Some.is ∙ c.message_length.ensures) in
    omega (arith, there.1, partial_short c.args.bytes.now c.requires there.0)

pub returns-in-Some-clause-some : goal.returns-in-Some-clause-some
returns-in-Some-clause-some c =
    let there = length_there c.args.bytes.now c.in-Some.length (sym c.in-Some.is ∙ c.message_length.ensures) in
    omega (arith, there.1, partial_short c.args.bytes.now c.requires there.0)
