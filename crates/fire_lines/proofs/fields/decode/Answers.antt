use Rattle.std.proofs.Common.{arith}
use Rattle.fire_lines.proofs.PayloadFacts.{payload_of-long}
use Rattle.fire_lines.proofs.fields.decode.Goals as goal

pub returns-then-text-gt-PAYLOAD_TEXT_BYTES_MAX-clause-value :
    goal.returns-then-text-gt-PAYLOAD_TEXT_BYTES_MAX-clause-value
returns-then-text-gt-PAYLOAD_TEXT_BYTES_MAX-clause-value c =
    payload_of-long c.args.text.now (λ i. let f = c.type_inv.text i in omega arith) (omega arith)
