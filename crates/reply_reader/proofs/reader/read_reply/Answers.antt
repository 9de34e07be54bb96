use Rattle.std.proofs.Common.{arith}
use Rattle.reply_reader.proofs.public.ReplyFacts.{text_said, said_back, says_nothing, printed_is_read}
use Rattle.reply_reader.proofs.reader.read_reply.Goals as goal

pub returns-clause-text : goal.returns-clause-text
returns-clause-text c = text_said c.args.line.now c.read_line.result (λ i. let f = c.type_inv.line i in omega arith) c.read_line.ensures.value c.read_line.ensures.bytes

pub returns-clause-back : goal.returns-clause-back
returns-clause-back c = said_back c.args.line.now c.read_line.result c.read_line.ensures.value

pub returns-clause-fault : goal.returns-clause-fault
returns-clause-fault c = says_nothing c.args.line.now c.read_line.result c.read_line.ensures.value

pub returns-clause-printed : goal.returns-clause-printed
returns-clause-printed c = printed_is_read c.args.line.now c.read_line.result c.read_line.ensures.value
