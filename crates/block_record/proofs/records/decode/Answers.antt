use Rattle.std.proofs.Common.{arith}
use Rattle.block_record.proofs.DecodeFacts.{is_text, is_back, is_fault}
use Rattle.block_record.proofs.records.decode.Goals as goal

pub returns-clause-text : goal.returns-clause-text
returns-clause-text c = is_text c.args.bytes.now c.read_block.result (λ i. omega (arith, c.type_inv.bytes i)) c.read_block.ensures

pub returns-clause-back : goal.returns-clause-back
returns-clause-back c = λ block is same. is_back c.args.bytes.now c.read_block.result block c.read_block.ensures is same

pub returns-clause-fault : goal.returns-clause-fault
returns-clause-fault c = is_fault c.args.bytes.now c.read_block.result c.read_block.ensures
