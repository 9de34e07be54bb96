use Rattle.std.proofs.Common.{length}
use Rattle.dbin_file.proofs.PieceFacts.{IsTaking}
use Rattle.dbin_file.proofs.reader.DbinReader.take_messages.Given as goal

abbrev pub invariant-loop-rest : goal.invariant-loop-rest
invariant-loop-rest l = IsTaking l.fn.self l.fn.piece l.fn.out.items l.out.items l.self l.rest

abbrev pub decreases-loop-rest : goal.decreases-loop-rest
decreases-loop-rest l = length l.rest
