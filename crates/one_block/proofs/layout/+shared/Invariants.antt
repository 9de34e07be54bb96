use Rattle.std.proofs.Common.{length}
use Rattle.one_block.proofs.layout.+shared.Given as goal

abbrev pub decreases-shared : goal.decreases-shared
decreases-shared l = length l.text.now
