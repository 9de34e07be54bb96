use Rattle.std.proofs.Common.{◌≡◌, length}
use Rattle.one_block.specs.Files.{after_slash as slash_rest}
use Rattle.one_block.proofs.files.after_slash.Given as goal

abbrev pub invariant-loop-rest : goal.invariant-loop-rest
invariant-loop-rest l = slash_rest l.rest ≡ slash_rest l.fn.file

abbrev pub decreases-loop-rest : goal.decreases-loop-rest
decreases-loop-rest l = length l.rest
