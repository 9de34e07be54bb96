use Rattle.std.proofs.Common.{◌≡◌, map, take}
use Rattle.chain_model.specs.Steps.{plain_of}
use Rattle.chain_model.specs.Seen.{steps_seen}
use Rattle.chain_model.proofs.plain.told_steps.Given as goal

abbrev pub invariant-loop-x : goal.invariant-loop-x
invariant-loop-x l = l.told.items ≡ map plain_of (steps_seen (take l.x-index l.steps))
