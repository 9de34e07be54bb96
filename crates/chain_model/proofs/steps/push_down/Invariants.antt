use Rattle.std.proofs.Common.{◌≡◌, ◌++◌, map, take}
use Rattle.chain_model.specs.Steps.{block_step}
use Rattle.chain_model.specs.Seen.{seen, steps_seen}
use Rattle.chain_model.proofs.steps.push_down.Given as goal

abbrev pub invariant-loop-slip : goal.invariant-loop-slip
invariant-loop-slip l = steps_seen l.out.items ≡ steps_seen l.fn.out.items ++ map (block_step l.step) (seen (take l.slip-index l.path))
