use Rattle.std.proofs.Common.{◌≡◌, drop}
use Rattle.chain_model.specs.Places.{place_along}
use Rattle.chain_model.specs.Seen.{steps_seen}
use Rattle.chain_model.proofs.plain.place_after_all.Given as goal

abbrev pub invariant-loop-x : goal.invariant-loop-x
invariant-loop-x l = place_along l.reached (steps_seen (drop l.x-index l.steps)) ≡ place_along l.fn.place (steps_seen l.steps)
