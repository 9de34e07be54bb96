use Rattle.std.proofs.Common.{◌≡◌, drop}
use Rattle.chain_model.specs.Ancestry.{has_id}
use Rattle.history_tests.proofs.rooms.has_slip.Given as goal

abbrev pub invariant-loop-slip : goal.invariant-loop-slip
invariant-loop-slip l = has_id (drop l.slip-index l.slips) l.id ≡ has_id l.slips l.id
