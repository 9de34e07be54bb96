use Rattle.std.proofs.Common.{◌≡◌, map, drop}
use Rattle.chain_model.specs.Ancestry.{has_id}
use Rattle.chain_model.proofs.scans.contains_id.Given as goal

abbrev pub invariant-loop-s : goal.invariant-loop-s
invariant-loop-s l = has_id (map (λ s. s.now) (drop l.s-index l.path)) l.id ≡ has_id (map (λ s. s.now) l.path) l.id
