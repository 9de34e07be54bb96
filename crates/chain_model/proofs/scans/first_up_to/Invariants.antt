use Rattle.std.proofs.Common.{◌≡◌, map, drop, nat_le, find}
use Rattle.chain_model.proofs.scans.first_up_to.Given as goal

abbrev pub invariant-loop-s : goal.invariant-loop-s
invariant-loop-s l = find (λ x. nat_le x.num l.limit) (map (λ s. s.now) (drop l.s-index l.path)) ≡ find (λ x. nat_le x.num l.limit) (map (λ s. s.now) l.path)
