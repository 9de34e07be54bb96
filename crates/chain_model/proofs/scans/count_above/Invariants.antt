use Rattle.std.proofs.Common.{◌≡◌, map, drop, nat_lt}
use Rattle.chain_model.specs.Steps.{drop_while}
use Rattle.chain_model.proofs.scans.count_above.Given as goal

abbrev pub invariant-loop-i : goal.invariant-loop-i
invariant-loop-i l = drop_while (λ s. nat_lt l.stop s.num) (map (λ s. s.now) (drop l.i l.path)) ≡ drop_while (λ s. nat_lt l.stop s.num) (map (λ s. s.now) l.path)
