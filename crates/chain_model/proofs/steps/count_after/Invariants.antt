use Rattle.std.proofs.Common.{◌≡◌, ◌++◌, Some, map, take, drop}
use Rattle.chain_model.specs.Steps.{keep_while, is_after}
use Rattle.chain_model.proofs.steps.count_after.Given as goal

abbrev pub invariant-loop-i : goal.invariant-loop-i
invariant-loop-i l =
    map (λ s. s.now) (take l.i l.path) ++ keep_while (is_after (Some l.block)) (map (λ s. s.now) (drop l.i l.path)) ≡ keep_while (is_after (Some l.block)) (map (λ s. s.now) l.path)
