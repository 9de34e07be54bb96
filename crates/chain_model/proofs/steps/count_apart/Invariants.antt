use Rattle.std.proofs.Common.{◌≡◌, ◌++◌, not, map, take, drop}
use Rattle.block_record.specs.declared.blocks.Slip.{Slip}
use Rattle.chain_model.specs.Ancestry.{has_id}
use Rattle.chain_model.specs.Steps.{keep_while, drop_while}
use Rattle.chain_model.proofs.steps.count_apart.Given as goal

abbrev pub invariant-loop-i : goal.invariant-loop-i
invariant-loop-i l =
    let p = λ (s : Slip). not (has_id (map (λ x. x.now) l.other) s.id) in
    record {
      front : map (λ s. s.now) (take l.i l.path) ++ keep_while p (map (λ s. s.now) (drop l.i l.path)) ≡ keep_while p (map (λ s. s.now) l.path);
      rest : drop_while p (map (λ s. s.now) (drop l.i l.path)) ≡ drop_while p (map (λ s. s.now) l.path);
    }
