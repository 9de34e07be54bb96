use Rattle.std.proofs.Common.{◌≡◌, ◌++◌, ◌-◌, map, reverse, take}
use Rattle.std.specs.List.{filter}
use Rattle.block_record.specs.declared.blocks.Slip.{Slip}
use Rattle.chain_model.specs.Ancestry.{has_id}
use Rattle.chain_model.specs.Steps.{block_step, answers}
use Rattle.chain_model.specs.Seen.{seen, steps_seen}
use Rattle.chain_model.proofs.steps.push_up.Given as goal

abbrev pub invariant-loop-i : goal.invariant-loop-i
invariant-loop-i l =
    let p = λ (s : Slip). answers l.wanted (has_id (seen l.finals) s.id) in
    steps_seen l.out.items ++ map (block_step l.step) (reverse (filter p (seen (take (l.count - l.i) l.path))))
    ≡ steps_seen l.fn.out.items ++ map (block_step l.step) (reverse (filter p (seen l.path)))
