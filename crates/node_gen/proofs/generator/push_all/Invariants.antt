use Rattle.std.proofs.Common.{◌-◌}
use Rattle.node_gen.proofs.public.MadeFacts.{IsMade}
use Rattle.node_gen.proofs.generator.push_all.Given as goal

abbrev pub invariant-loop-generator : goal.invariant-loop-generator
invariant-loop-generator l = IsMade l.key l.forks l.blocks l.initial.out.items l.out.items l.generator

abbrev pub decreases-loop-generator : goal.decreases-loop-generator
decreases-loop-generator l = l.blocks - l.generator.num
