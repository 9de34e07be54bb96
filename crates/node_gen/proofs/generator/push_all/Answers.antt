use Rattle.std.proofs.Common.{arith, ◌≡◌, ◌++◌, ap, ◌∙◌, append_assoc}
use Rattle.node_gen.specs.Generated.{lines_up_to, opening_line}
use Rattle.node_gen.proofs.public.MadeFacts.{none_made, one_more}
use Rattle.node_gen.proofs.generator.push_all.Goals as goal

pub loop-generator-init : goal.loop-generator-init
loop-generator-init c =
    none_made c.args.key c.args.forks c.args.blocks c.push_opening.new.out.items c.new-generator.result c.new-generator.ensures.num c.new-generator.ensures.forks c.new-generator.ensures.random

pub loop-generator-preserved : goal.loop-generator-preserved
loop-generator-preserved c =
    let e = c.in_ok-push_next.ensures in
    one_more c.args.key c.args.forks c.args.blocks c.push_opening.new.out.items c.loop-generator.out.items c.push_next.new.out.items c.loop-generator.generator c.push_next.new.self c.loop-generator.invariant
    (omega (arith, c.loop-generator-test.true)) e.num e.forks e.random e.lines

pub returns-clause-ok : goal.returns-clause-ok
returns-clause-ok c =
    let made = c.loop-generator.invariant in
    let all : c.loop-generator.generator.num ≡ c.args.blocks = omega (arith, made.within, c.loop-generator-test.false) in
    made.text ∙ (λ i. c.in_ok-push_opening.ensures.ok i ++ lines_up_to c.args.key c.args.forks (all i)) ∙ append_assoc c.args.out.now.items opening_line (lines_up_to c.args.key c.args.forks c.args.blocks)
