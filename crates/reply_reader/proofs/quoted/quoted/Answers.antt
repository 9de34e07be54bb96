use Rattle.std.proofs.Common.{rules, arith, ◌+◌, ◌-◌, length, ◌∙◌}
use Rattle.reply_reader.proofs.public.QuotedFacts.{starts, at_quote, at_byte, at_bad, at_end}
use Rattle.reply_reader.proofs.quoted.quoted.Goals as goal

pub loop-init : goal.loop-init
loop-init c = rw c.new-bytes.ensures.items (starts c.args.text.now (length c.args.text.now - 0) (omega arith))

pub returns : goal.returns
returns c = c.loop.invariant ∙ at_end c.loop.bytes.items c.loop.left.now (length c.args.text.now - c.loop.counter) (omega (arith, c.loop-test.false))

pub returns-in-Some : goal.returns-in-Some
returns-in-Some c = c.loop.invariant ∙ at_quote c.loop.bytes.items c.loop.left.now c.in-Some.rest.now (length c.args.text.now - c.loop.counter) (length c.args.text.now - (c.loop.counter + 1)) (omega (arith, c.loop-test.true)) (search rules)

pub loop-preserved : goal.loop-preserved
loop-preserved c =
    c.loop.invariant ∙ at_byte c.loop.bytes.items c.loop.left.now c.push.new.self.items (c.in-Some-byte_at.byte, c.in-Some-byte_at.rest.now) (length c.args.text.now - c.loop.counter) (length c.args.text.now - (c.loop.counter + 1)) (omega (arith, c.loop-test.true)) (search rules) (search rules) (search rules)

pub returns-in_default-byte_at : goal.returns-in_default-byte_at
returns-in_default-byte_at c =
    c.loop.invariant ∙ at_bad c.loop.bytes.items c.loop.left.now (length c.args.text.now - c.loop.counter) (length c.args.text.now - (c.loop.counter + 1)) (omega (arith, c.loop-test.true)) (search rules) (search rules)
