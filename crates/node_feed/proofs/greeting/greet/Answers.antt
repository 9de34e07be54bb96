use Rattle.std.proofs.Common.{◌∙◌, Err, ap}
use Rattle.node_feed.proofs.GrowFacts.{greeted_grown}
use Rattle.node_feed.proofs.KindFacts.{greeted_badly, greeted_kept, greeted_well}
use Rattle.node_feed.proofs.greeting.greet.Goals as goal

pub returns-in-Ok-clause-answer : goal.returns-in-Ok-clause-answer
returns-in-Ok-clause-answer c =
    greeted_well c.args.name.now c.args.kind.now c.args.relay.now c.hello.new.self c.args.out.now.items c.in-Ok.ensures.ok.0 c.in-Ok.ensures.ok.1 c.hello.ensures.conflicts

pub returns-in-Ok-clause-grows : goal.returns-in-Ok-clause-grows
returns-in-Ok-clause-grows c = greeted_grown c.args.kind.now c.args.relay.now c.hello.new.self c.in-Ok.ensures.ok.1

pub returns-in-Ok-clause-kept : goal.returns-in-Ok-clause-kept
returns-in-Ok-clause-kept c = greeted_kept c.args.kind.now c.args.relay.now c.hello.new.self c.in-Ok.ensures.ok.1

pub returns-in_ok-push_kind_fault-in-Err-KindClash-clause-answer : goal.returns-in_ok-push_kind_fault-in-Err-KindClash-clause-answer
returns-in_ok-push_kind_fault-in-Err-KindClash-clause-answer c =
    let clash = c.hello.ensures.clash c.in-Err-KindClash.held c.in-Err-KindClash.offered (c.in-Err-KindClash.is ∙ ap Err c.in-Err-KindClash.field-0-is) in
    greeted_badly c.args.name.now c.as_bytes.result.now c.args.kind.now c.args.relay.now c.hello.new.self c.args.out.now.items c.push_kind_fault.new.out.items c.in-Err-KindClash.held c.in-Err-KindClash.offered
    clash.0 clash.1 clash.2 c.in-Err-KindClash.ensures.err c.hello.ensures.conflicts c.as_bytes.ensures.text c.in_ok-push_kind_fault-in-Err-KindClash.ensures.ok
