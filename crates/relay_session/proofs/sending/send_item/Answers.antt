use Rattle.std.proofs.Common.{subst}
use Rattle.std.specs.Arc.{arc_value}
use Rattle.join_source.specs.Answers.{GivesNext}
use Rattle.reply_text.specs.Replies.{reply_text}
use Rattle.session_model.specs.Progress.{step_replies}
use Rattle.relay_session.proofs.NextFacts.{first_given, none_given}
use Rattle.relay_session.proofs.sending.send_item.Goals as goal

pub returns-in_default-clause-gave : goal.returns-in_default-clause-gave
returns-in_default-clause-gave g c = λ newest next.
    let none = subst (GivesNext c.args.joined.now c.next.new.self) c.in_default.is c.in_ok-step.ensures.given in
    none_given newest c.args.session.now c.args.joined.now c.next.new.self c.args.out.now.items none.0 none.1 next

pub returns-clause-gave : goal.returns-clause-gave
returns-clause-gave g c = λ newest next.
    let s = c.args.session.now in
    let x = c.in-Some.step in
    let given = c.in_ok-give_step.ensures in
    let first = subst (GivesNext c.args.joined.now c.next.new.self) c.in-Some.is c.in_ok-step.ensures.given in
    first_given newest s c.give_step.new.self c.args.joined.now c.next.new.self x c.args.out.now.items c.give_step.new.out.items next first given.progress given.batch given.lines
    (λ b sends type text sent is. given.told newest type text (reply_text (step_replies s.progress.run_number b x.step (arc_value x.block) x.place)) sent is (given.lines b sends))
