use Rattle.std.proofs.Common.{sym, ◌∙◌}
use Rattle.steps_command.proofs.TellFacts.{place_admitted, text_admitted, place_kept, text_kept}
use Rattle.steps_command.proofs.following.Follower.tell_answer.Goals as goal

pub returns-then-not-is_admitted-clause-place : goal.returns-then-not-is_admitted-clause-place
returns-then-not-is_admitted-clause-place c = λ said ample is. place_kept c.args.answer.now said _ _ (sym c.is_admitted.ensures ∙ c.if-not-is_admitted.true) ample is

pub returns-then-not-is_admitted-clause-text : goal.returns-then-not-is_admitted-clause-text
returns-then-not-is_admitted-clause-text c = λ said ample is. text_kept c.args.answer.now said _ _ _ (sym c.is_admitted.ensures ∙ c.if-not-is_admitted.true) ample is

pub returns-clause-place : goal.returns-clause-place
returns-clause-place c = λ said ample is. place_admitted c.args.answer.now said _ _ _ (sym c.is_admitted.ensures ∙ c.if-not-is_admitted.false) is c.in_ok-tell_steps.ensures.place

pub returns-clause-text : goal.returns-clause-text
returns-clause-text c = λ said ample is. text_admitted c.args.answer.now said _ _ _ _ (sym c.is_admitted.ensures ∙ c.if-not-is_admitted.false) is c.in_ok-tell_steps.ensures.text
