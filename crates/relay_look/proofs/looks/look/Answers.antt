use Rattle.std.proofs.Common.{sym, subst}
use Rattle.relay_model.specs.Looks.{looked}
use Rattle.relay_look.specs.Answers.{IsLook, position_of}
use Rattle.relay_look.proofs.looks.look.Goals as goal

pub returns-in-Start-clause-said : goal.returns-in-Start-clause-said
returns-in-Start-clause-said c = λ w s. subst (λ p. IsLook (looked w c.args.request.now (position_of p)) c.look_start.result) (sym c.in-Start.is) (c.look_start.ensures.said w s)

pub returns-in-At-clause-said : goal.returns-in-At-clause-said
returns-in-At-clause-said c = λ w s. subst (λ p. IsLook (looked w c.args.request.now (position_of p)) c.look_from.result) (sym c.in-At.is) (c.look_from.ensures.said w s.shows)
