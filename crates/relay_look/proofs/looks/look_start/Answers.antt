use Rattle.std.proofs.Common.{sym, subst}
use Rattle.relay_model.specs.Looks.{look_start}
use Rattle.relay_look.specs.Answers.{IsLook}
use Rattle.relay_look.proofs.looks.look_start.Goals as goal

pub returns-in-Some-clause-said : goal.returns-in-Some-clause-said
returns-in-Some-clause-said c = λ w s. subst (λ o. IsLook (look_start w c.args.request.now o) c.look_cursor.result) (sym c.in-Some.is) (c.look_cursor.ensures.said w s)

pub returns-in-None-clause-said : goal.returns-in-None-clause-said
returns-in-None-clause-said c = λ w s. subst (λ o. IsLook (look_start w c.args.request.now o) c.look_open.result) (sym c.in-None.is) (c.look_open.ensures.said w s.shows)
