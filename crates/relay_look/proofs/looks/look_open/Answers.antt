use Rattle.std.proofs.Common.{ap, sym, ◌∙◌, subst, true}
use Rattle.chain_model.specs.Places.{PlaceFits}
use Rattle.chain_laws.proofs.public.Ends.{opening_fits}
use Rattle.relay_model.specs.Looks.{look_from}
use Rattle.relay_look.specs.Answers.{IsLook}
use Rattle.relay_look.proofs.LookFacts.{open_on}
use Rattle.relay_look.proofs.looks.look_open.Goals as goal

pub returns-then-len-eq0-clause-given : goal.returns-then-len-eq0-clause-given
returns-then-len-eq0-clause-given c = c.idle.ensures.given c.args.db.now.history c.args.request.now

pub look_from-requires : goal.look_from-requires
look_from-requires c =
    subst (λ p. PlaceFits c.args.db.now.history p.end p.lib) (sym c.in_ok-place.ensures) (opening_fits c.args.db.now.history c.args.request.now.start c.len-len.ensures.sound)

pub returns-clause-said : goal.returns-clause-said
returns-clause-said c =
    λ w s.
    let r = c.args.request.now in
    let here = open_on w r c.args.db.now.history s.history (λ none. c.if-len-eq0.false (c.len-len.ensures.len ∙ none)) in
    subst (λ a. IsLook a c.look_from.result) (sym (here ∙ ap (look_from true w r) (sym c.in_ok-place.ensures))) (c.look_from.ensures.said w s)
