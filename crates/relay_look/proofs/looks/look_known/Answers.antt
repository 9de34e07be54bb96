use Rattle.std.proofs.Common.{ap, sym, ◌∙◌, ◌≡◌, subst, None}
use Rattle.std.specs.Option.{option_copied}
use Rattle.relay_model.specs.Looks.{look_fitted, look_known, misfit, unknown}
use Rattle.relay_look.specs.Answers.{IsLook}
use Rattle.relay_look.proofs.looks.look_known.Goals as goal

pub returns-in-None-clause-said : goal.returns-in-None-clause-said
returns-in-None-clause-said c =
    λ w s.
    let r = c.args.request.now in
    let k = c.args.cursor.now in
    let known : unknown w.history k ≡ None = ap (λ l. unknown l k) s.shows.history ∙ sym c.unknown.ensures ∙ ap option_copied c.in_default.is in
    let right : misfit w.run w.history k ≡ None = ap (λ n. misfit n w.history k) s.run ∙ ap (λ l. misfit c.args.run l k) s.shows.history ∙ sym c.misfit.ensures ∙ c.in-None.is in
    subst (λ a. IsLook a c.look_from.result) (sym (ap (look_known w r k) known ∙ ap (look_fitted w r k) right)) (c.look_from.ensures.said w s.shows)
