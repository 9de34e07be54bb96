use Rattle.std.proofs.Common.{ap, sym, ◌∙◌, ◌≡◌, subst, length, None, Ok}
use Rattle.chain_model.specs.Steps.{steps_of}
use Rattle.relay_model.specs.Looks.{Batch}
use Rattle.relay_look.specs.Answers.{IsLook, sends, stop_passed}
use Rattle.relay_look.proofs.LookFacts.{from_none, from_sent}
use Rattle.relay_look.proofs.looks.look_from.Goals as goal

pub returns-then-is_sent-clause-said : goal.returns-then-is_sent-clause-said
returns-then-is_sent-clause-said c =
    λ w s.
    let r = c.args.request.now in
    let b = c.in_ok-batch.batch in
    let place = c.in_ok-batch.ensures.place in
    let far : stop_passed r.stop c.args.place.now.end ≡ None = sym c.stop_passed.ensures ∙ c.in_default.is in
    let tests =
    ap (λ l. sends c.args.is_first (steps_of l c.args.place.now r.mode r.stop)) s.history
    ∙ ap (λ p. sends c.args.is_first (steps_of c.args.db.now.history p r.mode r.stop)) (sym place)
    ∙ sym (c.is_sent.ensures (steps_of c.args.db.now.history b.place r.mode r.stop) (c.step_count.ensures _ _ _ c.in_ok-batch.ensures.given)) in
    from_sent c.args.is_first w r c.args.place.now far (tests ∙ c.if-is_sent.true)
    ∙ ap (λ n. Batch n c.args.place.now) (ap length s.history ∙ sym c.in_ok-batch.ensures.given.batch.seen) ∙ ap (Batch b.seen) (sym place)

pub returns-clause-said : goal.returns-clause-said
returns-clause-said c =
    λ w s.
    let r = c.args.request.now in
    let b = c.in_ok-batch.batch in
    let place = c.in_ok-batch.ensures.place in
    let far : stop_passed r.stop c.args.place.now.end ≡ None = sym c.stop_passed.ensures ∙ c.in_default.is in
    let tests =
    ap (λ l. sends c.args.is_first (steps_of l c.args.place.now r.mode r.stop)) s.history
    ∙ ap (λ p. sends c.args.is_first (steps_of c.args.db.now.history p r.mode r.stop)) (sym place)
    ∙ sym (c.is_sent.ensures (steps_of c.args.db.now.history b.place r.mode r.stop) (c.step_count.ensures _ _ _ c.in_ok-batch.ensures.given)) in
    subst (λ a. IsLook a (Ok c.without_steps.result)) (sym (from_none c.args.is_first w r c.args.place.now far (tests ∙ c.if-is_sent.false))) (c.without_steps.ensures.said w s)

pub returns-clause-given : goal.returns-clause-given
returns-clause-given c = c.without_steps.ensures.given c.args.request.now
