use Rattle.std.proofs.Common.{ap, sym, ◌∙◌, ◌≡◌, subst}
use Rattle.relay_model.specs.Looks.{is_ahead, look_cursor, look_known, unknown}
use Rattle.relay_look.specs.Answers.{IsLook}
use Rattle.relay_look.proofs.LookFacts.{cursor_closed, cursor_within}
use Rattle.relay_look.proofs.looks.look_cursor.Goals as goal
use Rattle.relay_look.proofs.looks.look_cursor.Goals.{else-is_ahead-via-then-is_ahead+else-not-is_closed, else-is_ahead-via-else-is_ahead}

pub returns-clause-said : goal.returns-clause-said
returns-clause-said c =
    λ w s.
    let r = c.args.request.now in
    let k = c.args.cursor.now in
    let here : look_cursor w r k ≡ look_known w r k (unknown w.history k) = elim c.else-is_ahead.branch [
      | else-is_ahead-via-then-is_ahead+else-not-is_closed v ↦ cursor_closed w r k (s.shows.closed ∙ v.if-not-is_closed.false)
      | else-is_ahead-via-else-is_ahead v ↦
          cursor_within w r k (ap (λ n. is_ahead n w.history k.tail) s.run ∙ ap (λ l. is_ahead c.args.run l k.tail) s.shows.history ∙ sym (c.is_ahead.ensures c.args.db.now.history c.len-len.ensures.len) ∙ v.if-is_ahead.false)
    ] in
    subst (λ a. IsLook a c.look_known.result) (sym here) (c.look_known.ensures.said w s)
