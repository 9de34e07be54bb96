use Rattle.std.proofs.Common.{ap, sym, ◌∙◌, ◌∷◌, ◌<◌, subst, IfSome, length}
use Rattle.block_tree.proofs.public.WalkFacts.{slip_there}
use Rattle.fork_db.specs.Claims.{claim_at}
use Rattle.fork_db.proofs.public.ClaimFacts.{agree_older, agree_self, first_true, first_false}
use Rattle.fork_db.proofs.claims.agrees_with_tip.Goals as goal

pub returns-then-on_path : goal.returns-then-on_path
returns-then-on_path c = λ s p h ep ei et ec.
    let t = slip_there _ _ c.requires.tip in
    let x = slip_there _ _ (subst (λ o. IfSome o (λ y. y < length c.args.tree.now.history)) c.in-Some.is c.requires.claim) in
    c.if-on_path.true ∙ sym (agree_older _ s t.0 x.0 _ _ h t.1 x.1 et (ec ∙ ap (claim_at (s ∷ c.args.tree.now.history)) c.in-Some.is) ∙ first_true _ _ (sym (c.on_path.ensures.value x.0 t.0 x.1 t.1) ∙ c.if-on_path.true))

pub returns-else-on_path : goal.returns-else-on_path
returns-else-on_path c = λ s p h ep ei et ec.
    let t = slip_there _ _ c.requires.tip in
    let x = slip_there _ _ (subst (λ o. IfSome o (λ y. y < length c.args.tree.now.history)) c.in-Some.is c.requires.claim) in
    c.on_path-else-on_path.ensures.value t.0 x.0 t.1 x.1
    ∙ sym (agree_older _ s t.0 x.0 _ _ h t.1 x.1 et (ec ∙ ap (claim_at (s ∷ c.args.tree.now.history)) c.in-Some.is) ∙ first_false _ _ (sym (c.on_path.ensures.value x.0 t.0 x.1 t.1) ∙ c.if-on_path.false))

pub returns-in-None : goal.returns-in-None
returns-in-None c = λ s p h ep ei et ec.
    let t = slip_there _ _ c.requires.tip in
    c.on_path-in-None.ensures.value t.0 p t.1 ep ∙ sym (agree_self _ s t.0 p _ _ h t.1 ep ei et (ec ∙ ap (claim_at (s ∷ c.args.tree.now.history)) c.in-None.is))
