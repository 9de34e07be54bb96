use Rattle.std.proofs.Common.{arith, ap, sym, subst, length, drop, ◌≡◌, ◌∙◌, ◌∷◌, ◌++◌, []}
use Rattle.std.specs.Option.{option_map}
use Rattle.block_tree.specs.Places.{place_of}
use Rattle.fork_db.specs.Claims.{IsLinkOf}
use Rattle.fork_db.specs.Heads.{IsRanked}
use Rattle.fork_db.specs.Verdicts.{verdict_of, fits}
use Rattle.fork_db.proofs.public.ClaimFacts.{next_tip, tip_within, next_agrees, append_claims}
use Rattle.fork_db.proofs.VerdictFacts.{IsNext, fits_next}
use Rattle.fork_db.proofs.HeldFacts.{held_push, slip_held}
use Rattle.chain_model.specs.Ancestry.{IsHistory}
use Rattle.chain_model.specs.Finality.{ClaimsAgree}
use Rattle.fork_db.proofs.db.ForkDb.append_reserved.Goals as goal

pub push-self-inside-requires-clause-parent : goal.push-self-inside-requires-clause-parent
push-self-inside-requires-clause-parent c = subst (λ v. place_of v.history c.args.slip.parent_id ≡ c.args.linked.parent) (sym c.self.view_is) c.requires.linked.parent

pub push-self-inside-requires-clause-next : goal.push-self-inside-requires-clause-next
push-self-inside-requires-clause-next c =
    let next : IsNext c.args.slip c.self.inside.tree.history = fits_next _ _ c.len-at.ensures.sound (subst (λ v. verdict_of v.history c.args.slip ≡ fits) (sym c.self.view_is) c.requires.fits) in
    next.history

pub later_tip-self-inside-requires-clause-tip : goal.later_tip-self-inside-requires-clause-tip
later_tip-self-inside-requires-clause-tip c =
    let next : IsNext c.args.slip c.self.inside.tree.history = fits_next _ _ c.len-at.ensures.sound (subst (λ v. verdict_of v.history c.args.slip ≡ fits) (sym c.self.view_is) c.requires.fits) in
    tip_within _ _ _ _ c.push-self-inside.ensures.history next.history c.self.invariant.1

pub later_tip-self-inside-requires-clause-claim : goal.later_tip-self-inside-requires-clause-claim
later_tip-self-inside-requires-clause-claim c = omega (arith, ap length c.push-self-inside.ensures.history, c.claim_place-claim.ensures.range c.args.slip (subst (λ v. IsLinkOf v.history c.args.slip c.args.linked) (sym c.self.view_is) c.requires.linked))

pub add-requires-clause-tip : goal.add-requires-clause-tip
add-requires-clause-tip c =
    let next : IsNext c.args.slip c.self.inside.tree.history = fits_next _ _ c.len-at.ensures.sound (subst (λ v. verdict_of v.history c.args.slip ≡ fits) (sym c.self.view_is) c.requires.fits) in
    next_tip _ _ _ _ _ _ c.push-self-inside.ensures.history next.history c.self.invariant.1 (c.claim_place-claim.ensures.value c.args.slip (subst (λ v. IsLinkOf v.history c.args.slip c.args.linked) (sym c.self.view_is) c.requires.linked)) c.later_tip-self-inside.ensures

pub add-requires-clause-some : goal.add-requires-clause-some
add-requires-clause-some c = omega (arith, ap length c.push-self-inside.ensures.history)

pub add-requires-clause-ranked : goal.add-requires-clause-ranked
add-requires-clause-ranked c = subst (λ l. IsRanked l c.self.inside.heads.head c.self.inside.heads.rivals) (ap (drop 1) (sym c.push-self-inside.ensures.history)) c.self.invariant.3

pub add-requires-clause-agreed : goal.add-requires-clause-agreed
add-requires-clause-agreed c =
    let next : IsNext c.args.slip c.self.inside.tree.history = fits_next _ _ c.len-at.ensures.sound (subst (λ v. verdict_of v.history c.args.slip ≡ fits) (sym c.self.view_is) c.requires.fits) in
    subst ClaimsAgree (sym c.push-self-inside.ensures.history) (next_agrees _ _ next.history c.self.invariant.2 next.agrees)

pub invariant_of-self : goal.invariant_of-self
invariant_of-self c =
    let next : IsNext c.args.slip c.self.inside.tree.history = fits_next _ _ c.len-at.ensures.sound (subst (λ v. verdict_of v.history c.args.slip ≡ fits) (sym c.self.view_is) c.requires.fits) in (
      append_claims _ _ _ _ _ _ c.push-self-inside.ensures.history c.push_reserved.ensures.items (c.claim_place-claim.ensures.value c.args.slip (subst (λ v. IsLinkOf v.history c.args.slip c.args.linked) (sym c.self.view_is) c.requires.linked)) (c.claim_place-claim.ensures.range c.args.slip (subst (λ v. IsLinkOf v.history c.args.slip c.args.linked) (sym c.self.view_is) c.requires.linked)) c.self.invariant.0,
      next_tip _ _ _ _ _ _ c.push-self-inside.ensures.history next.history c.self.invariant.1 (c.claim_place-claim.ensures.value c.args.slip (subst (λ v. IsLinkOf v.history c.args.slip c.args.linked) (sym c.self.view_is) c.requires.linked)) c.later_tip-self-inside.ensures,
      subst ClaimsAgree (sym c.push-self-inside.ensures.history) (next_agrees _ _ next.history c.self.invariant.2 next.agrees),
      c.add.ensures.ranked,
      held_push _ _ _ _ _ _ c.push-self-inside.ensures.history c.push.ensures.blocks (slip_held _ c.args.block c.args.slip c.requires.slip) c.self.invariant.4,
      omega (arith, c.push-self-inside.ensures.room, c.push_reserved.ensures.len, c.push_reserved.ensures.capacity, c.self.invariant.5),
      omega (arith, c.push-self-inside.ensures.room, c.push.ensures.room, c.self.invariant.6),
      omega (arith, c.push-self-inside.ensures.room, c.add.ensures.room, c.self.invariant.7),
      omega (arith, c.push-self-inside.ensures.room, ap length c.push-self-inside.ensures.history, c.self.invariant.8),
      subst IsHistory (sym c.push-self-inside.ensures.history) next.history,
    )

pub returns-clause-appended : goal.returns-clause-appended
returns-clause-appended c =
    let next : IsNext c.args.slip c.self.inside.tree.history = fits_next _ _ c.len-at.ensures.sound (subst (λ v. verdict_of v.history c.args.slip ≡ fits) (sym c.self.view_is) c.requires.fits) in
    record {
      history = c.push-self-inside.ensures.history ∙ ap (λ v. c.args.slip ∷ v.history) c.self.view_is;
      sound = subst IsHistory (sym c.push-self-inside.ensures.history) next.history;
      agreed = subst ClaimsAgree (sym c.push-self-inside.ensures.history) (next_agrees _ _ next.history c.self.invariant.2 next.agrees);
      held = c.push.ensures.blocks ∙ ap (λ v. v.held ++ option_map (λ b. b.value) c.args.block ∷ []) c.self.view_is;
      limit = ap (λ v. v.limit) c.self.view_is;
    }
