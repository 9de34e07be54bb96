use Rattle.std.proofs.Common.{arith, ap, sym, ◌∙◌, subst, ◌<◌, ◌∷◌, ◌≡◌, false}
use Rattle.chain_model.specs.Ancestry.{has_id}
use Rattle.indexmap.specs.IndexSet.{spare}
use Rattle.block_tree.specs.Places.{HasIdsOnce}
use Rattle.block_tree.proofs.SlipFacts.{pushed, pushed_length, on_ok_value}
use Rattle.block_tree.proofs.slips.Slips.push.Goals as goal

pub returns-clause-history : goal.returns-clause-history
returns-clause-history c =
    let room : 0 < c.self.inside.room = subst (λ v. 0 < v.room) (sym c.self.view_is) c.requires.room in
    let free : 0 < spare c.self.inside.slips = omega (arith, room, c.self.invariant.1) in
    let keys = on_ok_value c.insert.result _ _ (c.insert.ensures.succeeds free) c.insert.ensures.keys in
    let fresh = subst (λ v. has_id v.history c.args.slip.id ≡ false) (sym c.self.view_is) c.requires.fresh in
    pushed _ _ _ keys fresh ∙ ap (λ v. c.args.slip ∷ v.history) c.self.view_is

pub invariant_of-self : goal.invariant_of-self
invariant_of-self c =
    let room : 0 < c.self.inside.room = subst (λ v. 0 < v.room) (sym c.self.view_is) c.requires.room in
    let free : 0 < spare c.self.inside.slips = omega (arith, room, c.self.invariant.1) in
    let keys = on_ok_value c.insert.result _ _ (c.insert.ensures.succeeds free) c.insert.ensures.keys in
    let fresh = subst (λ v. has_id v.history c.args.slip.id ≡ false) (sym c.self.view_is) c.requires.fresh in (
      subst HasIdsOnce (sym (pushed _ _ _ keys fresh)) (fresh, c.self.invariant.0),
      omega (arith, room, c.insert.ensures.spare, c.self.invariant.1),
      omega (arith, room, pushed_length _ _ _ keys fresh, c.self.invariant.2),
    )
