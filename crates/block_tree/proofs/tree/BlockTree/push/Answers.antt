use Rattle.std.proofs.Common.{arith, sym, subst, ◌∷◌, ◌≡◌, refl}
use Rattle.chain_model.specs.Ancestry.{IsHistory}
use Rattle.chain_laws.proofs.public.Lines.{is_fresh}
use Rattle.block_tree.specs.Places.{place_of}
use Rattle.block_tree.proofs.public.ParentFacts.{next_fits}
use Rattle.block_tree.proofs.tree.BlockTree.push.Goals as goal

pub push-requires-clause-fresh : goal.push-requires-clause-fresh
push-requires-clause-fresh c = is_fresh c.args.slip _ (subst (λ v. IsHistory (c.args.slip ∷ v.history)) (sym c.self.view_is) c.requires.next)

pub push-requires-2-clause-next : goal.push-requires-2-clause-next
push-requires-2-clause-next c =
    let h : IsHistory (c.args.slip ∷ c.self.inside.slips.history) = subst (λ v. IsHistory (c.args.slip ∷ v.history)) (sym c.self.view_is) c.requires.next in
    let parent : c.args.parent ≡ place_of c.self.inside.slips.history c.args.slip.parent_id = sym (subst (λ v. place_of v.history c.args.slip.parent_id ≡ c.args.parent) (sym c.self.view_is) c.requires.parent) in
    rw (c.self.invariant.0, parent) (next_fits c.args.slip c.self.inside.slips.history h)

pub invariant_of-self : goal.invariant_of-self
invariant_of-self c =
    let h : IsHistory (c.args.slip ∷ c.self.inside.slips.history) = subst (λ v. IsHistory (c.args.slip ∷ v.history)) (sym c.self.view_is) c.requires.next in
    let parent : c.args.parent ≡ place_of c.self.inside.slips.history c.args.slip.parent_id = sym (subst (λ v. place_of v.history c.args.slip.parent_id ≡ c.args.parent) (sym c.self.view_is) c.requires.parent) in (
      rw (c.push.ensures.history, c.push-2.ensures.parents, parent, c.self.invariant.0) refl,
      rw c.push.ensures.history h,
      omega (arith, c.push.ensures.room, c.push-2.ensures.room, c.self.invariant.2),
    )
