use Rattle.std.proofs.Common.{◌≡◌, Some, reverse, sym, ap, ◌∙◌}
use Rattle.std.specs.List.{slice_get}
use Rattle.block_tree.specs.Places.{slip_of}
use Rattle.block_tree.proofs.public.WalkFacts.{slip_there}
use Rattle.chain_model.specs.Finality.{ancestry_of, final_tip}
use Rattle.stored_blocks.proofs.finals.final_at.Goals as goal

pub returns-in-Some-clause-value : goal.returns-in-Some-clause-value
returns-in-Some-clause-value c =
    let h = c.args.db.now.history in
    let s = slip_there h c.in-Some.tip c.in-Some.ensures.range in
    let t : final_tip h ≡ Some s.0 = sym c.final_tip.ensures.tip ∙ ap (slip_of h) c.in-Some.is ∙ s.1 in
    c.ancestor_at.ensures.value s.0 s.1 ∙ ap (λ o. slice_get (reverse (ancestry_of h o)) c.args.index) (sym t)
