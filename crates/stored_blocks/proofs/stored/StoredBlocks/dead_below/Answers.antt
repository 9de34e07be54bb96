use Rattle.std.proofs.Common.{map, sym, subst, ap, ◌∙◌}
use Rattle.std.specs.List.{AllByRecursion}
use Rattle.std.specs.List.Sorted.{IsPermutation}
use Rattle.std.proofs.lemmas.List.Sorted.{IsNonDecreasingBy-from_sort}
use Rattle.block_tree.specs.Places.{slip_at}
use Rattle.stored_blocks.specs.BundlePlans.{IsHeldAt}
use Rattle.stored_blocks.proofs.PlanFacts.{dead_is, places_held}
use Rattle.stored_blocks.proofs.stored.StoredBlocks.dead_below.Goals as goal

pub share_all-requires : goal.share_all-requires
share_all-requires c =
    let f = c.args.db.now in
    let i = c.args.self.now in
    let ps = c.sort_unstable.new.self.items in
    let perm = subst (λ l. IsPermutation l ps) c.in_ok-places.ensures.places c.sort_unstable.ensures.permutation in
    subst (AllByRecursion (IsHeldAt f)) (sym c.as_slice.ensures.value) (places_held f i c.args.below ps c.len.ensures.sound c.requires.index perm)

pub returns : goal.returns
returns c =
    let f = c.args.db.now in
    let i = c.args.self.now in
    let ps = c.sort_unstable.new.self.items in
    let perm = subst (λ l. IsPermutation l ps) c.in_ok-places.ensures.places c.sort_unstable.ensures.permutation in
    let up = IsNonDecreasingBy-from_sort (λ x. x) ps c.sort_unstable.ensures.sorted in
    dead_is 0 f i c.args.below ps _ c.requires.index c.off_below.ensures.rises perm up (c.in_ok-blocks.ensures ∙ ap (map (slip_at f.history)) c.as_slice.ensures.value)
