use Rattle.std.proofs.Common.{arith, ap, refl, sym, subst, ◌≡◌, ◌<◌, ◌^◌, ℕ, List, Option, length}
use Rattle.block_record.specs.declared.blocks.Slip.{Slip}
use Rattle.chain_model.specs.declared.places.Mode.{Mode}
use Rattle.chain_model.specs.Finality.{final_tip}
use Rattle.chain_model.specs.Places.{PlaceFits}
use Rattle.chain_model.specs.Steps.{head}
use Rattle.fork_db.specs.declared.batches.Batch.{Batch}
use Rattle.fork_db.specs.Batches.{IsGiven}
use Rattle.fork_db.proofs.GivenFacts.{given_now}
use Rattle.fork_db.proofs.BatchFacts.{batch_is, batch_lens}
use Rattle.block_tree.specs.Places.{slip_of}
use Rattle.fork_db.proofs.db.ForkDb.batch_from.Goals as goal

-- a batch of one history is one of the same history
given_as : (newest other : List Slip) (m : Mode) (stop : Option ℕ) (b : Batch) → newest ≡ other → IsGiven newest newest m stop b → IsGiven other other m stop b
given_as newest other m stop b e h = subst (λ l. IsGiven l l m stop b) e h

pub target_of-target-requires-clause-tip : goal.target_of-target-requires-clause-tip
target_of-target-requires-clause-tip g c = subst (λ v. slip_of v.history c.final_tip-tip.result ≡ final_tip v.history) (sym c.self.view_is) c.final_tip-tip.ensures.tip

pub target_of-target-requires-clause-head : goal.target_of-target-requires-clause-head
target_of-target-requires-clause-head g c = subst (λ v. slip_of v.history c.head-head.result ≡ head v.history) (sym c.self.view_is) c.head-head.ensures.head

pub counts_of-counts-requires-clause-held : goal.counts_of-counts-requires-clause-held
counts_of-counts-requires-clause-held g c =
    let fits = subst (λ v. PlaceFits v.history c.args.place.end c.args.place.lib) (sym c.self.view_is) c.requires.fits in
    let tip = subst (λ v. slip_of v.history c.final_tip-tip.result ≡ final_tip v.history) (sym c.self.view_is) c.final_tip-tip.ensures.tip in
    (batch_lens _ c.len-seen.ensures.sound _ _ _ _ fits c.requires.ahead _ _ c.target_of-target.ensures.value tip _ _ _ _ _
    c.path_lengths-paths.ensures.held c.path_lengths-paths.ensures.wanted c.path_lengths-paths.ensures.common c.path_lengths-paths.ensures.known c.path_lengths-paths.ensures.finals).0.common_held

pub counts_of-counts-requires-clause-wanted : goal.counts_of-counts-requires-clause-wanted
counts_of-counts-requires-clause-wanted g c =
    let fits = subst (λ v. PlaceFits v.history c.args.place.end c.args.place.lib) (sym c.self.view_is) c.requires.fits in
    let tip = subst (λ v. slip_of v.history c.final_tip-tip.result ≡ final_tip v.history) (sym c.self.view_is) c.final_tip-tip.ensures.tip in
    (batch_lens _ c.len-seen.ensures.sound _ _ _ _ fits c.requires.ahead _ _ c.target_of-target.ensures.value tip _ _ _ _ _
    c.path_lengths-paths.ensures.held c.path_lengths-paths.ensures.wanted c.path_lengths-paths.ensures.common c.path_lengths-paths.ensures.known c.path_lengths-paths.ensures.finals).0.common_wanted

pub counts_of-counts-requires-clause-known : goal.counts_of-counts-requires-clause-known
counts_of-counts-requires-clause-known g c =
    let fits = subst (λ v. PlaceFits v.history c.args.place.end c.args.place.lib) (sym c.self.view_is) c.requires.fits in
    let tip = subst (λ v. slip_of v.history c.final_tip-tip.result ≡ final_tip v.history) (sym c.self.view_is) c.final_tip-tip.ensures.tip in
    (batch_lens _ c.len-seen.ensures.sound _ _ _ _ fits c.requires.ahead _ _ c.target_of-target.ensures.value tip _ _ _ _ _
    c.path_lengths-paths.ensures.held c.path_lengths-paths.ensures.wanted c.path_lengths-paths.ensures.common c.path_lengths-paths.ensures.known c.path_lengths-paths.ensures.finals).0.known_low

pub returns-clause-given : goal.returns-clause-given
returns-clause-given g c =
    let fits = subst (λ v. PlaceFits v.history c.args.place.end c.args.place.lib) (sym c.self.view_is) c.requires.fits in
    let tip = subst (λ v. slip_of v.history c.final_tip-tip.result ≡ final_tip v.history) (sym c.self.view_is) c.final_tip-tip.ensures.tip in
    let both =
    batch_lens _ c.len-seen.ensures.sound _ _ _ _ fits c.requires.ahead _ _ c.target_of-target.ensures.value tip _ _ _ _ _
    c.path_lengths-paths.ensures.held c.path_lengths-paths.ensures.wanted c.path_lengths-paths.ensures.common c.path_lengths-paths.ensures.known c.path_lengths-paths.ensures.finals in
    given_as _ _ _ _ _ (ap (λ v. v.history) c.self.view_is) (given_now _ _ _ _
    (batch_is _ _ _ _ _ _ _ _ _ _ _ _ _ c.len-seen.ensures.len c.target_of-target.ensures.value c.path_lengths-paths.ensures.end c.path_lengths-paths.ensures.held c.path_lengths-paths.ensures.known refl refl refl refl both.1
    (record { undo = c.counts_of-counts.ensures.undos; final = c.counts_of-counts.ensures.finals; newfinal = c.counts_of-counts.ensures.newfinals; new_ = c.counts_of-counts.ensures.news })) fits c.requires.ahead)

pub returns-clause-batch : goal.returns-clause-batch
returns-clause-batch g c = (returns-clause-given g c).batch

pub returns-clause-cost : goal.returns-clause-cost
returns-clause-cost g c = λ d lt.
    let less : length c.self.inside.tree.history < 2 ^ d = subst (λ v. length v.history < 2 ^ d) (sym c.self.view_is) lt in
    omega (arith, c.target_of-target.ensures.cost d less, c.path_lengths-paths.ensures.cost d less)
