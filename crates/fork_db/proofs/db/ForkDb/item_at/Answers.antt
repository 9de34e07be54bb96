use Rattle.std.proofs.Common.{◌+◌, ◌<◌, refl, sym, subst}
use Rattle.std.specs.Arc.{arc_value}
use Rattle.chain_model.specs.Steps.{steps_of}
use Rattle.fork_db.specs.declared.chunks.StepItem.{StepItem}
use Rattle.fork_db.specs.Batches.{HoldsWhatIs, IsGiven}
use Rattle.fork_db.proofs.PlaceFacts.{item_placed}
use Rattle.fork_db.proofs.HoldFacts.{held_is_own, holds_own}
use Rattle.fork_db.proofs.db.ForkDb.item_at.Goals as goal

pub returns-clause-step : goal.returns-clause-step
returns-clause-step c = λ older m stop given.
    let here = subst (λ v. IsGiven v.history older m stop c.args.batch.now) (sym c.self.view_is) given in
    item_placed c.self.inside.tree.history c.step_in-found.result.at c.args.batch.now.place c.in_ok-place.place (steps_of older c.args.batch.now.place m stop) c.args.index (c.args.index + 1) c.step_in-found.result.step
    c.in_ok-slip.slip c.slip.result.now (c.step_in-found.ensures.value older m stop here) c.slip.ensures c.in_ok-slip.ensures refl (c.in_ok-place.ensures older m stop given)

pub share-requires : goal.share-requires
share-requires c = subst (λ n. c.step_in-found.result.at < n) (sym c.self.invariant.4.len) c.step_in-found.ensures.range

pub returns-clause-holds : goal.returns-clause-holds
returns-clause-holds c =
    let item : StepItem = record { step = c.step_in-found.result.step; slip = c.in_ok-slip.slip; held = c.in_ok-shared.shared; place = c.in_ok-place.place } in
    subst (λ v. HoldsWhatIs v.history v.held item) c.self.view_is
    (holds_own c.self.inside.tree.history c.self.inside.held.blocks c.step_in-found.result.at c.slip.result.now item _ c.self.invariant.9 c.slip.ensures c.in_ok-slip.ensures c.in_ok-shared.ensures refl)

pub returns-clause-own : goal.returns-clause-own
returns-clause-own c =
    held_is_own arc_value c.self.inside.tree.history c.self.inside.held.blocks c.step_in-found.result.at c.slip.result.now _ c.in_ok-shared.shared c.self.invariant.4 c.slip.ensures c.in_ok-slip.ensures c.in_ok-shared.ensures
