use Rattle.std.proofs.Common.{◌≡◌, ◌<◌, Some, sym, ap, subst, ◌∙◌}
use Rattle.std.specs.Option.{option_copied, option_map}
use Rattle.std.proofs.lemmas.Result.{err_from_is_err_and}
use Rattle.relay_model.specs.Worlds.{World}
use Rattle.bundle_model.specs.Plans.{next_plan}
use Rattle.bundle_model.specs.Retained.{retained}
use Rattle.bundle_model.proofs.public.MergeFacts.{shed_retains_less}
use Rattle.block_relay.specs.Chronicle.{world_told}
use Rattle.stored_blocks.specs.BundlePlans.{plan_seen}
use Rattle.bundle_merger.specs.Merging.{AddsStored}
use Rattle.bundle_merger.proofs.ShedFacts.{size_some}
use Rattle.bundle_merger.proofs.StepFacts.{halted_at, halted_unplanned, shed_adds}
use Rattle.bundle_merger.proofs.merging.merge_next.Goals as goal

pub returns-in_err-plan-clause-halted : goal.returns-in_err-plan-clause-halted
returns-in_err-plan-clause-halted g c =
    let p = err_from_is_err_and c.from_residual.result c.from_residual.ensures.1 in
    rw (p.1, p.2) (halted_unplanned (world_told c.args.relay.now) (g.S.Shelf.files c.args.shelf.now) (g.S.Shelf.shelf_faults c.args.shelf.now) (g.S.Shelf.shelf_faults c.args.shelf.now) _ tt)

pub returns-in_err-write_plan-clause-halted : goal.returns-in_err-write_plan-clause-halted
returns-in_err-write_plan-clause-halted g c =
    let p = err_from_is_err_and c.from_residual-in_err-write_plan.result c.from_residual-in_err-write_plan.ensures.1 in
    let next : next_plan (world_told c.args.relay.now) ≡ Some (plan_seen c.in-Some.plan) = sym c.in_ok-plan.ensures ∙ ap (option_map plan_seen) c.in-Some.is in
    let kind : (world_told c.args.relay.now).kind ≡ Some c.unwrap.result.now = sym c.kind.ensures.kind ∙ ap option_copied c.unwrap.ensures in
    rw (p.1, p.2)
    (halted_at (world_told c.args.relay.now) (g.S.Shelf.files c.args.shelf.now) (g.S.Shelf.files c.write_plan.new.shelf) (g.S.Shelf.shelf_faults c.args.shelf.now) (g.S.Shelf.shelf_faults c.write_plan.new.shelf)
    c.in_err-write_plan.field-0.0 c.in-Some.plan c.unwrap.result.now kind next c.in_err-write_plan.ensures.held c.in_err-write_plan.ensures.stopped)

pub returns-clause-fewer : goal.returns-clause-fewer
returns-clause-fewer g c =
    let w = world_told c.args.relay.now in
    let next : next_plan w ≡ Some (plan_seen c.in-Some.plan) = sym c.in_ok-plan.ensures ∙ ap (option_map plan_seen) c.in-Some.is in
    subst (λ (v : World). retained v < retained w) (sym c.shed.ensures.world)
    (shed_retains_less w (plan_seen c.in-Some.plan) (size_some c.size.result w.size c.size.ensures.size c.size.ensures.sized) c.len.ensures.sound.history next)

pub returns-clause-entries : goal.returns-clause-entries
returns-clause-entries g c = subst (AddsStored c.args.relay.now.entries) (sym c.shed.ensures.entries) (shed_adds c.args.relay.now.entries (plan_seen c.in-Some.plan))
