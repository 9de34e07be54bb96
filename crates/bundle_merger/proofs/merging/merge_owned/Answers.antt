use Rattle.std.proofs.Common.{arith, ◌≡◌, ◌<◌, ◌∷◌, ◌++◌, [], None, Option, sym, ap, subst, ◌∙◌, IfSome}
use Rattle.std.proofs.lemmas.Result.{err_from_is_err_and}
use Rattle.bundle_model.specs.Plans.{next_plan}
use Rattle.bundle_model.specs.Retained.{retained}
use Rattle.bundle_model.proofs.public.RetainedFacts.{no_plan_retains, own_plans_retain}
use Rattle.block_relay.specs.Chronicle.{world_told}
use Rattle.stored_blocks.specs.declared.plans.BundlePlan.{BundlePlan}
use Rattle.stored_blocks.specs.BundlePlans.{plan_seen}
use Rattle.bundle_merger.specs.Merging.{HasMerged, bundle_count, listed, plans_seen}
use Rattle.bundle_merger.proofs.KeptFacts.{done_kept, halted_kept}
use Rattle.bundle_merger.proofs.AllFacts.{merges_all}
use Rattle.bundle_merger.proofs.ShedFacts.{one_size, size_some}
use Rattle.bundle_merger.proofs.StepFacts.{adds_on, count_one, done_changes, done_front, done_own, done_size, done_sound, halted_on, merged_on, seen_count}
use Rattle.bundle_merger.proofs.merging.merge_owned.Goals as goal

pub returns-in_err-plan-clause-halted : goal.returns-in_err-plan-clause-halted
returns-in_err-plan-clause-halted g c =
    let p = err_from_is_err_and c.from_residual.result c.from_residual.ensures.1 in
    rw (p.1, p.2) (halted_on (world_told c.args.relay.now) (world_told c.loop-plan.relay) (world_told c.merge_next.new.relay) (g.S.Shelf.files c.args.shelf.now) (g.S.Shelf.files c.loop-plan.shelf) (g.S.Shelf.files c.merge_next.new.shelf) (g.S.Shelf.shelf_faults c.args.shelf.now) (g.S.Shelf.shelf_faults c.loop-plan.shelf) (g.S.Shelf.shelf_faults c.merge_next.new.shelf) c.in_err-plan.field-0.0 c.loop-plan.invariant.merged.0 c.loop-plan.invariant.merged.1 c.loop-plan.invariant.later c.in_err-plan.ensures.halted)

pub returns-in_err-plan-clause-entries : goal.returns-in_err-plan-clause-entries
returns-in_err-plan-clause-entries g c =
    adds_on c.args.relay.now.entries c.loop-plan.relay.entries c.merge_next.new.relay.entries c.loop-plan.invariant.entries c.merge_next.ensures.entries

pub returns-in_err-plan-clause-stays : goal.returns-in_err-plan-clause-stays
returns-in_err-plan-clause-stays g c =
    let h = halted_on (world_told c.args.relay.now) (world_told c.loop-plan.relay) (world_told c.merge_next.new.relay) (g.S.Shelf.files c.args.shelf.now) (g.S.Shelf.files c.loop-plan.shelf) (g.S.Shelf.files c.merge_next.new.shelf) (g.S.Shelf.shelf_faults c.args.shelf.now) (g.S.Shelf.shelf_faults c.loop-plan.shelf) (g.S.Shelf.shelf_faults c.merge_next.new.shelf) c.in_err-plan.field-0.0 c.loop-plan.invariant.merged.0 c.loop-plan.invariant.merged.1 c.loop-plan.invariant.later c.in_err-plan.ensures.halted in
    done_changes (world_told c.args.relay.now) (world_told c.merge_next.new.relay) (g.S.Shelf.files c.args.shelf.now) h.between h.plans h.done

pub returns-in_err-plan-clause-front : goal.returns-in_err-plan-clause-front
returns-in_err-plan-clause-front g c =
    let h = halted_on (world_told c.args.relay.now) (world_told c.loop-plan.relay) (world_told c.merge_next.new.relay) (g.S.Shelf.files c.args.shelf.now) (g.S.Shelf.files c.loop-plan.shelf) (g.S.Shelf.files c.merge_next.new.shelf) (g.S.Shelf.shelf_faults c.args.shelf.now) (g.S.Shelf.shelf_faults c.loop-plan.shelf) (g.S.Shelf.shelf_faults c.merge_next.new.shelf) c.in_err-plan.field-0.0 c.loop-plan.invariant.merged.0 c.loop-plan.invariant.merged.1 c.loop-plan.invariant.later c.in_err-plan.ensures.halted in
    λ f. done_front (world_told c.args.relay.now) (world_told c.merge_next.new.relay) (g.S.Shelf.files c.args.shelf.now) h.between h.plans (size_some c.size.result (world_told c.args.relay.now).size c.size.ensures.size c.size.ensures.sized) c.len.ensures.sound h.done f

pub returns-in_err-plan-clause-own : goal.returns-in_err-plan-clause-own
returns-in_err-plan-clause-own g c =
    let h = halted_on (world_told c.args.relay.now) (world_told c.loop-plan.relay) (world_told c.merge_next.new.relay) (g.S.Shelf.files c.args.shelf.now) (g.S.Shelf.files c.loop-plan.shelf) (g.S.Shelf.files c.merge_next.new.shelf) (g.S.Shelf.shelf_faults c.args.shelf.now) (g.S.Shelf.shelf_faults c.loop-plan.shelf) (g.S.Shelf.shelf_faults c.merge_next.new.shelf) c.in_err-plan.field-0.0 c.loop-plan.invariant.merged.0 c.loop-plan.invariant.merged.1 c.loop-plan.invariant.later c.in_err-plan.ensures.halted in
    done_own (world_told c.args.relay.now) (world_told c.merge_next.new.relay) (g.S.Shelf.files c.args.shelf.now) h.between h.plans (size_some c.size.result (world_told c.args.relay.now).size c.size.ensures.size c.size.ensures.sized) c.len.ensures.sound h.done

pub loop-plan-preserved : goal.loop-plan-preserved
loop-plan-preserved g c =
    let one : HasMerged (world_told c.loop-plan.relay) (world_told c.merge_next.new.relay) (g.S.Shelf.files c.loop-plan.shelf) (g.S.Shelf.files c.merge_next.new.shelf) (c.in-Some.plan ∷ []) = subst (λ (o : Option BundlePlan). HasMerged (world_told c.loop-plan.relay) (world_told c.merge_next.new.relay) (g.S.Shelf.files c.loop-plan.shelf) (g.S.Shelf.files c.merge_next.new.shelf) (listed o)) c.in-Some.is c.in_ok-plan.ensures.merged in
    let fewer : retained (world_told c.merge_next.new.relay) < retained (world_told c.loop-plan.relay) = subst (λ (o : Option BundlePlan). IfSome o (λ _. retained (world_told c.merge_next.new.relay) < retained (world_told c.loop-plan.relay))) c.in-Some.is c.in_ok-plan.ensures.fewer in
    record {
      merged = (
        c.loop-plan.invariant.merged.0 ++ c.in-Some.plan ∷ [],
        merged_on (world_told c.args.relay.now) (world_told c.loop-plan.relay) (world_told c.merge_next.new.relay) (g.S.Shelf.files c.args.shelf.now) (g.S.Shelf.files c.loop-plan.shelf) (g.S.Shelf.files c.merge_next.new.shelf) c.loop-plan.invariant.merged.0 (c.in-Some.plan ∷ []) c.loop-plan.invariant.merged.1 one,
        seen_count c.loop-plan.invariant.merged.0 (c.in-Some.plan ∷ []) c.loop-plan.bundles c.bundles_in-bundles.result c.loop-plan.invariant.merged.2 c.bundles_in-bundles.ensures,
      );
      entries = adds_on c.args.relay.now.entries c.loop-plan.relay.entries c.merge_next.new.relay.entries c.loop-plan.invariant.entries c.merge_next.ensures.entries;
      conflicts = c.merge_next.ensures.conflicts ∙ c.loop-plan.invariant.conflicts;
      later = omega (arith, c.loop-plan.invariant.later, c.merge_next.ensures.later);
      room = omega (arith, c.loop-plan.invariant.room, fewer, count_one (plan_seen c.in-Some.plan), c.bundles_in-bundles.ensures);
    }

pub returns-clause-entries : goal.returns-clause-entries
returns-clause-entries g c =
    adds_on c.args.relay.now.entries c.loop-plan.relay.entries c.merge_next.new.relay.entries c.loop-plan.invariant.entries c.merge_next.ensures.entries

pub returns-clause-stays : goal.returns-clause-stays
returns-clause-stays g c =
    let h = merged_on (world_told c.args.relay.now) (world_told c.loop-plan.relay) (world_told c.merge_next.new.relay) (g.S.Shelf.files c.args.shelf.now) (g.S.Shelf.files c.loop-plan.shelf) (g.S.Shelf.files c.merge_next.new.shelf) c.loop-plan.invariant.merged.0 (listed c.in_ok-plan.field-0) c.loop-plan.invariant.merged.1 c.in_ok-plan.ensures.merged in
    let plans = c.loop-plan.invariant.merged.0 ++ (listed c.in_ok-plan.field-0) in
    done_changes (world_told c.args.relay.now) (world_told c.merge_next.new.relay) (g.S.Shelf.files c.args.shelf.now) (g.S.Shelf.files c.merge_next.new.shelf) plans h

pub returns-clause-front : goal.returns-clause-front
returns-clause-front g c =
    let h = merged_on (world_told c.args.relay.now) (world_told c.loop-plan.relay) (world_told c.merge_next.new.relay) (g.S.Shelf.files c.args.shelf.now) (g.S.Shelf.files c.loop-plan.shelf) (g.S.Shelf.files c.merge_next.new.shelf) c.loop-plan.invariant.merged.0 (listed c.in_ok-plan.field-0) c.loop-plan.invariant.merged.1 c.in_ok-plan.ensures.merged in
    let plans = c.loop-plan.invariant.merged.0 ++ (listed c.in_ok-plan.field-0) in
    λ f. done_front (world_told c.args.relay.now) (world_told c.merge_next.new.relay) (g.S.Shelf.files c.args.shelf.now) (g.S.Shelf.files c.merge_next.new.shelf) plans (size_some c.size.result (world_told c.args.relay.now).size c.size.ensures.size c.size.ensures.sized) c.len.ensures.sound h f

pub returns-clause-own : goal.returns-clause-own
returns-clause-own g c =
    let h = merged_on (world_told c.args.relay.now) (world_told c.loop-plan.relay) (world_told c.merge_next.new.relay) (g.S.Shelf.files c.args.shelf.now) (g.S.Shelf.files c.loop-plan.shelf) (g.S.Shelf.files c.merge_next.new.shelf) c.loop-plan.invariant.merged.0 (listed c.in_ok-plan.field-0) c.loop-plan.invariant.merged.1 c.in_ok-plan.ensures.merged in
    let plans = c.loop-plan.invariant.merged.0 ++ (listed c.in_ok-plan.field-0) in
    done_own (world_told c.args.relay.now) (world_told c.merge_next.new.relay) (g.S.Shelf.files c.args.shelf.now) (g.S.Shelf.files c.merge_next.new.shelf) plans (size_some c.size.result (world_told c.args.relay.now).size c.size.ensures.size c.size.ensures.sized) c.len.ensures.sound h

pub returns-clause-few : goal.returns-clause-few
returns-clause-few g c =
    let h = merged_on (world_told c.args.relay.now) (world_told c.loop-plan.relay) (world_told c.merge_next.new.relay) (g.S.Shelf.files c.args.shelf.now) (g.S.Shelf.files c.loop-plan.shelf) (g.S.Shelf.files c.merge_next.new.shelf) c.loop-plan.invariant.merged.0 (listed c.in_ok-plan.field-0) c.loop-plan.invariant.merged.1 c.in_ok-plan.ensures.merged in
    let plans = c.loop-plan.invariant.merged.0 ++ (listed c.in_ok-plan.field-0) in
    let last : next_plan (world_told c.merge_next.new.relay) ≡ None = c.in_ok-plan.ensures.last c.in_default.is in
    let some = done_size (world_told c.args.relay.now) (world_told c.merge_next.new.relay) (g.S.Shelf.files c.args.shelf.now) (g.S.Shelf.files c.merge_next.new.shelf) plans h (size_some c.size.result (world_told c.args.relay.now).size c.size.ensures.size c.size.ensures.sized) in
    let sound = done_sound (world_told c.args.relay.now) (world_told c.merge_next.new.relay) (g.S.Shelf.files c.args.shelf.now) (g.S.Shelf.files c.merge_next.new.shelf) plans c.len.ensures.sound h in
    λ f. no_plan_retains (world_told c.merge_next.new.relay) some sound.history (done_front (world_told c.args.relay.now) (world_told c.merge_next.new.relay) (g.S.Shelf.files c.args.shelf.now) (g.S.Shelf.files c.merge_next.new.shelf) plans (size_some c.size.result (world_told c.args.relay.now).size c.size.ensures.size c.size.ensures.sized) c.len.ensures.sound h f) last

pub returns-clause-left : goal.returns-clause-left
returns-clause-left g c =
    let h = merged_on (world_told c.args.relay.now) (world_told c.loop-plan.relay) (world_told c.merge_next.new.relay) (g.S.Shelf.files c.args.shelf.now) (g.S.Shelf.files c.loop-plan.shelf) (g.S.Shelf.files c.merge_next.new.shelf) c.loop-plan.invariant.merged.0 (listed c.in_ok-plan.field-0) c.loop-plan.invariant.merged.1 c.in_ok-plan.ensures.merged in
    let plans = c.loop-plan.invariant.merged.0 ++ (listed c.in_ok-plan.field-0) in
    let last : next_plan (world_told c.merge_next.new.relay) ≡ None = c.in_ok-plan.ensures.last c.in_default.is in
    let some = done_size (world_told c.args.relay.now) (world_told c.merge_next.new.relay) (g.S.Shelf.files c.args.shelf.now) (g.S.Shelf.files c.merge_next.new.shelf) plans h (size_some c.size.result (world_told c.args.relay.now).size c.size.ensures.size c.size.ensures.sized) in
    let sound = done_sound (world_told c.args.relay.now) (world_told c.merge_next.new.relay) (g.S.Shelf.files c.args.shelf.now) (g.S.Shelf.files c.merge_next.new.shelf) plans c.len.ensures.sound h in
    λ f o. own_plans_retain (world_told c.merge_next.new.relay) some sound.history (done_front (world_told c.args.relay.now) (world_told c.merge_next.new.relay) (g.S.Shelf.files c.args.shelf.now) (g.S.Shelf.files c.merge_next.new.shelf) plans (size_some c.size.result (world_told c.args.relay.now).size c.size.ensures.size c.size.ensures.sized) c.len.ensures.sound h f) (done_own (world_told c.args.relay.now) (world_told c.merge_next.new.relay) (g.S.Shelf.files c.args.shelf.now) (g.S.Shelf.files c.merge_next.new.shelf) plans (size_some c.size.result (world_told c.args.relay.now).size c.size.ensures.size c.size.ensures.sized) c.len.ensures.sound h o) last

pub returns-in_err-plan-clause-kept : goal.returns-in_err-plan-clause-kept
returns-in_err-plan-clause-kept g c =
    let h = halted_on (world_told c.args.relay.now) (world_told c.loop-plan.relay) (world_told c.merge_next.new.relay) (g.S.Shelf.files c.args.shelf.now) (g.S.Shelf.files c.loop-plan.shelf) (g.S.Shelf.files c.merge_next.new.shelf) (g.S.Shelf.shelf_faults c.args.shelf.now) (g.S.Shelf.shelf_faults c.loop-plan.shelf) (g.S.Shelf.shelf_faults c.merge_next.new.shelf) c.in_err-plan.field-0.0 c.loop-plan.invariant.merged.0 c.loop-plan.invariant.merged.1 c.loop-plan.invariant.later c.in_err-plan.ensures.halted in
    halted_kept (world_told c.args.relay.now) (world_told c.merge_next.new.relay) (g.S.Shelf.files c.args.shelf.now) (g.S.Shelf.files c.merge_next.new.shelf) (g.S.Shelf.shelf_faults c.args.shelf.now) (g.S.Shelf.shelf_faults c.merge_next.new.shelf) c.in_err-plan.field-0.0 c.len.ensures.sound h

pub returns-clause-kept : goal.returns-clause-kept
returns-clause-kept g c =
    let h = merged_on (world_told c.args.relay.now) (world_told c.loop-plan.relay) (world_told c.merge_next.new.relay) (g.S.Shelf.files c.args.shelf.now) (g.S.Shelf.files c.loop-plan.shelf) (g.S.Shelf.files c.merge_next.new.shelf) c.loop-plan.invariant.merged.0 (listed c.in_ok-plan.field-0) c.loop-plan.invariant.merged.1 c.in_ok-plan.ensures.merged in
    let plans = c.loop-plan.invariant.merged.0 ++ (listed c.in_ok-plan.field-0) in
    done_kept (world_told c.args.relay.now) (world_told c.merge_next.new.relay) (g.S.Shelf.files c.args.shelf.now) (g.S.Shelf.files c.merge_next.new.shelf) plans c.len.ensures.sound h

pub returns-clause-all : goal.returns-clause-all
returns-clause-all g c =
    let h = merged_on (world_told c.args.relay.now) (world_told c.loop-plan.relay) (world_told c.merge_next.new.relay) (g.S.Shelf.files c.args.shelf.now) (g.S.Shelf.files c.loop-plan.shelf) (g.S.Shelf.files c.merge_next.new.shelf) c.loop-plan.invariant.merged.0 (listed c.in_ok-plan.field-0) c.loop-plan.invariant.merged.1 c.in_ok-plan.ensures.merged in
    let plans = c.loop-plan.invariant.merged.0 ++ (listed c.in_ok-plan.field-0) in
    let last : next_plan (world_told c.merge_next.new.relay) ≡ None = c.in_ok-plan.ensures.last c.in_default.is in
    let none = ap (λ (o : Option BundlePlan). bundle_count (plans_seen (listed o))) (sym c.in_default.is) in
    let count = seen_count c.loop-plan.invariant.merged.0 (listed c.in_ok-plan.field-0) c.loop-plan.bundles 0 c.loop-plan.invariant.merged.2 none in
    merges_all (world_told c.args.relay.now) (world_told c.merge_next.new.relay) (g.S.Shelf.files c.args.shelf.now) (g.S.Shelf.files c.merge_next.new.shelf) (record { bundles = c.loop-plan.bundles; stored = c.stored_finals-stored.result }) (size_some c.size.result (world_told c.args.relay.now).size c.size.ensures.size c.size.ensures.sized)
    (one_size c.size.result (world_told c.args.relay.now).size c.size.ensures.size c.size.ensures.sized) c.len.ensures.sound
    (record { plans = plans; done = h; last = last; bundles = omega (arith, count); stored = c.stored_finals-stored.ensures })
