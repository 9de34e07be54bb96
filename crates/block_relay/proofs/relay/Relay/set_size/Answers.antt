use Rattle.std.proofs.Common.{reverse, ap, subst, sym, ◌∙◌}
use Rattle.relay_model.specs.Worlds.{World}
use Rattle.block_relay.specs.Chronicle.{Told, limits_told, resized, told_with, world_told}
use Rattle.block_relay.specs.Held.{AreGone}
use Rattle.block_relay.proofs.ResizeFacts.{resized_by, resized_told, resizes}
use Rattle.block_relay.proofs.relay.Relay.set_size.Goals as goal

pub invariant_of-self : goal.invariant_of-self
invariant_of-self c =
    let t = c.self.inside in
    let n = c.args.size in
    let old = told_with t.intake t.run (limits_told t.limits) t.size t.kind t.marks.items t.waited.items t.conflicts.items in
    let new = told_with t.intake t.run (limits_told t.limits) n t.kind t.marks.items t.waited.items t.conflicts.items in
    let is = resized_told t.intake.first t.run (limits_told t.limits) t.size n t.kind (reverse t.marks.items) t.intake.forks.history (reverse t.waited.items) (reverse t.conflicts.items) in (
      resizes (world_told old) (world_told new) t.intake t.kind t.closed t.run t.size n is c.self.invariant.0,
      c.self.invariant.1,
      c.self.invariant.2,
      c.self.invariant.3,
      c.self.invariant.4,
      subst (λ (w : World). AreGone w.stored t.intake.forks.held) (sym is) c.self.invariant.5,
      c.requires.size,
    )

pub returns-clause-entries : goal.returns-clause-entries
returns-clause-entries c =
    let t = c.self.inside in
    let n = c.args.size in
    sym (resized_by t.intake.first t.run (limits_told t.limits) t.size n t.kind (reverse t.marks.items) t.intake.forks.history (reverse t.waited.items))
    ∙ ap (λ (x : Told). resized n x.entries) c.self.view_is

pub returns-clause-world : goal.returns-clause-world
returns-clause-world c =
    let t = c.self.inside in
    let n = c.args.size in
    resized_told t.intake.first t.run (limits_told t.limits) t.size n t.kind (reverse t.marks.items) t.intake.forks.history (reverse t.waited.items) (reverse t.conflicts.items)
    ∙ ap (λ (x : Told). record (world_told x) { size = n }) c.self.view_is
