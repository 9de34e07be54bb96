use Rattle.std.proofs.Common.{map, ap, ◌∙◌}
use Rattle.std.specs.Arc.{arc_value}
use Rattle.block_record.specs.Slips.{slip}
use Rattle.relay_model.specs.Chronicles.{history_of}
use Rattle.stored_blocks.specs.BundlePlans.{plan_seen}
use Rattle.block_relay.specs.Chronicle.{stored_entries}
use Rattle.block_relay.proofs.StoredFacts.{entries_both, shed_told}
use Rattle.block_relay.proofs.relay.Relay.shed.Goals as goal

pub returns-clause-entries : goal.returns-clause-entries
returns-clause-entries c =
    let plan = plan_seen c.args.plan.now in
    let mid = c.store_all.new.self in
    let new = c.store_all-2.new.self in
    let first = c.store_all.ensures.entries ∙ ap (λ l. stored_entries (history_of c.args.self.now.entries) c.args.self.now.entries (map (λ b. slip (arc_value b)) l)) c.as_slice.ensures.value in
    let second = c.store_all-2.ensures.entries ∙ ap (λ l. stored_entries (history_of mid.entries) mid.entries (map (λ b. slip (arc_value b)) l)) c.as_slice-2.ensures.value in
    entries_both c.args.self.now.entries mid.entries new.entries plan.finals plan.dead first second

pub returns-clause-world : goal.returns-clause-world
returns-clause-world c =
    let plan = plan_seen c.args.plan.now in
    let mid = c.store_all.new.self in
    let new = c.store_all-2.new.self in
    let first = c.store_all.ensures.entries ∙ ap (λ l. stored_entries (history_of c.args.self.now.entries) c.args.self.now.entries (map (λ b. slip (arc_value b)) l)) c.as_slice.ensures.value in
    let second = c.store_all-2.ensures.entries ∙ ap (λ l. stored_entries (history_of mid.entries) mid.entries (map (λ b. slip (arc_value b)) l)) c.as_slice-2.ensures.value in
    shed_told c.args.self.now new plan (entries_both c.args.self.now.entries mid.entries new.entries plan.finals plan.dead first second)
    (c.store_all-2.ensures.conflicts ∙ c.store_all.ensures.conflicts)
