use Rattle.std.proofs.Common.{◌≡◌, ◌+◌, drop, map, sym, subst}
use Rattle.std.specs.Arc.{arc_value}
use Rattle.std.specs.Option.{option_map}
use Rattle.block_record.specs.Slips.{slip}
use Rattle.bundle_model.specs.Bundles.{finals_up}
use Rattle.stored_blocks.specs.BundlePlans.{open_until}
use Rattle.stored_blocks.specs.Stored.{is_given_up}
use Rattle.stored_blocks.proofs.PlanFacts.{fresh_broken, fresh_whole, size_some}
use Rattle.stored_blocks.proofs.stored.StoredBlocks.whole_plan.Goals as goal

pub returns-in_default-2 : goal.returns-in_default-2
returns-in_default-2 c =
    let f = c.args.db.now in
    let i = c.args.self.now in
    let none = subst (λ o. option_map (λ blocks. map (λ b. slip (arc_value b)) blocks.items) o ≡ open_until (is_given_up f) (c.in-Some.base + c.args.size) (drop i.front (finals_up f.history))) c.in_default-2.is c.in_ok-finals.ensures in
    sym (fresh_broken c.args.size f i c.in-Some.base (size_some c.args.size c.requires.size) c.len.ensures.sound c.requires.index c.in-Some.ensures.some (sym none))

pub returns : goal.returns
returns c =
    let f = c.args.db.now in
    let i = c.args.self.now in
    let is = subst (λ o. option_map (λ blocks. map (λ b. slip (arc_value b)) blocks.items) o ≡ open_until (is_given_up f) (c.in-Some.base + c.args.size) (drop i.front (finals_up f.history))) c.in-Some-2.is c.in_ok-finals.ensures in
    fresh_whole c.args.size f i c.in-Some.base _ _ (size_some c.args.size c.requires.size) c.len.ensures.sound c.requires.index c.in-Some.ensures.some is c.in_ok-dead.ensures
