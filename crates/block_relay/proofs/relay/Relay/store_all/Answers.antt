use Rattle.std.proofs.Common.{◌≡◌, ◌∷◌, ◌++◌, ◌+◌, [], take, map, ap, sym, ◌∙◌}
use Rattle.std.specs.Arc.{arc_value}
use Rattle.std.proofs.lemmas.List.{map-append, take_more}
use Rattle.block_record.specs.declared.blocks.Slip.{Slip}
use Rattle.block_record.specs.Slips.{slip}
use Rattle.relay_model.specs.Chronicles.{history_of}
use Rattle.bundle_model.specs.Shedding.{place_in}
use Rattle.block_relay.specs.Chronicle.{entry_at, stored_entries}
use Rattle.block_relay.proofs.StoredFacts.{entries_next}
use Rattle.block_relay.proofs.relay.Relay.store_all.Goals as goal

pub loop-block-preserved : goal.loop-block-preserved
loop-block-preserved c =
    let es = c.args.self.now.entries in
    let now = c.loop-block.self.entries in
    let xs = c.args.blocks.now in
    let i = c.loop-block.block-index in
    let x = c.block-item.result in
    let more : take (i + 1) xs ≡ take i xs ++ x ∷ [] = take_more xs i x c.loop-block-test.true ∙ ap (λ y. take i xs ++ y ∷ []) (sym c.block-item.is) in
    let mapped = ap (map (λ b. slip (arc_value b))) more ∙ map-append (λ b. slip (arc_value b)) (take i xs) (x ∷ []) in
    let one = c.store_held.ensures.entries ∙ ap (λ (y : Slip). entry_at now (place_in (history_of now) y)) (c.of_block.ensures ∙ ap slip c.deref.ensures) in record {
      entries = entries_next es now c.store_held.new.self.entries (map (λ b. slip (arc_value b)) (take i xs)) (slip (arc_value x)) c.loop-block.invariant.entries one ∙ ap (stored_entries (history_of es) es) (sym mapped);
      conflicts = c.store_held.ensures.conflicts ∙ c.loop-block.invariant.conflicts;
    }
