use Rattle.std.proofs.Common.{◌≡◌, take, map}
use Rattle.std.specs.Arc.{arc_value}
use Rattle.block_record.specs.Slips.{slip as slip_of_block}
use Rattle.relay_model.specs.Chronicles.{history_of}
use Rattle.block_relay.specs.Chronicle.{stored_entries}
use Rattle.block_relay.proofs.relay.Relay.store_all.Given as goal

abbrev pub invariant-loop-block : goal.invariant-loop-block
invariant-loop-block l = record {
  entries : l.self.entries ≡ stored_entries (history_of l.fn.self.entries) l.fn.self.entries (map (λ b. slip_of_block (arc_value b)) (take l.block-index l.blocks));
  conflicts : l.self.conflicts ≡ l.fn.self.conflicts;
}
