use Rattle.std.proofs.Common.{ℕ, ◌≡◌, ◌++◌, ◌-◌, ◌≤◌, List, Option, drop, length, map, max, take}
use Rattle.std.specs.List.{AllByRecursion}
use Rattle.block_record.specs.declared.blocks.Slip.{Slip}
use Rattle.chain_model.specs.declared.places.Mode.{Mode}
use Rattle.chain_model.specs.Places.{steps_to}
use Rattle.fork_db.specs.Batches.{HasOwnBlock, HoldsWhatIs, IsGiven, item_seen}
use Rattle.fork_db.proofs.db.ForkDb.push_range.Given as goal

abbrev pub invariant-loop-index : goal.invariant-loop-index
invariant-loop-index l = record {
  told : (older : List Slip) (mode : Mode) (stop : Option ℕ) → IsGiven l.self.history older mode stop l.batch
      → map item_seen l.out.items ≡ map item_seen l.fn.out.items ++ take (l.index - l.from) (drop l.from (steps_to older l.batch.place mode stop));
  kept : take (length l.fn.out.items) l.out.items ≡ l.fn.out.items;
  within : l.index ≤ max l.from l.end;
  more : length l.fn.out.items ≤ length l.out.items;
  holds : AllByRecursion (HoldsWhatIs l.self.history l.self.held) (drop (length l.fn.out.items) l.out.items);
  own : AllByRecursion HasOwnBlock (drop (length l.fn.out.items) l.out.items);
}
