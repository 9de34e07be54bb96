use Rattle.std.proofs.Common.{◌≡◌, ◌≤◌}
use Rattle.std.specs.List.{All, Contains}
use Rattle.std.specs.BinaryHeap.{heap_items, heap_len, heap_capacity, IsHeap}
use Rattle.fork_db.specs.declared.heads.Rival.{Rival as RivalOf}
use Rattle.fork_db.specs.Heads.{IsRivalOf, HoldsTipAt, rival_cmp}
use Rattle.fork_db.proofs.heads.take_best.Given as goal

abbrev pub invariant-loop-rival : goal.invariant-loop-rival
invariant-loop-rival l =
    IsHeap rival_cmp (heap_items l.rivals)
    × All (IsRivalOf l.tree.history) (heap_items l.rivals)
    × (heap_len l.rivals ≤ heap_len l.initial.rivals)
    × (heap_capacity l.rivals ≡ heap_capacity l.initial.rivals)
    × ((r : RivalOf) → Contains (heap_items l.initial.rivals) r → HoldsTipAt l.tree.history r.place.0 → Contains (heap_items l.rivals) r)

abbrev pub decreases-loop-rival : goal.decreases-loop-rival
decreases-loop-rival l = heap_len l.rivals
