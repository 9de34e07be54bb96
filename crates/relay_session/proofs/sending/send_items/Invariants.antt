use Rattle.std.proofs.Common.{◌≡◌, ◌≤◌, List, length}
use Rattle.block_record.specs.declared.blocks.Slip.{Slip}
use Rattle.relay_session.specs.Sending.{AreNext, GaveUpTo, MayBeGiven}
use Rattle.relay_session.proofs.sending.send_items.Given as goal

abbrev pub invariant-loop : goal.invariant-loop
invariant-loop g l = record {
  may : MayBeGiven l.session l.joined;
  gave : (newest : List Slip) → AreNext newest l.initial.session l.initial.joined → GaveUpTo newest l.initial.session l.session l.initial.joined l.joined l.initial.out.items l.out.items;
  files : g.S.Shelf.files l.shelf ≡ g.S.Shelf.files l.initial.shelf;
  staged : g.S.Shelf.staged l.shelf ≡ g.S.Shelf.staged l.initial.shelf;
  later : g.S.Shelf.shelf_faults l.initial.shelf ≤ g.S.Shelf.shelf_faults l.shelf;
}

abbrev pub decreases-loop : goal.decreases-loop
decreases-loop g l = length l.joined
