use Rattle.std.proofs.Common.{◌≡◌, ◌≤◌, take}
use Rattle.outer_world.specs.Shelves.{with_piece}
use Rattle.bundle_merger.specs.Containers.{blocks_of, messages_text}
use Rattle.bundle_merger.proofs.messages.stage_messages.Given as goal

abbrev pub invariant-loop-block : goal.invariant-loop-block
invariant-loop-block g l = record {
  staged : g.S.Shelf.staged l.shelf ≡ with_piece (g.S.Shelf.staged l.fn.shelf) (messages_text (blocks_of (take l.block-index l.blocks)));
  files : g.S.Shelf.files l.shelf ≡ g.S.Shelf.files l.fn.shelf;
  later : g.S.Shelf.shelf_faults l.fn.shelf ≤ g.S.Shelf.shelf_faults l.shelf;
}
