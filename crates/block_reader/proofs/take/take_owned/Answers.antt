use Rattle.block_reader.specs.Changes.{shelved}
use Rattle.block_reader.proofs.TakeFacts.{answered_said, answered_placed, stored_refused, taken_own, taken_kept}
use Rattle.block_reader.proofs.take.take_owned.Goals as goal

pub returns-clause-said : goal.returns-clause-said
returns-clause-said g c =
    answered_said c.args.relay.now c.take_block-taken.new.relay c.args.kind.now c.args.block c.args.name.now
    (shelved (g.S.Shelf.files c.args.shelf.now) c.args.own.now) (shelved (g.S.Shelf.files c.take_block-taken.new.shelf) c.take_block-taken.new.own)
    (g.S.Shelf.shelf_faults c.args.shelf.now) (g.S.Shelf.shelf_faults c.take_block-taken.new.shelf) c.take_block-taken.result c.take_block-taken.ensures.taken

pub returns-clause-placed : goal.returns-clause-placed
returns-clause-placed g c =
    answered_placed c.args.relay.now c.take_block-taken.new.relay c.args.kind.now c.args.block c.args.name.now
    (shelved (g.S.Shelf.files c.args.shelf.now) c.args.own.now) (shelved (g.S.Shelf.files c.take_block-taken.new.shelf) c.take_block-taken.new.own)
    (g.S.Shelf.shelf_faults c.args.shelf.now) (g.S.Shelf.shelf_faults c.take_block-taken.new.shelf) c.take_block-taken.result c.take_block-taken.ensures.taken

pub returns-clause-store : goal.returns-clause-store
returns-clause-store g c =
    stored_refused c.args.relay.now c.take_block-taken.new.relay c.args.kind.now c.args.block c.args.name.now
    (shelved (g.S.Shelf.files c.args.shelf.now) c.args.own.now) (shelved (g.S.Shelf.files c.take_block-taken.new.shelf) c.take_block-taken.new.own)
    (g.S.Shelf.shelf_faults c.args.shelf.now) (g.S.Shelf.shelf_faults c.take_block-taken.new.shelf) c.take_block-taken.result c.take_block-taken.ensures.taken

pub returns-clause-own : goal.returns-clause-own
returns-clause-own g c =
    taken_own c.args.relay.now c.take_block-taken.new.relay c.args.kind.now c.args.block c.args.name.now c.show_file.ensures.reader c.show_file.ensures.holds
    (shelved (g.S.Shelf.files c.args.shelf.now) c.args.own.now) (shelved (g.S.Shelf.files c.take_block-taken.new.shelf) c.take_block-taken.new.own)
    (g.S.Shelf.shelf_faults c.args.shelf.now) (g.S.Shelf.shelf_faults c.take_block-taken.new.shelf) c.take_block-taken.result c.take_block-taken.ensures.taken c.requires.own

pub returns-clause-kept : goal.returns-clause-kept
returns-clause-kept g c =
    taken_kept c.args.relay.now c.take_block-taken.new.relay c.args.kind.now c.args.block c.args.name.now c.show_file.ensures.reader c.show_file.ensures.holds
    c.len.ensures.sound c.len-3.ensures.sound
    (shelved (g.S.Shelf.files c.args.shelf.now) c.args.own.now) (shelved (g.S.Shelf.files c.take_block-taken.new.shelf) c.take_block-taken.new.own)
    (g.S.Shelf.shelf_faults c.args.shelf.now) (g.S.Shelf.shelf_faults c.take_block-taken.new.shelf) c.take_block-taken.result c.take_block-taken.ensures.taken c.len-2.ensures c.requires.own
