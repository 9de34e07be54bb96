use Rattle.stored_blocks.proofs.IndexFacts.{grown}
use Rattle.stored_blocks.proofs.stored.StoredBlocks.grow.Goals as goal

pub add_blocks-requires-clause-begun : goal.add_blocks-requires-clause-begun
add_blocks-requires-clause-begun c = (grown c.args.self.now c.args.db.now c.requires c.len.ensures.sound c.len.ensures.agreed).begun

pub add_blocks-requires-clause-rest : goal.add_blocks-requires-clause-rest
add_blocks-requires-clause-rest c = (grown c.args.self.now c.args.db.now c.requires c.len.ensures.sound c.len.ensures.agreed).rest

pub add_blocks-requires-clause-room : goal.add_blocks-requires-clause-room
add_blocks-requires-clause-room c = (grown c.args.self.now c.args.db.now c.requires c.len.ensures.sound c.len.ensures.agreed).room
