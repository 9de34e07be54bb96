use Rattle.std.proofs.Common.{length, refl, ◌<◌}
use Rattle.chain_model.specs.Finality.{ancestry_of}
use Rattle.block_tree.specs.Places.{slip_at}
use Rattle.fork_db.proofs.StepFacts.{is_some_of, path_range, path_there}
use Rattle.fork_db.proofs.chunks.block_at.Goals as goal

pub up-requires : goal.up-requires
up-requires c = record { range = path_range c.args.tree.now.history c.unwrap-at.result c.args.depth (rw c.unwrap-at.ensures at c.requires) }

pub unwrap-requires : goal.unwrap-requires
unwrap-requires c =
    let deep : c.args.depth < length (ancestry_of c.args.tree.now.history (slip_at c.args.tree.now.history c.unwrap-at.result)) = rw c.unwrap-at.ensures at c.requires in
    is_some_of c.args.tree.now.history c.up.result (ancestry_of c.args.tree.now.history (slip_at c.args.tree.now.history c.unwrap-at.result)) c.args.depth
    (path_there c.args.tree.now.history c.unwrap-at.result c.args.depth c.up.result _ c.up.ensures.value refl deep) deep
