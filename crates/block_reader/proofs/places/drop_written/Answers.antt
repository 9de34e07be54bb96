use Rattle.block_reader.specs.Changes.{shelved}
use Rattle.block_reader.proofs.ChangeFacts.{written_stopped}
use Rattle.block_reader.proofs.places.drop_written.Goals as goal

pub returns-in-Written-clause-stopped : goal.returns-in-Written-clause-stopped
returns-in-Written-clause-stopped g c =
    written_stopped c.args.put c.args.name.now (shelved (g.S.Shelf.files c.args.shelf.now) c.args.own.now) (shelved (g.S.Shelf.files c.drop_file.new.shelf) c.drop_file.new.own) c.drop_file.result c.in-Written.is c.drop_file.ensures.tried
