use Rattle.block_relay.specs.Chronicle.{world_told}
use Rattle.block_reader.specs.Changes.{shelved}
use Rattle.block_reader.proofs.ChangeFacts.{on_err, first_stopped, second_stopped, both_done}
use Rattle.block_reader.proofs.sweeps.sweep_oldest.Goals as goal

pub returns-in_err-next-clause-stopped : goal.returns-in_err-next-clause-stopped
returns-in_err-next-clause-stopped g c =
    on_err c.from_residual.result
    (first_stopped (world_told c.args.relay.now) (g.S.Shelf.files c.args.shelf.now) c.args.own.now (shelved (g.S.Shelf.files c.sweep_at.new.shelf) c.sweep_at.new.own) c.len.ensures c.in_err-next.ensures.stopped)

pub returns-in_err-sweep_at-clause-stopped : goal.returns-in_err-sweep_at-clause-stopped
returns-in_err-sweep_at-clause-stopped g c =
    on_err c.from_residual-in_err-sweep_at.result
    (second_stopped (world_told c.args.relay.now) (g.S.Shelf.files c.args.shelf.now) c.args.own.now (shelved (g.S.Shelf.files c.sweep_at.new.shelf) c.sweep_at.new.own) (shelved (g.S.Shelf.files c.sweep_at-2.new.shelf) c.sweep_at-2.new.own)
    c.in_ok-next.next c.len.ensures c.in_ok-next.ensures.done c.in_ok-next.ensures.next c.in_err-sweep_at.ensures.stopped)

pub returns-clause-done : goal.returns-clause-done
returns-clause-done g c =
    both_done (world_told c.args.relay.now) (g.S.Shelf.files c.args.shelf.now) c.args.own.now (shelved (g.S.Shelf.files c.sweep_at.new.shelf) c.sweep_at.new.own) (shelved (g.S.Shelf.files c.sweep_at-2.new.shelf) c.sweep_at-2.new.own)
    c.in_ok-next.next c.len.ensures c.in_ok-next.ensures.done c.in_ok-next.ensures.next c.in_ok-sweep_at.ensures.done
