use Rattle.script_text.specs.Scripts.{script_seen}
use Rattle.plant_core.proofs.ReplayFacts.{loaded_err, unloaded_err, unloaded_ok}
use Rattle.plant_core.proofs.run.replay.Goals as goal

pub returns-in-Ok-clause-err : goal.returns-in-Ok-clause-err
returns-in-Ok-clause-err g c =
    loaded_err (script_seen c.args.script.now) (g.S.Shelf.files c.args.shelf.now) (g.S.Shelf.files c.load.new.shelf) (g.S.Shelf.files c.run_loaded.new.shelf)
    (g.S.Shelf.shelf_faults c.args.shelf.now) (g.S.Shelf.shelf_faults c.load.new.shelf) (g.S.Shelf.shelf_faults c.run_loaded.new.shelf)
    c.args.out.now.items c.run_loaded.new.out.items c.in_ok-relay.relay c.load.new.relay c.in-Ok.loaded c.run_loaded.result
    c.in_ok-relay.ensures c.in-Ok.ensures.files c.in-Ok.ensures.answer c.run_loaded.ensures.err

pub returns-in-Err-clause-ok : goal.returns-in-Err-clause-ok
returns-in-Err-clause-ok g c =
    unloaded_ok (script_seen c.args.script.now) (g.S.Shelf.files c.args.shelf.now) (g.S.Shelf.files c.load.new.shelf)
    (g.S.Shelf.shelf_faults c.args.shelf.now) (g.S.Shelf.shelf_faults c.load.new.shelf)
    c.args.out.now.items c.tell_unloaded.new.out.items c.in_ok-relay.relay c.load.new.relay c.in-Err.refused c.tell_unloaded.result
    c.in_ok-relay.ensures c.in-Err.ensures.files c.in-Err.ensures.answer c.tell_unloaded.ensures.ok

pub returns-in-Err-clause-err : goal.returns-in-Err-clause-err
returns-in-Err-clause-err g c =
    unloaded_err (script_seen c.args.script.now) (g.S.Shelf.files c.args.shelf.now) (g.S.Shelf.files c.load.new.shelf)
    (g.S.Shelf.shelf_faults c.args.shelf.now) (g.S.Shelf.shelf_faults c.load.new.shelf)
    c.args.out.now.items c.tell_unloaded.new.out.items c.in_ok-relay.relay c.load.new.relay c.in-Err.refused c.tell_unloaded.result
    c.in_ok-relay.ensures c.in-Err.ensures.files c.in-Err.ensures.answer c.tell_unloaded.ensures.err
