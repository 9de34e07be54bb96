use Rattle.std.proofs.Common.{◌≡◌, OnOk, sym, subst}
use Rattle.script_text.specs.declared.script.Event.{Event}
use Rattle.plant_core.specs.Events.{Happens, after_end}
use Rattle.plant_core.specs.Moments.{IsSteady, moment, reader_of}
use Rattle.plant_core.proofs.EventFacts.{at_these, if_ok}
use Rattle.plant_core.proofs.PlantFacts.{steady_clients}
use Rattle.plant_core.proofs.plant.Plant.run_event.Goals as goal

pub returns-in-Death-clause-ok : goal.returns-in-Death-clause-ok
returns-in-Death-clause-ok g c =
    let files = g.S.Shelf.files c.args.shelf.now in
    let faults = g.S.Shelf.shelf_faults c.args.shelf.now in
    subst (λ (e : Event). OnOk c.end_run.result (Happens e (moment c.args.self.now files faults c.args.out.now.items) (moment c.end_run.new.self files faults c.end_run.new.out.items))) (sym c.in-Death.is)
    (at_these (λ f n. moment c.end_run.new.self f n c.end_run.new.out.items ≡ after_end (reader_of c.args.self.now.limits.line c.in-Death.reader c.args.self.now.readers) (moment c.args.self.now f n c.args.out.now.items))
    files faults c.end_run.result c.end_run.ensures.ok)

pub returns-in-Death-clause-own : goal.returns-in-Death-clause-own
returns-in-Death-clause-own g c = if_ok c.end_run.result (c.end_run.ensures.own (g.S.Shelf.files c.args.shelf.now) c.requires.own)

pub returns-in-Drop-clause-steady : goal.returns-in-Drop-clause-steady
returns-in-Drop-clause-steady g c =
    let inside = subst IsSteady (sym c.self.view_is) c.requires.steady in
    steady_clients _ c.remove.new.self (c.remove.ensures.served c.self.inside.relay inside.served) inside
