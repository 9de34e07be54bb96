use Rattle.std.proofs.Common.{◌≡◌, ◌++◌, ℕ, subst, List, IfErr, OnOk}
use Rattle.script_clients.specs.Looking.{IsTold, look_lines}
use Rattle.script_clients.specs.Serving.{ServesIfAny}
use Rattle.script_clients.proofs.LookFacts.{IsAt, all_on, event_of, found_served, gone_err, gone_ok, gone_one, in_service, looked_err, looked_ok}
use Rattle.script_clients.proofs.clients.Clients.look_at.Goals as goal

pub returns-in_default-clause-ok : goal.returns-in_default-clause-ok
returns-in_default-clause-ok g c =
    let one = c.index_mut.result.now in
    gone_ok c.args.relay.now c.args.most c.args.name.now c.args.self.now _ c.args.out.now.items c.push_gone.new.out.items c.push_gone.result
    (gone_one c.args.name.now c.args.self.now c.self.inside.clients.items c.args.place one
    (record { same = c.self.view_is; place_is = c.requires.place; one_is = c.index_mut.ensures.value }) c.in_default.is) c.push_gone.ensures.ok

pub returns-in_default-clause-err : goal.returns-in_default-clause-err
returns-in_default-clause-err g c =
    let one = c.index_mut.result.now in
    gone_err c.args.relay.now c.args.most c.args.name.now (g.S.Shelf.files c.args.shelf.now) (g.S.Shelf.shelf_faults c.args.shelf.now) (g.S.Shelf.shelf_faults c.args.shelf.now)
    c.args.self.now _ c.args.out.now.items c.push_gone.new.out.items c.push_gone.result
    (gone_one c.args.name.now c.args.self.now c.self.inside.clients.items c.args.place one
    (record { same = c.self.view_is; place_is = c.requires.place; one_is = c.index_mut.ensures.value }) c.in_default.is) c.push_gone.ensures.err c.push_gone.ensures.mem

pub returns-clause-served : goal.returns-clause-served
returns-clause-served g c =
    let one = c.index_mut.result.now in
    let looked = c.look-looked.ensures in
    let event = event_of c.args.relay.now c.args.most (g.S.Shelf.files c.args.shelf.now) (g.S.Shelf.shelf_faults c.args.shelf.now) (g.S.Shelf.shelf_faults c.look-looked.new.shelf)
    c.in-Some.client c.look-looked.new.self c.look-looked.result c.clear.new.self.items c.look-looked.new.out.items c.clear.ensures.items
    looked.told looked.turn looked.still looked.stopped looked.refused in
    let at : IsAt c.args.name.now c.args.self.now c.self.inside.clients.items c.args.place one =
    record { same = c.self.view_is; place_is = c.requires.place; one_is = c.index_mut.ensures.value } in
    all_on c.args.relay.now c.args.name.now c.args.self.now c.self.inside.clients.items c.args.place one c.look-looked.new.self at
    (in_service c.args.relay.now c.args.most _ _ _ c.in-Some.client c.look-looked.new.self c.look-looked.result c.look-looked.new.out.items event c.know_sound.ensures
    (subst (ServesIfAny c.args.relay.now) c.in-Some.is
    (found_served c.args.relay.now c.args.name.now c.args.self.now c.self.inside.clients.items c.args.place one at c.requires.within c.requires.served)))
    c.requires.served

pub returns-clause-ok : goal.returns-clause-ok
returns-clause-ok g c =
    let one = c.index_mut.result.now in
    let looked = c.look-looked.ensures in
    let event = event_of c.args.relay.now c.args.most (g.S.Shelf.files c.args.shelf.now) (g.S.Shelf.shelf_faults c.args.shelf.now) (g.S.Shelf.shelf_faults c.look-looked.new.shelf)
    c.in-Some.client c.look-looked.new.self c.look-looked.result c.clear.new.self.items c.look-looked.new.out.items c.clear.ensures.items
    looked.told looked.turn looked.still looked.stopped looked.refused in
    let at : IsAt c.args.name.now c.args.self.now c.self.inside.clients.items c.args.place one =
    record { same = c.self.view_is; place_is = c.requires.place; one_is = c.index_mut.ensures.value } in
    looked_ok c.args.relay.now c.args.most c.args.name.now _ _ _ c.in-Some.client c.look-looked.new.self c.look-looked.result c.look-looked.new.out.items
    c.args.out.now.items c.push_look.new.out.items c.args.self.now c.self.inside.clients.items c.args.place one c.push_look.result event at c.in-Some.is
    c.push_look.ensures.ok
    (subst (λ (l : List ℕ). OnOk c.push_look.result (c.push_look.new.out.items ≡ c.args.out.now.items ++ look_lines c.args.name.now l c.look-looked.result)) c.deref.ensures.value c.push_look.ensures.told)

pub returns-clause-err : goal.returns-clause-err
returns-clause-err g c =
    let one = c.index_mut.result.now in
    let looked = c.look-looked.ensures in
    let event = event_of c.args.relay.now c.args.most (g.S.Shelf.files c.args.shelf.now) (g.S.Shelf.shelf_faults c.args.shelf.now) (g.S.Shelf.shelf_faults c.look-looked.new.shelf)
    c.in-Some.client c.look-looked.new.self c.look-looked.result c.clear.new.self.items c.look-looked.new.out.items c.clear.ensures.items
    looked.told looked.turn looked.still looked.stopped looked.refused in
    let at : IsAt c.args.name.now c.args.self.now c.self.inside.clients.items c.args.place one =
    record { same = c.self.view_is; place_is = c.requires.place; one_is = c.index_mut.ensures.value } in
    looked_err c.args.relay.now c.args.most c.args.name.now _ _ _ c.in-Some.client c.look-looked.new.self c.look-looked.result c.look-looked.new.out.items
    c.args.out.now.items c.push_look.new.out.items c.args.self.now c.self.inside.clients.items c.args.place one c.push_look.result event at c.in-Some.is
    (subst (λ (l : List ℕ). IfErr c.push_look.result (λ fault. IsTold c.args.name.now l c.look-looked.result fault c.args.out.now.items c.push_look.new.out.items)) c.deref.ensures.value c.push_look.ensures.err)
