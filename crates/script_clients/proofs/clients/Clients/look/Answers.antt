use Rattle.std.proofs.Common.{◌≡◌, ◌∙◌, sym, subst, List, None}
use Rattle.script_clients.specs.declared.named.Named.{Named}
use Rattle.script_clients.specs.Clients.{place_of}
use Rattle.script_clients.proofs.LookFacts.{gone_err, gone_nowhere, gone_ok}
use Rattle.script_clients.proofs.clients.Clients.look.Goals as goal

pub returns-in-None-clause-ok : goal.returns-in-None-clause-ok
returns-in-None-clause-ok g c =
    let name = c.args.name.now in
    let place_is = subst (λ (l : List Named). place_of name l ≡ None) (c.deref.ensures.value ∙ c.self.view_is) (sym c.place_of.ensures.place ∙ c.in-None.is) in
    gone_ok c.args.relay.now c.args.most name c.args.self.now c.args.self.now c.args.out.now.items c.push_gone.new.out.items c.push_gone.result
    (gone_nowhere name c.args.self.now place_is) c.push_gone.ensures.ok

pub returns-in-None-clause-err : goal.returns-in-None-clause-err
returns-in-None-clause-err g c =
    let name = c.args.name.now in
    let place_is = subst (λ (l : List Named). place_of name l ≡ None) (c.deref.ensures.value ∙ c.self.view_is) (sym c.place_of.ensures.place ∙ c.in-None.is) in
    gone_err c.args.relay.now c.args.most name (g.S.Shelf.files c.args.shelf.now) (g.S.Shelf.shelf_faults c.args.shelf.now) (g.S.Shelf.shelf_faults c.args.shelf.now)
    c.args.self.now c.args.self.now c.args.out.now.items c.push_gone.new.out.items c.push_gone.result
    (gone_nowhere name c.args.self.now place_is) c.push_gone.ensures.err c.push_gone.ensures.mem
