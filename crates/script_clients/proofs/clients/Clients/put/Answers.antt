use Rattle.std.proofs.Common.{◌≡◌, ◌++◌, ◌∙◌, sym, ap, subst, List, [], ◌∷◌, Some, None}
use Rattle.std.proofs.Math.ListN.{set}
use Rattle.script_clients.specs.declared.named.Named.{Named}
use Rattle.script_clients.specs.Clients.{place_of, with_client}
use Rattle.script_clients.proofs.ClientFacts.{put_at, put_last}
use Rattle.script_clients.proofs.clients.Clients.put.Goals as goal

pub returns-in-Some-clause-ok : goal.returns-in-Some-clause-ok
returns-in-Some-clause-ok c =
    let name = c.args.name.now in
    let clients = c.self.inside.clients.items in
    let place_is = subst (λ (l : List Named). place_of name l ≡ Some c.in-Some.place) c.deref.ensures.value (sym c.place_of.ensures.place ∙ c.in-Some.is) in
    ap (λ (x : Named). set clients c.in-Some.place x) c.replace.ensures
    ∙ put_at name c.args.client clients c.in-Some.place c.index_mut.result.now place_is c.index_mut.ensures.value ∙ ap (with_client name c.args.client) c.self.view_is

pub returns-in_ok-push-in-None-clause-ok : goal.returns-in_ok-push-in-None-clause-ok
returns-in_ok-push-in-None-clause-ok c =
    let name = c.args.name.now in
    let clients = c.self.inside.clients.items in
    let place_is = subst (λ (l : List Named). place_of name l ≡ None) c.deref.ensures.value (sym c.place_of.ensures.place ∙ c.in-None.is) in
    c.in_ok-push-in-None.ensures.items
    ∙ ap (λ n. clients ++ record { name = n; client = c.args.client } ∷ []) c.in_ok-name-in-None.ensures
    ∙ put_last name c.args.client clients place_is ∙ ap (with_client name c.args.client) c.self.view_is
