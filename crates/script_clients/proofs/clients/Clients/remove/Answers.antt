use Rattle.std.proofs.Common.{◌∙◌, sym, ap, subst, not, rules}
use Rattle.std.proofs.lemmas.Fn.{filter_same}
use Rattle.script_clients.specs.declared.named.Named.{Named}
use Rattle.script_clients.specs.Clients.{has_name, without_client}
use Rattle.script_clients.specs.Serving.{AllServed}
use Rattle.script_clients.proofs.ClientFacts.{served_without}
use Rattle.script_clients.proofs.clients.Clients.remove.Goals as goal

pub returns-clause-removed : goal.returns-clause-removed
returns-clause-removed c =
    filter_same _ (λ (x : Named). not (has_name c.args.name.now x)) _ (λ x b f k. search rules) _ _ c.retain.ensures.filtered
    ∙ ap (without_client c.args.name.now) c.self.view_is

pub returns-clause-served : goal.returns-clause-served
returns-clause-served c = λ t all. subst (AllServed t) (sym (returns-clause-removed c)) (served_without t c.args.name.now c.args.self.now all)
