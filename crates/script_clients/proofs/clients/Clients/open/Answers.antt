use Rattle.std.proofs.Common.{sym, subst, Some, None}
use Rattle.relay_session.proofs.public.Growing.{service_begins}
use Rattle.script_clients.specs.Serving.{AllServed}
use Rattle.script_clients.proofs.ClientFacts.{served_if, served_with}
use Rattle.script_clients.proofs.clients.Clients.open.Goals as goal

pub returns-in_ok-put-in-Ok-clause-served : goal.returns-in_ok-put-in-Ok-clause-served
returns-in_ok-put-in-Ok-clause-served c = λ t run all.
    subst (AllServed t) (sym c.in_ok-put-in-Ok.ensures.ok)
    (served_with t c.args.name.now (Some c.new-client.result) c.args.self.now
    (service_begins t c.new-client.result c.in-Ok.request c.args.run c.new-client.ensures.new c.new-client.ensures.sent run) all)

pub returns-in-Err-Refused-clause-served : goal.returns-in-Err-Refused-clause-served
returns-in-Err-Refused-clause-served c = λ t run all.
    served_if t c.args.name.now None c.args.self.now c.refuse.new.self c.refuse.result c.refuse.ensures.ok c.refuse.ensures.same tt all
