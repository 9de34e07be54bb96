use Rattle.std.proofs.Common.{rules, ◌≡◌, ◌∙◌, ap}
use Rattle.outer_world.proofs.public.NameOrder.{in_order-with_file}
use Rattle.memory_world.proofs.memory_shelf.MemoryShelfShelf.commit.Goals as goal

pub invariant_of-self : goal.invariant_of-self
invariant_of-self c = rw c.in-Ok.ensures.put (in_order-with_file c.in_ok-name.name c.replace-text.result c.self.inside.files.entries c.self.invariant)

pub returns-in-Ok-clause-put : goal.returns-in-Ok-clause-put
returns-in-Ok-clause-put c =
    let name : c.in_ok-name.name ≡ c.args.name.now = search rules in
    let text : c.replace-text.result ≡ c.args.self.now.staged = c.replace-text.ensures.value ∙ ap (λ v. v.staged) c.self.view_is in
    let files : c.self.inside.files.entries ≡ c.args.self.now.files = ap (λ v. v.files) c.self.view_is in
    cc c.in-Ok.ensures.put
