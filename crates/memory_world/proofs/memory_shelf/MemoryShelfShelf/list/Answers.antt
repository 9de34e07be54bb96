use Rattle.std.proofs.Common.{◌≡◌, ◌∙◌, ap}
use Rattle.outer_world.specs.Files.{AreInOrder, names_in, names_of}
use Rattle.memory_world.proofs.MapFacts.{names_are}
use Rattle.memory_world.proofs.memory_shelf.MemoryShelfShelf.list.Goals as goal

pub returns-clause-names : goal.returns-clause-names
returns-clause-names c =
    let files : c.self.inside.files.entries ≡ c.args.self.now.files = ap (λ v. v.files) c.self.view_is in
    let names : c.in_ok-names.names.items ≡ names_in c.args.folder.now c.args.self.now.files = c.in_ok-names.ensures ∙ ap (names_in c.args.folder.now) (files) in
    let sorted : AreInOrder (names_of c.args.self.now.files) = rw files at c.self.invariant in
    (c.in_ok-names.names.items, c.in_ok-append.ensures.items, names_are c.args.self.now.files c.args.folder.now c.in_ok-names.names.items names sorted)
