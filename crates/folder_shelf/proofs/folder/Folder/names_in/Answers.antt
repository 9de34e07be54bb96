use Rattle.std.proofs.Common.{rules, ◌≡◌, sym, subst, ap, List, [], ◌∷◌, ◌++◌, ℕ}
use Rattle.std.specs.Prelude.{IsTrue}
use Rattle.std.specs.List.{All}
use Rattle.std.proofs.lemmas.List.Elements.{All-push}
use Rattle.outer_world.specs.Files.{is_in}
use Rattle.folder_shelf.proofs.folder.Folder.names_in.Goals as goal
use Rattle.folder_shelf.proofs.folder.Folder.names_in.Goals.{then-branch+in_ok-whole_name+in_ok-push, else-branch}

pub loop-entry-preserved : goal.loop-entry-preserved
loop-entry-preserved g c =
    let P : List ℕ → Type 0 = λ name. IsTrue (is_in c.args.folder.now name) in
    elim c.if-branch.branch [
      | then-branch+in_ok-whole_name+in_ok-push w ↦
          let grown : c.if-branch.names.items ≡ c.loop-entry.names.items ++ w.in_ok-whole_name.field-0 ∷ [] = search rules in
          subst (All P) (sym grown) (All-push P c.loop-entry.names.items w.in_ok-whole_name.field-0 c.loop-entry.invariant w.in_ok-whole_name.ensures.inside)
      | else-branch w ↦ subst (All P) (ap (λ names. names.items) (sym w.names-is)) c.loop-entry.invariant
    ]
