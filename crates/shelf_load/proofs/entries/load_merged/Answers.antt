use Rattle.std.proofs.Common.{◌≡◌, ◌++◌, ℕ, List, Option, ap, subst, sym, ◌∙◌}
use Rattle.std.specs.List.{All, AllByRecursion}
use Rattle.std.proofs.Math.Nat.{le_refl}
use Rattle.std.proofs.lemmas.Result.{err_from_is_err_and}
use Rattle.block_relay.specs.Chronicle.{world_told}
use Rattle.outer_world.specs.Files.{Files}
use Rattle.outer_world.specs.Shelves.{AreNamesOf}
use Rattle.one_block.specs.Files.{folder_of_size}
use Rattle.shelf_load.specs.Loading.{TakenFile, IsPart}
use Rattle.shelf_load.specs.Merging.{HasBase, IsBadMerged}
use Rattle.shelf_load.specs.Taking.{stage}
use Rattle.shelf_load.proofs.LoadedFacts.{shelf_refused}
use Rattle.shelf_load.proofs.FilesFacts.{based, folder_refused, folder_loaded, other_name}
use Rattle.shelf_load.proofs.entries.load_merged.Goals as goal

pub returns-in_err-list-clause-answer : goal.returns-in_err-list-clause-answer
returns-in_err-list-clause-answer g c =
    let p = err_from_is_err_and c.from_residual.result c.from_residual.ensures.1 in
    rw (p.1, p.2)
    (λ w older l parts. shelf_refused (IsBadMerged c.args.size (g.S.Shelf.files c.args.shelf.now) w older) (g.S.Shelf.files c.args.shelf.now) w (g.S.Shelf.shelf_faults c.args.shelf.now) (g.S.Shelf.shelf_faults c.args.shelf.now) (g.S.Shelf.shelf_faults c.list.new.self)
    c.in_err-list.field-0.0 (le_refl (g.S.Shelf.shelf_faults c.args.shelf.now)) c.in_err-list.ensures.cause.failed)

pub returns-in_err-entries-clause-answer : goal.returns-in_err-entries-clause-answer
returns-in_err-entries-clause-answer g c =
    let p = err_from_is_err_and c.from_residual-in_err-entries.result c.from_residual-in_err-entries.ensures.1 in
    let n = c.in_ok-list.ensures.names in
    let F : List ℕ → Type 0 = λ f. AreNamesOf (g.S.Shelf.files c.args.shelf.now) f n.0 in
    rw (p.1, p.2)
    (λ w older l parts. other_name c.args.size (g.S.Shelf.files c.args.shelf.now) n.0 c.as_slice.result.now w older (subst F c.merged_folder.ensures n.2) (c.as_slice.ensures.value ∙ n.1 ∙ ap (λ (x : List (List ℕ)). x ++ n.0) c.new-names.ensures.items)
    (g.S.Shelf.shelf_faults c.args.shelf.now) (g.S.Shelf.shelf_faults c.list.new.self) c.in_err-entries.field-0.0 c.in_err-entries.ensures)

pub returns-in_err-load_entries-clause-answer : goal.returns-in_err-load_entries-clause-answer
returns-in_err-load_entries-clause-answer g c =
    let p = err_from_is_err_and c.from_residual-in_err-load_entries.result c.from_residual-in_err-load_entries.ensures.1 in
    let n = c.in_ok-list.ensures.names in
    let F : List ℕ → Type 0 = λ f. AreNamesOf (g.S.Shelf.files c.args.shelf.now) f n.0 in
    let listed : AreNamesOf (g.S.Shelf.files c.args.shelf.now) (folder_of_size c.args.size) n.0 = subst F c.merged_folder.ensures n.2 in
    let shown : c.as_slice.result.now ≡ n.0 = c.as_slice.ensures.value ∙ n.1 ∙ ap (λ (x : List (List ℕ)). x ++ n.0) c.new-names.ensures.items in
    let all : All (HasBase c.args.size) c.as_slice-2.result.now =
    based c.args.size (g.S.Shelf.files c.args.shelf.now) n.0 c.as_slice.result.now c.in_ok-entries.entries.items c.sort_unstable.new.self.items c.as_slice-2.result.now listed shown c.in_ok-entries.ensures c.sort_unstable.ensures.permutation
    c.sort_unstable.ensures.sorted c.as_slice-2.ensures.value in
    let P : List TakenFile → Option Files → Type 0 = λ older fs. AllByRecursion (IsPart fs) older in
    rw (p.1, p.2)
    (λ w older l parts. folder_refused c.args.size (g.S.Shelf.files c.args.shelf.now) n.0 c.as_slice.result.now c.in_ok-entries.entries.items c.sort_unstable.new.self.items c.as_slice-2.result.now listed shown c.in_ok-entries.ensures
    c.sort_unstable.ensures.permutation c.sort_unstable.ensures.sorted c.as_slice-2.ensures.value (g.S.Shelf.files c.list.new.self) w older (stage (world_told c.load_entries.new.relay) c.load_entries.new.left) (g.S.Shelf.shelf_faults c.args.shelf.now)
    (g.S.Shelf.shelf_faults c.list.new.self) (g.S.Shelf.shelf_faults c.load_entries.new.shelf) c.in_err-load_entries.field-0.0 c.in_ok-list.ensures.files c.in_ok-list.ensures.cause.later
    (c.in_err-load_entries.ensures.answer c.args.size w older all l (subst (P older) (sym c.in_ok-list.ensures.files) parts)))

pub returns-clause-answer : goal.returns-clause-answer
returns-clause-answer g c =
    let n = c.in_ok-list.ensures.names in
    let F : List ℕ → Type 0 = λ f. AreNamesOf (g.S.Shelf.files c.args.shelf.now) f n.0 in
    let listed : AreNamesOf (g.S.Shelf.files c.args.shelf.now) (folder_of_size c.args.size) n.0 = subst F c.merged_folder.ensures n.2 in
    let shown : c.as_slice.result.now ≡ n.0 = c.as_slice.ensures.value ∙ n.1 ∙ ap (λ (x : List (List ℕ)). x ++ n.0) c.new-names.ensures.items in
    let all : All (HasBase c.args.size) c.as_slice-2.result.now =
    based c.args.size (g.S.Shelf.files c.args.shelf.now) n.0 c.as_slice.result.now c.in_ok-entries.entries.items c.sort_unstable.new.self.items c.as_slice-2.result.now listed shown c.in_ok-entries.ensures c.sort_unstable.ensures.permutation
    c.sort_unstable.ensures.sorted c.as_slice-2.ensures.value in
    let P : List TakenFile → Option Files → Type 0 = λ older fs. AllByRecursion (IsPart fs) older in
    λ w older l parts. folder_loaded c.args.size (g.S.Shelf.files c.args.shelf.now) n.0 c.as_slice.result.now c.in_ok-entries.entries.items c.sort_unstable.new.self.items c.as_slice-2.result.now listed shown c.in_ok-entries.ensures
    c.sort_unstable.ensures.permutation c.sort_unstable.ensures.sorted c.as_slice-2.ensures.value (g.S.Shelf.files c.list.new.self) w older (stage (world_told c.load_entries.new.relay) c.load_entries.new.left) c.in_ok-list.ensures.files
    (c.in_ok-load_entries.ensures.answer c.args.size w older all l (subst (P older) (sym c.in_ok-list.ensures.files) parts))
