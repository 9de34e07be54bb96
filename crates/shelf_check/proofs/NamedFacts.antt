-- A file that is refused has the name of the layout, a name that the shelf listed, or one of a file of merged blocks.
use Rattle.std.proofs.Common.{arith, ◌≡◌, ◌⊎◌, ℕ, suc, List, [], ◌∷◌, ◌++◌, map, Option, Some, Result, Ok, Err, IfErr, inl, inr, sym, ap, subst, ◌∙◌}
use Rattle.std.specs.Prelude.{All}
use Rattle.std.proofs.lemmas.List.Elements.{All-nil, All-cons}
use Rattle.std.proofs.lemmas.List.Sorted.{All-permutation}
use Rattle.outer_world.specs.Files.{Files}
use Rattle.one_block.specs.Files.{base_in, folder_of_size}
use Rattle.one_block.specs.declared.faults.StoreFault.TheVariants as store
use Rattle.one_block.specs.declared.file_faults.FileFault.{FileFault}
use Rattle.one_block.specs.declared.file_faults.FileFault.TheVariants.{Bad}
use Rattle.one_block.specs.declared.forms.Folder.{Folder}
use Rattle.one_block.specs.declared.forms.Folder.TheVariants.{One, Forked}
use Rattle.shelf_check.specs.declared.check.Report.{Report}
use Rattle.shelf_check.specs.declared.faults.LoadFault.{LoadFault}
use Rattle.shelf_check.specs.declared.faults.LoadFault.TheVariants.{Store, KindClash, HistoryFull}
use Rattle.shelf_check.specs.Folders.{folder_text, names_of}
use Rattle.shelf_check.specs.Folders.{IsFirstIn as IsFirstInFolder}
use Rattle.shelf_check.specs.Merged.{Entry, IsOtherName, IsFirstBased, entries_of}
use Rattle.shelf_check.specs.Merged.{IsFirstIn as IsFirstInMerged}
use Rattle.shelf_check.specs.Refusals.{Refused}
use Rattle.shelf_check.specs.Shelf.{IsFirstFault, CheckAnswers, IsKnownName, IsKnownRefusal}

abbrev HasBase : ℕ → Entry → Type 0
HasBase size e = base_in size e.1 ≡ Some e.0

all_based : (size : ℕ) (entries : List Entry) → map (base_in size) (map (λ e. e.1) entries) ≡ map (λ e. Some e.0) entries → All (HasBase size) entries
all_based size [] e = All-nil (HasBase size)
all_based size (x ∷ xs) e = All-cons (HasBase size) x xs (cc e) (all_based size xs (cc e))

within : {X : Type 0} (P : X → Type 0) (front : List X) (x : X) (more : List X) → All P (front ++ x ∷ more) → P x
within P [] x more all = all 0 x (omega arith)
within P (y ∷ front) x more all = within P front x more (λ k d less. all (suc k) d (omega (arith, less)))

in_merged : (size : ℕ) (files : Option Files) (name : List ℕ) (fault : FileFault) → IsFirstInMerged size files name fault → IsKnownName files name
in_merged size files name fault first = by_cause first.first
  where
    by_cause : IsOtherName size first.names name fault ⊎ IsFirstBased size files first.names name fault → IsKnownName files name
    by_cause (inl o) = inr (inl (record { folder = folder_of_size size; names = first.names; front = map (λ (e : Entry). e.1) o.entries; more = o.more; listed = first.listed; names_are = o.names_are }))
    by_cause (inr b) =
        let found : All (HasBase size) b.ordered.found = all_based size b.ordered.found (ap (map (base_in size)) (sym b.ordered.based.names_are) ∙ b.ordered.based.bases) in
        let sorted : All (HasBase size) b.entries = All-permutation (HasBase size) b.ordered.found b.entries b.ordered.all found in
        let P : List Entry → Type 0 = All (HasBase size) in
        inr (inr (size, b.first.base, within (HasBase size) (entries_of b.first.bundles) (b.first.base, name) b.first.more (subst P b.first.entries_are sorted)))

in_folder : (folder : Folder) (files : Option Files) (kept : Option (List ℕ)) (name : List ℕ) (fault : FileFault) → IsFirstInFolder folder files kept name fault → IsKnownName files name
in_folder folder files kept name fault first =
    inr (inl (record { folder = folder_text folder; names = first.names; front = names_of first.first.singles; more = first.first.more; listed = first.listed; names_are = first.first.names_are }))

known : (files : Option Files) (name : List ℕ) (fault : FileFault) → IsFirstFault files name fault → IsKnownName files name
known files name fault (inl bad) = inl bad.name_is
known files name fault (inr (inl f)) = in_merged f.size files name fault f.first
known files name fault (inr (inr (inl f))) = in_folder One files _ name fault f.first
known files name fault (inr (inr (inr f))) = in_folder Forked files _ name fault f.first

known_refusal : (files : Option Files) (before now : ℕ) (fault : LoadFault) → Refused (λ name f. IsFirstFault files name f) before now fault → IsKnownRefusal files fault
known_refusal files before now (Store store.ShelfFault) r = tt
known_refusal files before now (Store (store.ShelfBad name at)) r = known files name (Bad at) r
known_refusal files before now (Store (store.Missing name)) r = absurd r
known_refusal files before now (Store (store.StoredOther kept read)) r = tt
known_refusal files before now (Store (store.NameClash held offered)) r = tt
known_refusal files before now (Store store.Mem) r = tt
known_refusal files before now (KindClash held offered) r = tt
known_refusal files before now (HistoryFull len need) r = tt

-- so is each file that an answer to the whole shelf names
pub known_answer : (files : Option Files) (before now : ℕ) (result : Result Report LoadFault) → CheckAnswers files before now result → IfErr result (IsKnownRefusal files)
known_answer files before now (Ok report) answers = tt
known_answer files before now (Err fault) answers = known_refusal files before now fault answers
