-- The first fault of a folder, as that of the shelf.
use Rattle.std.proofs.Common.{◌≡◌, inl, inr, ℕ, List, Option, ap, subst, ◌∙◌, Ok, refl}
use Rattle.std.specs.Prelude.{IsPermutation, IsSorted}
use Rattle.outer_world.specs.Files.{Files}
use Rattle.one_block.specs.Files.{folder_of_size}
use Rattle.one_block.specs.Layout.{HasLayout, LayoutRefused}
use Rattle.one_block.specs.declared.faults.StoreFault.{StoreFault}
use Rattle.one_block.specs.declared.faults.StoreFault.TheVariants as store
use Rattle.shelf_check.specs.declared.check.Report.{Report}
use Rattle.shelf_check.specs.declared.faults.LoadFault.TheVariants.{Store}
use Rattle.shelf_check.specs.Refusals.{Refused}
use Rattle.outer_world.specs.Shelves.{AreNamesOf}
use Rattle.one_block.specs.declared.file_faults.FileFault.{FileFault}
use Rattle.shelf_check.specs.declared.folders.FolderRead.{FolderRead}
use Rattle.shelf_check.specs.declared.merged.MergedRead.{MergedRead}
use Rattle.one_block.specs.declared.forms.Folder.TheVariants.{One, Forked}
use Rattle.shelf_check.specs.Folders.{IsFolder, kept_after}
use Rattle.shelf_check.specs.Folders.{IsFirstIn as IsFirstInFolder}
use Rattle.shelf_check.specs.Folders.{IsFolderRead as IsOneRead}
use Rattle.shelf_check.specs.Merged.{Entry, entry_order, AreBased, IsFirstOf, IsFolderRead}
use Rattle.shelf_check.specs.Merged.{IsFirstIn as IsFirstInMerged}
use Rattle.shelf_check.specs.Shelf.{IsGood, IsFirstFault}

-- the first fault among sorted files
pub first_sorted : (size : ℕ) (files now : Option Files) (names shown : List (List ℕ)) (found entries entries' : List Entry) → now ≡ files → AreNamesOf files (folder_of_size size) names → shown ≡ names → AreBased size shown found
    → IsPermutation found entries → IsSorted entry_order entries → entries' ≡ entries → (name : List ℕ) (fault : FileFault) → IsFirstOf size now entries' name fault → IsFirstInMerged size files name fault
first_sorted size files now names shown found entries entries' same listed is based all in_order es name fault first = record {
  names = names;
  listed = listed;
  first =
      let P : List (List ℕ) → Type 0 = λ ns. AreBased size ns found in
      let Q : Option Files → Type 0 = λ fs. IsFirstOf size fs entries' name fault in
      let R : List Entry → Type 0 = λ l. IsFirstOf size files l name fault in
      inr (record { entries = entries; ordered = record { found = found; based = subst P is based; all = all; in_order = in_order }; first = subst R es (subst Q same first) });
}

-- a fault in the folder of merged blocks
pub in_merged : (size : ℕ) (files now : Option Files) → HasLayout files (Ok size) → now ≡ files → (name : List ℕ) (fault : FileFault) → IsFirstInMerged size now name fault → IsFirstFault files name fault
in_merged size files now layout same name fault first =
    let P : Option Files → Type 0 = λ fs. IsFirstInMerged size fs name fault in
    inr (inl (record { size = size; layout = layout; first = subst P same first }))

-- a fault in `one/`
pub in_one : (size : ℕ) (files now : Option Files) (count : ℕ) (read : MergedRead) → HasLayout files (Ok size) → now ≡ files → IsFolderRead size files count read → (name : List ℕ) (fault : FileFault) → IsFirstInFolder One now read.kept name fault → IsFirstFault files name fault
in_one size files now count read layout same r name fault first =
    let P : Option Files → Type 0 = λ fs. IsFirstInFolder One fs read.kept name fault in
    let Q : Option (List ℕ) → Type 0 = λ k. IsFirstInFolder One files k name fault in
    inr (inr (inl (record { size = size; layout = layout; bundles = r.bundles; merged_folder = r.whole; first = subst Q r.kept (subst P same first) })))

-- a fault in `forked/`
pub in_forked : (size : ℕ) (files now later : Option Files) (count : ℕ) (read : MergedRead) (one : FolderRead) → HasLayout files (Ok size) → now ≡ files → later ≡ files → IsFolderRead size files count read → IsOneRead One now read.kept one
    → (name : List ℕ) (fault : FileFault) → IsFirstInFolder Forked later one.kept name fault → IsFirstFault files name fault
in_forked size files now later count read one layout same then r o name fault first =
    let P : Option Files → Type 0 = λ fs. IsFirstInFolder Forked fs one.kept name fault in
    let Q : Option (List ℕ) → Type 0 = λ k. IsFirstInFolder Forked files k name fault in
    let S : Option Files → Type 0 = λ fs. IsFolder One fs read.kept o.singles in
    let T : Option (List ℕ) → Type 0 = λ k. IsFolder One files k o.singles in
    inr (inr (inr (record {
      size = size;
      layout = layout;
      bundles = r.bundles;
      one = o.singles;
      merged_folder = r.whole;
      one_folder = subst T r.kept (subst S same o.whole);
      first = subst Q (o.kept_is ∙ ap (λ (k : Option (List ℕ)). kept_after k o.singles) r.kept) (subst P then first);
    })))

-- a fault of the layout
pub layout_refused : (files : Option Files) (before now : ℕ) (fault : StoreFault) → LayoutRefused files before now fault → Refused (λ name f. IsFirstFault files name f) before now (Store fault)
layout_refused files before now store.ShelfFault r = r
layout_refused files before now (store.ShelfBad name at) r = inl (record { at = at; layout = r.1; name_is = r.0; fault_is = refl })
layout_refused files before now (store.Missing name) r = r
layout_refused files before now (store.StoredOther kept read) r = r
layout_refused files before now (store.NameClash held offered) r = r
layout_refused files before now store.Mem r = tt

counts_are : (a b c d a' b' c' d' : ℕ) → a ≡ a' → b ≡ b' → c ≡ c' → d ≡ d' → (let r : Report = record { bundles = a; blocks = b; one = c; forked = d } in r) ≡ record { bundles = a'; blocks = b'; one = c'; forked = d' }
counts_are a b c d a' b' c' d' e f g h = rw (e, f, g, h) refl

-- a shelf that was read
pub whole_good : (size : ℕ) (files now later : Option Files) (count : ℕ) (read : MergedRead) (one forked : FolderRead) → HasLayout files (Ok size) → now ≡ files → later ≡ files → IsFolderRead size files count read
    → IsOneRead One now read.kept one → IsOneRead Forked later one.kept forked → IsGood files (record { bundles = count; blocks = read.blocks; one = one.files; forked = forked.files })
whole_good size files now later count read one forked layout same then r o f =
    let S : Option Files → Type 0 = λ fs. IsFolder One fs read.kept o.singles in
    let T : Option (List ℕ) → Type 0 = λ k. IsFolder One files k o.singles in
    let P : Option Files → Type 0 = λ fs. IsFolder Forked fs one.kept f.singles in
    let Q : Option (List ℕ) → Type 0 = λ k. IsFolder Forked files k f.singles in
    record {
      size = size;
      layout = layout;
      bundles = r.bundles;
      one = o.singles;
      forked = f.singles;
      merged_folder = r.whole;
      one_folder = subst T r.kept (subst S same o.whole);
      forked_folder = subst Q (o.kept_is ∙ ap (λ (k : Option (List ℕ)). kept_after k o.singles) r.kept) (subst P then f.whole);
      counts = counts_are count read.blocks one.files forked.files _ _ _ _ r.count r.blocks o.count f.count;
    }
