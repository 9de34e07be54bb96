-- Files, loaded one after another, and the folder of merged blocks.
use Rattle.std.proofs.Common.{arith, ◌≡◌, ◌<◌, ◌≤◌, ◌+◌, ◌++◌, inl, inr, ℕ, suc, List, [], ◌∷◌, length, map, reverse, take, drop, get_or, Option, Some, Result, Ok, Err, refl, sym, ap, subst, ◌∙◌}
use Rattle.std.specs.Prelude.{IsPermutation, IsSorted}
use Rattle.std.specs.List.{All, AllByRecursion}
use Rattle.std.proofs.Math.Nat.{le_refl}
use Rattle.std.proofs.Math.Seq.{drop-cons}
use Rattle.std.proofs.lemmas.List.{append-nil, map-append, reverse-append, take_more, take_all, take-append-drop}
use Rattle.std.proofs.lemmas.List.Elements.{All-get_or, All-from_recursion}
use Rattle.std.proofs.lemmas.List.Sorted.{All-permutation}
use Rattle.dbin_file.specs.Contents.{contents}
use Rattle.outer_world.specs.Files.{Files}
use Rattle.outer_world.specs.Shelves.{AreNamesOf}
use Rattle.one_block.specs.Files.{base_in, folder_of_size}
use Rattle.one_block.specs.declared.file_faults.FileFault.TheVariants.{Bad}
use Rattle.one_block.specs.declared.faults.StoreFault.TheVariants as store
use Rattle.relay_model.specs.Worlds.{World}
use Rattle.shelf_check.specs.Merged.{Entry, entry_order, AreBased, IsOtherName}
use Rattle.shelf_check.specs.Refusals.{Refused}
use Rattle.shelf_check.specs.declared.faults.LoadFault.{LoadFault}
use Rattle.shelf_check.specs.declared.faults.LoadFault.TheVariants as fault
use Rattle.shelf_load.specs.declared.entries.FileContent.{FileContent}
use Rattle.shelf_load.specs.declared.entries.FileContent.TheVariants.{MergedBlocks, OneBlock}
use Rattle.shelf_load.specs.Entries.{IsEntryOf, IsReadOf, IsTakenOf, IsBadOf}
use Rattle.shelf_load.specs.Loading.{TakenFile, entries_of, IsLoaded, IsPart, IsBundleRead, IsBundleTaken, AreBundlesTaken, IsBadBundle, AreLoaded, LoadRefused, IsFileLoaded, FileAnswers, AreFilesLoaded, IsFirstBad, EntriesAnswer}
use Rattle.shelf_load.specs.Merging.{HasBase, IsBadMerged}
use Rattle.shelf_load.specs.Taking.{Stage}
use Rattle.shelf_load.proofs.LoadedFacts.{whole_front, renumbered, load_on}
use Rattle.shelf_load.proofs.SingleFacts.{single_part, single_taken}

-- ---- files that were read whole

bundle_part : (files : Option Files) (x : TakenFile) → IsBundleRead files x → IsPart files x
bundle_part files x b = record {
  there = whole_front files x.name x.text b.there;
  typed = b.holds.typed;
  messages = (contents x.text).messages;
  more = [];
  messages_are = sym (append-nil (contents x.text).messages);
  records = b.holds.records;
}

pub part_of : (content : FileContent) (size : ℕ) (files : Option Files) (x : TakenFile) → IsTakenOf content size files x → IsPart files x
part_of MergedBlocks size files x b = bundle_part files x b.read
part_of OneBlock size files x s = single_part files x s

all_parts : (content : FileContent) (size : ℕ) (files : Option Files) (xs older : List TakenFile) → AllByRecursion (IsTakenOf content size files) xs → AllByRecursion (IsPart files) older → AllByRecursion (IsPart files) (xs ++ older)
all_parts content size files [] older each parts = parts
all_parts content size files (x ∷ xs) older each parts = (part_of content size files x each.0, all_parts content size files xs older each.1 parts)

-- a file with the number of its entry
taken_of : (content : FileContent) (size : ℕ) (files : Option Files) (e : Entry) (x : TakenFile) → IsEntryOf content size e → x.name ≡ e.1 → IsReadOf content files x → IsTakenOf content size files (record x { num = e.0 })
taken_of MergedBlocks size files e x base name_is r = record { based = ap (base_in size) name_is ∙ base; read = record { origin_is = r.origin_is; there = r.there; holds = r.holds; some = r.some } }
taken_of OneBlock size files e x n name_is r = single_taken files e x n name_is r

-- ---- one after another

pub entries_more : (xs : List TakenFile) (x : TakenFile) → entries_of (x ∷ xs) ≡ entries_of xs ++ (x.num, x.name) ∷ []
entries_more xs x = ap (map (λ (y : TakenFile). (y.num, y.name))) (reverse-append (x ∷ []) xs) ∙ map-append (λ (y : TakenFile). (y.num, y.name)) (reverse xs) (x ∷ [])

-- the first of these files were loaded
pub record IsThrough (content : FileContent) (files : Option Files) (entries : List Entry) (i : ℕ) (old now : Stage) : Type 0 where
  pub done : (size : ℕ) (w : World) (older : List TakenFile) → All (IsEntryOf content size) entries → IsLoaded w older old → AllByRecursion (IsPart files) older → AreFilesLoaded (IsTakenOf content size files) (take i entries) w older now

pub none_through : (content : FileContent) (files : Option Files) (entries : List Entry) (old : Stage) → IsThrough content files entries 0 old old
none_through content files entries old = record { done = λ size w older all l parts. record { xs = []; entries_are = refl; each = tt; loaded = l } }

-- what is answered to a file, whatever was loaded before it
abbrev pub Answers : FileContent → Option Files → List ℕ → Stage → Stage → ℕ → ℕ → Result Unit LoadFault → Type 0
Answers content files name old new before now result = (w : World) (older : List TakenFile) → IsLoaded w older old → AllByRecursion (IsPart files) older
    → FileAnswers (IsReadOf content files) (IsBadOf content files) files name w older new before now result

module _ (content : FileContent) (files now_files : Option Files) (entries : List Entry) (i : ℕ) (entry : Entry) (old mid new : Stage) (within : i < length entries) (item : entry ≡ get_or entries i entry) (same : now_files ≡ files)
    (t : IsThrough content files entries i old mid) where
  file_more : (size : ℕ) (w : World) (older : List TakenFile) → All (IsEntryOf content size) entries → (a : AreFilesLoaded (IsTakenOf content size files) (take i entries) w older mid)
      → IsFileLoaded (IsReadOf content files) entry.1 w (a.xs ++ older) new → AreFilesLoaded (IsTakenOf content size files) (take (i + 1) entries) w older new
  file_more size w older all a f = record {
    xs = record f.x { num = entry.0 } ∷ a.xs;
    entries_are =
        take_more entries i entry within ∙ ap (λ (e : Entry). take i entries ++ e ∷ []) (sym item ∙ ap (λ (n : List ℕ). let e : Entry = (entry.0, n) in e) (sym f.name_is)) ∙ ap (λ (es : List Entry). es ++ (entry.0, f.x.name) ∷ []) a.entries_are
        ∙ sym (entries_more a.xs (record f.x { num = entry.0 }));
    each = (taken_of content size files entry f.x (subst (IsEntryOf content size) (sym item) (All-get_or (IsEntryOf content size) entries i entry within all)) f.name_is f.read, a.each);
    loaded = renumbered w (a.xs ++ older) new f.x entry.0 f.loaded;
  }

  pub through_more : (before now : ℕ) (u : Unit) → Answers content now_files entry.1 mid new before now (Ok u) → IsThrough content files entries (i + 1) old new
  through_more before now u answers = record {
    done = λ size w older all l parts.
        let a = t.done size w older all l parts in
        let A : Option Files → Type 0 = λ fs. Answers content fs entry.1 mid new before now (Ok u) in
        file_more size w older all a (subst A same answers w (a.xs ++ older) a.loaded (all_parts content size files a.xs older a.each parts));
  }

  pub through_refused : (before count now later : ℕ) (refused : LoadFault) → before ≤ count → now ≤ later → Answers content now_files entry.1 mid new count now (Err refused)
      → (size : ℕ) (w : World) (older : List TakenFile) → All (IsEntryOf content size) entries → IsLoaded w older old → AllByRecursion (IsPart files) older
      → EntriesAnswer (IsTakenOf content size files) (IsBadOf content files) files entries w older new before later (Err refused)
  through_refused before count now later refused early late answers size w older all l parts =
      let A : Option Files → Type 0 = λ fs. Answers content fs entry.1 mid new count now (Err refused) in
      load_on (λ bad at. (bad ≡ entry.1) × IsBadOf content files entry.1 at) (IsFirstBad (IsTakenOf content size files) (IsBadOf content files) entries w older) files w before count now later refused early late first_bad
      (subst A same answers w (a.xs ++ older) a.loaded (all_parts content size files a.xs older a.each parts))
    where
      a : AreFilesLoaded (IsTakenOf content size files) (take i entries) w older mid
      a = t.done size w older all l parts

      first_bad : (bad : List ℕ) (at : ℕ) → (bad ≡ entry.1) × IsBadOf content files entry.1 at → IsFirstBad (IsTakenOf content size files) (IsBadOf content files) entries w older bad at
      first_bad bad at b = record {
        xs = a.xs;
        num = entry.0;
        more = drop (suc i) entries;
        entries_are =
            sym (take-append-drop i entries) ∙ ap (λ (es : List Entry). take i entries ++ es) (drop-cons entries i entry within)
            ∙ ap (λ (e : Entry). take i entries ++ e ∷ drop (suc i) entries) (sym item ∙ ap (λ (n : List ℕ). let e : Entry = (entry.0, n) in e) (sym b.0))
            ∙ ap (λ (es : List Entry). es ++ (entry.0, bad) ∷ drop (suc i) entries) a.entries_are;
        each = a.each;
        g = mid;
        loaded = a.loaded;
        bad = subst (λ (n : List ℕ). IsBadOf content files n at) (sym b.0) b.1;
      }

-- all files were loaded
pub all_through : (content : FileContent) (files : Option Files) (entries : List Entry) (n : ℕ) (old now : Stage) → n ≡ length entries → IsThrough content files entries n old now
    → (size : ℕ) (w : World) (older : List TakenFile) → All (IsEntryOf content size) entries → IsLoaded w older old → AllByRecursion (IsPart files) older → AreFilesLoaded (IsTakenOf content size files) entries w older now
all_through content files entries n old now all t size w older each l parts =
    let a = t.done size w older each l parts in
    record { xs = a.xs; entries_are = sym (take_all n entries (by_length n all)) ∙ a.entries_are; each = a.each; loaded = a.loaded }
  where
    by_length : (k : ℕ) → k ≡ length entries → length entries ≤ k
    by_length k e = omega arith

-- ---- the folder

first_same : (x y : Option ℕ) (xs ys : List (Option ℕ)) → (let l : List (Option ℕ) = x ∷ xs in l) ≡ y ∷ ys → (x ≡ y) × (xs ≡ ys)
first_same x y xs ys e = (let a : x ≡ y = cc e in a, let b : xs ≡ ys = cc e in b)

all_based : (size : ℕ) (found : List Entry) → map (base_in size) (map (λ (e : Entry). e.1) found) ≡ map (λ (e : Entry). Some e.0) found → AllByRecursion (HasBase size) found
all_based size [] e = tt
all_based size (x ∷ found) e =
    let p = first_same (base_in size x.1) (Some x.0) (map (base_in size) (map (λ (e : Entry). e.1) found)) (map (λ (e : Entry). Some e.0) found) e in
    (p.0, all_based size found p.1)

-- names and entries of a folder, in the order in which they are read
module _ (size : ℕ) (files : Option Files) (names shown : List (List ℕ)) (found entries sorted : List Entry) (listed : AreNamesOf files (folder_of_size size) names) (shown_is : shown ≡ names)
    (b : AreBased size shown found) (all : IsPermutation found entries) (up : IsSorted entry_order entries) (same : sorted ≡ entries) where
  pub based : All (HasBase size) sorted
  based =
      let e = ap (map (base_in size)) (sym b.names_are) ∙ b.bases in
      subst (All (HasBase size)) (sym same) (All-permutation (HasBase size) found entries all (All-from_recursion (HasBase size) found (all_based size found e)))

  names_are : names ≡ map (λ (e : Entry). e.1) found
  names_are = sym shown_is ∙ b.names_are

  first_merged : (w : World) (older : List TakenFile) (name : List ℕ) (at : ℕ) → IsFirstBad (IsBundleTaken size files) (IsBadBundle files) sorted w older name at → IsBadMerged size files w older name at
  first_merged w older name at f = record {
    names = names;
    listed = listed;
    first = inr (record {
      entries = sorted;
      ordered = record { found = found; based = subst (λ (ns : List (List ℕ)). AreBased size ns found) shown_is b; all = subst (IsPermutation found) (sym same) all; in_order = subst (IsSorted entry_order) (sym same) up };
      first = f;
    });
  }

  pub folder_refused : (now_files : Option Files) (w : World) (older : List TakenFile) (new : Stage) (before mid now : ℕ) (refused : LoadFault) → now_files ≡ files → before ≤ mid
      → EntriesAnswer (IsBundleTaken size now_files) (IsBadBundle now_files) now_files sorted w older new mid now (Err refused) → LoadRefused (IsBadMerged size files w older) files w before now refused
  folder_refused now_files w older new before mid now refused is early answer =
      let A : Option Files → Type 0 = λ fs. EntriesAnswer (IsBundleTaken size fs) (IsBadBundle fs) fs sorted w older new mid now (Err refused) in
      load_on (IsFirstBad (IsBundleTaken size files) (IsBadBundle files) sorted w older) (IsBadMerged size files w older) files w before mid now now refused early (le_refl now) (first_merged w older) (subst A is answer)

  pub folder_loaded : (now_files : Option Files) (w : World) (older : List TakenFile) (new : Stage) → now_files ≡ files → AreFilesLoaded (IsBundleTaken size now_files) sorted w older new → AreLoaded (AreBundlesTaken size files) w older new
  folder_loaded now_files w older new is f =
      let A : Option Files → Type 0 = λ fs. AreFilesLoaded (IsBundleTaken size fs) sorted w older new in
      let a = subst A is f in
      let e : entries ≡ entries_of a.xs = sym same ∙ a.entries_are in
      record {
        xs = a.xs;
        all = record {
          names = names;
          listed = listed;
          ordered = record { found = found; names_are = names_are; all = subst (IsPermutation found) e all; in_order = subst (IsSorted entry_order) e up };
          each = a.each;
        };
        loaded = a.loaded;
      }

-- ---- a name of another form

module _ (size : ℕ) (files : Option Files) (names shown : List (List ℕ)) (w : World) (older : List TakenFile) (listed : AreNamesOf files (folder_of_size size) names) (shown_is : shown ≡ names) where
  pub other_name : (before now : ℕ) (refused : LoadFault) → Refused (λ name f. IsOtherName size shown name f) 1 0 refused → LoadRefused (IsBadMerged size files w older) files w before now refused
  other_name before now (fault.Store store.ShelfFault) r = absurd (omega (arith, r))
  other_name before now (fault.Store (store.ShelfBad name at)) r = record { names = names; listed = listed; first = inl (subst (λ (ns : List (List ℕ)). IsOtherName size ns name (Bad at)) shown_is r) }
  other_name before now (fault.Store (store.Missing name)) r = r
  other_name before now (fault.Store (store.StoredOther kept read)) r = r
  other_name before now (fault.Store (store.NameClash held other)) r = r
  other_name before now (fault.Store store.Mem) r = tt
  other_name before now (fault.KindClash held other) r = absurd (let e = r.1.place in cc e)
  other_name before now (fault.HistoryFull len need) r = absurd r
