-- The numbers and names of the files of `forked/` and `one/`.
use Rattle.std.proofs.Common.{arith, ◌≡◌, ◌<◌, ◌≤◌, ◌+◌, ◌++◌, inl, inr, ℕ, suc, Bool, cond, IsTrue, List, [], ◌∷◌, length, map, take, drop, get_or, Option, Some, None, refl, sym, ap, subst, ◌∙◌, append_assoc}
use Rattle.std.specs.Prelude.{IsPermutation, IsSorted, codes}
use Rattle.std.specs.List.{All, AllByRecursion}
use Rattle.std.proofs.Math.Nat.{le_refl}
use Rattle.std.proofs.Math.Seq.{drop-cons}
use Rattle.std.proofs.lemmas.List.{append-nil, map-append, take_more, take-append-drop}
use Rattle.std.proofs.lemmas.List.Elements.{All-append, All-cons, All-nil, All-get_or, All-from_get_or, All-from_recursion}
use Rattle.std.proofs.lemmas.List.Sorted.{All-permutation}
use Rattle.outer_world.specs.Files.{Files, is_in}
use Rattle.outer_world.specs.Shelves.{AreNamesOf}
use Rattle.one_block.specs.declared.faults.StoreFault.TheVariants as store
use Rattle.one_block.specs.declared.file_faults.FileFault.TheVariants.{Bad}
use Rattle.one_block.specs.declared.forms.Folder.{Folder}
use Rattle.one_block.specs.declared.forms.Folder.TheVariants.{One, Forked}
use Rattle.relay_model.specs.Worlds.{World}
use Rattle.shelf_check.specs.Folders.{folder_text}
use Rattle.shelf_check.specs.Merged.{Entry, entry_order}
use Rattle.shelf_check.specs.Refusals.{IsNamedAs}
use Rattle.shelf_check.specs.declared.faults.LoadFault.{LoadFault}
use Rattle.shelf_check.specs.declared.faults.LoadFault.TheVariants as fault
use Rattle.store_files.proofs.public.FolderFacts.{apart}
use Rattle.shelf_load.specs.Loading.{LoadRefused}
use Rattle.shelf_load.specs.Singling.{number_in, folder_of, HasNumber, AreNumbered, AreNumberedIn, IsGrown, IsUnlisted, IsUnnumbered, IsUnnumberedIn, NamesRefused, HasFolder, AreListed, IsEntry}
use Rattle.shelf_load.proofs.LoadedFacts.{load_on}
use Rattle.shelf_load.proofs.NumberFacts.{unformed}

-- ---- names, one after another

pub grown_none : (names : List (List ℕ)) (old : List Entry) → IsGrown (take 0 names) old old
grown_none names old = record { found = []; grown = sym (append-nil old); numbered = record { names_are = refl; numbers = All-nil HasNumber } }

pub grown_more : (names : List (List ℕ)) (old mid new : List Entry) (i : ℕ) (name : List ℕ) (num : ℕ) → i < length names → name ≡ get_or names i name → IsGrown (take i names) old mid → Some num ≡ number_in name → new ≡ mid ++ (num, name) ∷ []
    → IsGrown (take (i + 1) names) old new
grown_more names old mid new i name num within item g is grown = record {
  found = g.found ++ (num, name) ∷ [];
  grown = grown ∙ ap (λ (es : List Entry). es ++ (num, name) ∷ []) g.grown ∙ append_assoc old g.found ((num, name) ∷ []);
  numbered = record {
    names_are =
        take_more names i name within ∙ ap (λ (n : List ℕ). take i names ++ n ∷ []) (sym item) ∙ ap (λ (ns : List (List ℕ)). ns ++ name ∷ []) g.numbered.names_are
        ∙ sym (map-append (λ (e : Entry). e.1) g.found ((num, name) ∷ []));
    numbers = All-append HasNumber g.found ((num, name) ∷ []) g.numbered.numbers (All-cons HasNumber (num, name) [] (sym is) (All-nil HasNumber));
  };
}

-- a name without a number
pub no_number : (names : List (List ℕ)) (old mid : List Entry) (i : ℕ) (name : List ℕ) (told : LoadFault) → i < length names → name ≡ get_or names i name → IsGrown (take i names) old mid → None ≡ number_in name → IsNamedAs name (Bad 0) told → NamesRefused names told
no_number names old mid i name told within item g none named = by_name named
  where
    unnumbered : IsUnnumbered names name 0
    unnumbered = record {
      found = g.found;
      more = drop (suc i) names;
      names_are =
          sym (take-append-drop i names) ∙ ap (λ (ns : List (List ℕ)). take i names ++ ns) (drop-cons names i name within ∙ ap (λ (n : List ℕ). n ∷ drop (suc i) names) (sym item))
          ∙ ap (λ (ns : List (List ℕ)). ns ++ name ∷ drop (suc i) names) g.numbered.names_are;
      numbers = g.numbered.numbers;
      none = sym none;
      place = refl;
    }

    by_name : IsNamedAs name (Bad 0) told → NamesRefused names told
    by_name (inl is) = subst (NamesRefused names) (sym is) unnumbered
    by_name (inr is) = subst (NamesRefused names) (sym is) tt

-- ---- a folder

pub names_refused : (folder : Folder) (files : Option Files) (names shown : List (List ℕ)) (before now : ℕ) (w : World) (refused : LoadFault) → AreNamesOf files (folder_text folder) names → shown ≡ names → NamesRefused shown refused
    → LoadRefused (IsUnnumberedIn folder files) files w before now refused
names_refused folder files names shown before now w refused listed is r = by_fault refused (subst (λ (ns : List (List ℕ)). NamesRefused ns refused) is r)
  where
    by_fault : (refused : LoadFault) → NamesRefused names refused → LoadRefused (IsUnnumberedIn folder files) files w before now refused
    by_fault (fault.Store store.ShelfFault) r = absurd r
    by_fault (fault.Store (store.ShelfBad name at)) r = record { names = names; listed = listed; first = r; no_form = unformed folder name r.none }
    by_fault (fault.Store (store.Missing name)) r = r
    by_fault (fault.Store (store.StoredOther kept read)) r = r
    by_fault (fault.Store (store.NameClash held other)) r = r
    by_fault (fault.Store store.Mem) r = tt
    by_fault (fault.KindClash held other) r = absurd r
    by_fault (fault.HistoryFull len need) r = absurd r

-- the folder of a name that lies in one
folder_found : (folder : Folder) (name : List ℕ) → IsTrue (is_in (folder_text folder) name) → folder_of name ≡ folder
folder_found One name inside = ap (λ (b : Bool). cond b One Forked) inside
folder_found Forked name inside = ap (λ (b : Bool). cond b One Forked) (apart 102 111 (codes "orked") (codes "ne") name (λ e. omega (arith, e)) inside)

abbrev IsInside : Folder → List ℕ → Type 0
IsInside folder name = IsTrue (is_in (folder_text folder) name)

abbrev LiesIn : Folder → Entry → Type 0
LiesIn folder e = IsInside folder e.1

all_found : (P : List ℕ → Type 0) (found : List Entry) → AllByRecursion P (map (λ (e : Entry). e.1) found) → AllByRecursion (λ (e : Entry). P e.1) found
all_found P [] all = tt
all_found P (e ∷ found) all = (all.0, all_found P found all.1)

-- each entry of a folder has a number, and lies in its folder
pub folder_entries : (folder : Folder) (files : Option Files) (names : List (List ℕ)) (found : List Entry) → AreNamesOf files (folder_text folder) names → AreNumbered names found → All IsEntry found
folder_entries folder files names found listed numbered = All-from_get_or IsEntry found (0, []) at
  where
    inside : All (LiesIn folder) found
    inside = All-from_recursion (LiesIn folder) found (all_found (IsInside folder) found (subst (AllByRecursion (IsInside folder)) numbered.names_are listed.inside))

    at : (i : ℕ) → i < length found → IsEntry (get_or found i (0, []))
    at i within =
        let e : Entry = get_or found i (0, []) in
        let here : LiesIn folder e = All-get_or (LiesIn folder) found i (0, []) within inside in
        record {
          number = All-get_or HasNumber found i (0, []) within numbered.numbers;
          inside = subst (λ (f : Folder). IsTrue (is_in (folder_text f) e.1)) (sym (folder_found folder e.1 here)) here;
        }

-- both folders
pub both_listed : (files mid : Option Files) (none first second sorted : List Entry) → none ≡ [] → mid ≡ files → HasFolder Forked files none first → HasFolder One mid first second → IsPermutation second sorted → IsSorted entry_order sorted → AreListed files sorted
both_listed files mid none first second sorted empty same f o all up =
    let o' : HasFolder One files first second = subst (λ (fs : Option Files). HasFolder One fs first second) same o in
    let whole : second ≡ f.grown.found ++ o'.grown.found = o'.grown.grown ∙ ap (λ (es : List Entry). es ++ o'.grown.found) (f.grown.grown ∙ ap (λ (es : List Entry). es ++ f.grown.found) empty) in
    record {
      forked = f.names;
      one = o'.names;
      forked_listed = f.listed;
      one_listed = o'.listed;
      found = second;
      names_are =
          ap (λ (ns : List (List ℕ)). ns ++ o'.names) f.grown.numbered.names_are ∙ ap (λ (ns : List (List ℕ)). map (λ (e : Entry). e.1) f.grown.found ++ ns) o'.grown.numbered.names_are
          ∙ sym (map-append (λ (e : Entry). e.1) f.grown.found o'.grown.found) ∙ ap (map (λ (e : Entry). e.1)) (sym whole);
      each =
          All-permutation IsEntry second sorted all
          (subst (All IsEntry) (sym whole)
          (All-append IsEntry f.grown.found o'.grown.found (folder_entries Forked files f.names f.grown.found f.listed f.grown.numbered) (folder_entries One files o'.names o'.grown.found o'.listed o'.grown.numbered)));
      all = all;
      in_order = up;
    }

-- a refusal of `forked/`
pub first_refused : (files : Option Files) (w : World) (before now : ℕ) (refused : LoadFault) → LoadRefused (IsUnnumberedIn Forked files) files w before now refused → LoadRefused (IsUnlisted files) files w before now refused
first_refused files w before now refused r =
    load_on (IsUnnumberedIn Forked files) (IsUnlisted files) files w before before now now refused (le_refl before) (le_refl now) (λ name at b. inl b) r

-- one of `one/`
pub second_refused : (files mid : Option Files) (none first : List Entry) (w : World) (before count now : ℕ) (refused : LoadFault) → mid ≡ files → before ≤ count → HasFolder Forked files none first
    → LoadRefused (IsUnnumberedIn One mid) mid w count now refused → LoadRefused (IsUnlisted files) files w before now refused
second_refused files mid none first w before count now refused same early f r =
    let R : Option Files → Type 0 = λ fs. LoadRefused (IsUnnumberedIn One fs) fs w count now refused in
    let forked : AreNumberedIn Forked files = record { names = f.names; listed = f.listed; found = f.grown.found; numbered = f.grown.numbered } in
    load_on (IsUnnumberedIn One files) (IsUnlisted files) files w before count now now refused early (le_refl now) (λ name at b. inr (forked, b)) (subst R same r)
