-- Files found, put in place and taken away in a map.
use Rattle.std.proofs.Common.{◌≡◌, ℕ, Bool, true, false, cond, IsTrue, List, [], ◌∷◌, ◌++◌, Some, refl, sym, ◌∙◌, ap, append_assoc, subst}
use Rattle.std.specs.BTreeMap.{insert_entry, is_at}
use Rattle.std.specs.Cmp.Lexicographic.{slice_cmp, texts_ties, same_text, nat_list_cmp_total, nat_list_eq_equiv}
use Rattle.std.specs.declared.cmp.Ordering.{Ordering}
use Rattle.std.specs.declared.cmp.Ordering.TheVariants as order
use Rattle.std.specs.List.{AllByRecursion}
use Rattle.std.specs.Map.{lookup, remove_entry}
use Rattle.std.specs.Ordering.{nat_cmp, is_lt, is_eq, ordering_reverse, match_ordering}
use Rattle.std.specs.Str.{bytes_eq}
use Rattle.outer_world.specs.Files.{Files, AreInOrder, comes_before, file_at, names_in, is_in, names_of, put_before, with_file, without_file}
use Rattle.outer_world.specs.Shelves.{AreNamesOf}
use Rattle.outer_world.proofs.public.FileFacts.{before_other}
use Rattle.outer_world.proofs.public.NameOrder.{in_order_filter, all_kept}

abbrev by_name : List ℕ → List ℕ → Ordering
by_name = slice_cmp nat_cmp

-- a name that was looked up is the file's
same_test : (name held : List ℕ) → is_at (by_name name) held ≡ bytes_eq held name
same_test name held = sym (texts_ties name held) ∙ nat_list_eq_equiv.symm name held

-- what a map gives at a name is the file of this name
pub lookup_is : (name : List ℕ) (files : Files) → lookup (is_at (by_name name)) files ≡ file_at name files
lookup_is name [] = refl
lookup_is name (file ∷ files) =
    let P : Bool → Type 0 = λ t. cond t (Some file.1) (lookup (is_at (by_name name)) files) ≡ cond (bytes_eq file.0 name) (Some file.1) (file_at name files) in
    subst P (sym (same_test name file.0)) (ap (λ found. cond (bytes_eq file.0 name) (Some file.1) found) (lookup_is name files))

-- a file that a map puts in place stands by the order of names
pub inserted_is : (name text : List ℕ) (files : Files) → insert_entry by_name files name text ≡ with_file name text files
inserted_is name text [] = refl
inserted_is name text (file ∷ files) =
    let o : Ordering = by_name name file.0 in
    let back : by_name file.0 name ≡ ordering_reverse o = nat_list_cmp_total.antisymm file.0 name in
    let before : comes_before file.0 name ≡ is_lt (ordering_reverse o) = ap is_lt back in
    let same : bytes_eq file.0 name ≡ is_eq (ordering_reverse o) = texts_ties file.0 name ∙ ap is_eq back in
    let Q : Ordering → Bool → Bool → Type 0 = λ r a b. match_ordering r ((name, text) ∷ file ∷ files) ((file.0, text) ∷ files) (file ∷ insert_entry by_name files name text)
    ≡ cond a (file ∷ with_file name text files) ((name, text) ∷ cond b files (file ∷ files)) in
    let P : Ordering → Type 0 = λ r. r ≡ o → Q r (is_lt (ordering_reverse r)) (is_eq (ordering_reverse r)) in
    let core : Q o (is_lt (ordering_reverse o)) (is_eq (ordering_reverse o)) = elim o as P [
      | order.Less ↦ λ e. refl
      | order.Equal ↦ λ e. ap (λ n. (n, text) ∷ files) (same_text file.0 name (sym (same ∙ ap (λ r. is_eq (ordering_reverse r)) (sym e))))
      | order.Greater ↦ λ e. ap (λ rest. file ∷ rest) (inserted_is name text files)
    ] refl in
    let Q' : Bool → Type 0 = λ b. Q o (is_lt (ordering_reverse o)) b in
    let Q'' : Bool → Type 0 = λ a. Q o a (bytes_eq file.0 name) in
    subst Q'' (sym before) (subst Q' (sym same) core)

-- no file of a name is among later ones
without_later : (name : List ℕ) (files : Files) → AllByRecursion (λ later. IsTrue (comes_before name later)) (names_of files) → files ≡ without_file name files
without_later name [] all = refl
without_later name (file ∷ files) all =
    let apart : bytes_eq file.0 name ≡ false = nat_list_eq_equiv.symm file.0 name ∙ before_other name file.0 all.0 in
    rw apart (ap (λ rest. file ∷ rest) (without_later name files all.1))

-- a file that a map takes away is the only one of its name
pub removed_is : (name : List ℕ) (files : Files) → AreInOrder (names_of files) → remove_entry (is_at (by_name name)) files ≡ without_file name files
removed_is name [] h = refl
removed_is name (file ∷ files) h =
    let P : Bool → Type 0 = λ t. cond t files (file ∷ remove_entry (is_at (by_name name)) files) ≡ without_file name (file ∷ files) in
    let Q : Bool → Type 0 = λ t. t ≡ bytes_eq file.0 name → cond t files (file ∷ remove_entry (is_at (by_name name)) files) ≡ without_file name (file ∷ files) in
    let After : List ℕ → Type 0 = λ held. AllByRecursion (λ later. IsTrue (comes_before held later)) (names_of files) in
    let core : P (bytes_eq file.0 name) = elim (bytes_eq file.0 name) as Q [
      | true ↦ λ e. rw (sym e) (without_later name files (subst After (same_text file.0 name e) h.0))
      | false ↦ λ e. rw (sym e) (ap (λ rest. file ∷ rest) (removed_is name files h.1))
    ] refl in
    subst P (sym (same_test name file.0)) core

-- one more name, which is one of the folder or another
pub name_more : (folder : List ℕ) (file : List ℕ × List ℕ) (files : Files) (names more all : List (List ℕ)) → more ≡ cond (is_in folder file.0) (names ++ file.0 ∷ []) names → names ++ names_in folder (file ∷ files) ≡ all
    → more ++ names_in folder files ≡ all
name_more folder file files names more all is h =
    let rest : List (List ℕ) = names_in folder files in
    let P : Bool → Type 0 = λ t. cond t (names ++ file.0 ∷ []) names ++ rest ≡ names ++ cond t (file.0 ∷ rest) rest in
    let told : cond (is_in folder file.0) (names ++ file.0 ∷ []) names ++ rest ≡ names ++ names_in folder (file ∷ files) =
    elim (is_in folder file.0) as P [ true ↦ append_assoc names (file.0 ∷ []) rest | false ↦ refl ] in
    ap (λ l. l ++ rest) is ∙ (told ∙ h)

-- the names of a folder among names in order
pub names_are : (files : Files) (folder : List ℕ) (names : List (List ℕ)) → names ≡ names_in folder files → AreInOrder (names_of files) → AreNamesOf (Some files) folder names
names_are files folder names e h = subst (AreNamesOf (Some files) folder) (sym e) (record {
  in_order = in_order_filter (is_in folder) (names_of files) h;
  inside = all_kept (is_in folder) (names_of files);
  all = refl;
})
