-- Own files, found by their names, added and taken out.
use Rattle.std.proofs.Common.{◌≡◌, ℕ, zero, suc, Bool, true, false, not, cond, ◌||◌, List, [], ◌∷◌, ◌++◌, Option, Some, None, refl, sym, ◌∙◌, ap, subst}
use Rattle.std.specs.Prelude.{IfSome}
use Rattle.std.specs.List.{AllByRecursion, IsDistinct, remove, slice_get}
use Rattle.std.specs.Set.{remove_key}
use Rattle.std.specs.Str.{bytes_eq}
use Rattle.std.proofs.lemmas.Slice.Eq.{bytes_eq-Decides}
use Rattle.outer_world.proofs.public.FileFacts.{same_name}
use Rattle.block_reader.specs.declared.own.OwnFile.{OwnFile}
use Rattle.block_reader.specs.Own.{same_own, has_own, with_own, without_own}

-- no file goes where each has another name
pub all_other : (name : List ℕ) (files : List OwnFile) → AllByRecursion (λ g. bytes_eq name g.name ≡ false) files → without_own name files ≡ files
all_other name [] all = refl
all_other name (f ∷ files) all = rw all.0 (ap (λ (l : List OwnFile). f ∷ l) (all_other name files all.1))

-- the others of a name's file have other names
others : (name : List ℕ) (f : OwnFile) (files : List OwnFile) → bytes_eq name f.name ≡ true → AllByRecursion (λ g. same_own f g ≡ false) files → AllByRecursion (λ g. bytes_eq name g.name ≡ false) files
others name f files same all = subst (λ (n : List ℕ). AllByRecursion (λ g. bytes_eq n g.name ≡ false) files) (sym ((bytes_eq-Decides name f.name).0 same)) all

-- the first file of a name is the only one
pub one_removed : (name : List ℕ) (files : List OwnFile) → IsDistinct same_own files → remove_key (λ f. bytes_eq name f.name) files ≡ without_own name files
unfolding IsDistinct
one_removed name [] d = refl
one_removed name (f ∷ files) d = go (bytes_eq name f.name) refl (one_removed name files d.1)
  where
    go : (b : Bool) → bytes_eq name f.name ≡ b → remove_key (λ g. bytes_eq name g.name) files ≡ without_own name files
        → cond b files (f ∷ remove_key (λ g. bytes_eq name g.name) files) ≡ cond (not b) (f ∷ without_own name files) (without_own name files)
    go true e ih = sym (all_other name files (others name f files e d.0))
    go false e ih = ap (λ (l : List OwnFile). f ∷ l) ih

-- a file other than an earlier one
apart_at : (f : OwnFile) (files : List OwnFile) (at : ℕ) (g : OwnFile) → AllByRecursion (λ h. same_own f h ≡ false) files → slice_get files at ≡ Some g → same_own f g ≡ false
apart_at f [] at g all e = cc e
apart_at f (h ∷ files) zero g all e = subst (λ (o : Option OwnFile). same_in o) e all.0
  where
    same_in : Option OwnFile → Type 0
    same_in None = ⊥
    same_in (Some x) = same_own f x ≡ false
apart_at f (h ∷ files) (suc at) g all e = apart_at f files at g all.1 e

turned : (a b : List ℕ) → bytes_eq a b ≡ false → bytes_eq b a ≡ false
turned a b e = go (bytes_eq b a) refl
  where
    go : (t : Bool) → bytes_eq b a ≡ t → t ≡ false
    go false h = refl
    go true h = sym ((bytes_eq-Decides a b).1 (sym ((bytes_eq-Decides b a).0 h))) ∙ e

-- the file at a place is the only one of its name
pub removed_at : (files : List OwnFile) (at : ℕ) (f : OwnFile) → IsDistinct same_own files → slice_get files at ≡ Some f → remove files at ≡ without_own f.name files
unfolding IsDistinct
removed_at [] at f d e = cc e
removed_at (g ∷ files) zero f d e = first (same_some e)
  where
    same_some : (let o : Option OwnFile = Some g in o) ≡ Some f → g ≡ f
    same_some h = cc h

    first : g ≡ f → files ≡ without_own f.name (g ∷ files)
    first is =
        let named : bytes_eq f.name g.name ≡ true = subst (λ (x : OwnFile). bytes_eq x.name g.name ≡ true) is (same_name g.name) in
        rw named (sym (all_other f.name files (others f.name g files named d.0)))
removed_at (g ∷ files) (suc at) f d e =
    let other : bytes_eq f.name g.name ≡ false = turned g.name f.name (apart_at g files at f d.0 e) in
    rw other (ap (λ (l : List OwnFile). g ∷ l) (removed_at files at f d.1 e))

-- a file that was added and taken out again
last_out : (f : OwnFile) (files : List OwnFile) → has_own files f.name ≡ false → without_own f.name (files ++ f ∷ []) ≡ files
last_out f [] none = rw (same_name f.name) refl
last_out f (g ∷ files) none = go (bytes_eq f.name g.name) refl none (λ h. last_out f files h)
  where
    go : (b : Bool) → bytes_eq f.name g.name ≡ b → (b || has_own files f.name) ≡ false → (has_own files f.name ≡ false → without_own f.name (files ++ f ∷ []) ≡ files) → cond (not b) (g ∷ without_own f.name (files ++ f ∷ [])) (without_own f.name (files ++ f ∷ [])) ≡ g ∷ files
    go true e h ih = cc h
    go false e h ih = ap (λ (l : List OwnFile). g ∷ l) (ih h)

pub noted_out : (f : OwnFile) (files : List OwnFile) (added : Bool) → added ≡ not (has_own files f.name)
    → cond added (without_own f.name (with_own f files)) (with_own f files) ≡ files
noted_out f files added is = go (has_own files f.name) refl added is
  where
    go : (b : Bool) → has_own files f.name ≡ b → (a : Bool) → a ≡ not b → cond a (without_own f.name (cond b files (files ++ f ∷ []))) (cond b files (files ++ f ∷ [])) ≡ files
    go true e false h = refl
    go true e true h = cc h
    go false e true h = last_out f files e
    go false e false h = cc h

pub removed_if : (files new : List OwnFile) (at : ℕ) (o : Option OwnFile) → IsDistinct same_own files → o ≡ slice_get files at → new ≡ remove files at → IfSome o (λ f. new ≡ without_own f.name files)
removed_if files new at None d e is = tt
removed_if files new at (Some f) d e is = is ∙ removed_at files at f d (sym e)
