-- What files hold after one is put in place or taken away, and how their names stay in order.
use Rattle.std.proofs.Common.{◌≡◌, ℕ, Bool, true, false, cond, not, List, [], ◌∷◌, Some, None, refl, sym, ◌∙◌, ap}
use Rattle.std.specs.Ordering.{nat_cmp, is_lt, is_eq}
use Rattle.std.specs.declared.cmp.Ordering.{Ordering}
use Rattle.std.specs.declared.cmp.Ordering.TheVariants as order
use Rattle.std.specs.Cmp.Lexicographic.{slice_cmp, texts_ties, nat_list_eq_equiv}
use Rattle.std.specs.Str.{bytes_eq}
use Rattle.outer_world.specs.Files.{Files, comes_before, file_at, without_file, put_before, with_file}

-- a name is itself
pub same_name : (name : List ℕ) → bytes_eq name name ≡ true
same_name name = nat_list_eq_equiv.refl name

not_both : (r : Ordering) → is_lt r ≡ true → is_eq r ≡ false
not_both order.Less h = refl
not_both order.Equal h = sym h
not_both order.Greater h = refl

-- a name that comes before another is not that one
pub before_other : (first second : List ℕ) → comes_before first second ≡ true → bytes_eq first second ≡ false
before_other first second h = texts_ties first second ∙ not_both (slice_cmp nat_cmp first second) h

-- a name equal to one is other than those that it is not
pub other_name : (held name other : List ℕ) → bytes_eq held name ≡ true → bytes_eq name other ≡ false → bytes_eq held other ≡ false
other_name held name other same apart = nat_list_eq_equiv.congr held name other same ∙ apart

-- the file that was put in place is there
pub file_at-with_file : (name text : List ℕ) (files : Files) → file_at name (with_file name text files) ≡ Some text
file_at-with_file name text [] = rw (same_name name) refl
file_at-with_file name text (file ∷ files) =
    let P : Bool → Type 0 = λ t. t ≡ comes_before file.0 name → file_at name (cond t (file ∷ with_file name text files) (put_before name text (file ∷ files))) ≡ Some text in
    elim (comes_before file.0 name) as P [
      | true ↦ λ e. rw (before_other file.0 name (sym e)) (file_at-with_file name text files)
      | false ↦ λ e. rw (same_name name) refl
    ] refl

-- and every other file is as before
pub file_at-with_other : (name text other : List ℕ) (files : Files) → bytes_eq name other ≡ false → file_at other (with_file name text files) ≡ file_at other files
file_at-with_other name text other [] apart = rw apart refl
file_at-with_other name text other (file ∷ files) apart =
    let P : Bool → Type 0 = λ t. file_at other (cond t (file ∷ with_file name text files) (put_before name text (file ∷ files))) ≡ file_at other (file ∷ files) in
    let Q : Bool → Type 0 = λ t. t ≡ bytes_eq file.0 name → file_at other (cond t files (file ∷ files)) ≡ file_at other (file ∷ files) in
    let put : file_at other (cond (bytes_eq file.0 name) files (file ∷ files)) ≡ file_at other (file ∷ files) =
    elim (bytes_eq file.0 name) as Q [
      | true ↦ λ e. rw (other_name file.0 name other (sym e) apart) refl
      | false ↦ λ e. refl
    ] refl in
    elim (comes_before file.0 name) as P [
      | true ↦ ap (λ found. cond (bytes_eq file.0 other) (Some file.1) found) (file_at-with_other name text other files apart)
      | false ↦ rw apart put
    ]

-- a file that was taken away is not there
pub file_at-without_file : (name : List ℕ) (files : Files) → file_at name (without_file name files) ≡ None
file_at-without_file name [] = refl
file_at-without_file name (file ∷ files) =
    let P : Bool → Type 0 = λ t. t ≡ bytes_eq file.0 name → file_at name (cond (not t) (file ∷ without_file name files) (without_file name files)) ≡ None in
    elim (bytes_eq file.0 name) as P [
      | true ↦ λ e. file_at-without_file name files
      | false ↦ λ e. rw (sym e) (file_at-without_file name files)
    ] refl

-- and every other file is as before
pub file_at-without_other : (name other : List ℕ) (files : Files) → bytes_eq name other ≡ false → file_at other (without_file name files) ≡ file_at other files
file_at-without_other name other [] apart = refl
file_at-without_other name other (file ∷ files) apart =
    let P : Bool → Type 0 = λ t. t ≡ bytes_eq file.0 name → file_at other (cond (not t) (file ∷ without_file name files) (without_file name files)) ≡ file_at other (file ∷ files) in
    elim (bytes_eq file.0 name) as P [
      | true ↦ λ e. rw (other_name file.0 name other (sym e) apart) (file_at-without_other name other files apart)
      | false ↦ λ e. ap (λ found. cond (bytes_eq file.0 other) (Some file.1) found) (file_at-without_other name other files apart)
    ] refl
