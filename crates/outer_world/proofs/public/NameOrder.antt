-- Names that stay in order.
use Rattle.std.proofs.Common.{◌≡◌, ℕ, Bool, true, false, cond, not, IsTrue, List, [], ◌∷◌, map, refl, sym, ◌∙◌, ap, subst}
use Rattle.std.specs.Ordering.{nat_cmp, is_lt, is_eq, ordering_reverse}
use Rattle.std.specs.declared.cmp.Ordering.{Ordering}
use Rattle.std.specs.declared.cmp.Ordering.TheVariants as order
use Rattle.std.specs.Cmp.Lexicographic.{slice_cmp, texts_ties, same_text, nat_list_cmp_total}
use Rattle.std.specs.List.{filter, AllByRecursion}
use Rattle.std.specs.Str.{bytes_eq}
use Rattle.outer_world.specs.Files.{Files, AreInOrder, comes_before, names_of, without_file, put_before, with_file}

is_less : (r : Ordering) → is_lt r ≡ true → r ≡ order.Less
is_less order.Less h = refl
is_less order.Equal h = cc
is_less order.Greater h = cc

is_greater : (r : Ordering) → is_lt r ≡ false → is_eq r ≡ false → r ≡ order.Greater
is_greater order.Less h k = cc
is_greater order.Equal h k = cc
is_greater order.Greater h k = refl

-- a name before another that is before a third
pub before_trans : (a b c : List ℕ) → comes_before a b ≡ true → comes_before b c ≡ true → comes_before a c ≡ true
before_trans a b c h k = ap is_lt (nat_list_cmp_total.trans a b c (is_less (slice_cmp nat_cmp a b) h) (is_less (slice_cmp nat_cmp b c) k))

-- of two names one is before the other
pub before_other_way : (a b : List ℕ) → comes_before a b ≡ false → bytes_eq a b ≡ false → comes_before b a ≡ true
before_other_way a b h k =
    let greater : slice_cmp nat_cmp a b ≡ order.Greater = is_greater (slice_cmp nat_cmp a b) h (sym (texts_ties a b) ∙ k) in
    ap is_lt (nat_list_cmp_total.antisymm b a ∙ ap ordering_reverse greater)

module _ {X : Type 0} (P : X → Type 0) where
  -- a fact of each element is one of each that a filter keeps
  pub all_filter : (p : X → Bool) (xs : List X) → AllByRecursion P xs → AllByRecursion P (filter p xs)
  all_filter p [] h = tt
  all_filter p (x ∷ xs) h =
      let Q : Bool → Type 0 = λ t. AllByRecursion P (cond t (x ∷ filter p xs) (filter p xs)) in
      elim (p x) as Q [ true ↦ (h.0, all_filter p xs h.1) | false ↦ all_filter p xs h.1 ]

-- each element that a filter keeps passes its test
pub all_kept : {X : Type 0} (p : X → Bool) (xs : List X) → AllByRecursion (λ x. IsTrue (p x)) (filter p xs)
all_kept p [] = tt
all_kept {X} p (x ∷ xs) =
    let Q : Bool → Type 0 = λ t. t ≡ p x → AllByRecursion (λ y. IsTrue (p y)) (cond t (x ∷ filter p xs) (filter p xs)) in
    elim (p x) as Q [ true ↦ λ e. (sym e, all_kept p xs) | false ↦ λ e. all_kept p xs ] refl

-- a filter keeps the order
pub in_order_filter : (p : List ℕ → Bool) (names : List (List ℕ)) → AreInOrder names → AreInOrder (filter p names)
in_order_filter p [] h = tt
in_order_filter p (name ∷ names) h =
    let Q : Bool → Type 0 = λ t. AreInOrder (cond t (name ∷ filter p names) (filter p names)) in
    elim (p name) as Q [
      | true ↦ (all_filter (λ later. IsTrue (comes_before name later)) p names h.0, in_order_filter p names h.1)
      | false ↦ in_order_filter p names h.1
    ]

-- the names without one
pub names-without_file : (name : List ℕ) (files : Files) → names_of (without_file name files) ≡ filter (λ held. not (bytes_eq held name)) (names_of files)
names-without_file name [] = refl
names-without_file name (file ∷ files) =
    let Q : Bool → Type 0 = λ t. names_of (cond t (file ∷ without_file name files) (without_file name files)) ≡ cond t (file.0 ∷ filter (λ held. not (bytes_eq held name)) (names_of files)) (filter (λ held. not (bytes_eq held name)) (names_of files)) in
    elim (not (bytes_eq file.0 name)) as Q [ true ↦ ap (λ names. file.0 ∷ names) (names-without_file name files) | false ↦ names-without_file name files ]

-- stay in order
pub in_order-without_file : (name : List ℕ) (files : Files) → AreInOrder (names_of files) → AreInOrder (names_of (without_file name files))
in_order-without_file name files h = rw (names-without_file name files) (in_order_filter (λ held. not (bytes_eq held name)) (names_of files) h)

all_later : (a b : List ℕ) (names : List (List ℕ)) → comes_before a b ≡ true → AllByRecursion (λ later. IsTrue (comes_before b later)) names → AllByRecursion (λ later. IsTrue (comes_before a later)) names
all_later a b [] h all = tt
all_later a b (name ∷ names) h all = (before_trans a b name h all.0, all_later a b names h all.1)

all_with : (P : List ℕ → Type 0) (name text : List ℕ) (files : Files) → P name → AllByRecursion P (names_of files) → AllByRecursion P (names_of (with_file name text files))
all_with P name text [] here all = (here, tt)
all_with P name text (file ∷ files) here all =
    let Q : Bool → Type 0 = λ t. AllByRecursion P (names_of (cond t (file ∷ with_file name text files) (put_before name text (file ∷ files)))) in
    let R : Bool → Type 0 = λ t. AllByRecursion P (names_of (cond t files (file ∷ files))) in
    elim (comes_before file.0 name) as Q [
      | true ↦ (all.0, all_with P name text files here all.1)
      | false ↦ (here, elim (bytes_eq file.0 name) as R [ true ↦ all.1 | false ↦ all ])
    ]

-- the names with one more stay in order
pub in_order-with_file : (name text : List ℕ) (files : Files) → AreInOrder (names_of files) → AreInOrder (names_of (with_file name text files))
in_order-with_file name text [] h = (tt, tt)
in_order-with_file name text (file ∷ files) h =
    let Q : Bool → Type 0 = λ t. t ≡ comes_before file.0 name → AreInOrder (names_of (cond t (file ∷ with_file name text files) (put_before name text (file ∷ files)))) in
    let R : Bool → Type 0 = λ t. t ≡ bytes_eq file.0 name → comes_before file.0 name ≡ false → AreInOrder (name ∷ names_of (cond t files (file ∷ files))) in
    let After : List ℕ → Type 0 = λ held. AllByRecursion (λ later. IsTrue (comes_before held later)) (names_of files) in
    elim (comes_before file.0 name) as Q [
      | true ↦ λ e. (all_with (λ later. IsTrue (comes_before file.0 later)) name text files (sym e) h.0, in_order-with_file name text files h.1)
      | false ↦ λ e. elim (bytes_eq file.0 name) as R [
        | true ↦ λ same _. (subst After (same_text file.0 name same) h.0, h.1)
        | false ↦ λ apart late.
            let first : comes_before name file.0 ≡ true = before_other_way file.0 name late (sym apart) in
            ((first, all_later name file.0 (names_of files) first h.0), h)
      ] refl (sym e)
    ] refl
