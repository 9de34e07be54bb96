-- Names that were sorted, with each kept once.
use Rattle.std.proofs.Common.{◌≡◌, ℕ, List, [], ◌∷◌, sym, ap, subst}
use Rattle.std.specs.Prelude.{IsPermutation, IsSorted, IsTrue}
use Rattle.std.specs.List.{AllByRecursion, Contains, dedup}
use Rattle.std.specs.List.Sorted.{IsStrictlySortedBy}
use Rattle.std.specs.Ordering.{nat_cmp, is_lt}
use Rattle.std.specs.declared.cmp.Ordering.TheVariants.{Less}
use Rattle.std.specs.Cmp.Lexicographic.{slice_cmp, texts_ties, nat_list_cmp_total, nat_list_eq_equiv, same_text}
use Rattle.std.specs.Str.{bytes_eq}
use Rattle.std.proofs.lemmas.List.Kept.{IsStrictlySortedBy-dedup, Contains-dedup, Contains-from_dedup}
use Rattle.std.proofs.lemmas.List.Elements.{All-weaker, All-contains, All-contains_itself, recursion_from_All}
use Rattle.std.proofs.lemmas.List.Sorted.{Contains-permutation, IsPermutation-sym}
use Rattle.outer_world.specs.Files.{AreInOrder, comes_before, is_in}
use Rattle.folder_shelf.specs.Names.{AreSortedOf, AreFoundIn}

each_later : (name : List ℕ) (names : List (List ℕ)) → AllByRecursion (λ later. slice_cmp nat_cmp name later ≡ Less) names → AllByRecursion (λ later. IsTrue (comes_before name later)) names
each_later name [] h = tt
each_later name (later ∷ names) h = (ap is_lt h.0, each_later name names h.1)

-- names that are strictly sorted are in order
pub in_order_strict : (names : List (List ℕ)) → IsStrictlySortedBy (slice_cmp nat_cmp) names → AreInOrder names
unfolding IsStrictlySortedBy
in_order_strict [] h = tt
in_order_strict (name ∷ names) h = (each_later name names h.0, in_order_strict names h.1)

-- what was sorted, and then kept once each
pub sorted_of : (found sorted names : List (List ℕ)) → IsPermutation found sorted → IsSorted (slice_cmp nat_cmp) sorted → names ≡ dedup bytes_eq sorted → AreSortedOf found names
sorted_of found sorted names p up e =
    let once : List (List ℕ) = dedup bytes_eq sorted in
    let strict : IsStrictlySortedBy (slice_cmp nat_cmp) once = IsStrictlySortedBy-dedup nat_list_cmp_total texts_ties sorted up in
    let stays : (name : List ℕ) → Contains found name → Contains names name =
    λ name here. subst (λ list. Contains list name) (sym e) (Contains-dedup nat_list_eq_equiv (λ x y t. same_text x y (sym t)) sorted name (Contains-permutation found sorted name p here)) in
    let was : (name : List ℕ) → Contains names name → Contains found name =
    λ name here. Contains-permutation sorted found name (IsPermutation-sym found sorted p) (Contains-from_dedup bytes_eq sorted name (subst (λ list. Contains list name) e here)) in
    record {
      in_order = subst AreInOrder (sym e) (in_order_strict once strict);
      all = All-weaker (Contains found) (Contains names) stays found (All-contains_itself found);
      none_other = All-weaker (Contains names) (Contains found) was names (All-contains_itself names);
    }

-- names of a folder that were sorted are all of that folder
pub inside_sorted : (folder : List ℕ) (found names : List (List ℕ)) → AreFoundIn folder found → AreSortedOf found names → AllByRecursion (λ name. IsTrue (is_in folder name)) names
inside_sorted folder found names inside sorted =
    let P : List ℕ → Type 0 = λ name. IsTrue (is_in folder name) in
    recursion_from_All P names (All-weaker (Contains found) P (λ name here. All-contains P found name inside here) names sorted.none_other)
