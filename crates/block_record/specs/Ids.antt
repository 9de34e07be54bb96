-- The test of two ids, and what it tells.
use Rattle.std.specs.Prelude.{ℕ, ◌≡◌, Bool, true, List, [], ◌∷◌, refl}
use Rattle.std.specs.Bool.{Decides}
use Rattle.std.specs.Str.{bytes_eq}
use Rattle.std.specs.Cmp.{IsPartialEquivalence, IsEquivalence, partial_equiv_from_equiv}
use Rattle.std.specs.Cmp.Lexicographic.{nat_list_eq_equiv}
use Rattle.std.specs.Hash.{Alike, same_Alike}
use Rattle.std.proofs.lemmas.Slice.Eq.{bytes_eq-Decides}

-- whether two ids are one
unfoldable pub same_id : List ℕ → List ℕ → Bool
same_id a b = bytes_eq a b

pub same_id-Decides : (a b : List ℕ) → Decides (same_id a b) (a ≡ b)
unfolding same_id
same_id-Decides a b = bytes_eq-Decides a b

pub same_id-true : (a b : List ℕ) → same_id a b ≡ true → a ≡ b
same_id-true a b e = (same_id-Decides a b).0 e

pub same_id_refl : (a : List ℕ) → same_id a a ≡ true
same_id_refl a = (same_id-Decides a a).1 refl

-- the test is an equivalence
pub same_id_equiv : IsEquivalence same_id
unfolding same_id
same_id_equiv = nat_list_eq_equiv

pub same_id_partial_equiv : IsPartialEquivalence same_id
same_id_partial_equiv = partial_equiv_from_equiv same_id_equiv

-- one id is hashed in one way
pub same_id_hash : Alike same_id (λ id. id ∷ [])
same_id_hash = same_Alike (λ id. id ∷ []) same_id-Decides
