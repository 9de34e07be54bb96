-- Slips that are found by their ids.
use Rattle.std.specs.Prelude.{ℕ, Bool, List, [], ◌∷◌}
use Rattle.std.specs.Cmp.{IsPartialEquivalence, IsEquivalence, partial_equiv_from_equiv, on_equiv}
use Rattle.std.specs.Hash.{Alike, on_Alike}
use Rattle.block_record.specs.Ids.{same_id, same_id_equiv, same_id_hash}
use Rattle.block_tree.specs.declared.slips.SlipById.{SlipById}

-- the id by which a slip is found
abbrev pub key_of : SlipById → List ℕ
key_of s = s.slip.id

-- whether two slips have one id
abbrev pub same_key : SlipById → SlipById → Bool
same_key a b = same_id a.slip.id b.slip.id

-- the test is an equivalence
pub same_key_equiv : IsEquivalence same_key
same_key_equiv = on_equiv key_of same_id_equiv

pub same_key_partial_equiv : IsPartialEquivalence same_key
same_key_partial_equiv = partial_equiv_from_equiv same_key_equiv

-- one id is hashed in one way
pub same_key_hash : Alike same_key (λ s. s.slip.id ∷ [])
same_key_hash = on_Alike key_of same_id_hash
