-- Waiting blocks that are found by their ids.
use Rattle.std.specs.Prelude.{ℕ, Bool, List, [], ◌∷◌}
use Rattle.std.specs.Cmp.{IsPartialEquivalence, IsEquivalence, partial_equiv_from_equiv, on_equiv}
use Rattle.std.specs.Hash.{Alike, on_Alike}
use Rattle.block_record.specs.Ids.{same_id, same_id_equiv, same_id_hash}
use Rattle.wait_room.specs.declared.waiters.Waiter.{Waiter}

-- the id by which a waiting block is found
abbrev pub key_of : Waiter → List ℕ
key_of w = w.slip.id

-- whether two waiting blocks have one id
abbrev pub same_key : Waiter → Waiter → Bool
same_key a b = same_id a.slip.id b.slip.id

-- the test is an equivalence
pub same_key_equiv : IsEquivalence same_key
same_key_equiv = on_equiv key_of same_id_equiv

pub same_key_partial_equiv : IsPartialEquivalence same_key
same_key_partial_equiv = partial_equiv_from_equiv same_key_equiv

-- one id is hashed in one way
pub same_key_hash : Alike same_key (λ w. w.slip.id ∷ [])
same_key_hash = on_Alike key_of same_id_hash
