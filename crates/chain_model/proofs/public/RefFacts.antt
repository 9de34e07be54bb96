-- The test of two references decides whether they are one.
use Rattle.std.proofs.Common.{◌≡◌, true, refl}
use Rattle.std.proofs.Math.Dec.{eqb}
use Rattle.std.proofs.lemmas.Bool.{and_parts, eqb-true}
use Rattle.block_record.specs.declared.blocks.BlockRef.{BlockRef}
use Rattle.block_record.specs.Ids.{same_id, same_id-true}
use Rattle.chain_model.specs.Fold.{same_ref}

-- references that the test finds equal are one
pub ref_is : (a b : BlockRef) → same_ref a b ≡ true → a ≡ b
ref_is a b e =
    let p = and_parts (same_id a.id b.id) (eqb a.num b.num) e in
    let id : a.id ≡ b.id = same_id-true a.id b.id p.0 in
    let num : a.num ≡ b.num = eqb-true _ _ p.1 in
    let whole : record { num = a.num; id = a.id } ≡ b = rw (id, num) refl in
    whole
