-- The test of two slips decides whether they are one.
use Rattle.std.proofs.Common.{◌≡◌, ◌&&◌, true, refl}
use Rattle.std.proofs.Math.Dec.{eqb}
use Rattle.std.specs.Str.{bytes_eq}
use Rattle.std.proofs.lemmas.Bool.{and_parts, eqb-true, eq-eqb}
use Rattle.std.proofs.lemmas.Slice.Eq.{bytes_eq-Decides}
use Rattle.block_record.specs.declared.blocks.Slip.{Slip}
use Rattle.block_record.specs.Ids.{same_id, same_id_refl, same_id-true}
use Rattle.block_record.specs.Slips.{same_slip}

-- two slips that the test finds equal
pub same_slip_is : (a b : Slip) → same_slip a b ≡ true → a ≡ b
same_slip_is a b e =
    let b1 = eqb a.num b.num in
    let b2 = b1 && same_id a.id b.id in
    let b3 = b2 && eqb a.parent_num b.parent_num in
    let b4 = b3 && same_id a.parent_id b.parent_id in
    let b5 = b4 && eqb a.lib_num b.lib_num in
    let b6 = b5 && eqb a.time b.time in
    let b7 = b6 && eqb a.length b.length in
    let p8 = and_parts b7 (bytes_eq a.digest b.digest) e in
    let p7 = and_parts b6 (eqb a.length b.length) p8.0 in
    let p6 = and_parts b5 (eqb a.time b.time) p7.0 in
    let p5 = and_parts b4 (eqb a.lib_num b.lib_num) p6.0 in
    let p4 = and_parts b3 (same_id a.parent_id b.parent_id) p5.0 in
    let p3 = and_parts b2 (eqb a.parent_num b.parent_num) p4.0 in
    let p2 = and_parts b1 (same_id a.id b.id) p3.0 in
    let e1 : a.num ≡ b.num = eqb-true _ _ p2.0 in
    let e2 : a.id ≡ b.id = same_id-true a.id b.id p2.1 in
    let e3 : a.parent_num ≡ b.parent_num = eqb-true _ _ p3.1 in
    let e4 : a.parent_id ≡ b.parent_id = same_id-true a.parent_id b.parent_id p4.1 in
    let e5 : a.lib_num ≡ b.lib_num = eqb-true _ _ p5.1 in
    let e6 : a.time ≡ b.time = eqb-true _ _ p6.1 in
    let e7 : a.length ≡ b.length = eqb-true _ _ p7.1 in
    let e8 : a.digest ≡ b.digest = (bytes_eq-Decides a.digest b.digest).0 p8.1 in
    let y : record { num = a.num; id = a.id; parent_num = a.parent_num; parent_id = a.parent_id; lib_num = a.lib_num; time = a.time; length = a.length; digest = a.digest } ≡ b = rw (e1, e2, e3, e4, e5, e6, e7, e8) refl in
    y

-- each slip is found equal to itself
pub same_slip_refl : (a : Slip) → same_slip a a ≡ true
same_slip_refl a =
    rw (eq-eqb a.num a.num refl, eq-eqb a.parent_num a.parent_num refl, eq-eqb a.lib_num a.lib_num refl, eq-eqb a.time a.time refl, eq-eqb a.length a.length refl, same_id_refl a.id, same_id_refl a.parent_id, (bytes_eq-Decides a.digest a.digest).1 refl) refl
