-- What was decoded is the record of the block, and where no block was decoded the fault is the first.
use Rattle.std.proofs.Common.{◌≡◌, ℕ, ◌^◌, ◌⊎◌, Bool, true, false, cond, eqb, List, [], ◌∷◌, ◌++◌, length, Option, Some, None, Result, Ok, Err, refl, sym, ap, subst, ◌∙◌, inl, inr, IfOk}
use Rattle.std.specs.Int.{w64}
use Rattle.std.proofs.lemmas.Bool.{eqb-true}
use Rattle.std.proofs.lemmas.List.{append-nil, nil_from_length}
use Rattle.sha2.specs.Sha256.{sha256}
use Rattle.block_record.specs.declared.blocks.Block.{Block}
use Rattle.block_record.specs.declared.faults.RecordFault.{RecordFault}
use Rattle.block_record.specs.declared.faults.RecordFault.TheVariants.{BadRecord, Mem}
use Rattle.block_record.specs.Words.{Unless}
use Rattle.block_record.specs.Records.{Fields, Field, place, version_at, number_at, parent_num_at, id_at, payload_at, digest_at, record_fault, number_text, id_text, payload_text, text_of, old_text_of, fields_of, IsRecordable, IsRecordText}
use Rattle.block_record.specs.Reading.{◌>>=◌, field_or, read, Numbers, read_numbers, read_fields, Gives, bad_place}
use Rattle.block_record.specs.Texts.{IsBytes}
use Rattle.block_record.proofs.FieldFacts.{Takes, Takes-then, IsVersion, version_takes, wide64, number_takes, parent_num_takes, id_takes, payload_takes, digest_text, digest_takes}
use Rattle.block_record.proofs.ReadingFacts.{with_time, with_lib_num, with_parent_num, with_num, with_digest, with_payload, with_parent_id, with_id, with_numbers, with_version, fault_of, record_fault_is}
use Rattle.block_record.proofs.public.RecordFacts.{parts, text_of-parts, old_text_of-parts, same_block, record_again}

-- the field and the bytes after it, of a step that did not fail
read_ok : {A B : Type 0} (total : ℕ) (field : Field A) (bytes : List ℕ) (f : A × List ℕ → Result B ℕ) (y : B) → (read total field bytes >>= f) ≡ Ok y → (x : A × List ℕ) × (field bytes ≡ Some x) × (f x ≡ Ok y)
read_ok {A} {B} total field bytes f y e = by_option (field bytes) refl e
  where
    by_option : (o : Option (A × List ℕ)) → field bytes ≡ o → (field_or (place total bytes) o >>= f) ≡ Ok y → (x : A × List ℕ) × (field bytes ≡ Some x) × (f x ≡ Ok y)
    by_option None is e = absurd cc
    by_option (Some x) is e = (x, is, e)

bind_ok : {A B : Type 0} (r : Result A ℕ) (f : A → Result B ℕ) (y : B) → (r >>= f) ≡ Ok y → (x : A) × (r ≡ Ok x) × (f x ≡ Ok y)
bind_ok (Ok x) f y e = (x, refl, e)
bind_ok (Err at) f y e = absurd cc

abbrev done : {A : Type 0} → A → Result A ℕ
done x = Ok x

ok_is : {A : Type 0} (x y : A) → done x ≡ done y → x ≡ y
ok_is x y e = cc

-- the numbers of a record
abbrev numbers_text : Numbers → List ℕ
numbers_text n = number_text n.num ++ number_text n.parent_num ++ number_text n.lib_num ++ number_text n.time

numbers_take : (total : ℕ) (bytes : List ℕ) (x : Numbers × List ℕ) → IsBytes bytes → read_numbers total bytes ≡ Ok x → Takes bytes (numbers_text x.0) x.1
unfolding read_numbers
numbers_take total bytes x fits e =
    let num = read_ok total (number_at w64) bytes (with_num total) x e in
    let parent_num = read_ok total (parent_num_at num.0.0) num.0.1 (with_parent_num total num.0.0) x num.2 in
    let lib_num = read_ok total (number_at w64) parent_num.0.1 (with_lib_num total num.0.0 parent_num.0.0) x parent_num.2 in
    let time = read_ok total (number_at w64) lib_num.0.1 (with_time num.0.0 parent_num.0.0 lib_num.0.0) x lib_num.2 in
    let t1 = number_takes w64 (2 ^ 64) wide64 bytes num.0 fits num.1 in
    let t2 = parent_num_takes num.0.0 num.0.1 parent_num.0 t1.rest_fits parent_num.1 in
    let t3 = number_takes w64 (2 ^ 64) wide64 parent_num.0.1 lib_num.0 t2.rest_fits lib_num.1 in
    let t4 = number_takes w64 (2 ^ 64) wide64 lib_num.0.1 time.0 t3.rest_fits time.1 in
    let made : Numbers × List ℕ = (record { num = num.0.0; parent_num = parent_num.0.0; lib_num = lib_num.0.0; time = time.0.0 }, time.0.1) in
    let t34 = Takes-then parent_num.0.1 (number_text lib_num.0.0) lib_num.0.1 (number_text time.0.0) time.0.1 t3 t4 in
    let t24 = Takes-then num.0.1 (number_text parent_num.0.0) parent_num.0.1 (number_text lib_num.0.0 ++ number_text time.0.0) time.0.1 t2 t34 in
    let t14 = Takes-then bytes (number_text num.0.0) num.0.1 (number_text parent_num.0.0 ++ number_text lib_num.0.0 ++ number_text time.0.0) time.0.1 t1 t24 in
    subst (λ (y : Numbers × List ℕ). Takes bytes (numbers_text y.0) y.1) (ok_is made x time.2) t14

end_ok : {A : Type 0} (b : Bool) (x y : A) (at : ℕ) → (let r : Result A ℕ = cond b (Ok x) (Err at) in r) ≡ Ok y → (b ≡ true) × (x ≡ y)
end_ok true x y at e = (refl, cc)
end_ok false x y at e = absurd cc

-- bytes that are read are the parts of a record
fields_parts : (bytes : List ℕ) (f : Fields) → IsBytes bytes → read_fields bytes ≡ Ok f → (version : ℕ) × IsVersion version × (bytes ≡ parts version f)
unfolding read_fields
fields_parts bytes f fits e =
    let total = length bytes in
    let version = read_ok total version_at bytes (with_version total) f e in
    let v = version.0.0 in
    let n = bind_ok (read_numbers total version.0.1) (with_numbers v total) f version.2 in
    let id = read_ok total id_at n.0.1 (with_id v total n.0.0) f n.2 in
    let parent_id = read_ok total id_at id.0.1 (with_parent_id v total n.0.0 id.0.0) f id.2 in
    let payload = read_ok total payload_at parent_id.0.1 (with_payload v total n.0.0 id.0.0 parent_id.0.0) f parent_id.2 in
    let digest = read_ok total (digest_at v (sha256 payload.0.0)) payload.0.1 (with_digest total n.0.0 id.0.0 parent_id.0.0 payload.0.0) f payload.2 in
    let t0 = version_takes bytes version.0 fits version.1 in
    let t1 = numbers_take total version.0.1 n.0 t0.0.rest_fits n.1 in
    let t2 = id_takes n.0.1 id.0 t1.rest_fits id.1 in
    let t3 = id_takes id.0.1 parent_id.0 t2.rest_fits parent_id.1 in
    let t4 = payload_takes parent_id.0.1 payload.0 t3.rest_fits payload.1 in
    let t5 = digest_takes v (sha256 payload.0.0) payload.0.1 digest.0 t4.rest_fits digest.1 in
    let last : List ℕ = digest_text v (sha256 payload.0.0) in
    let t45 = Takes-then parent_id.0.1 (payload_text payload.0.0) payload.0.1 last digest.0.1 t4 t5 in
    let t35 = Takes-then id.0.1 (id_text parent_id.0.0) parent_id.0.1 (payload_text payload.0.0 ++ last) digest.0.1 t3 t45 in
    let t25 = Takes-then n.0.1 (id_text id.0.0) id.0.1 (id_text parent_id.0.0 ++ (payload_text payload.0.0 ++ last)) digest.0.1 t2 t35 in
    let t15 = Takes-then version.0.1 (numbers_text n.0.0) n.0.1 (id_text id.0.0 ++ (id_text parent_id.0.0 ++ (payload_text payload.0.0 ++ last))) digest.0.1 t1 t25 in
    let made : Fields = record { num = n.0.0.num; parent_num = n.0.0.parent_num; lib_num = n.0.0.lib_num; time = n.0.0.time; id = id.0.0; parent_id = parent_id.0.0; payload = payload.0.0 } in
    let ends = end_ok (eqb (length digest.0.1) 0) made f (place total digest.0.1) digest.2 in
    let none : digest.0.1 ≡ [] = nil_from_length digest.0.1 (eqb-true _ _ ends.0) in
    let whole : bytes ≡ parts v made = t0.0.parts ∙ ap (λ (l : List ℕ). v ∷ l) (t15.parts ∙ ap (λ (l : List ℕ). numbers_text n.0.0 ++ (id_text id.0.0 ++ (id_text parent_id.0.0 ++ (payload_text payload.0.0 ++ last))) ++ l) none ∙ append-nil _) in
    (v, t0.1, whole ∙ ap (parts v) ends.1)

-- they are a record, in one of the forms
fields_text : (bytes : List ℕ) (f : Fields) → IsBytes bytes → read_fields bytes ≡ Ok f → (bytes ≡ text_of f) ⊎ (bytes ≡ old_text_of f)
fields_text bytes f fits e =
    let p = fields_parts bytes f fits e in
    elim p.1 [
      | inl old ↦ inr (p.2 ∙ ap (λ (v : ℕ). parts v f) old ∙ sym (old_text_of-parts f))
      | inr new ↦ inl (p.2 ∙ ap (λ (v : ℕ). parts v f) new ∙ sym (text_of-parts f))
    ]

-- ---- what was decoded

pub is_text : (bytes : List ℕ) (r : Result Block RecordFault) → IsBytes bytes → Gives fields_of r (read_fields bytes) → IfOk r (λ b. IsRecordText bytes b)
is_text bytes (Ok b) fits gives = fields_text bytes (fields_of b) fits gives
is_text bytes (Err e) fits gives = tt

pub is_back : (bytes : List ℕ) (r : Result Block RecordFault) (b : Block) → Gives fields_of r (read_fields bytes) → IsRecordable b → IsRecordText bytes b → Unless Mem r (r ≡ Ok b)
is_back bytes (Ok x) b gives is text apart = ap (λ (y : Block). Ok y) (same_block x b (ok_is (fields_of x) (fields_of b) (sym gives ∙ record_again bytes b is text)))
is_back bytes (Err Mem) b gives is text apart = absurd (apart refl)
is_back bytes (Err (BadRecord at)) b gives is text apart = absurd (let clash = sym gives ∙ record_again bytes b is text in cc)

pub is_fault : (bytes : List ℕ) (r : Result Block RecordFault) → Gives fields_of r (read_fields bytes) → Unless Mem r (bad_place r ≡ record_fault bytes)
is_fault bytes (Ok x) gives apart = ap fault_of (sym gives) ∙ record_fault_is bytes
is_fault bytes (Err Mem) gives apart = absurd (apart refl)
is_fault bytes (Err (BadRecord at)) gives apart = ap fault_of (sym gives) ∙ record_fault_is bytes
