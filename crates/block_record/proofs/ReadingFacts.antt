-- The stages of reading a record, and the place of its first fault.
use Rattle.std.proofs.Common.{◌≡◌, ℕ, Bool, true, false, cond, eqb, List, [], ◌∷◌, length, take, drop, Option, Some, None, Result, Ok, Err, refl, ap, ◌∙◌}
use Rattle.std.specs.Option.{option_map}
use Rattle.std.specs.Int.{w64, from_be_bytes}
use Rattle.std.proofs.lemmas.List.{drop-drop}
use Rattle.sha2.specs.Sha256.{sha256}
use Rattle.block_record.specs.Records.{Fields, Field, place, version_at, number_at, parent_num_at, id_at, payload_at, digest_at, after, or_bad, first_bad, version_of, num_of, after_id, after_ids, payload_of, record_fault}
use Rattle.block_record.specs.Reading.{◌>>=◌, field_or, read, Numbers, read_numbers, read_fields}
use Rattle.block_record.proofs.FieldFacts.{version_rest, number_value, number_rest, parent_num_rest, id_rest, payload_in, payload_value}

-- the place of a fault, if there is one
abbrev pub fault_of : {A : Type 0} → Result A ℕ → Option ℕ
fault_of (Ok x) = None
fault_of (Err at) = Some at

-- one more field
step : {A B : Type 0} (total : ℕ) (field : Field A) (fields : List (List ℕ → Option (List ℕ))) (bytes : List ℕ) (f : A × List ℕ → Result B ℕ)
    → ((x : A × List ℕ) → field bytes ≡ Some x → fault_of (f x) ≡ first_bad total fields x.1)
    → fault_of (read total field bytes >>= f) ≡ first_bad total (after field ∷ fields) bytes
step {A} {B} total field fields bytes f h = by_option (field bytes) refl
  where
    by_option : (o : Option (A × List ℕ)) → field bytes ≡ o → fault_of (field_or (place total bytes) o >>= f) ≡ or_bad (place total bytes) (option_map (λ p. p.1) o) (λ rest. first_bad total fields rest)
    by_option None e = refl
    by_option (Some x) e = h x e

bind_assoc : {A B C : Type 0} (r : Result A ℕ) (f : A → Result B ℕ) (g : B → Result C ℕ) → ((r >>= f) >>= g) ≡ (r >>= λ x. f x >>= g)
bind_assoc (Ok x) f g = refl
bind_assoc (Err at) f g = refl

-- one more field of the numbers
step_in : {A B C : Type 0} (total : ℕ) (field : Field A) (fields : List (List ℕ → Option (List ℕ))) (bytes : List ℕ) (f : A × List ℕ → Result B ℕ) (g : B → Result C ℕ)
    → ((x : A × List ℕ) → field bytes ≡ Some x → fault_of (f x >>= g) ≡ first_bad total fields x.1)
    → fault_of ((read total field bytes >>= f) >>= g) ≡ first_bad total (after field ∷ fields) bytes
step_in total field fields bytes f g h = ap fault_of (bind_assoc (read total field bytes) f g) ∙ step total field fields bytes (λ x. f x >>= g) h

-- what follows four numbers
four_rest : (bytes a b c d : List ℕ) → a ≡ drop 8 bytes → b ≡ drop 8 a → c ≡ drop 8 b → d ≡ drop 8 c → d ≡ drop 32 bytes
four_rest bytes a b c d ea eb ec ed =
    ed ∙ ap (drop 8) (ec ∙ ap (drop 8) (eb ∙ ap (drop 8) ea)) ∙ ap (drop 8) (ap (drop 8) (drop-drop 8 8 bytes)) ∙ ap (drop 8) (drop-drop 8 16 bytes) ∙ drop-drop 8 24 bytes

-- what follows the ids
ids_rest : (bytes version numbers id parent_id : List ℕ) → version ≡ drop 1 bytes → numbers ≡ drop 32 version → id ≡ after_id numbers → parent_id ≡ after_id id → parent_id ≡ after_ids bytes
ids_rest bytes version numbers id parent_id ev en ei ep =
    ep ∙ ap after_id (ei ∙ ap after_id (en ∙ ap (drop 32) ev ∙ drop-drop 32 1 bytes))

-- what is read after each of the numbers
abbrev pub with_time : ℕ → ℕ → ℕ → ℕ × List ℕ → Result (Numbers × List ℕ) ℕ
with_time num parent_num lib_num time = Ok (record { num = num; parent_num = parent_num; lib_num = lib_num; time = time.0 }, time.1)

abbrev pub with_lib_num : ℕ → ℕ → ℕ → ℕ × List ℕ → Result (Numbers × List ℕ) ℕ
with_lib_num total num parent_num lib_num = read total (number_at w64) lib_num.1 >>= with_time num parent_num lib_num.0

abbrev pub with_parent_num : ℕ → ℕ → ℕ × List ℕ → Result (Numbers × List ℕ) ℕ
with_parent_num total num parent_num = read total (number_at w64) parent_num.1 >>= with_lib_num total num parent_num.0

abbrev pub with_num : ℕ → ℕ × List ℕ → Result (Numbers × List ℕ) ℕ
with_num total num = read total (parent_num_at num.0) num.1 >>= with_parent_num total num.0

-- what is read after the numbers of a record of this version
abbrev pub with_digest : ℕ → Numbers → List ℕ → List ℕ → List ℕ → List ℕ × List ℕ → Result Fields ℕ
with_digest total n id parent_id payload digest =
    cond (eqb (length digest.1) 0) (Ok (record { num = n.num; parent_num = n.parent_num; lib_num = n.lib_num; time = n.time; id = id; parent_id = parent_id; payload = payload })) (Err (place total digest.1))

abbrev pub with_payload : ℕ → ℕ → Numbers → List ℕ → List ℕ → List ℕ × List ℕ → Result Fields ℕ
with_payload version total n id parent_id payload = read total (digest_at version (sha256 payload.0)) payload.1 >>= with_digest total n id parent_id payload.0

abbrev pub with_parent_id : ℕ → ℕ → Numbers → List ℕ → List ℕ × List ℕ → Result Fields ℕ
with_parent_id version total n id parent_id = read total payload_at parent_id.1 >>= with_payload version total n id parent_id.0

abbrev pub with_id : ℕ → ℕ → Numbers → List ℕ × List ℕ → Result Fields ℕ
with_id version total n id = read total id_at id.1 >>= with_parent_id version total n id.0

abbrev pub with_numbers : ℕ → ℕ → Numbers × List ℕ → Result Fields ℕ
with_numbers version total n = read total id_at n.1 >>= with_id version total n.0

abbrev pub with_version : ℕ → ℕ × List ℕ → Result Fields ℕ
with_version total version = read_numbers total version.1 >>= with_numbers version.0 total

-- the places of the numbers, beside a block with the number at their front
numbers_fault : {B : Type 0} (total : ℕ) (fields : List (List ℕ → Option (List ℕ))) (bytes : List ℕ) (g : Numbers × List ℕ → Result B ℕ)
    → ((x : Numbers × List ℕ) → x.1 ≡ drop 32 bytes → fault_of (g x) ≡ first_bad total fields x.1)
    → fault_of (read_numbers total bytes >>= g)
    ≡ first_bad total (after (number_at w64) ∷ after (parent_num_at (from_be_bytes w64 (take 8 bytes))) ∷ after (number_at w64) ∷ after (number_at w64) ∷ fields) bytes
unfolding read_numbers
numbers_fault {B} total fields bytes g h =
    let last : List (List ℕ → Option (List ℕ)) = after (number_at w64) ∷ fields in
    let two : List (List ℕ → Option (List ℕ)) = after (number_at w64) ∷ last in
    let three : List (List ℕ → Option (List ℕ)) = after (parent_num_at (from_be_bytes w64 (take 8 bytes))) ∷ two in
    step_in total (number_at w64) three bytes (with_num total) g (λ num en.
    let same : num.0 ≡ from_be_bytes w64 (take 8 bytes) = number_value w64 bytes num en in
    step_in total (parent_num_at num.0) two num.1 (with_parent_num total num.0) g (λ parent_num ep.
    step_in total (number_at w64) last parent_num.1 (with_lib_num total num.0 parent_num.0) g (λ lib_num el.
    step_in total (number_at w64) fields lib_num.1 (with_time num.0 parent_num.0 lib_num.0) g (λ time et.
    h (record { num = num.0; parent_num = parent_num.0; lib_num = lib_num.0; time = time.0 }, time.1)
    (four_rest bytes num.1 parent_num.1 lib_num.1 time.1 (number_rest w64 bytes num en) (parent_num_rest num.0 num.1 parent_num ep) (number_rest w64 parent_num.1 lib_num el) (number_rest w64 lib_num.1 time et)))))
    ∙ ap (λ (n : ℕ). first_bad total (after (parent_num_at n) ∷ two) num.1) same)

end_fault : {A : Type 0} (b : Bool) (x : A) (at : ℕ) → fault_of (let r : Result A ℕ = cond b (Ok x) (Err at) in r) ≡ cond b None (Some at)
end_fault true x at = refl
end_fault false x at = refl

-- where reading stops is the first place at which the bytes are no record
pub record_fault_is : (bytes : List ℕ) → fault_of (read_fields bytes) ≡ record_fault bytes
unfolding read_fields
record_fault_is bytes =
    let total = length bytes in
    let last : List (List ℕ → Option (List ℕ)) = after (digest_at (version_of bytes) (sha256 (payload_of bytes))) ∷ [] in
    let ids : List (List ℕ → Option (List ℕ)) = after id_at ∷ after id_at ∷ after payload_at ∷ last in
    let numbers : ℕ → List (List ℕ → Option (List ℕ)) = λ (n : ℕ). after (number_at w64) ∷ after (parent_num_at n) ∷ after (number_at w64) ∷ after (number_at w64) ∷ ids in
    step total version_at (numbers (num_of bytes)) bytes (with_version total) (λ version ev.
    let front = version_rest bytes version ev in
    numbers_fault total ids version.1 (with_numbers version.0 total) (λ n en.
    step total id_at (after id_at ∷ after payload_at ∷ last) n.1 (with_id version.0 total n.0) (λ id e.
    step total id_at (after payload_at ∷ last) id.1 (with_parent_id version.0 total n.0 id.0) (λ parent_id ep.
    let rest : parent_id.1 ≡ after_ids bytes = ids_rest bytes version.1 n.1 id.1 parent_id.1 front.1 en (id_rest n.1 id e) (id_rest id.1 parent_id ep) in
    step total payload_at last parent_id.1 (with_payload version.0 total n.0 id.0 parent_id.0) (λ payload el.
    let own : payload.0 ≡ payload_of bytes = payload_value parent_id.1 payload el ∙ ap payload_in rest in
    step total (digest_at version.0 (sha256 payload.0)) [] payload.1 (with_digest total n.0 id.0 parent_id.0 payload.0) (λ digest ed. end_fault (eqb (length digest.1) 0) _ _)
    ∙ ap (λ (v : ℕ). first_bad total (after (digest_at v (sha256 payload.0)) ∷ []) payload.1) front.0
    ∙ ap (λ (p : List ℕ). first_bad total (after (digest_at (version_of bytes) (sha256 p)) ∷ []) payload.1) own))))
    ∙ ap (λ (l : List ℕ). first_bad total (numbers (from_be_bytes w64 (take 8 l))) version.1) front.1)
