-- A record reads back as the fields of its block, in either form, and blocks with equal fields are one.
use Rattle.std.proofs.Common.{◌≡◌, ℕ, ◌<◌, ◌≤◌, ◌^◌, true, List, [], ◌∷◌, ◌++◌, length, Some, Result, Ok, refl, sym, ap, ◌∙◌, append_assoc, arith, inl, inr, IsTrue}
use Rattle.std.specs.Int.{w64}
use Rattle.std.proofs.lemmas.Bool.{eqb-true, or_cases, ltb-true, and_parts}
use Rattle.std.proofs.lemmas.List.{append-nil}
use Rattle.std.proofs.Props.{props}
use Rattle.sha2.specs.Sha256.{sha256}
use Rattle.sha2.proofs.Facts256.{length-sha256}
use mathlib.Core.HLevel.{is_prop→PathP}
use Rattle.block_record.specs.declared.blocks.Block.{Block}
use Rattle.block_record.specs.Parents.{is_parent_num}
use Rattle.block_record.specs.Texts.{is_id_text}
use Rattle.block_record.specs.Records.{Fields, Field, place, version_at, number_at, parent_num_at, id_at, payload_at, digest_at, number_text, id_text, payload_text, text_from, text_of, old_text_of, fields_of, record_text, old_record_text, IsRecordable, IsRecordText}
use Rattle.block_record.specs.Reading.{◌>>=◌, field_or, read, Numbers, read_numbers, read_fields}
use Rattle.block_record.proofs.FieldFacts.{wide64, number_again, parent_num_again, id_again, payload_again, IsVersion, version_again, digest_text, digest_again}
use Rattle.block_record.proofs.ReadingFacts.{with_time, with_lib_num, with_parent_num, with_num, with_digest, with_payload, with_parent_id, with_id, with_numbers, with_version}

-- the parts of a record of this version, one after another
abbrev pub parts : ℕ → Fields → List ℕ
parts version f =
    version
    ∷ (number_text f.num ++ (number_text f.parent_num ++ (number_text f.lib_num ++ (number_text f.time ++ (id_text f.id ++ (id_text f.parent_id ++ (payload_text f.payload ++ digest_text version (sha256 f.payload))))))))

-- the text of the fields, and what follows it
text_from-parts : (version : ℕ) (f : Fields) (rest : List ℕ) → text_from version f ++ rest
    ≡ version ∷ (number_text f.num ++ (number_text f.parent_num ++ (number_text f.lib_num ++ (number_text f.time ++ (id_text f.id ++ (id_text f.parent_id ++ (payload_text f.payload ++ rest)))))))
text_from-parts version f rest =
    ap (λ (l : List ℕ). version ∷ (number_text f.num ++ (number_text f.parent_num ++ (number_text f.lib_num ++ (number_text f.time ++ l)))))
    (append_assoc (id_text f.id ++ id_text f.parent_id) (payload_text f.payload) rest ∙ append_assoc (id_text f.id) (id_text f.parent_id) (payload_text f.payload ++ rest))

-- each record is its parts
pub text_of-parts : (f : Fields) → text_of f ≡ parts 2 f
text_of-parts f = text_from-parts 2 f (sha256 f.payload)

pub old_text_of-parts : (f : Fields) → old_text_of f ≡ parts 1 f
old_text_of-parts f = sym (append-nil (old_text_of f)) ∙ text_from-parts 1 f []

read_again : {A B : Type 0} (total : ℕ) (field : Field A) (bytes : List ℕ) (f : A × List ℕ → Result B ℕ) (x : A × List ℕ) → field bytes ≡ Some x → (read total field bytes >>= f) ≡ f x
read_again total field bytes f x e = ap (λ o. field_or (place total bytes) o >>= f) e

-- what has a record
pub record Fits (f : Fields) : Type 0 where
  pub num : f.num < 2 ^ 64
  pub lib_num : f.lib_num < 2 ^ 64
  pub time : f.time < 2 ^ 64
  pub parent_num : is_parent_num f.parent_num f.num ≡ true
  pub id : is_id_text f.id ≡ true
  pub parent_id : is_id_text f.parent_id ≡ true
  pub payload : length f.payload ≤ 50_000_000

parent_num_small : (p n : ℕ) → n < 2 ^ 64 → is_parent_num p n ≡ true → p < 2 ^ 64
parent_num_small p n small is =
    elim (or_cases _ _ is) [
      | inl less ↦ omega (arith, ltb-true p n less, small)
      | inr both ↦ omega (arith, eqb-true p 0 (and_parts _ _ both).1)
    ]

numbers_again : (total num parent_num lib_num time : ℕ) (rest : List ℕ) → num < 2 ^ 64 → is_parent_num parent_num num ≡ true → lib_num < 2 ^ 64 → time < 2 ^ 64
    → read_numbers total (number_text num ++ (number_text parent_num ++ (number_text lib_num ++ (number_text time ++ rest))))
    ≡ Ok (record { num = num; parent_num = parent_num; lib_num = lib_num; time = time }, rest)
unfolding read_numbers
numbers_again total num parent_num lib_num time rest hn hp hl ht =
    let r4 : List ℕ = number_text time ++ rest in
    let r3 : List ℕ = number_text lib_num ++ r4 in
    let r2 : List ℕ = number_text parent_num ++ r3 in
    read_again total (number_at w64) (number_text num ++ r2) (with_num total) (num, r2) (number_again w64 (2 ^ 64) wide64 num r2 hn)
    ∙ read_again total (parent_num_at num) r2 (with_parent_num total num) (parent_num, r3) (parent_num_again num parent_num r3 (parent_num_small parent_num num hn hp) hp)
    ∙ read_again total (number_at w64) r3 (with_lib_num total num parent_num) (lib_num, r4) (number_again w64 (2 ^ 64) wide64 lib_num r4 hl)
    ∙ read_again total (number_at w64) r4 (with_time num parent_num lib_num) (time, rest) (number_again w64 (2 ^ 64) wide64 time rest ht)

-- a record of this version is read as its fields
parts_again : (version : ℕ) (f : Fields) → IsVersion version → Fits f → read_fields (parts version f) ≡ Ok f
unfolding read_fields
parts_again version f is fits =
    let total = length (parts version f) in
    let n : Numbers = record { num = f.num; parent_num = f.parent_num; lib_num = f.lib_num; time = f.time } in
    let digest : List ℕ = sha256 f.payload in
    let r4 : List ℕ = digest_text version digest in
    let r3 : List ℕ = payload_text f.payload ++ r4 in
    let r2 : List ℕ = id_text f.parent_id ++ r3 in
    let r1 : List ℕ = id_text f.id ++ r2 in
    let r0 : List ℕ = number_text f.num ++ (number_text f.parent_num ++ (number_text f.lib_num ++ (number_text f.time ++ r1))) in
    read_again total version_at (version ∷ r0) (with_version total) (version, r0) (version_again version r0 is)
    ∙ ap (λ (r : Result (Numbers × List ℕ) ℕ). r >>= with_numbers version total) (numbers_again total f.num f.parent_num f.lib_num f.time r1 fits.num fits.parent_num fits.lib_num fits.time)
    ∙ read_again total id_at r1 (with_id version total n) (f.id, r2) (id_again f.id r2 fits.id)
    ∙ read_again total id_at r2 (with_parent_id version total n f.id) (f.parent_id, r3) (id_again f.parent_id r3 fits.parent_id)
    ∙ read_again total payload_at r3 (with_payload version total n f.id f.parent_id) (f.payload, r4) (payload_again f.payload r4 fits.payload)
    ∙ read_again total (digest_at version digest) r4 (with_digest total n f.id f.parent_id f.payload) (digest, []) (ap (digest_at version digest) (sym (append-nil r4)) ∙ digest_again version digest [] (length-sha256 f.payload))

-- two blocks with the same fields are one
pub same_block : (a b : Block) → fields_of a ≡ fields_of b → a ≡ b
same_block a b p =
    let d : a.digest ≡ b.digest = a.digested ∙ ap (λ (f : Fields). sha256 f.payload) p ∙ sym b.digested in
    λ i. record {
      num = (p i).num;
      id = (p i).id;
      parent_num = (p i).parent_num;
      parent_id = (p i).parent_id;
      lib_num = (p i).lib_num;
      time = (p i).time;
      payload = (p i).payload;
      digest = d i;
      parent_first = is_prop→PathP (λ j. IsTrue (is_parent_num (p j).parent_num (p j).num)) (λ j. hlevel props) a.parent_first b.parent_first i;
      small = is_prop→PathP (λ j. length (p j).payload ≤ 50_000_000) (λ j. hlevel props) a.small b.small i;
      digested = is_prop→PathP (λ j. d j ≡ sha256 (p j).payload) (λ j. hlevel props) a.digested b.digested i;
    }

-- what each block with a record has
block_fits : (b : Block) → IsRecordable b → Fits (fields_of b)
block_fits b is = record {
  num = is.num;
  lib_num = is.lib_num;
  time = is.time;
  parent_num = b.parent_first;
  id = is.id;
  parent_id = is.parent_id;
  payload = b.small;
}

-- record 2 of a block is read as the block's fields
pub block_again : (b : Block) → IsRecordable b → read_fields (record_text b) ≡ Ok (fields_of b)
block_again b is = ap read_fields (text_of-parts (fields_of b)) ∙ parts_again 2 (fields_of b) (inr refl) (block_fits b is)

-- so is record 1
pub old_block_again : (b : Block) → IsRecordable b → read_fields (old_record_text b) ≡ Ok (fields_of b)
old_block_again b is = ap read_fields (old_text_of-parts (fields_of b)) ∙ parts_again 1 (fields_of b) (inl refl) (block_fits b is)

-- a record in either form is read as the block's fields
pub record_again : (bytes : List ℕ) (b : Block) → IsRecordable b → IsRecordText bytes b → read_fields bytes ≡ Ok (fields_of b)
record_again bytes b is (inl new) = ap read_fields new ∙ block_again b is
record_again bytes b is (inr old) = ap read_fields old ∙ old_block_again b is

-- bytes are the record of one block at most
pub one_record : (bytes : List ℕ) (a b : Block) → IsRecordable a → IsRecordable b → IsRecordText bytes a → IsRecordText bytes b → a ≡ b
one_record bytes a b has_a has_b is_a is_b =
    let same : Ok (fields_of a) ≡ (let r : Result Fields ℕ = Ok (fields_of b) in r) = sym (record_again bytes a has_a is_a) ∙ record_again bytes b has_b is_b in
    same_block a b cc
