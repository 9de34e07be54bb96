-- The members of a step's line: each is read, and what is read stands there.
use Rattle.std.proofs.Common.{◌≡◌, ◌≤◌, ◌⊎◌, inl, inr, ℕ, Bool, true, false, cond, List, [], ◌∷◌, ◌++◌, length, Option, None, Some, Result, Ok, Err, IsTrue, refl, sym, ◌∙◌, ap, subst, arith}
use Rattle.std.specs.Prelude.{codes, bytes_eq, nat_le, option_and_then}
use Rattle.std.specs.Result.{result_ok}
use Rattle.std.proofs.lemmas.Bool.{le-leb}
use Rattle.std.proofs.lemmas.Option.{cond_some, same_Some}
use Rattle.std.proofs.lemmas.Slice.Eq.{bytes_eq-Decides}
use Rattle.base64.specs.declared.decode.DecodeError.{DecodeError}
use Rattle.base64.specs.GeneralPurpose.{IsBytes, encode_of, decode_of}
use Rattle.base64.specs.Engines.{standard, url_safe_no_pad}
use Rattle.base64.proofs.EngineFacts.{IsAscii-encode_of, decode_of-encode_of, decode_of_strict}
use Rattle.hex.specs.Hex.{encode_lower}
use Rattle.sha2.specs.Sha256.{sha256}
use Rattle.block_record.specs.Number.{number_of}
use Rattle.block_record.specs.Parents.{is_parent_num}
use Rattle.block_record.specs.Records.{Fields}
use Rattle.block_record.specs.Texts.{IsId}
use Rattle.chain_model.specs.declared.places.Step.{Step}
use Rattle.chain_model.specs.declared.places.Step.TheVariants as step
use Rattle.fire_lines.specs.Fields.{id_of, payload_of}
use Rattle.step_cursor.specs.declared.cursor.Cursor.{Cursor}
use Rattle.step_cursor.specs.CursorText.{IsPrintable, cursor_text, plain_text}
use Rattle.step_text.specs.StepText.{word_of}
use Rattle.reply_laws.proofs.public.Readers.{none-standard, none-url_safe}
use Rattle.reply_laws.proofs.public.Values.{none-word}
use Rattle.reply_reader.specs.declared.lines.Names.{Names}
use Rattle.reply_reader.specs.Parts.{◌>>=◌, or_by, after_front, member, step_named, cursor_in}
use Rattle.reply_reader.specs.Reading.{Said, StepOf, any_names_at, names_at, block_at, digest_value, after_digest, ends, read_step}
use Rattle.reply_reader.proofs.public.BlockFacts.{any_names_are, block_is}
use Rattle.reply_reader.proofs.public.CursorFacts.{cursor_takes, cursor_again}
use Rattle.reply_reader.proofs.public.MemberFacts.{read_by, bytes_right, front_again, front_takes, member_again, member_takes, IsTaken, IsSmall, number_then, number_again, number_takes, word_then, id_again, id_takes}

-- ---- values at the end of a line

pub ends_takes : {A : Type 0} (end rest : List ℕ) (v w : A) → ends end rest v ≡ Some w → (rest ≡ end) × (v ≡ w)
ends_takes end rest v w e = let parts = cond_some (bytes_eq rest end) v w e in ((bytes_eq-Decides rest end).0 parts.0, parts.1)

-- a choice by a word
pub choose : {A P : Type 0} (word w : List ℕ) (x y : Option A) (v : A) → cond (bytes_eq word w) x y ≡ Some v → (word ≡ w → x ≡ Some v → P) → (y ≡ Some v → P) → P
choose {A} {P} word w x y v e here there = go (bytes_eq word w) refl e
  where
    go : (t : Bool) → bytes_eq word w ≡ t → cond t x y ≡ Some v → P
    go true is e = here ((bytes_eq-Decides word w).0 is) e
    go false is e = there e

-- ---- the kind of a step

step_again : (kind : Step) → step_named (word_of kind) ≡ Some kind
step_again step.New = refl
step_again step.Undo = refl
step_again step.Final = refl
step_again step.NewFinal = refl

step_takes : (word : List ℕ) (kind : Step) → step_named word ≡ Some kind → word ≡ word_of kind
step_takes word kind e =
    choose word (codes "new") _ _ kind e (λ w is. w ∙ named step.New is) (λ e.
    choose word (codes "undo") _ _ kind e (λ w is. w ∙ named step.Undo is) (λ e.
    choose word (codes "final") _ _ kind e (λ w is. w ∙ named step.Final is) (λ e.
    choose word (codes "newfinal") _ None kind e (λ w is. w ∙ named step.NewFinal is) (λ e. absurd (cc e)))))
  where
    named : (k : Step) → Some k ≡ Some kind → word_of k ≡ word_of kind
    named k is = let same : k ≡ kind = cc is in ap word_of same

-- ---- the names of a block and its parent

abbrev pub names_then : Names → List ℕ → List ℕ
names_then n rest =
    number_then (codes ",\"num\":") 44 n.num (word_then (codes "\"id\":\"") n.id (number_then (codes ",\"parent_num\":") 44 n.parent_num (word_then (codes "\"parent_id\":\"") n.parent_id rest)))

pub record AreNames (n : Names) : Type 0 where
  pub num : IsSmall n.num
  pub id : IsId n.id
  pub parent_num : IsSmall n.parent_num
  pub parent_id : IsId n.parent_id

names_again : (n : Names) (rest : List ℕ) → AreNames n → IsTrue (is_parent_num n.parent_num n.num) → names_at (names_then n rest) ≡ Some (n, rest)
unfolding names_at
names_again n rest are first =
    let all : any_names_at (names_then n rest) ≡ Some (n, rest)
    = any_names_are (names_then n rest) _ _ _ rest n.num n.id n.parent_num n.parent_id
    (number_again (codes ",\"num\":") 44 n.num (word_then (codes "\"id\":\"") n.id (number_then (codes ",\"parent_num\":") 44 n.parent_num (word_then (codes "\"parent_id\":\"") n.parent_id rest))) refl are.num)
    (id_again (codes "\"id\":\"") n.id (number_then (codes ",\"parent_num\":") 44 n.parent_num (word_then (codes "\"parent_id\":\"") n.parent_id rest)) are.id)
    (number_again (codes ",\"parent_num\":") 44 n.parent_num (word_then (codes "\"parent_id\":\"") n.parent_id rest) refl are.parent_num)
    (id_again (codes "\"parent_id\":\"") n.parent_id rest are.parent_id) in
    rw (all, first) refl

-- what is read of the names, once those before were read
abbrev with_parent_num : ℕ → List ℕ → ℕ × List ℕ → Option (Names × List ℕ)
with_parent_num num id p = member (codes "\"parent_id\":\"") 34 id_of p.1 >>= λ q. Some (record { num = num; id = id; parent_num = p.0; parent_id = q.0 }, q.1)

abbrev with_id : ℕ → List ℕ × List ℕ → Option (Names × List ℕ)
with_id num i = member (codes ",\"parent_num\":") 44 number_of i.1 >>= with_parent_num num i.0

abbrev with_num : ℕ × List ℕ → Option (Names × List ℕ)
with_num n = member (codes "\"id\":\"") 34 id_of n.1 >>= with_id n.0

any_names_takes : (text : List ℕ) (x : Names × List ℕ) → IsBytes text → any_names_at text ≡ Some x → IsTaken AreNames names_then text x
unfolding any_names_at
any_names_takes text x bytes e =
    let a = read_by (member (codes ",\"num\":") 44 number_of text) with_num x e in
    let num = number_takes (codes ",\"num\":") 44 text a.value bytes a.found in
    let b = read_by (member (codes "\"id\":\"") 34 id_of a.value.1) (with_id a.value.0) x a.later in
    let id = id_takes (codes "\"id\":\"") a.value.1 b.value num.bytes b.found in
    let c = read_by (member (codes ",\"parent_num\":") 44 number_of b.value.1) (with_parent_num a.value.0 b.value.0) x b.later in
    let parent_num = number_takes (codes ",\"parent_num\":") 44 b.value.1 c.value id.bytes c.found in
    let d = read_by (member (codes "\"parent_id\":\"") 34 id_of c.value.1) (last a.value.0 b.value.0 c.value.0) x c.later in
    let parent_id = id_takes (codes "\"parent_id\":\"") c.value.1 d.value parent_num.bytes d.found in
    at_end a.value b.value c.value d.value
    (num.text_is ∙ ap (λ l. number_then (codes ",\"num\":") 44 a.value.0 l) (id.text_is ∙ ap (λ l. word_then (codes "\"id\":\"") b.value.0 l) (parent_num.text_is ∙ ap (λ l. number_then (codes ",\"parent_num\":") 44 c.value.0 l) parent_id.text_is)))
    (record { num = num.value; id = id.value; parent_num = parent_num.value; parent_id = parent_id.value }) parent_id.bytes d.later
  where
    last : ℕ → List ℕ → ℕ → List ℕ × List ℕ → Option (Names × List ℕ)
    last num id parent_num q = Some (record { num = num; id = id; parent_num = parent_num; parent_id = q.0 }, q.1)

    at_end : (a : ℕ × List ℕ) (b : List ℕ × List ℕ) (c : ℕ × List ℕ) (d : List ℕ × List ℕ)
        → (let n : Names = record { num = a.0; id = b.0; parent_num = c.0; parent_id = d.0 } in text ≡ names_then n d.1)
        → (let n : Names = record { num = a.0; id = b.0; parent_num = c.0; parent_id = d.0 } in AreNames n) → IsBytes d.1
        → (let o : Option (Names × List ℕ) = Some (record { num = a.0; id = b.0; parent_num = c.0; parent_id = d.0 }, d.1) in o ≡ Some x) → IsTaken AreNames names_then text x
    at_end a b c d is are left e =
        let p : Names × List ℕ = (record { num = a.0; id = b.0; parent_num = c.0; parent_id = d.0 }, d.1) in
        let taken : IsTaken AreNames names_then text p = record { value = are; text_is = is; bytes = left } in
        let same : p ≡ x = cc e in
        rw (sym same) taken

names_takes : (text : List ℕ) (x : Names × List ℕ) → IsBytes text → names_at text ≡ Some x → IsTaken AreNames names_then text x
unfolding names_at
names_takes text x bytes e =
    let a = read_by (any_names_at text) allowed x e in
    let same = (cond_some (is_parent_num a.value.0.parent_num a.value.0.num) a.value x a.later).1 in
    any_names_takes text x bytes (a.found ∙ ap Some same)
  where
    allowed : Names × List ℕ → Option (Names × List ℕ)
    allowed p = cond (is_parent_num p.0.parent_num p.0.num) (Some p) None

-- ---- the payload

abbrev pub payload_then : List ℕ → List ℕ → List ℕ
payload_then payload rest = word_then (codes "\"payload\":\"") (encode_of standard payload) rest

payload_of-encode_of : (payload : List ℕ) → IsBytes payload → length payload ≤ 50_000_000 → payload_of (encode_of standard payload) ≡ Some payload
unfolding payload_of
payload_of-encode_of payload bytes small =
    let decoded = decode_of-encode_of standard payload refl bytes in
    let fits : nat_le (length payload) 50_000_000 ≡ true = le-leb (length payload) 50_000_000 small in
    rw decoded (rw fits refl)

payload_again : (payload rest : List ℕ) → IsBytes payload → length payload ≤ 50_000_000 → member (codes "\"payload\":\"") 34 payload_of (payload_then payload rest) ≡ Some (payload, rest)
payload_again payload rest bytes small = member_again (codes "\"payload\":\"") 34 payload_of (encode_of standard payload) rest payload (none-standard payload) (payload_of-encode_of payload bytes small)

payload_of_takes : (word payload : List ℕ) → IsBytes word → payload_of word ≡ Some payload → word ≡ encode_of standard payload
unfolding payload_of
payload_of_takes word payload bytes e = by_decoding (decode_of standard word) refl e
  where
    by_decoding : (r : Result (List ℕ) DecodeError) → decode_of standard word ≡ r → option_and_then (λ b. cond (nat_le (length b) 50_000_000) (Some b) None) (result_ok r) ≡ Some payload → word ≡ encode_of standard payload
    by_decoding (Err x) is e = absurd (cc e)
    by_decoding (Ok b) is e =
        let same = (cond_some (nat_le (length b) 50_000_000) b payload e).1 in
        decode_of_strict standard word payload (refl, refl) bytes (is ∙ ap Ok same)

payload_takes : (text : List ℕ) (x : List ℕ × List ℕ) → IsBytes text → member (codes "\"payload\":\"") 34 payload_of text ≡ Some x → text ≡ payload_then x.0 x.1
payload_takes text x bytes e =
    let m = member_takes (codes "\"payload\":\"") 34 payload_of text x bytes e in
    m.text_is ∙ ap (λ w. word_then (codes "\"payload\":\"") w x.1) (payload_of_takes m.word x.0 m.word_bytes m.reads)

-- ---- the members of a block

abbrev pub fields_then : Fields → List ℕ → List ℕ
fields_then f rest =
    let n : Names = record { num = f.num; id = f.id; parent_num = f.parent_num; parent_id = f.parent_id } in
    names_then n (number_then (codes ",\"lib_num\":") 44 f.lib_num (number_then (codes "\"time\":") 44 f.time (payload_then f.payload rest)))

-- ids that are ids, and numbers of 64 bits
pub record AreFields (f : Fields) : Type 0 where
  pub num : IsSmall f.num
  pub id : IsId f.id
  pub parent_num : IsSmall f.parent_num
  pub parent_id : IsId f.parent_id
  pub lib_num : IsSmall f.lib_num
  pub time : IsSmall f.time

-- what each block has: a parent that may have its number, and a payload of bytes, which are not too many
pub record IsBlock (f : Fields) : Type 0 where
  pub first : IsTrue (is_parent_num f.parent_num f.num)
  pub small : length f.payload ≤ 50_000_000
  pub bytes : IsBytes f.payload

block_again : (f : Fields) (rest : List ℕ) → AreFields f → IsBlock f → block_at (fields_then f rest) ≡ Some (f, rest)
block_again f rest are is =
    let n : Names = record { num = f.num; id = f.id; parent_num = f.parent_num; parent_id = f.parent_id } in
    block_is (fields_then f rest) _ _ _ rest n f.lib_num f.time f.payload
    (names_again n (number_then (codes ",\"lib_num\":") 44 f.lib_num (number_then (codes "\"time\":") 44 f.time (payload_then f.payload rest)))
    (record { num = are.num; id = are.id; parent_num = are.parent_num; parent_id = are.parent_id }) is.first)
    (number_again (codes ",\"lib_num\":") 44 f.lib_num (number_then (codes "\"time\":") 44 f.time (payload_then f.payload rest)) refl are.lib_num)
    (number_again (codes "\"time\":") 44 f.time (payload_then f.payload rest) refl are.time)
    (payload_again f.payload rest is.bytes is.small)

-- what is read of a block, once the members before were read
abbrev block_of : Names → ℕ → ℕ → List ℕ × List ℕ → Fields × List ℕ
block_of n lib_num time p =
    (record { num = n.num; parent_num = n.parent_num; lib_num = lib_num; time = time; id = n.id; parent_id = n.parent_id; payload = p.0 }, p.1)

abbrev with_payload : Names → ℕ → ℕ → List ℕ × List ℕ → Option (Fields × List ℕ)
with_payload n lib_num time p = Some (block_of n lib_num time p)

abbrev with_time : Names → ℕ → ℕ × List ℕ → Option (Fields × List ℕ)
with_time n lib_num t = member (codes "\"payload\":\"") 34 payload_of t.1 >>= with_payload n lib_num t.0

abbrev with_lib_num : Names → ℕ × List ℕ → Option (Fields × List ℕ)
with_lib_num n l = member (codes "\"time\":") 44 number_of l.1 >>= with_time n l.0

abbrev with_names : Names × List ℕ → Option (Fields × List ℕ)
with_names n = member (codes ",\"lib_num\":") 44 number_of n.1 >>= with_lib_num n.0

block_takes : (text : List ℕ) (x : Fields × List ℕ) → IsBytes text → block_at text ≡ Some x → IsTaken AreFields fields_then text x
unfolding block_at
block_takes text x bytes e =
    let a = read_by (names_at text) with_names x e in
    let names = names_takes text a.value bytes a.found in
    let b = read_by (member (codes ",\"lib_num\":") 44 number_of a.value.1) (with_lib_num a.value.0) x a.later in
    let lib_num = number_takes (codes ",\"lib_num\":") 44 a.value.1 b.value names.bytes b.found in
    let c = read_by (member (codes "\"time\":") 44 number_of b.value.1) (with_time a.value.0 b.value.0) x b.later in
    let time = number_takes (codes "\"time\":") 44 b.value.1 c.value lib_num.bytes c.found in
    let d = read_by (member (codes "\"payload\":\"") 34 payload_of c.value.1) (with_payload a.value.0 b.value.0 c.value.0) x c.later in
    let payload = member_takes (codes "\"payload\":\"") 34 payload_of c.value.1 d.value time.bytes d.found in
    let p = block_of a.value.0 b.value.0 c.value.0 d.value in
    let taken : IsTaken AreFields fields_then text p = record {
      value = record {
        num = names.value.num;
        id = names.value.id;
        parent_num = names.value.parent_num;
        parent_id = names.value.parent_id;
        lib_num = lib_num.value;
        time = time.value;
      };
      text_is = names.text_is
          ∙ ap (λ l. names_then a.value.0 l)
          (lib_num.text_is ∙ ap (λ l. number_then (codes ",\"lib_num\":") 44 b.value.0 l) (time.text_is ∙ ap (λ l. number_then (codes "\"time\":") 44 c.value.0 l) (payload_takes c.value.1 d.value time.bytes d.found)));
      bytes = payload.bytes;
    } in
    let same : p ≡ x = same_Some p x d.later in
    rw (sym same) taken

-- ---- the digest

abbrev pub digest_then : List ℕ → List ℕ → List ℕ
digest_then digest rest = codes ",\"digest\":\"" ++ (encode_lower digest ++ 34 ∷ rest)

digest_again : (digest rest : List ℕ) → after_digest digest (digest_then digest rest) ≡ Some rest
unfolding after_digest
digest_again digest rest =
    ap (λ o. or_by o (digest_value digest) (Some (digest_then digest rest))) (front_again (codes ",\"digest\":\"") (encode_lower digest ++ 34 ∷ rest))
    ∙ ap (λ o. o >>= after_front (codes "\"")) (front_again (encode_lower digest) (34 ∷ rest)) ∙ front_again (codes "\"") rest

digest_takes : (digest text rest : List ℕ) → after_digest digest text ≡ Some rest → (text ≡ digest_then digest rest) ⊎ (text ≡ rest)
unfolding after_digest
digest_takes digest text rest e = go (after_front (codes ",\"digest\":\"") text) refl e
  where
    go : (o : Option (List ℕ)) → after_front (codes ",\"digest\":\"") text ≡ o → or_by o (digest_value digest) (Some text) ≡ Some rest → (text ≡ digest_then digest rest) ⊎ (text ≡ rest)
    go None is e = inr (same_Some text rest e)
    go (Some after) is e =
        let a = read_by (after_front (encode_lower digest) after) (after_front (codes "\"")) rest e in
        inl (front_takes (codes ",\"digest\":\"") text after is
        ∙ ap (λ l. codes ",\"digest\":\"" ++ l) (front_takes (encode_lower digest) after a.value a.found ∙ ap (λ l. encode_lower digest ++ l) (front_takes (codes "\"") a.value rest a.later)))

-- ---- the line of a step, after its first bytes

abbrev pub cursor_then : Cursor → List ℕ
cursor_then c = word_then (codes ",\"cursor\":\"") (cursor_text c) (codes "}")

-- with its digest, and without it
abbrev pub step_text : Step → Fields → Cursor → List ℕ
step_text kind f c = word_then [] (word_of kind) (fields_then f (digest_then (sha256 f.payload) (cursor_then c)))

abbrev pub old_step_text : Step → Fields → Cursor → List ℕ
old_step_text kind f c = word_then [] (word_of kind) (fields_then f (cursor_then c))

bytes_of_cursor : (c : Cursor) → IsBytes (cursor_text c)
bytes_of_cursor c i = let ascii = IsAscii-encode_of url_safe_no_pad (plain_text c) i in omega (arith, ascii)

-- what is read of a step, once the members before were read
abbrev with_cursor : Step → Fields → Cursor × List ℕ → Option Said
with_cursor kind f c = ends (codes "}") c.1 (StepOf kind f c.0)

abbrev with_digest : Step → Fields → List ℕ → Option Said
with_digest kind f rest = member (codes ",\"cursor\":\"") 34 cursor_in rest >>= with_cursor kind f

abbrev with_block : Step → Fields × List ℕ → Option Said
with_block kind b = after_digest (sha256 b.0.payload) b.1 >>= with_digest kind b.0

abbrev with_kind : Step × List ℕ → Option Said
with_kind k = block_at k.1 >>= with_block k.0

cursor_member : (c : Cursor) → IsPrintable c → member (codes ",\"cursor\":\"") 34 cursor_in (cursor_then c) ≡ Some (c, codes "}")
cursor_member c p = member_again (codes ",\"cursor\":\"") 34 cursor_in (cursor_text c) (codes "}") c (none-url_safe (plain_text c)) (cursor_again (cursor_text c) c (bytes_of_cursor c) p refl)

after_block : (kind : Step) (f : Fields) (c : Cursor) (text : List ℕ) → IsPrintable c → AreFields f → IsBlock f → after_digest (sha256 f.payload) text ≡ Some (cursor_then c)
    → read_step (word_then [] (word_of kind) (fields_then f text)) ≡ Some (StepOf kind f c)
unfolding read_step
after_block kind f c text p are is left =
    ap (λ o. o >>= with_kind) (member_again [] 34 step_named (word_of kind) (fields_then f text) kind (none-word kind) (step_again kind))
    ∙ ap (λ o. o >>= with_block kind) (block_again f text are is) ∙ ap (λ o. o >>= with_digest kind f) left ∙ ap (λ o. o >>= with_cursor kind f) (cursor_member c p)

pub step_text_again : (kind : Step) (f : Fields) (c : Cursor) → IsPrintable c → AreFields f → IsBlock f → read_step (step_text kind f c) ≡ Some (StepOf kind f c)
step_text_again kind f c p are is = after_block kind f c _ p are is (digest_again (sha256 f.payload) (cursor_then c))

pub old_step_text_again : (kind : Step) (f : Fields) (c : Cursor) → IsPrintable c → AreFields f → IsBlock f → read_step (old_step_text kind f c) ≡ Some (StepOf kind f c)
unfolding after_digest
old_step_text_again kind f c p are is = after_block kind f c _ p are is refl

-- what was read as a step: its members, and where they stand
pub record IsStepText (text : List ℕ) (s : Said) : Type 0 where
  pub kind : Step
  pub fields : Fields
  pub cursor : Cursor
  pub said_is : StepOf kind fields cursor ≡ s
  pub fits : AreFields fields
  pub printable : IsPrintable cursor
  pub text_is : (text ≡ step_text kind fields cursor) ⊎ (text ≡ old_step_text kind fields cursor)

pub step_text_takes : (text : List ℕ) (s : Said) → IsBytes text → read_step text ≡ Some s → IsStepText text s
unfolding read_step
step_text_takes text s bytes e =
    let a = read_by (member [] 34 step_named text) with_kind s e in
    let kind = member_takes [] 34 step_named text a.value bytes a.found in
    let b = read_by (block_at a.value.1) (with_block a.value.0) s a.later in
    let block = block_takes a.value.1 b.value kind.bytes b.found in
    let d = read_by (after_digest (sha256 b.value.0.payload) b.value.1) (with_digest a.value.0 b.value.0) s b.later in
    let digest = digest_takes (sha256 b.value.0.payload) b.value.1 d.value d.found in
    let c = read_by (member (codes ",\"cursor\":\"") 34 cursor_in d.value) (with_cursor a.value.0 b.value.0) s d.later in
    let cursor = member_takes (codes ",\"cursor\":\"") 34 cursor_in d.value c.value (left_bytes (sha256 b.value.0.payload) b.value.1 d.value digest block.bytes) c.found in
    let spelled = cursor_takes cursor.word c.value.0 cursor.word_bytes cursor.reads in
    let end = ends_takes (codes "}") c.value.1 (StepOf a.value.0 b.value.0 c.value.0) s c.later in
    let rest : d.value ≡ cursor_then c.value.0 = cursor.text_is ∙ (λ i. word_then (codes ",\"cursor\":\"") (spelled.0 i) (end.0 i)) in
    let front : text ≡ word_then [] (word_of a.value.0) (fields_then b.value.0 b.value.1)
    = kind.text_is ∙ (λ i. word_then [] (step_takes kind.word a.value.0 kind.reads i) (block.text_is i)) in
    record {
      kind = a.value.0;
      fields = b.value.0;
      cursor = c.value.0;
      said_is = end.1;
      fits = block.value;
      printable = spelled.1;
      text_is = in_form text a.value.0 b.value.0 c.value.0 b.value.1 d.value front rest digest;
    }
  where
    left_bytes : (digest text rest : List ℕ) → (text ≡ digest_then digest rest) ⊎ (text ≡ rest) → IsBytes text → IsBytes rest
    left_bytes digest text rest (inl is) bytes =
        let all : IsBytes (digest_then digest rest) = subst IsBytes is bytes in
        bytes_right (34 ∷ []) rest (bytes_right (encode_lower digest) (34 ∷ rest) (bytes_right (codes ",\"digest\":\"") (encode_lower digest ++ 34 ∷ rest) all))
    left_bytes digest text rest (inr is) bytes = subst IsBytes is bytes

    in_form : (text : List ℕ) (kind : Step) (f : Fields) (c : Cursor) (after left : List ℕ) → text ≡ word_then [] (word_of kind) (fields_then f after) → left ≡ cursor_then c
        → (after ≡ digest_then (sha256 f.payload) left) ⊎ (after ≡ left) → (text ≡ step_text kind f c) ⊎ (text ≡ old_step_text kind f c)
    in_form text kind f c after left is rest (inl new) = inl (is ∙ ap (λ l. word_then [] (word_of kind) (fields_then f l)) (new ∙ ap (λ l. digest_then (sha256 f.payload) l) rest))
    in_form text kind f c after left is rest (inr old) = inr (is ∙ ap (λ l. word_then [] (word_of kind) (fields_then f l)) (old ∙ rest))
