-- Members at the front of a text: each is read, and what is read stands there.
use Rattle.std.proofs.Common.{◌≡◌, ◌<◌, ◌^◌, ℕ, zero, suc, Bool, true, false, cond, eqb, List, [], ◌∷◌, ◌++◌, length, take, drop, Option, None, Some, refl, sym, ◌∙◌, ap, arith, take-append-drop}
use Rattle.std.specs.Prelude.{bytes_eq}
use Rattle.std.specs.Option.{option_map}
use Rattle.std.specs.Fmt.{decimal}
use Rattle.std.specs.Char.{is_ascii_digit}
use Rattle.std.proofs.lemmas.Bool.{eqb-true, eq-eqb}
use Rattle.std.proofs.lemmas.Option.{cond_some, same_Some}
use Rattle.std.proofs.lemmas.Slice.Eq.{bytes_eq-Decides}
use Rattle.base64.specs.GeneralPurpose.{IsBytes}
use Rattle.block_record.specs.Number.{number_of}
use Rattle.block_record.specs.Texts.{IsId, is_id_text}
use Rattle.block_record.proofs.public.NumberTexts.{number_of-decimal, decimal-number_of}
use Rattle.fire_lines.specs.Fields.{id_of}
use Rattle.reply_laws.proofs.public.Readers.{NoneIs, none-decimal, none-id}
use Rattle.reply_reader.specs.Parts.{◌>>=◌, after_front, until, with_rest, cut_at, member}

-- what is read in two steps: what the first read, and what the second made of it
pub record IsReadBy {A B : Type 0} (first : Option A) (next : A → Option B) (y : B) : Type 0 where
  pub value : A
  pub found : first ≡ Some value
  pub later : next value ≡ Some y

pub read_by : {A B : Type 0} (first : Option A) (next : A → Option B) (y : B) → (first >>= next) ≡ Some y → IsReadBy first next y
read_by None next y e = absurd (cc e)
read_by (Some x) next y e = record { value = x; found = refl; later = e }

-- parts of bytes are bytes
pub bytes_right : (a b : List ℕ) → IsBytes (a ++ b) → IsBytes b
bytes_right [] b h = h
bytes_right (x ∷ a) b h = bytes_right a b (λ i. h (suc i))

pub bytes_left : (a b : List ℕ) → IsBytes (a ++ b) → IsBytes a
bytes_left [] b h i = omega arith
bytes_left (x ∷ a) b h zero = h 0
bytes_left (x ∷ a) b h (suc i) = bytes_left a b (λ k. h (suc k)) i

-- what follows a front
pub front_again : (front rest : List ℕ) → after_front front (front ++ rest) ≡ Some rest
front_again [] rest = refl
front_again (x ∷ front) rest = let same : eqb x x ≡ true = eq-eqb x x refl in rw same (front_again front rest)

pub front_takes : (front text rest : List ℕ) → after_front front text ≡ Some rest → text ≡ front ++ rest
front_takes front text rest e =
    let parts = cond_some (bytes_eq (take (length front) text) front) (drop (length front) text) rest e in
    let begins : take (length front) text ≡ front = (bytes_eq-Decides (take (length front) text) front).0 parts.0 in
    sym (take-append-drop (length front) text) ∙ (λ i. begins i ++ parts.1 i)

-- what stands before the first byte of a kind
pub until_again : (s : ℕ) (word rest : List ℕ) → NoneIs s word → until s (word ++ s ∷ rest) ≡ Some (word, rest)
until_again s [] rest none = let same : eqb s s ≡ true = eq-eqb s s refl in rw same refl
until_again s (b ∷ word) rest none = rw none.0 (ap (λ o. option_map (λ p. (b ∷ p.0, p.1)) o) (until_again s word rest none.1))

pub until_takes : (s : ℕ) (text : List ℕ) (x : List ℕ × List ℕ) → until s text ≡ Some x → text ≡ x.0 ++ s ∷ x.1
until_takes s [] x e = absurd (cc e)
until_takes s (b ∷ text) x e = by_test (eqb b s) refl (until_takes s text) e
  where
    by_later : ((y : List ℕ × List ℕ) → until s text ≡ Some y → text ≡ y.0 ++ s ∷ y.1)
        → (o : Option (List ℕ × List ℕ)) → until s text ≡ o → option_map (λ p. (b ∷ p.0, p.1)) o ≡ Some x → b ∷ text ≡ x.0 ++ s ∷ x.1
    by_later rest None is e = absurd (cc e)
    by_later rest (Some y) is e =
        let same = same_Some (b ∷ y.0, y.1) x e in
        ap (λ l. b ∷ l) (rest y is) ∙ (λ i. (same i).0 ++ s ∷ (same i).1)

    by_test : (t : Bool) → eqb b s ≡ t → ((y : List ℕ × List ℕ) → until s text ≡ Some y → text ≡ y.0 ++ s ∷ y.1)
        → cond t (Some ([], text)) (option_map (λ p. (b ∷ p.0, p.1)) (until s text)) ≡ Some x → b ∷ text ≡ x.0 ++ s ∷ x.1
    by_test true t rest e =
        let here = eqb-true b s t in
        let same = same_Some ([], text) x e in
        λ i. (same i).0 ++ here i ∷ (same i).1
    by_test false t rest e = by_later rest (until s text) refl e

-- a member, and what follows it
pub member_again : {A : Type 0} (front : List ℕ) (s : ℕ) (read : List ℕ → Option A) (word rest : List ℕ) (value : A)
    → NoneIs s word → read word ≡ Some value → member front s read (front ++ (word ++ s ∷ rest)) ≡ Some (value, rest)
unfolding member cut_at
member_again front s read word rest value none is = rw (front_again front (word ++ s ∷ rest), until_again s word rest none, is) refl

pub record IsMember {A : Type 0} (front : List ℕ) (s : ℕ) (read : List ℕ → Option A) (text : List ℕ) (x : A × List ℕ) : Type 0 where
  pub word : List ℕ
  pub reads : read word ≡ Some x.0
  pub text_is : text ≡ front ++ (word ++ s ∷ x.1)
  pub word_bytes : IsBytes word
  pub bytes : IsBytes x.1

pub member_takes : {A : Type 0} (front : List ℕ) (s : ℕ) (read : List ℕ → Option A) (text : List ℕ) (x : A × List ℕ) → IsBytes text → member front s read text ≡ Some x → IsMember front s read text x
unfolding member cut_at
member_takes {A} front s read text x bytes e =
    let cut = read_by (after_front front text >>= until s) (λ (c : List ℕ × List ℕ). with_rest c.1 (read c.0)) x e in
    let begin = read_by (after_front front text) (until s) cut.value cut.found in
    by_word begin.value cut.value (front_takes front text begin.value begin.found ∙ ap (λ l. front ++ l) (until_takes s begin.value cut.value begin.later)) (read cut.value.0) refl cut.later
  where
    by_word : (after : List ℕ) (c : List ℕ × List ℕ) → text ≡ front ++ (c.0 ++ s ∷ c.1) → (o : Option A) → read c.0 ≡ o → with_rest c.1 o ≡ Some x → IsMember front s read text x
    by_word after c is None reads e = absurd (cc e)
    by_word after c is (Some v) reads e =
        let same = same_Some (v, c.1) x e in
        let all = bytes_right front (c.0 ++ s ∷ c.1) (rw (sym is) bytes) in
        record {
          word = c.0;
          reads = reads ∙ ap (λ (p : A × List ℕ). Some p.0) same;
          text_is = is ∙ ap (λ (p : A × List ℕ). front ++ (c.0 ++ s ∷ p.1)) same;
          word_bytes = bytes_left c.0 (s ∷ c.1) all;
          bytes = rw (sym (ap (λ (p : A × List ℕ). p.1) same)) (bytes_right (s ∷ []) c.1 (bytes_right c.0 (s ∷ c.1) all));
        }

-- what a reader of a member takes: a value that fits, spelled at the front of the text, and what follows it
pub record IsTaken {A : Type 0} (fits : A → Type 0) (spelled : A → List ℕ → List ℕ) (text : List ℕ) (x : A × List ℕ) : Type 0 where
  pub value : fits x.0
  pub text_is : text ≡ spelled x.0 x.1
  pub bytes : IsBytes x.1

-- a member that is a number
abbrev pub number_then : List ℕ → ℕ → ℕ → List ℕ → List ℕ
number_then front s n rest = front ++ (decimal n ++ s ∷ rest)

abbrev pub IsSmall : ℕ → Type 0
IsSmall n = n < 2 ^ 64

pub number_again : (front : List ℕ) (s n : ℕ) (rest : List ℕ) → is_ascii_digit s ≡ false → IsSmall n → member front s number_of (number_then front s n rest) ≡ Some (n, rest)
number_again front s n rest isnt small = member_again front s number_of (decimal n) rest n (none-decimal s n isnt small) (number_of-decimal n small)

pub number_takes : (front : List ℕ) (s : ℕ) (text : List ℕ) (x : ℕ × List ℕ) → IsBytes text → member front s number_of text ≡ Some x → IsTaken IsSmall (number_then front s) text x
number_takes front s text x bytes e =
    let m = member_takes front s number_of text x bytes e in
    let is = decimal-number_of m.word x.0 m.reads in
    record { value = is.0; text_is = m.text_is ∙ ap (λ w. front ++ (w ++ s ∷ x.1)) is.1; bytes = m.bytes }

-- a member whose value stands between quotes
abbrev pub word_then : List ℕ → List ℕ → List ℕ → List ℕ
word_then front word rest = front ++ (word ++ 34 ∷ rest)

id_of-id : (id : List ℕ) → IsId id → id_of id ≡ Some id
id_of-id id is = rw is refl

id_of_takes : (text id : List ℕ) → id_of text ≡ Some id → IsId id × (text ≡ id)
id_of_takes text id e = let p = cond_some (is_id_text text) text id e in (rw (sym p.1) p.0, p.1)

pub id_again : (front id rest : List ℕ) → IsId id → member front 34 id_of (word_then front id rest) ≡ Some (id, rest)
id_again front id rest is = member_again front 34 id_of id rest id (none-id id is) (id_of-id id is)

pub id_takes : (front text : List ℕ) (x : List ℕ × List ℕ) → IsBytes text → member front 34 id_of text ≡ Some x → IsTaken IsId (word_then front) text x
id_takes front text x bytes e =
    let m = member_takes front 34 id_of text x bytes e in
    let is = id_of_takes m.word x.0 m.reads in
    record { value = is.0; text_is = m.text_is ∙ ap (λ w. front ++ (w ++ 34 ∷ x.1)) is.1; bytes = m.bytes }
