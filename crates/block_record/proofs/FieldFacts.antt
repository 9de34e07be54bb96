-- A field that is read is the field that was written, and what was written is read again.
use Rattle.std.proofs.Common.{◌≡◌, ℕ, ◌+◌, ◌^◌, ◌<◌, ◌≤◌, ◌⊎◌, ◌||◌, Bool, true, false, cond, eqb, ltb, List, [], ◌∷◌, ◌++◌, length, get_or, take, drop, Option, Some, None, refl, sym, ap, subst, ◌∙◌, append_assoc, arith, inl, inr, suc}
use Rattle.std.specs.Prelude.{option_and_then}
use Rattle.std.specs.Int.{Width, w32, w64, byte_len, from_be_bytes, to_be_bytes}
use Rattle.std.proofs.lemmas.Bool.{cases_lt, ltb-false, le-ltb, eqb-true, or_cases}
use Rattle.std.proofs.lemmas.Slice.Eq.{bytes_eq-Decides}
use Rattle.std.specs.Str.{bytes_eq}
use Rattle.std.proofs.lemmas.List.{take_at, drop_at, take-append-drop, length-append, length-take, get_or-drop, get_or-take, get_or_past}
use Rattle.std.proofs.lemmas.Nat.{be_bytes_4, be_bytes_8, from_be_bytes-to_be_bytes_4, from_be_bytes-to_be_bytes_8}
use Rattle.block_record.specs.Parents.{is_parent_num}
use Rattle.block_record.specs.Texts.{IsBytes, is_id_text}
use Rattle.block_record.proofs.public.ListFacts.{IsBytes-drop, IsBytes-take}
use Rattle.block_record.specs.Records.{bytes_at, version_at, number_at, parent_num_at, id_at, payload_at, digest_at, id_text, payload_text, version_of, after_id}

-- a test that passed before what was found, or that failed
pub guard_some : {A : Type 0} (b : Bool) (x y : A) → cond b None (Some x) ≡ Some y → (b ≡ false) × (x ≡ y)
guard_some true x y e = absurd cc
guard_some false x y e = (refl, cc)

pub pass_some : {A : Type 0} (b : Bool) (x y : A) → cond b (Some x) None ≡ Some y → (b ≡ true) × (x ≡ y)
pass_some true x y e = (refl, cc)
pass_some false x y e = absurd cc

pub then_some : {A B : Type 0} (f : A → Option B) (o : Option A) (y : B) → option_and_then f o ≡ Some y → (x : A) × (o ≡ Some x) × (f x ≡ Some y)
then_some f None y e = absurd cc
then_some f (Some x) y e = (x, refl, e)

-- what a field took from the front of some bytes, and what it left
pub record Takes (bytes text rest : List ℕ) : Type 0 where
  pub parts : bytes ≡ text ++ rest
  pub rest_fits : IsBytes rest

pub Takes-then : (a x b y c : List ℕ) → Takes a x b → Takes b y c → Takes a (x ++ y) c
Takes-then a x b y c p q = record { parts = p.parts ∙ ap (λ (t : List ℕ). x ++ t) q.parts ∙ sym (append_assoc x y c); rest_fits = q.rest_fits }

-- ---- numbers

pub record IsWide (w : Width) (limit : ℕ) : Type 0 where
  pub len : (n : ℕ) → length (to_be_bytes w n) ≡ byte_len w
  pub back : (bytes : List ℕ) → length bytes ≡ byte_len w → IsBytes bytes → to_be_bytes w (from_be_bytes w bytes) ≡ bytes
  pub again : (n : ℕ) → n < limit → from_be_bytes w (to_be_bytes w n) ≡ n

pub wide32 : IsWide w32 (2 ^ 32)
wide32 = record {
  len = λ n. refl;
  back = λ bytes len fits. be_bytes_4 bytes _ len fits refl;
  again = λ n lt. from_be_bytes-to_be_bytes_4 n lt;
}

pub wide64 : IsWide w64 (2 ^ 64)
wide64 = record {
  len = λ n. refl;
  back = λ bytes len fits. be_bytes_8 bytes _ len fits refl;
  again = λ n lt. from_be_bytes-to_be_bytes_8 n lt;
}

pub number_takes : (w : Width) (limit : ℕ) (wide : IsWide w limit) (bytes : List ℕ) (x : ℕ × List ℕ) → IsBytes bytes → number_at w bytes ≡ Some x → Takes bytes (to_be_bytes w x.0) x.1
number_takes w limit wide bytes x fits e =
    let g = guard_some (ltb (length bytes) (byte_len w)) (from_be_bytes w (take (byte_len w) bytes), drop (byte_len w) bytes) x e in
    let long : byte_len w ≤ length bytes = ltb-false _ _ g.0 in
    let front : to_be_bytes w (from_be_bytes w (take (byte_len w) bytes)) ≡ take (byte_len w) bytes = wide.back (take (byte_len w) bytes) (omega (arith, length-take (byte_len w) bytes)) (IsBytes-take (byte_len w) bytes fits) in
    let own : Takes bytes (to_be_bytes w (from_be_bytes w (take (byte_len w) bytes))) (drop (byte_len w) bytes) = record { parts = rw front (sym (take-append-drop (byte_len w) bytes)); rest_fits = IsBytes-drop (byte_len w) bytes fits } in
    subst (λ (y : ℕ × List ℕ). Takes bytes (to_be_bytes w y.0) y.1) g.1 own

pub number_again : (w : Width) (limit : ℕ) (wide : IsWide w limit) (n : ℕ) (rest : List ℕ) → n < limit → number_at w (to_be_bytes w n ++ rest) ≡ Some (n, rest)
number_again w limit wide n rest lt =
    let len = wide.len n in
    let long : ltb (length (to_be_bytes w n ++ rest)) (byte_len w) ≡ false = le-ltb _ _ (omega (arith, length-append (to_be_bytes w n) rest)) in
    rw (long, take_at (to_be_bytes w n) rest (byte_len w) len, drop_at (to_be_bytes w n) rest (byte_len w) len, wide.again n lt) refl

pub number_value : (w : Width) (bytes : List ℕ) (x : ℕ × List ℕ) → number_at w bytes ≡ Some x → x.0 ≡ from_be_bytes w (take (byte_len w) bytes)
number_value w bytes x e = sym (ap (λ (y : ℕ × List ℕ). y.0) (guard_some (ltb (length bytes) (byte_len w)) (from_be_bytes w (take (byte_len w) bytes), drop (byte_len w) bytes) x e).1)

pub number_rest : (w : Width) (bytes : List ℕ) (x : ℕ × List ℕ) → number_at w bytes ≡ Some x → x.1 ≡ drop (byte_len w) bytes
number_rest w bytes x e = sym (ap (λ (y : ℕ × List ℕ). y.1) (guard_some (ltb (length bytes) (byte_len w)) (from_be_bytes w (take (byte_len w) bytes), drop (byte_len w) bytes) x e).1)

-- ---- the version

-- a version is 1 or 2
abbrev pub IsVersion : ℕ → Type 0
IsVersion version = (version ≡ 1) ⊎ (version ≡ 2)

pub version_takes : (bytes : List ℕ) (x : ℕ × List ℕ) → IsBytes bytes → version_at bytes ≡ Some x → Takes bytes (x.0 ∷ []) x.1 × IsVersion x.0
version_takes [] x fits e = absurd cc
version_takes (b ∷ rest) x fits e =
    let g = pass_some (eqb b 1 || eqb b 2) (b, rest) x e in
    let one : IsVersion b = elim (or_cases (eqb b 1) (eqb b 2) g.0) [ inl old ↦ inl (eqb-true b 1 old) | inr new ↦ inr (eqb-true b 2 new) ] in
    let own : Takes (b ∷ rest) (b ∷ []) rest = record { parts = refl; rest_fits = λ i. fits (suc i) } in
    subst (λ (y : ℕ × List ℕ). Takes (b ∷ rest) (y.0 ∷ []) y.1 × IsVersion y.0) g.1 (own, one)

pub version_rest : (bytes : List ℕ) (x : ℕ × List ℕ) → version_at bytes ≡ Some x → (x.0 ≡ version_of bytes) × (x.1 ≡ drop 1 bytes)
version_rest [] x e = absurd cc
version_rest (b ∷ rest) x e =
    let same = (pass_some (eqb b 1 || eqb b 2) (b, rest) x e).1 in
    (sym (ap (λ (y : ℕ × List ℕ). y.0) same), sym (ap (λ (y : ℕ × List ℕ). y.1) same))

pub version_again : (version : ℕ) (rest : List ℕ) → IsVersion version → version_at (version ∷ rest) ≡ Some (version, rest)
version_again version rest (inl old) = rw old refl
version_again version rest (inr new) = rw new refl

-- ---- the number of a parent

pub parent_num_takes : (num : ℕ) (bytes : List ℕ) (x : ℕ × List ℕ) → IsBytes bytes → parent_num_at num bytes ≡ Some x → Takes bytes (to_be_bytes w64 x.0) x.1
parent_num_takes num bytes x fits e =
    let t = then_some (λ (p : ℕ × List ℕ). cond (is_parent_num p.0 num) (Some p) None) (number_at w64 bytes) x e in
    let g = pass_some (is_parent_num t.0.0 num) t.0 x t.2 in
    subst (λ (y : ℕ × List ℕ). Takes bytes (to_be_bytes w64 y.0) y.1) g.1 (number_takes w64 (2 ^ 64) wide64 bytes t.0 fits t.1)

pub parent_num_again : (num p : ℕ) (rest : List ℕ) → p < 2 ^ 64 → is_parent_num p num ≡ true → parent_num_at num (to_be_bytes w64 p ++ rest) ≡ Some (p, rest)
parent_num_again num p rest lt is =
    let F : Option (ℕ × List ℕ) → Option (ℕ × List ℕ) = option_and_then (λ (x : ℕ × List ℕ). cond (is_parent_num x.0 num) (Some x) None) in
    let good : F (Some (p, rest)) ≡ Some (p, rest) = rw is refl in
    ap F (number_again w64 (2 ^ 64) wide64 p rest lt) ∙ good

pub parent_num_rest : (num : ℕ) (bytes : List ℕ) (x : ℕ × List ℕ) → parent_num_at num bytes ≡ Some x → x.1 ≡ drop 8 bytes
parent_num_rest num bytes x e =
    let t = then_some (λ (p : ℕ × List ℕ). cond (is_parent_num p.0 num) (Some p) None) (number_at w64 bytes) x e in
    sym (ap (λ (y : ℕ × List ℕ). y.1) (pass_some (is_parent_num t.0.0 num) t.0 x t.2).1) ∙ number_rest w64 bytes t.0 t.1

-- ---- ids

pub bytes_takes : (n : ℕ) (bytes : List ℕ) (x : List ℕ × List ℕ) → IsBytes bytes → bytes_at n bytes ≡ Some x → Takes bytes x.0 x.1 × (length x.0 ≡ n)
bytes_takes n bytes x fits e =
    let g = guard_some (ltb (length bytes) n) (take n bytes, drop n bytes) x e in
    let long : n ≤ length bytes = ltb-false _ _ g.0 in
    let own : Takes bytes (take n bytes) (drop n bytes) = record { parts = sym (take-append-drop n bytes); rest_fits = IsBytes-drop n bytes fits } in
    subst (λ (y : List ℕ × List ℕ). Takes bytes y.0 y.1 × (length y.0 ≡ n)) g.1 (own, omega (arith, length-take n bytes))

pub bytes_again : (n : ℕ) (text rest : List ℕ) → length text ≡ n → bytes_at n (text ++ rest) ≡ Some (text, rest)
bytes_again n text rest len =
    let long : ltb (length (text ++ rest)) n ≡ false = le-ltb _ _ (omega (arith, length-append text rest)) in
    rw (long, take_at text rest n len, drop_at text rest n len) refl

pub id_takes : (bytes : List ℕ) (x : List ℕ × List ℕ) → IsBytes bytes → id_at bytes ≡ Some x → Takes bytes (id_text x.0) x.1
id_takes [] x fits e = absurd cc
id_takes (n ∷ bytes) x fits e =
    let t = then_some (λ (p : List ℕ × List ℕ). cond (is_id_text p.0) (Some p) None) (bytes_at n bytes) x e in
    let g = pass_some (is_id_text t.0.0) t.0 x t.2 in
    let b = bytes_takes n bytes t.0 (λ i. fits (suc i)) t.1 in
    let own : Takes (n ∷ bytes) (id_text t.0.0) t.0.1 = record { parts = ap (λ (l : List ℕ). n ∷ l) b.0.parts ∙ ap (λ (k : ℕ). k ∷ (t.0.0 ++ t.0.1)) (sym b.1); rest_fits = b.0.rest_fits } in
    subst (λ (y : List ℕ × List ℕ). Takes (n ∷ bytes) (id_text y.0) y.1) g.1 own

pub id_rest : (bytes : List ℕ) (x : List ℕ × List ℕ) → id_at bytes ≡ Some x → x.1 ≡ after_id bytes
id_rest [] x e = absurd cc
id_rest (n ∷ bytes) x e =
    let t = then_some (λ (p : List ℕ × List ℕ). cond (is_id_text p.0) (Some p) None) (bytes_at n bytes) x e in
    let g = pass_some (is_id_text t.0.0) t.0 x t.2 in
    sym (ap (λ (y : List ℕ × List ℕ). y.1) g.1) ∙ sym (ap (λ (y : List ℕ × List ℕ). y.1) (guard_some (ltb (length bytes) n) (take n bytes, drop n bytes) t.0 t.1).1)

pub id_again : (id rest : List ℕ) → is_id_text id ≡ true → id_at (id_text id ++ rest) ≡ Some (id, rest)
id_again id rest is =
    let F : Option (List ℕ × List ℕ) → Option (List ℕ × List ℕ) = option_and_then (λ (p : List ℕ × List ℕ). cond (is_id_text p.0) (Some p) None) in
    let good : F (Some (id, rest)) ≡ Some (id, rest) = rw is refl in
    ap F (bytes_again (length id) id rest refl) ∙ good

-- ---- payloads

-- a payload by the length before it
abbrev pub payload_in : List ℕ → List ℕ
payload_in bytes = take (from_be_bytes w32 (take 4 bytes)) (drop 4 bytes)

pub other_some : {A : Type 0} (b : Bool) (o : Option A) (y : A) → cond b None o ≡ Some y → o ≡ Some y
other_some true o y is = absurd cc
other_some false o y is = is

pub payload_takes : (bytes : List ℕ) (x : List ℕ × List ℕ) → IsBytes bytes → payload_at bytes ≡ Some x → Takes bytes (payload_text x.0) x.1
payload_takes bytes x fits e =
    let t = then_some (λ (n : ℕ × List ℕ). cond (ltb 50_000_000 n.0) None (bytes_at n.0 n.1)) (number_at w32 bytes) x e in
    let g = other_some (ltb 50_000_000 t.0.0) (bytes_at t.0.0 t.0.1) x t.2 in
    let first = number_takes w32 (2 ^ 32) wide32 bytes t.0 fits t.1 in
    let second = bytes_takes t.0.0 t.0.1 x first.rest_fits g in
    let both = Takes-then bytes (to_be_bytes w32 t.0.0) t.0.1 x.0 x.1 first second.0 in
    subst (λ (k : ℕ). Takes bytes (to_be_bytes w32 k ++ x.0) x.1) (sym second.1) both

pub payload_value : (bytes : List ℕ) (x : List ℕ × List ℕ) → payload_at bytes ≡ Some x → x.0 ≡ payload_in bytes
payload_value bytes x e =
    let t = then_some (λ (n : ℕ × List ℕ). cond (ltb 50_000_000 n.0) None (bytes_at n.0 n.1)) (number_at w32 bytes) x e in
    let g = other_some (ltb 50_000_000 t.0.0) (bytes_at t.0.0 t.0.1) x t.2 in
    let value : t.0.0 ≡ from_be_bytes w32 (take 4 bytes) = number_value w32 bytes t.0 t.1 in
    let rest : t.0.1 ≡ drop 4 bytes = number_rest w32 bytes t.0 t.1 in
    sym (ap (λ (y : List ℕ × List ℕ). y.0) (guard_some (ltb (length t.0.1) t.0.0) (take t.0.0 t.0.1, drop t.0.0 t.0.1) x g).1)
    ∙ ap (λ (n : ℕ). take n t.0.1) value ∙ ap (take (from_be_bytes w32 (take 4 bytes))) rest

pub payload_again : (payload rest : List ℕ) → length payload ≤ 50_000_000 → payload_at (payload_text payload ++ rest) ≡ Some (payload, rest)
payload_again payload rest small =
    let F : Option (ℕ × List ℕ) → Option (List ℕ × List ℕ) = option_and_then (λ (n : ℕ × List ℕ). cond (ltb 50_000_000 n.0) None (bytes_at n.0 n.1)) in
    let fits : ltb 50_000_000 (length payload) ≡ false = le-ltb _ _ small in
    let good : F (Some (length payload, payload ++ rest)) ≡ Some (payload, rest) = rw fits (bytes_again (length payload) payload rest refl) in
    ap F (ap (number_at w32) (append_assoc (to_be_bytes w32 (length payload)) payload rest) ∙ number_again w32 (2 ^ 32) wide32 (length payload) (payload ++ rest) (omega (arith, small))) ∙ good

-- ---- digests

-- a digest that was found is the one that is wanted, in the form of the version
abbrev pub digest_text : ℕ → List ℕ → List ℕ
digest_text version digest = cond (eqb version 1) [] digest

pub digest_takes : (version : ℕ) (digest bytes : List ℕ) (x : List ℕ × List ℕ) → IsBytes bytes → digest_at version digest bytes ≡ Some x → Takes bytes (digest_text version digest) x.1
digest_takes version digest bytes x fits = by_form (eqb version 1)
  where
    by_form : (old : Bool) → cond {A = Option (List ℕ × List ℕ)} old (Some (digest, bytes)) (option_and_then (λ (p : List ℕ × List ℕ). cond (bytes_eq p.0 digest) (Some (digest, p.1)) None) (bytes_at 32 bytes)) ≡ Some x → Takes bytes (cond old [] digest) x.1
    by_form true e =
        let own : Takes bytes [] bytes = record { parts = refl; rest_fits = fits } in
        subst (λ (y : List ℕ × List ℕ). Takes bytes [] y.1) (let same : (let y : List ℕ × List ℕ = (digest, bytes) in y) ≡ x = cc in same) own
    by_form false e =
        let t = then_some (λ (p : List ℕ × List ℕ). cond (bytes_eq p.0 digest) (Some (digest, p.1)) None) (bytes_at 32 bytes) x e in
        let g = pass_some (bytes_eq t.0.0 digest) (digest, t.0.1) x t.2 in
        let own : Takes bytes t.0.0 t.0.1 = (bytes_takes 32 bytes t.0 fits t.1).0 in
        let same : t.0.0 ≡ digest = (bytes_eq-Decides t.0.0 digest).0 g.0 in
        subst (λ (y : List ℕ × List ℕ). Takes bytes digest y.1) g.1 (subst (λ (l : List ℕ). Takes bytes l t.0.1) same own)

pub digest_again : (version : ℕ) (digest rest : List ℕ) → length digest ≡ 32 → digest_at version digest (digest_text version digest ++ rest) ≡ Some (digest, rest)
digest_again version digest rest len = by_form (eqb version 1)
  where
    by_form : (old : Bool)
        → cond {A = Option (List ℕ × List ℕ)} old (Some (digest, cond old [] digest ++ rest)) (option_and_then (λ (p : List ℕ × List ℕ). cond (bytes_eq p.0 digest) (Some (digest, p.1)) None) (bytes_at 32 (cond old [] digest ++ rest)))
        ≡ Some (digest, rest)
    by_form true = refl
    by_form false =
        let same : bytes_eq digest digest ≡ true = (bytes_eq-Decides digest digest).1 refl in
        rw (bytes_again 32 digest rest len, same) refl
