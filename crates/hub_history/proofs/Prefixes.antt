-- Beginnings of one list, and its marked entries.
use Rattle.std.proofs.Common.{◌≡◌, ◌<◌, ◌≤◌, ltb, Bool, true, false, cond, List, [], ◌∷◌, ◌++◌, length, refl, ap, sym, ◌∙◌, subst, arith, append_assoc, append-nil}
use mathlib.Core.List.{IsPrefix}
use Rattle.hub_history.specs.Chronicles.{AllUnmarked, Covers, longer_of}

module _ {A : Type 0} where
  pub prefix_self : (xs : List A) → IsPrefix xs xs
  prefix_self xs = ([], append-nil xs)

  pub prefix_trans : (xs ys zs : List A) → IsPrefix xs ys → IsPrefix ys zs → IsPrefix xs zs
  prefix_trans xs ys zs p q = (p.0 ++ q.0, sym (append_assoc xs p.0 q.0) ∙ (ap (λ w. w ++ q.0) p.1 ∙ q.1))

  -- of two beginnings of one list the shorter begins the longer_of
  pub prefix_shorter : (xs ys zs : List A) → IsPrefix xs zs → IsPrefix ys zs → length xs ≤ length ys → IsPrefix xs ys
  prefix_shorter [] ys zs p q le = (ys, refl)
  prefix_shorter (x ∷ xs) [] zs p q le = absurd (omega arith)
  prefix_shorter (x ∷ xs) (y ∷ ys) [] p q le = absurd (cc (p.1))
  prefix_shorter (x ∷ xs) (y ∷ ys) (z ∷ zs) p q le =
      let heads : x ≡ y = cc (p.1, q.1) in
      let rest = prefix_shorter xs ys zs (p.0, cc (p.1)) (q.0, cc (q.1)) (omega arith) in
      (rest.0, cc (heads, rest.1))

  longer_by : (xs ys : List A) (b : Bool) → ltb (length xs) (length ys) ≡ b → (P : List A → Type 0) → (b ≡ true → length xs < length ys → P ys) → (b ≡ false → length ys ≤ length xs → P xs) → P (cond b ys xs)
  longer_by xs ys true e P f g = f refl (grind arith)
  longer_by xs ys false e P f g = g refl (grind arith)

  pub longer_is : (xs ys : List A) (P : List A → Type 0) → (length xs < length ys → P ys) → (length ys ≤ length xs → P xs) → P (longer_of xs ys)
  longer_is xs ys P f g = longer_by xs ys (ltb (length xs) (length ys)) refl P (λ _. f) (λ _. g)

  module _ (marked : A → Bool) where
    plain_append : (xs ys : List A) → AllUnmarked marked xs → AllUnmarked marked ys → AllUnmarked marked (xs ++ ys)
    plain_append [] ys p q = q
    plain_append (x ∷ xs) ys p q = (p.0, plain_append xs ys p.1 q)

    plain_back : (xs ys : List A) → AllUnmarked marked (xs ++ ys) → AllUnmarked marked ys
    plain_back [] ys p = p
    plain_back (x ∷ xs) ys p = plain_back xs ys p.1

    pub covers_self : (xs : List A) → Covers marked xs xs
    covers_self xs = ([], append-nil xs, tt)

    pub covers_trans : (xs ys zs : List A) → Covers marked xs ys → Covers marked ys zs → Covers marked xs zs
    covers_trans xs ys zs p q = (p.0 ++ q.0, sym (append_assoc xs p.0 q.0) ∙ (ap (λ w. w ++ q.0) p.1 ∙ q.1), plain_append p.0 q.0 p.2 q.2)

    rest_plain : (xs ys rest more : List A) → IsPrefix xs ys → ys ++ more ≡ xs ++ rest → AllUnmarked marked rest → AllUnmarked marked more
    rest_plain [] ys rest more p e plain = plain_back ys more (subst (AllUnmarked marked) (sym e) plain)
    rest_plain (x ∷ xs) [] rest more p e plain = absurd (cc (p.1))
    rest_plain (x ∷ xs) (y ∷ ys) rest more p e plain = rest_plain xs ys rest more (p.0, cc (p.1)) (cc e) plain

    -- who has seen more has seen the marked entries too
    pub covers_later : (xs ys zs : List A) → Covers marked xs zs → IsPrefix xs ys → IsPrefix ys zs → Covers marked ys zs
    covers_later xs ys zs c p q = (q.0, q.1, rest_plain xs ys c.0 q.0 p (q.1 ∙ sym c.1) c.2)
