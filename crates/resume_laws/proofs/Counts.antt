-- A fold keeps what it counts as final.
use Rattle.std.proofs.Common.{arith, ◌≡◌, ◌≤◌, ◌<◌, ◌+◌, ℕ, zero, suc, Bool, true, false, ltb, eqb, ◌&&◌, cond, List, [], ◌∷◌, length, reverse, take, Option, Some, None, refl, sym, ◌∙◌, ap, subst}
use Rattle.std.specs.List.{slice_get}
use Rattle.std.proofs.lemmas.Bool.{and_parts, ltb-true, eqb-true}
use Rattle.std.proofs.lemmas.List.{append-nil, reverse-append, length-reverse, take-append-le}
use Rattle.std.proofs.lemmas.Option.{same_Some}
use mathlib.Core.List.{IsPrefix}
use Rattle.block_record.specs.declared.blocks.Slip.{Slip}
use Rattle.block_record.specs.declared.blocks.BlockRef.{BlockRef}
use Rattle.chain_model.specs.declared.places.Step.{Step}
use Rattle.chain_model.specs.declared.places.Step.TheVariants as step
use Rattle.chain_model.specs.Steps.{block_step, ref_of}
use Rattle.chain_model.specs.Fold.{FoldState, follows_last, same_ref, is_block, after_step}
use Rattle.resume_laws.specs.Laws.{KeepsCount, FoldKeepsFinals}

made : Option BlockRef → List BlockRef → ℕ → FoldState
made base line count = record { base = base; blocks = line; finals = count }

some_of : (t : Bool) (f g : FoldState) → cond t (Some f) None ≡ Some g → (t ≡ true) × (f ≡ g)
some_of true f g e = (refl, same_Some f g e)
some_of false f g e = absurd (cc)

-- one more block on top changes no front of it
front_same : (x : BlockRef) (line : List BlockRef) (k : ℕ) → k ≤ length line → take k (reverse (x ∷ line)) ≡ take k (reverse line)
front_same x line k le = ap (take k) (reverse-append (x ∷ []) line) ∙ take-append-le k (reverse line) (x ∷ []) (omega (arith, length-reverse line))

front_more : (k n : ℕ) (xs : List BlockRef) → k ≤ n → IsPrefix (take k xs) (take n xs)
front_more zero n xs le = (take n xs, refl)
front_more (suc k) zero xs le = absurd (omega arith)
front_more (suc k) (suc n) [] le = ([], refl)
front_more (suc k) (suc n) (x ∷ xs) le = let r = front_more k n xs (omega arith) in (r.0, ap (λ l. x ∷ l) r.1)

prefix_same : (xs ys : List BlockRef) → xs ≡ ys → IsPrefix xs ys
prefix_same xs ys e = ([], append-nil xs ∙ e)

within : (xs : List BlockRef) (k : ℕ) (s : Slip) → is_block (slice_get xs k) s ≡ true → k < length xs
within [] k s e = absurd (cc)
within (x ∷ xs) zero s e = omega arith
within (x ∷ xs) (suc k) s e = let r = within xs k s e in omega (arith, r)

keep_new : (base : Option BlockRef) (line : List BlockRef) (count : ℕ) (s : Slip) → count ≤ length line → KeepsCount (made base line count) (made base (ref_of s ∷ line) count)
unfolding made
keep_new base line count s le = record { base = refl; bound = omega (arith, le); finals = prefix_same _ _ (sym (front_same (ref_of s) line count le)) }

keep_newfinal : (base : Option BlockRef) (line : List BlockRef) (count : ℕ) (s : Slip) → count ≡ length line → KeepsCount (made base line count) (made base (ref_of s ∷ line) (count + 1))
unfolding made
keep_newfinal base line count s full =
    let same = front_same (ref_of s) line count (omega (arith, full)) in
    record { base = refl; bound = omega (arith, full); finals = subst (λ (l : List BlockRef). IsPrefix l (take (count + 1) (reverse (ref_of s ∷ line)))) same (front_more count (count + 1) (reverse (ref_of s ∷ line)) (omega arith)) }

keep_undo : (base : Option BlockRef) (p : BlockRef) (line : List BlockRef) (count : ℕ) → count < length (p ∷ line) → KeepsCount (made base (p ∷ line) count) (made base line count)
unfolding made
keep_undo base p line count lt = record { base = refl; bound = omega (arith, lt); finals = prefix_same _ _ (front_same p line count (omega (arith, lt))) }

keep_final : (base : Option BlockRef) (line : List BlockRef) (count : ℕ) → count < length line → KeepsCount (made base line count) (made base line (count + 1))
unfolding made
keep_final base line count lt = record { base = refl; bound = omega (arith, lt); finals = front_more count (count + 1) (reverse line) (omega arith) }

keeps : (base : Option BlockRef) (line : List BlockRef) (count : ℕ) (g : FoldState) (kind : Step) (s : Slip) → count ≤ length line
    → after_step (made base line count) (block_step kind s) ≡ Some g → KeepsCount (made base line count) g
unfolding made
keeps base line count g step.New s le e =
    let r = some_of (follows_last base line s) _ g e in
    subst (λ (h : FoldState). KeepsCount (made base line count) h) r.1 (keep_new base line count s le)
keeps base line count g step.NewFinal s le e =
    let r = some_of (follows_last base line s && eqb count (length line)) _ g e in
    let full : count ≡ length line = eqb-true count (length line) (and_parts (follows_last base line s) _ r.0).1 in
    subst (λ (h : FoldState). KeepsCount (made base line count) h) r.1 (keep_newfinal base line count s full)
keeps base [] count g step.Undo s le e = absurd (cc)
keeps base (p ∷ line) count g step.Undo s le e =
    let r = some_of (same_ref p (ref_of s) && ltb count (length (p ∷ line))) _ g e in
    let less : count < length (p ∷ line) = ltb-true count (length (p ∷ line)) (and_parts (same_ref p (ref_of s)) _ r.0).1 in
    subst (λ (h : FoldState). KeepsCount (made base (p ∷ line) count) h) r.1 (keep_undo base p line count less)
keeps base line count g step.Final s le e =
    let r = some_of (is_block (slice_get (reverse line) count) s) _ g e in
    let less = within (reverse line) count s r.0 in
    subst (λ (h : FoldState). KeepsCount (made base line count) h) r.1 (keep_final base line count (omega (arith, less, length-reverse line)))

pub fold_keeps_finals : FoldKeepsFinals
unfolding made
fold_keeps_finals f g x le e = keeps f.base f.blocks f.finals g x.step x.slip le e
