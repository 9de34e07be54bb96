-- Blocks that are held.
use Rattle.std.proofs.Common.{arith, ◌≡◌, ◌<◌, ℕ, List, [], ◌∷◌, ◌++◌, length, Option, Some, None, refl, sym, ◌∙◌, ap, subst, suc, zero, set, ◌+◌, ◌⊎◌, inl, inr, IfSome}
use Rattle.std.proofs.lemmas.List.{length-append, length-set}
use Rattle.std.proofs.lemmas.Option.{same_Some, slice_get_within}
use Rattle.std.specs.List.{slice_get}
use Rattle.std.specs.Option.{option_map}
use Rattle.block_record.specs.declared.blocks.Slip.{Slip}
use Rattle.block_record.specs.declared.blocks.Block.{Block}
use Rattle.block_record.specs.Slips.{slip}
use Rattle.block_tree.specs.Places.{slip_at}
use Rattle.block_tree.proofs.public.PlaceFacts.{slip_at_past, slip_at_top}
use Rattle.fork_db.specs.Forks.{HoldsOwn}

length_push : (xs : List (Option Block)) (x : Option Block) → length (xs ++ x ∷ []) ≡ length xs + 1
length_push xs x = length-append xs (x ∷ [])

new_or_old : (xs : List (Option Block)) (x : Option Block) (at : ℕ) (b : Block) → slice_get (xs ++ x ∷ []) at ≡ Some (Some b) → (slice_get xs at ≡ Some (Some b)) ⊎ ((at ≡ length xs) × (x ≡ Some b))
new_or_old [] x zero b e = inr (refl, same_Some x (Some b) e)
new_or_old [] x (suc at) b e = absurd (grind arith)
new_or_old (y ∷ xs) x zero b e = inl e
new_or_old (y ∷ xs) x (suc at) b e = elim (new_or_old xs x at b e) [ inl f ↦ inl f | inr f ↦ inr (let g : suc at ≡ length (y ∷ xs) = omega (arith, f.0) in g, f.1) ]

-- the block that is kept, where there is one, has the slip
pub slip_held : {A : Type 0} (value : A → Block) (o : Option A) (s : Slip) → IfSome o (λ a. s ≡ slip (value a)) → (x : Block) → option_map value o ≡ Some x → s ≡ slip x
slip_held value None s h x e = absurd (grind arith)
slip_held value (Some a) s h x e = h ∙ ap slip (same_Some (value a) x e)

-- the next block is held, or not
pub held_push : (newest all : List Slip) (s : Slip) (held more : List (Option Block)) (kept : Option Block) → all ≡ s ∷ newest → more ≡ held ++ kept ∷ []
    → ((x : Block) → kept ≡ Some x → s ≡ slip x) → HoldsOwn newest held → HoldsOwn all more
held_push newest all s held more kept e em es h = record {
  len = ap length em ∙ length_push held kept ∙ (let f : length held + 1 ≡ length all = omega (arith, h.len, ap length e) in f);
  own = λ at x f. elim (new_or_old held kept at x (ap (λ l. slice_get l at) (sym em) ∙ f)) [
    | inl old ↦ ap (λ l. slip_at l at) e ∙ slip_at_past s newest at (subst (λ n. at < n) h.len (slice_get_within held at (Some x) old)) ∙ h.own at x old
    | inr top ↦ ap (λ l. slip_at l at) e ∙ ap (slip_at (s ∷ newest)) (top.0 ∙ h.len) ∙ slip_at_top s newest ∙ ap Some (es x top.1)
  ];
}

kept_from_set : (xs : List (Option Block)) (i at : ℕ) (b : Block) → slice_get (set xs i None) at ≡ Some (Some b) → slice_get xs at ≡ Some (Some b)
kept_from_set [] i at b e = absurd (grind arith)
kept_from_set (x ∷ xs) zero zero b e = absurd (grind arith)
kept_from_set (x ∷ xs) zero (suc at) b e = e
kept_from_set (x ∷ xs) (suc i) zero b e = e
kept_from_set (x ∷ xs) (suc i) (suc at) b e = kept_from_set xs i at b e

-- fewer are held
pub held_release : (newest : List Slip) (held more : List (Option Block)) (i : ℕ) → more ≡ set held i None → HoldsOwn newest held → HoldsOwn newest more
held_release newest held more i e h = record {
  len = ap length e ∙ length-set held i None ∙ h.len;
  own = λ at b f. h.own at b (kept_from_set held i at b (ap (λ l. slice_get l at) (sym e) ∙ f));
}
