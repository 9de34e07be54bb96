-- What the items of a chunk hold.
use Rattle.std.proofs.Common.{arith, ◌≡◌, ◌≤◌, ℕ, List, [], ◌∷◌, ◌++◌, ◌-◌, length, drop, take, Option, None, Some, IfSome, refl, sym, ◌∙◌, ap, subst, suc, zero}
use Rattle.std.specs.List.{slice_get, AllByRecursion}
use Rattle.std.specs.Option.{option_map}
use Rattle.std.specs.Arc.{arc_value}
use Rattle.std.proofs.lemmas.List.{append-nil}
use Rattle.std.proofs.lemmas.Option.{same_Some}
use Rattle.block_record.proofs.public.ListFacts.{all_push}
use Rattle.block_record.specs.declared.blocks.Slip.{Slip}
use Rattle.block_record.specs.declared.blocks.Block.{Block}
use Rattle.block_record.specs.Slips.{slip}
use Rattle.chain_model.specs.Ancestry.{IsHistory}
use Rattle.block_tree.specs.Places.{place_of, slip_at}
use Rattle.block_tree.proofs.public.PathFacts.{place_at}
use Rattle.fork_db.specs.declared.chunks.StepItem.{StepItem}
use Rattle.fork_db.specs.Batches.{HoldsWhatIs}
use Rattle.fork_db.specs.Forks.{HoldsOwn}

drop_pushed : {X : Type 0} (n : ℕ) (xs : List X) (x : X) → n ≤ length xs → drop n (xs ++ x ∷ []) ≡ drop n xs ++ x ∷ []
drop_pushed zero [] x le = refl
drop_pushed zero (y ∷ xs) x le = refl
drop_pushed (suc n) [] x le = absurd (let f : ⊥ = omega arith in f)
drop_pushed (suc n) (y ∷ xs) x le = drop_pushed n xs x (omega arith)

-- what holds of each item past the first n goes on to hold with one more
pub all_more : {X : Type 0} (P : X → Type 0) (n : ℕ) (items after : List X) (x : X) → n ≤ length items → after ≡ items ++ x ∷ [] → P x → AllByRecursion P (drop n items) → AllByRecursion P (drop n after)
all_more P n items after x le e own all = subst (AllByRecursion P) (sym (ap (drop n) e ∙ drop_pushed n items x le)) (all_push P (drop n items) x all own)

pub none_yet : {X : Type 0} (P : X → Type 0) (xs : List X) → AllByRecursion P (drop (length xs) xs)
none_yet P [] = tt
none_yet P (x ∷ xs) = none_yet P xs

-- an item holds what is held at its block's place
pub holds_own : (newest : List Slip) (held : List (Option Block)) (at : ℕ) (s : Slip) (x : StepItem) (o : Option Block) → IsHistory newest → slip_at newest at ≡ Some s → x.slip ≡ s
    → slice_get held at ≡ Some o → o ≡ option_map arc_value x.held → HoldsWhatIs newest held x
holds_own newest held at s x o h es ex eh eo there e =
    let same : at ≡ there = same_Some at there (sym (ap (place_of newest) (ap (λ (z : Slip). z.id) ex) ∙ place_at newest at s h es) ∙ e) in
    ap (slice_get held) (sym same) ∙ eh ∙ ap Some eo

-- what is held at a place is the block of the slip there
pub held_is_own : {A : Type 0} (value : A → Block) (newest : List Slip) (held : List (Option Block)) (at : ℕ) (s z : Slip) (o : Option A) → HoldsOwn newest held → slip_at newest at ≡ Some s → z ≡ s
    → slice_get held at ≡ Some (option_map value o) → IfSome o (λ b. z ≡ slip (value b))
held_is_own value newest held at s z None h es ez eo = tt
held_is_own value newest held at s z (Some b) h es ez eo = ez ∙ same_Some s (slip (value b)) (sym es ∙ h.own at (value b) eo)

-- at first nothing is told
pub none_told : {X : Type 0} (xs ys : List X) (n : ℕ) → xs ≡ xs ++ take (n - n) ys
none_told xs ys n = sym (ap (λ k. xs ++ take k ys) (let f : n - n ≡ 0 = omega arith in f) ∙ ap (λ l. xs ++ l) (none_of ys) ∙ append-nil xs)
  where
    none_of : {X : Type 0} (ys : List X) → take 0 ys ≡ []
    none_of [] = refl
    none_of (y ∷ ys) = refl
