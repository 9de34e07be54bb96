-- The lengths of a session, with one more and as the history grows.
use Rattle.std.proofs.Common.{arith, ◌≡◌, ◌≤◌, ℕ, List, [], ◌∷◌, ◌++◌, length, refl, sym, subst}
use Rattle.std.specs.List.{AllByRecursion}
use Rattle.std.proofs.lemmas.List.{length-append}
use Rattle.block_record.specs.declared.blocks.Slip.{Slip}
use Rattle.chain_laws.proofs.public.Later.{oldest_stays}
use Rattle.resume_laws.specs.Sessions.{Rises}
use Rattle.step_cursor.specs.declared.cursor.Request.{Request}
use Rattle.session_model.specs.Transcript.{first_place}
use Rattle.session_model.specs.Standing.{BeganOver, BeganIfAny, HasLengths}

pub rises_more : (lens : List ℕ) (n : ℕ) → AllByRecursion (λ m. m ≤ n) lens → Rises lens → Rises (lens ++ n ∷ [])
rises_more [] n within rises = tt
rises_more (a ∷ []) n within rises = (within.0, tt)
rises_more (a ∷ b ∷ lens) n within rises = (rises.0, rises_more (b ∷ lens) n within.1 rises.1)

pub within_more : (k : ℕ) (lens : List ℕ) (n : ℕ) → AllByRecursion (λ m. m ≤ k) lens → n ≤ k → AllByRecursion (λ m. m ≤ k) (lens ++ n ∷ [])
within_more k [] n within le = (le, tt)
within_more k (a ∷ lens) n within le = (within.0, within_more k lens n within.1 le)

pub within_longer : (k j : ℕ) (lens : List ℕ) → k ≤ j → AllByRecursion (λ m. m ≤ k) lens → AllByRecursion (λ m. m ≤ j) lens
within_longer k j [] le within = tt
within_longer k j (a ∷ lens) le within = (omega (arith, within.0), within_longer k j lens le within.1)

pub never_none : (lens : List ℕ) (n : ℕ) → lens ++ n ∷ [] ≡ [] → ⊥
never_none [] n e = cc
never_none (a ∷ lens) n e = cc

-- a session that began has the same first length with one more batch
pub first_same : (newest : List Slip) (r : Request) (lens : List ℕ) (n : ℕ) → (lens ≡ [] → ⊥) → first_place newest r (lens ++ n ∷ []) ≡ first_place newest r lens
first_same newest r [] n some = absurd (some refl)
first_same newest r (a ∷ lens) n some = refl

began_same : (newest : List Slip) (r : Request) (run : ℕ) (lens : List ℕ) (n : ℕ) → (lens ≡ [] → ⊥) → BeganIfAny newest r run lens → BeganIfAny newest r run (lens ++ n ∷ [])
began_same newest r run [] n some began = absurd (some refl)
began_same newest r run (a ∷ lens) n some began = began

pub lengths_more : (newest : List Slip) (r : Request) (run : ℕ) (lens : List ℕ) (n : ℕ) → (lens ≡ [] → ⊥) → n ≡ length newest → HasLengths newest r run lens → HasLengths newest r run (lens ++ n ∷ [])
lengths_more newest r run lens n some e h = record {
  rises = rises_more lens n (within_longer (length newest) n lens (omega arith) h.within) h.rises;
  within = within_more (length newest) lens n h.within (omega arith);
  began = began_same newest r run lens n some h.began;
}

began_stays : (newest more : List Slip) (r : Request) (run : ℕ) (lens : List ℕ) → AllByRecursion (λ n. n ≤ length newest) lens → BeganIfAny newest r run lens → BeganIfAny (more ++ newest) r run lens
began_stays newest more r run [] within began = tt
began_stays newest more r run (a ∷ lens) within began = subst (λ (o : List Slip). BeganOver o r run) (sym (oldest_stays newest more a within.0)) began

pub lengths_stay : (newest more : List Slip) (r : Request) (run : ℕ) (lens : List ℕ) → HasLengths newest r run lens → HasLengths (more ++ newest) r run lens
lengths_stay newest more r run lens h = record {
  rises = h.rises;
  within = within_longer (length newest) (length (more ++ newest)) lens (omega (arith, length-append more newest)) h.within;
  began = began_stays newest more r run lens h.within h.began;
}
