-- Batches that are told, as a session goes on and as the history grows.
use Rattle.std.proofs.Common.{arith, ◌≡◌, ◌≤◌, ◌-◌, ◌+◌, ℕ, zero, suc, List, [], ◌∷◌, ◌++◌, length, take, drop, Option, Some, refl, sym, ◌∙◌, ap, append_assoc, add-one}
use Rattle.std.specs.Prelude.{slice_get}
use Rattle.std.specs.List.{AllByRecursion}
use Rattle.std.proofs.Math.Seq.{take-suc, take-length}
use Rattle.std.proofs.lemmas.List.{map-append}
use Rattle.std.proofs.lemmas.Option.{slice_get_within, get_or_from_slice_get, same_Some}
use Rattle.block_record.specs.declared.blocks.Slip.{Slip}
use Rattle.chain_model.specs.declared.places.Place.{Place}
use Rattle.chain_model.specs.declared.places.Mode.{Mode}
use Rattle.chain_model.specs.Ancestry.{IsHistory}
use Rattle.chain_model.specs.Steps.{BlockStep, place_after}
use Rattle.chain_model.specs.Places.{PlacedStep, PlaceFits, IsAhead, placed, place_along, place_to, steps_to}
use Rattle.chain_laws.specs.Oldest.{oldest}
use Rattle.resume_laws.specs.Sessions.{place_through}
use Rattle.resume_laws.specs.Laws.{first_len}
use Rattle.chain_laws.proofs.public.Ends.{place_reached}
use Rattle.chain_laws.proofs.public.Later.{oldest_stays}
use Rattle.step_cursor.specs.declared.cursor.Request.{Request}
use Rattle.session_model.specs.Told.{Opens, Steps, Heads}
use Rattle.session_model.specs.Transcript.{begins_at, first_place, last_block, steps_told, batches_told, body}

pub oldest_all : (newest : List Slip) (n : ℕ) → n ≡ length newest → oldest n newest ≡ newest
oldest_all newest n e = ap (λ k. drop k newest) (none (length newest) n e)
  where
    none : (a b : ℕ) → b ≡ a → a - b ≡ 0
    none a b h = omega arith

pub through_go_on : (newest : List Slip) (m : Mode) (stop : Option ℕ) (place : Place) (lens more : List ℕ)
    → place_through newest m stop place (lens ++ more) ≡ place_through newest m stop (place_through newest m stop place lens) more
through_go_on newest m stop place [] more = refl
through_go_on newest m stop place (len ∷ lens) more = through_go_on newest m stop (place_to (oldest len newest) place m stop) lens more

pub told_go_on : (newest : List Slip) (run : ℕ) (m : Mode) (stop : Option ℕ) (place : Place) (lens more : List ℕ)
    → batches_told newest run m stop place (lens ++ more) ≡ batches_told newest run m stop place lens ++ batches_told newest run m stop (place_through newest m stop place lens) more
told_go_on newest run m stop place [] more = refl
told_go_on newest run m stop place (len ∷ lens) more =
    let after = place_to (oldest len newest) place m stop in
    let steps = steps_told run len (steps_to (oldest len newest) place m stop) in
    let head = last_block (oldest len newest) m stop in
    ap (λ l. steps ++ Heads head len ∷ l) (told_go_on newest run m stop after lens more)
    ∙ sym (append_assoc steps (Heads head len ∷ batches_told newest run m stop after lens) (batches_told newest run m stop (place_through newest m stop after lens) more))

pub through_stays : (newest more : List Slip) (m : Mode) (stop : Option ℕ) (place : Place) (lens : List ℕ) → AllByRecursion (λ n. n ≤ length newest) lens
    → place_through (more ++ newest) m stop place lens ≡ place_through newest m stop place lens
through_stays newest more m stop place [] within = refl
through_stays newest more m stop place (len ∷ lens) within =
    ap (λ o. place_through (more ++ newest) m stop (place_to o place m stop) lens) (oldest_stays newest more len within.0)
    ∙ through_stays newest more m stop (place_to (oldest len newest) place m stop) lens within.1

pub told_stays : (newest more : List Slip) (run : ℕ) (m : Mode) (stop : Option ℕ) (place : Place) (lens : List ℕ) → AllByRecursion (λ n. n ≤ length newest) lens
    → batches_told (more ++ newest) run m stop place lens ≡ batches_told newest run m stop place lens
told_stays newest more run m stop place [] within = refl
told_stays newest more run m stop place (len ∷ lens) within =
    ap (λ o. steps_told run len (steps_to o place m stop) ++ Heads (last_block o m stop) len ∷ batches_told (more ++ newest) run m stop (place_to o place m stop) lens) (oldest_stays newest more len within.0)
    ∙ ap (λ l. steps_told run len (steps_to (oldest len newest) place m stop) ++ Heads (last_block (oldest len newest) m stop) len ∷ l)
    (told_stays newest more run m stop (place_to (oldest len newest) place m stop) lens within.1)

-- the first length is at most that of the history
first_within : (k : ℕ) (lens : List ℕ) → AllByRecursion (λ n. n ≤ k) lens → first_len lens ≤ k
first_within k [] within = omega arith
first_within k (len ∷ lens) within = within.0

pub first_stays : (newest more : List Slip) (r : Request) (lens : List ℕ) → AllByRecursion (λ n. n ≤ length newest) lens → first_place (more ++ newest) r lens ≡ first_place newest r lens
first_stays newest more r lens within = ap (λ o. begins_at o r.start r.cursor) (oldest_stays newest more (first_len lens) (first_within (length newest) lens within))

pub body_some : (newest : List Slip) (run : ℕ) (type : List ℕ) (r : Request) (lens : List ℕ) → (lens ≡ [] → ⊥)
    → body newest run type r lens ≡ Opens type run (first_place newest r lens) ∷ batches_told newest run r.mode r.stop (first_place newest r lens) lens
body_some newest run type r [] some = absurd (some refl)
body_some newest run type r (len ∷ lens) some = refl

pub body_stays : (newest more : List Slip) (run : ℕ) (type : List ℕ) (r : Request) (lens : List ℕ) → AllByRecursion (λ n. n ≤ length newest) lens
    → body (more ++ newest) run type r lens ≡ body newest run type r lens
body_stays newest more run type r [] within = refl
body_stays newest more run type r (len ∷ lens) within =
    ap (λ p. Opens type run p ∷ batches_told (more ++ newest) run r.mode r.stop p (len ∷ lens)) (first_stays newest more r (len ∷ lens) within)
    ∙ ap (λ l. Opens type run (first_place newest r (len ∷ lens)) ∷ l) (told_stays newest more run r.mode r.stop (first_place newest r (len ∷ lens)) (len ∷ lens) within)

-- one more element
pub take_next : (xs : List PlacedStep) (k : ℕ) (x : PlacedStep) → slice_get xs k ≡ Some x → take (k + 1) xs ≡ take k xs ++ x ∷ []
take_next xs k x e =
    ap (λ n. take n xs) (add-one k) ∙ take-suc xs k x (slice_get_within xs k x e) ∙ ap (λ y. take k xs ++ y ∷ []) (get_or_from_slice_get xs k x x e)

pub steps_next : (run seen : ℕ) (xs : List PlacedStep) (k : ℕ) (x : PlacedStep) → slice_get xs k ≡ Some x
    → steps_told run seen (take (k + 1) xs) ≡ steps_told run seen (take k xs) ++ Steps x run seen ∷ []
steps_next run seen xs k x e = ap (steps_told run seen) (take_next xs k x e) ∙ map-append (λ y. Steps y run seen) (take k xs) (x ∷ [])

pub steps_all : (run seen : ℕ) (xs : List PlacedStep) (k : ℕ) (x : PlacedStep) → slice_get xs k ≡ Some x → k + 1 ≡ length xs
    → steps_told run seen (take k xs) ++ Steps x run seen ∷ [] ≡ steps_told run seen xs
steps_all run seen xs k x e whole =
    sym (steps_next run seen xs k x e) ∙ ap (λ n. steps_told run seen (take n xs)) whole ∙ ap (steps_told run seen) (take-length xs)

pub length-placed : (place : Place) (xs : List BlockStep) → length (placed place xs) ≡ length xs
length-placed place [] = refl
length-placed place (x ∷ xs) = ap suc (length-placed (place_after place x) xs)

-- the place after the last step
pub last_place : (place : Place) (xs : List BlockStep) (k : ℕ) (x : PlacedStep) → slice_get (placed place xs) k ≡ Some x → k + 1 ≡ length (placed place xs) → x.place ≡ place_along place xs
last_place place [] k x e whole = absurd (omega (arith, slice_get_within (placed place []) k x e))
last_place place (y ∷ []) zero x e whole = ap (λ z. z.place) (sym (same_Some _ _ e))
last_place place (y ∷ []) (suc k) x e whole = absurd (omega arith)
last_place place (y ∷ z ∷ xs) zero x e whole = absurd (omega arith)
last_place place (y ∷ z ∷ xs) (suc k) x e whole = last_place (place_after place y) (z ∷ xs) k x e (omega arith)

-- the end of the place reached is the last block of the target
pub end_reached : (newest : List Slip) (place : Place) (m : Mode) (stop : Option ℕ) → IsHistory newest → PlaceFits newest place.end place.lib → IsAhead stop place.end
    → (place_to newest place m stop).end ≡ last_block newest m stop
end_reached newest place m stop history fits ahead = ap (λ p. p.end) (place_reached newest place m stop history fits ahead).reached
