-- What a longer history keeps of a shorter one.
use Rattle.std.proofs.Common.{arith, ◌≡◌, ◌≤◌, ◌-◌, ◌+◌, ℕ, true, List, [], ◌∷◌, ◌++◌, length, reverse, take, drop, Option, Some, None, refl, sym, ◌∙◌, ap}
use Rattle.std.specs.List.{AllByRecursion}
use Rattle.std.proofs.lemmas.List.{reverse-append, length-append, length-reverse, length-drop, drop_at, drop-drop, take-append-drop}
use Rattle.block_record.specs.declared.blocks.Slip.{Slip}
use Rattle.block_record.specs.declared.blocks.BlockRef.{BlockRef}
use Rattle.chain_model.specs.declared.places.Place.{Place}
use Rattle.chain_model.specs.Ancestry.{find_id, has_id, ancestry, IsHistory}
use Rattle.chain_model.specs.Finality.{ClaimsAgree}
use Rattle.chain_model.specs.Steps.{BlockStep, ancestry_at, place_after, steps_of, target}
use Rattle.chain_model.proofs.public.ScanFacts.{ancestry_past}
use Rattle.chain_laws.proofs.public.Lines.{IsHistory-rest, has_id-ancestry, has_id-find_id, find_id_past, other_id, some_and}
use Rattle.chain_laws.proofs.public.Growth.{ClaimsAgree-rest, grows_by_many}
use Rattle.chain_laws.proofs.public.Reach.{has_id-append_right, has_id-suffix}
use Rattle.chain_laws.specs.Oldest.{oldest}
use Rattle.chain_laws.specs.Laws.{PlacesFit, OldestIsFront}
use Rattle.chain_laws.proofs.public.Walks.{Walk, next, walk_fits}
use Rattle.chain_laws.proofs.public.Starts.{start}
use Rattle.chain_model.specs.Places.{placed, PlaceFits, IsHeld}
use Rattle.chain_laws.specs.Standing.{stands, IsUnder}

pub history_older : (more older : List Slip) → IsHistory (more ++ older) → IsHistory older
history_older [] older history = history
history_older (s ∷ more) older history = history_older more older (IsHistory-rest s (more ++ older) history)

pub agreed_older : (more older : List Slip) → IsHistory (more ++ older) → ClaimsAgree (more ++ older) → ClaimsAgree older
agreed_older [] older history agreed = agreed
agreed_older (s ∷ more) older history agreed = agreed_older more older (IsHistory-rest s (more ++ older) history) (ClaimsAgree-rest s (more ++ older) history agreed)

pub find_later : (more older : List Slip) → IsHistory (more ++ older) → (j : List ℕ) → has_id older j ≡ true → find_id (more ++ older) j ≡ find_id older j
find_later [] older history j h = refl
find_later (s ∷ more) older history j h =
    find_id_past s (more ++ older) j (other_id s (more ++ older) history j (has_id-append_right more older j h)) ∙ find_later more older (IsHistory-rest s (more ++ older) history) j h

pub ancestry_later : (more older : List Slip) → IsHistory (more ++ older) → (j : List ℕ) → has_id older j ≡ true → ancestry (more ++ older) j ≡ ancestry older j
ancestry_later [] older history j h = refl
ancestry_later (s ∷ more) older history j h =
    ancestry_past s (more ++ older) j (other_id s (more ++ older) history j (has_id-append_right more older j h)) ∙ ancestry_later more older (IsHistory-rest s (more ++ older) history) j h

has_held : (newest : List Slip) (r : BlockRef) → IsHeld newest r → has_id newest r.id ≡ true
has_held newest r h = let s = some_and _ _ h in has_id-find_id newest r.id s.0 s.1

pub held_later : (more older : List Slip) → IsHistory (more ++ older) → (r : BlockRef) → IsHeld older r → IsHeld (more ++ older) r
held_later more older history r h = rw (find_later more older history r.id (has_held older r h)) h

pub fits_later : (more older : List Slip) → IsHistory (more ++ older) → ClaimsAgree (more ++ older) → (end lib : Option BlockRef) → PlaceFits older end lib → PlaceFits (more ++ older) end lib
fits_later more older history agreed None None fits = tt
fits_later more older history agreed None (Some l) fits = absurd fits
fits_later more older history agreed (Some e) None fits = absurd fits
fits_later more older history agreed (Some e) (Some l) fits = record {
  end_held = held_later more older history e fits.end_held;
  lib_held = held_later more older history l fits.lib_held;
  final = has_id-suffix _ _ l.id (grows_by_many more older history agreed) fits.final;
  on_path = rw (ancestry_later more older history e.id (has_held older e fits.end_held)) fits.on_path;
}

-- a client stands the same in both
line_later : (more older : List Slip) → IsHistory (more ++ older) → (r : BlockRef) → IsHeld older r → ancestry_at (more ++ older) (Some r) ≡ ancestry_at older (Some r)
line_later more older history r h = ancestry_later more older history r.id (has_held older r h)

pub lines_later : (more older : List Slip) → IsHistory (more ++ older) → (end lib : Option BlockRef) → PlaceFits older end lib
    → (ancestry_at (more ++ older) end ≡ ancestry_at older end) × (ancestry_at (more ++ older) lib ≡ ancestry_at older lib)
lines_later more older history None None fits = (refl, refl)
lines_later more older history None (Some l) fits = absurd fits
lines_later more older history (Some e) None fits = absurd fits
lines_later more older history (Some e) (Some l) fits = (line_later more older history e fits.end_held, line_later more older history l fits.lib_held)

pub stands_later : (more older : List Slip) → IsHistory (more ++ older) → (base : Option BlockRef) (place : Place) → PlaceFits older place.end place.lib → stands (more ++ older) base place ≡ stands older base place
stands_later more older history base place fits = let e = lines_later more older history place.end place.lib fits in rw (e.0, e.1) refl

-- and a base is under the lib in both
under_go : (more older : List Slip) → IsHistory (more ++ older) → (base end lib : Option BlockRef) → PlaceFits older end lib → IsUnder (more ++ older) base lib → IsUnder older base lib
under_go more older history None end lib fits under = tt
under_go more older history (Some r) end None fits under = absurd under
under_go more older history (Some r) None (Some l) fits under = absurd fits
under_go more older history (Some r) (Some e) (Some l) fits under =
    let on : has_id (ancestry older l.id) r.id ≡ true = rw (ancestry_later more older history l.id (has_held older l fits.lib_held)) at under.1 in
    (rw (find_later more older history r.id (has_id-ancestry older l.id r.id on)) at under.0, on)

pub under_older : (more older : List Slip) → IsHistory (more ++ older) → (base : Option BlockRef) (place : Place) → PlaceFits older place.end place.lib → IsUnder (more ++ older) base place.lib → IsUnder older base place.lib
under_older more older history base place fits under = under_go more older history base place.end place.lib fits under

under_go_later : (more older : List Slip) → IsHistory (more ++ older) → (base end lib : Option BlockRef) → PlaceFits older end lib → IsUnder older base lib → IsUnder (more ++ older) base lib
under_go_later more older history None end lib fits under = tt
under_go_later more older history (Some r) end None fits under = absurd under
under_go_later more older history (Some r) None (Some l) fits under = absurd fits
under_go_later more older history (Some r) (Some e) (Some l) fits under =
    (held_later more older history r under.0, rw (ancestry_later more older history l.id (has_held older l fits.lib_held)) under.1)

pub under_later : (more older : List Slip) → IsHistory (more ++ older) → (base : Option BlockRef) (place : Place) → PlaceFits older place.end place.lib → IsUnder older base place.lib → IsUnder (more ++ older) base place.lib
under_later more older history base place fits under = under_go_later more older history base place.end place.lib fits under

-- each place on the way fits
fit_along : (more older goal : List Slip) (xs : List BlockStep) (place : Place) → IsHistory (more ++ older) → ClaimsAgree (more ++ older) → Walk older goal None place xs
    → AllByRecursion (λ x. PlaceFits (more ++ older) x.place.end x.place.lib) (placed place xs)
fit_along more older goal [] place history agreed w = tt
fit_along more older goal (x ∷ xs) place history agreed w =
    let before = history_older more older history in
    let n = next older goal None place x xs before w in
    let after = place_after place x in
    (fits_later more older history agreed after.end after.lib (walk_fits older goal None after xs before n.walk), fit_along more older goal xs after history agreed n.walk)

pub places_fit : PlacesFit
places_fit older more place m stop history agreed fits ahead =
    fit_along more older (target older m stop) (steps_of older place m stop) place history agreed (start older None place m stop (history_older more older history) fits tt ahead)

-- the oldest blocks of a history
pub oldest_whole : (newest : List Slip) (len : ℕ) → take (length newest - len) newest ++ oldest len newest ≡ newest
oldest_whole newest len = take-append-drop (length newest - len) newest

pub oldest_parts : (newest : List Slip) (a b : ℕ) → a ≤ b → b ≤ length newest → take (b - a) (oldest b newest) ++ oldest a newest ≡ oldest b newest
oldest_parts newest a b le within =
    let same : drop (b - a) (oldest b newest) ≡ oldest a newest =
    drop-drop (b - a) (length newest - b) newest ∙ ap (λ n. drop n newest) (sums (length newest) a b le within) in
    ap (λ l. take (b - a) (oldest b newest) ++ l) (sym same) ∙ take-append-drop (b - a) (oldest b newest)
  where
    sums : (n x y : ℕ) → x ≤ y → y ≤ n → (n - y) + (y - x) ≡ n - x
    sums n x y h k = omega arith

-- the oldest blocks stay as the history grows
pub oldest_stays : (newest more : List Slip) (len : ℕ) → len ≤ length newest → oldest len (more ++ newest) ≡ oldest len newest
oldest_stays newest more len within =
    let sum : length (more ++ newest) - len ≡ length more + (length newest - len) = sums (length (more ++ newest)) (length more) (length newest) len (length-append more newest) within in
    ap (λ n. drop n (more ++ newest)) sum ∙ sym (drop-drop (length newest - len) (length more) (more ++ newest)) ∙ ap (drop (length newest - len)) (drop_at more newest (length more) refl)
  where
    sums : (n a b k : ℕ) → n ≡ a + b → k ≤ b → n - k ≡ a + (b - k)
    sums n a b k e le = omega arith

-- and are the front of its blocks in order
pub oldest_is_front : OldestIsFront
oldest_is_front history len within =
    let parts : reverse history ≡ reverse (drop len history) ++ reverse (take len history) =
    ap reverse (sym (take-append-drop len history)) ∙ reverse-append (take len history) (drop len history) in
    let sizes : length (reverse (drop len history)) ≡ length (reverse history) - len =
    length-reverse (drop len history) ∙ length-drop len history ∙ ap (λ n. n - len) (sym (length-reverse history)) in
    ap (drop (length (reverse history) - len)) parts ∙ drop_at (reverse (drop len history)) (reverse (take len history)) (length (reverse history) - len) sizes
