-- The last block below a number.
use Rattle.std.proofs.Common.{arith, ◌≡◌, ◌≤◌, ◌<◌, ◌+◌, ℕ, false, List, [], ◌∷◌, length, Option, Some, None, refl, sym, ◌∙◌, ap, find, nat_le, nat_lt}
use Rattle.std.specs.Option.{option_map}
use Rattle.block_record.specs.declared.blocks.Slip.{Slip}
use Rattle.chain_model.specs.declared.places.Place.{Place}
use Rattle.chain_model.specs.Ancestry.{ancestry}
use Rattle.chain_model.specs.Finality.{ancestry_of, final_tip}
use Rattle.chain_model.specs.Places.{opening}
use Rattle.chain_model.specs.Steps.{ref_of}
use Rattle.block_tree.proofs.public.WalkFacts.{slip_there}
use Rattle.block_tree.specs.Places.{slip_at, slip_of}
use Rattle.block_tree.proofs.public.PlaceFacts.{slip_none}

same_bound : (a limit start : ℕ) → start ≡ limit + 1 → nat_le a limit ≡ nat_lt a start
same_bound a limit start e = grind (arith, e)

-- a number is at most the one before another exactly where it is below that
find_below : (limit start : ℕ) → start ≡ limit + 1 → (xs : List Slip) → find (λ s. nat_le s.num limit) xs ≡ find (λ s. nat_lt s.num start) xs
find_below limit start e [] = refl
find_below limit start e (x ∷ xs) =
    rw (same_bound x.num limit start e, find_below limit start e xs) refl

-- no number is below 0
find_nothing : (start : ℕ) → start ≡ 0 → (xs : List Slip) → find (λ s. nat_lt s.num start) xs ≡ None
find_nothing start e [] = refl
find_nothing start e (x ∷ xs) =
    let none : nat_lt x.num start ≡ false = grind (arith, e) in
    rw (none, find_nothing start e xs) refl

pub below_at : (newest : List Slip) (at limit start : ℕ) (o : Option ℕ) → at < length newest → start ≡ limit + 1
    → ((s : Slip) → slip_at newest at ≡ Some s → slip_of newest o ≡ find (λ x. nat_le x.num limit) (ancestry newest s.id))
    → slip_of newest o ≡ find (λ x. nat_lt x.num start) (ancestry_of newest (slip_of newest (Some at)))
below_at newest at limit start o lt e is =
    let s = slip_there newest at lt in
    is s.0 s.1 ∙ find_below limit start e (ancestry newest s.0.id) ∙ ap (λ x. find (λ y. nat_lt y.num start) (ancestry_of newest x)) (sym s.1)

pub none_below : (newest : List Slip) (o : Option Slip) (start : ℕ) → start ≡ 0 → None ≡ find (λ x. nat_lt x.num start) (ancestry_of newest o)
none_below newest o start e = sym (find_nothing start e (ancestry_of newest o))

pub none_missing : (newest : List Slip) (at start : ℕ) → length newest ≤ at → None ≡ find (λ x. nat_lt x.num start) (ancestry_of newest (slip_of newest (Some at)))
none_missing newest at start le = ap (λ o. find (λ x. nat_lt x.num start) (ancestry_of newest o)) (sym (slip_none newest at le))

-- an opening by the block that was found
pub opening_is : (newest : List Slip) (start : ℕ) (tip : Option Slip) (o : Option Slip) (p : Place) → tip ≡ final_tip newest → o ≡ find (λ x. nat_lt x.num start) (ancestry_of newest tip)
    → p.end ≡ option_map ref_of o → p.lib ≡ option_map ref_of o → p ≡ opening newest start
opening_is newest start tip o p et eo ee el =
    let last : o ≡ find (λ x. nat_lt x.num start) (ancestry_of newest (final_tip newest)) = eo ∙ ap (λ t. find (λ x. nat_lt x.num start) (ancestry_of newest t)) et in
    let whole : record { end = p.end; lib = p.lib } ≡ opening newest start = rw (ee, el, last) refl in
    whole
