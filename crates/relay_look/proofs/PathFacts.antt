-- What a history tells of a block that is named.
use Rattle.std.proofs.Common.{◌≡◌, ◌≤◌, ◌<◌, ℕ, Bool, true, false, List, length, Option, Some, None, refl, sym, ◌∙◌, ap}
use Rattle.std.proofs.lemmas.Bool.{both_ways}
use Rattle.block_record.specs.declared.blocks.Slip.{Slip}
use Rattle.chain_model.specs.Ancestry.{ancestry, has_id}
use Rattle.chain_model.specs.Finality.{ancestry_of, final_tip, on_path}
use Rattle.chain_laws.proofs.public.Lines.{has_id-ancestry}
use Rattle.block_tree.specs.Places.{place_of, slip_at, slip_of}
use Rattle.block_tree.proofs.public.PlaceFacts.{place_none, place_slip}
use Rattle.block_tree.proofs.public.WalkFacts.{slip_there}
use Rattle.relay_model.specs.Offers.{num_of, tip_num}
use Rattle.block_tree.proofs.public.PlaceFacts.{slip_none}

-- an id that is not in the history is on no path
off_line : (newest : List Slip) (o : Option Slip) (id : List ℕ) (b : Bool) → has_id newest id ≡ false → has_id (ancestry_of newest o) id ≡ b → false ≡ b
off_line newest o id false none e = refl
off_line newest None id true none e = absurd (both_ways _ refl e)
off_line newest (Some s) id true none e = absurd (both_ways _ none (has_id-ancestry newest s.id id e))

pub off_path : (newest : List Slip) (o : Option Slip) (id : List ℕ) → place_of newest id ≡ None → false ≡ has_id (ancestry_of newest o) id
off_path newest o id e = off_line newest o id (has_id (ancestry_of newest o) id) (place_none newest id e) refl

-- there is no path past the last block
pub past_path : (newest : List Slip) (at : ℕ) (id : List ℕ) → length newest ≤ at → false ≡ has_id (ancestry_of newest (slip_of newest (Some at))) id
past_path newest at id le = ap (λ o. has_id (ancestry_of newest o) id) (sym (slip_none newest at le))

-- the path of a block by its place
pub on_path_by : (newest : List Slip) (id : List ℕ) (a last : ℕ) (r : Bool) → place_of newest id ≡ Some a → last < length newest
    → ((x y : Slip) → slip_at newest a ≡ Some x → slip_at newest last ≡ Some y → r ≡ on_path newest x y) → r ≡ has_id (ancestry_of newest (slip_of newest (Some last))) id
on_path_by newest id a last r e lt is =
    let x = place_slip newest id a e in
    let y = slip_there newest last lt in
    is x.0 y.0 x.1 y.1 ∙ ap (has_id (ancestry newest y.0.id)) x.2 ∙ ap (λ o. has_id (ancestry_of newest o) id) (sym y.1)
