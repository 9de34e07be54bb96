-- That a chunk has the blocks that are held.
use Rattle.std.proofs.Common.{arith, ◌≡◌, ◌∙◌, ap, sym, ℕ, true, List, [], ◌∷◌, Option, Some, None, IsSome, refl}
use Rattle.std.specs.List.{AllByRecursion}
use Rattle.std.specs.Option.{option_map}
use Rattle.std.proofs.lemmas.Bool.{both_ways}
use Rattle.block_record.specs.declared.blocks.Block.{Block}
use Rattle.block_tree.specs.Places.{place_of}
use Rattle.block_tree.proofs.public.PlaceFacts.{is_held, place_slip}
use Rattle.chain_model.specs.Ancestry.{has_id, IsHistory}
use Rattle.fork_db.specs.Batches.{HoldsWhatIs}
use Rattle.fork_db.specs.Forks.{Forks}
use Rattle.fork_db.specs.declared.chunks.StepItem.{StepItem}
use Rattle.relay_model.specs.Worlds.{World}
use Rattle.bundle_model.specs.Plans.{at_places, is_stored}
use Rattle.stored_blocks.specs.Stored.{gone_places, is_gone}
use Rattle.stored_blocks.proofs.public.HeldFacts.{given_up_at}
use Rattle.block_relay.specs.Held.{AreGone, HasBlock}
use Rattle.block_relay.proofs.StoredFacts.{stored_alike}

some_held : {X : Type 0} → (f : X → Block) (o : Option X) → (is_gone (Some (option_map f o)) ≡ true → ⊥) → IsSome o
some_held f None h = absurd (h refl)
some_held f (Some b) h = refl

some_place : (o : Option ℕ) → IsSome o → (at : ℕ) × (o ≡ Some at)
some_place None h = absurd (grind (arith, h))
some_place (Some at) h = (at, refl)

-- an item whose block is not stored has its own
has_block : (w : World) (f : Forks) (x : StepItem) → IsHistory f.history → w.history ≡ f.history → AreGone w.stored f.held → HoldsWhatIs f.history f.held x → HasBlock w x
has_block w f x history same gone h = λ has open'.
    let p = some_place (place_of f.history x.slip.id) (is_held f.history x.slip.id ∙ ap (λ l. has_id l x.slip.id) (sym same) ∙ has) in
    let q = place_slip f.history x.slip.id p.0 p.1 in
    some_held _ x.held (λ given.
    let e : is_stored w x.slip ≡ true =
    stored_alike w f same gone x.slip ∙ ap (has_id (at_places (gone_places 0 f.held) f.history)) (sym q.2) ∙ given_up_at f p.0 q.0 history q.1 ∙ ap is_gone (h p.0 p.1) ∙ given in
    both_ways _ open' e)

pub have_blocks : (w : World) (f : Forks) (xs : List StepItem) → IsHistory f.history → w.history ≡ f.history → AreGone w.stored f.held → AllByRecursion (HoldsWhatIs f.history f.held) xs → AllByRecursion (HasBlock w) xs
have_blocks w f [] history same gone h = tt
have_blocks w f (x ∷ xs) history same gone h = (has_block w f x history same gone h.0, have_blocks w f xs history same gone h.1)
