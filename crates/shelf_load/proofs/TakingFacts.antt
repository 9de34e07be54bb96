-- What is made of the answer to an offer, and whether a block is offered.
use Rattle.std.proofs.Common.{Bor, ◌≡◌, ℕ, Bool, false, List, [], ◌∷◌, length, Option, Ok, Err, Result, refl, ap, ◌∙◌}
use Rattle.std.specs.Option.{is_some, option_copied}
use Rattle.block_record.specs.declared.blocks.Slip.{Slip}
use Rattle.chain_model.specs.Ancestry.{find_id}
use Rattle.relay_model.specs.Worlds.{World}
use Rattle.relay_model.specs.Offers.{offered}
use Rattle.shelf_check.specs.declared.faults.LoadFault.{LoadFault}
use Rattle.store_model.specs.Loads.{is_offered}
use Rattle.block_intake.proofs.public.IntakeFacts.{found_any, some_copied}
use Rattle.shelf_load.specs.Taking.{CountAnswers, OfferAnswers}

pub offer_said : (old new : World) (s : Slip) (mem : Bool) (r : Result ℕ LoadFault) → CountAnswers (offered old s).answer mem r → (mem ≡ false → new ≡ (offered old s).world) → OfferAnswers old new s r
offer_said old new s mem (Ok passed) c world = record { world = world c.0; goes_on = c.1 }
offer_said old new s mem (Err refused) c world = c

pub may_offer : (newest : List Slip) (s : Slip) (o : Option (Bor Slip)) → (length newest ≡ 0 → ⊥) → option_copied o ≡ find_id newest s.parent_id → is_some o ≡ is_offered newest s
may_offer [] s o some e = absurd (some refl)
may_offer (t ∷ older) s o some e = some_copied o ∙ ap is_some e ∙ found_any (t ∷ older) s.parent_id
