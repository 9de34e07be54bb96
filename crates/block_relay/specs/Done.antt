-- What an offer leaves, by the rule that decides it.
use Rattle.std.specs.Prelude.{◌≡◌, ◌++◌, true, false, Result}
use Rattle.block_record.specs.declared.blocks.Slip.{Slip}
use Rattle.relay_model.specs.Offers.{answer_by, world_by}
use Rattle.relay_model.specs.Verdicts.{Verdict}
use Rattle.relay_model.specs.Chronicles.{added_by}
use Rattle.block_intake.specs.Answers.{IsAnswer, is_mem}
use Rattle.block_intake.specs.declared.answers.Offered.{Offered}
use Rattle.block_intake.specs.declared.answers.OfferFault.{OfferFault}
use Rattle.block_relay.specs.Chronicle.{Told, world_told}

-- an offer was answered, and what is told of the relay then, as a verdict has it; nothing changed where there was no memory
pub record IsDone (v : Verdict) (s : Slip) (old new : Told) (result : Result Offered OfferFault) : Type 0 where
  pub said : IsAnswer (answer_by (world_told old) s v) result
  pub entries : is_mem result ≡ false → new.entries ≡ added_by (world_told old) s v ++ old.entries
  pub world : is_mem result ≡ false → world_told new ≡ world_by (world_told old) s v
  pub mem : is_mem result ≡ true → new ≡ old
