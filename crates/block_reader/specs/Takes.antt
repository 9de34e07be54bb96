-- What taking a block of a reader answers, and what stands after it.
use Rattle.std.specs.Prelude.{ℕ, ◌≡◌, ◌⊎◌, ⊤, false, true, List, ◌++◌, Result, Ok, Err}
use Rattle.block_record.specs.declared.blocks.Block.{Block}
use Rattle.block_record.specs.declared.blocks.Kind.{Kind}
use Rattle.block_record.specs.declared.blocks.Slip.{Slip}
use Rattle.block_record.specs.Slips.{slip}
use Rattle.outer_world.specs.Shelves.{RefusesBy}
use Rattle.outer_world.specs.declared.shelves.ShelfFail.{ShelfFail}
use Rattle.one_block.specs.declared.faults.Put.{Put}
use Rattle.one_block.specs.declared.faults.StoreFault.{StoreFault}
use Rattle.one_block.specs.Names.{own_file}
use Rattle.one_block.specs.OneFiles.{one_file_text}
use Rattle.one_block.specs.Puts.{PutDone, PutRefused}
use Rattle.one_block.specs.StoreFaults.{fault_of}
use Rattle.relay_model.specs.Chronicles.{added}
use Rattle.relay_model.specs.Offers.{offered}
use Rattle.relay_model.specs.Worlds.{World}
use Rattle.block_intake.specs.Answers.{IsAnswer, is_mem}
use Rattle.block_intake.specs.declared.answers.Offered.{Offered}
use Rattle.block_intake.specs.declared.answers.OfferFault.{OfferFault}
use Rattle.block_relay.specs.Chronicle.{Told, world_told}
use Rattle.block_reader.specs.declared.faults.TakeFault.{TakeFault}
use Rattle.block_reader.specs.declared.faults.TakeFault.TheVariants.{Offer, Store}
use Rattle.block_reader.specs.Changes.{Shelved, Change, IsStopped, all_changes, changed_all, refused_file}
use Rattle.block_reader.specs.Own.{own_by, with_own}

-- a fact of the answer to the offer, where that is what is answered
abbrev pub IfAnswered : Result Offered TakeFault → (Result Offered OfferFault → Type 0) → Type 0
IfAnswered (Ok offered) P = P (Ok offered)
IfAnswered (Err (Offer fault)) P = P (Err fault)
IfAnswered (Err (Store fault)) P = ⊤

-- a fact of a refusal of the store, where that is what is answered
abbrev pub IfStore : Result Offered TakeFault → (StoreFault → Type 0) → Type 0
IfStore (Ok offered) P = ⊤
IfStore (Err (Offer fault)) P = ⊤
IfStore (Err (Store fault)) P = P fault

-- a block of this slip was offered and answered so, and the relay is what the rules say; without memory it is as before
pub record IsOffered (old new : Told) (s : Slip) (answer : Result Offered OfferFault) : Type 0 where
  pub said : IsAnswer (offered (world_told old) s).answer answer
  pub entries : is_mem answer ≡ false → new.entries ≡ added (world_told old) s ++ old.entries
  pub world : is_mem answer ≡ false → world_told new ≡ (offered (world_told old) s).world
  pub unchanged : is_mem answer ≡ true → new ≡ old

-- the block's own file was put so, and is one of the own files
pub record IsPut (kind : Kind) (block : Block) (by : List ℕ) (old new : Shelved) (put : Put) : Type 0 where
  pub files : PutDone (slip block) by (one_file_text kind block) old.files new.files put
  pub own : new.own ≡ with_own (own_by (slip block) by) old.own

-- all that the answer asks for, where the block's own file was put so
abbrev pub answer_changes : World → Kind → Block → List ℕ → Put → Result Offered OfferFault → Shelved → List Change
answer_changes w kind block by put answer s = all_changes w put (own_file (slip block) by) (refused_file (slip block) by) (one_file_text kind block) answer s

-- the file was put, and all that the answer asks for was done, for a relay whose world is then this
pub record IsPlaced (w : World) (kind : Kind) (block : Block) (by : List ℕ) (old new : Shelved) (answer : Result Offered OfferFault) : Type 0 where
  pub put : Put
  pub between : Shelved
  pub is_put : IsPut kind block by old between put
  pub done : new ≡ changed_all (answer_changes w kind block by put answer between) between

-- the file was not put: nothing was offered
pub record IsUnput (was is : Told) (kind : Kind) (block : Block) (by : List ℕ) (old new : Shelved) (before now : ℕ) (fault : StoreFault) : Type 0 where
  pub relay : is ≡ was
  pub own : new.own ≡ old.own
  pub files : PutRefused (slip block) by (one_file_text kind block) old.files new.files before now fault

-- the file was put and the offer answered, and what the answer asks for was stopped
pub record IsCutOff (was is : Told) (kind : Kind) (block : Block) (by : List ℕ) (old new : Shelved) (before now : ℕ) (fault : StoreFault) : Type 0 where
  pub answer : Result Offered OfferFault
  pub is_offered : IsOffered was is (slip block) answer
  pub put : Put
  pub between : Shelved
  pub is_put : IsPut kind block by old between put
  pub stopped : IsStopped (answer_changes (world_told is) kind block by put answer between) between new
  pub fail : ShelfFail
  pub fault_is : fault ≡ fault_of fail
  pub cause : RefusesBy fail before now

-- why the store refused, and what stands then
abbrev pub IsRefused : Told → Told → Kind → Block → List ℕ → Shelved → Shelved → ℕ → ℕ → StoreFault → Type 0
IsRefused was is kind block by old new before now fault = IsUnput was is kind block by old new before now fault ⊎ IsCutOff was is kind block by old new before now fault

-- what is answered to a block, and what stands then
abbrev pub IsTaken : Told → Told → Kind → Block → List ℕ → Shelved → Shelved → ℕ → ℕ → Result Offered TakeFault → Type 0
IsTaken was is kind block by old new before now (Ok offered) = IsOffered was is (slip block) (Ok offered) × IsPlaced (world_told is) kind block by old new (Ok offered)
IsTaken was is kind block by old new before now (Err (Offer fault)) = IsOffered was is (slip block) (Err fault) × IsPlaced (world_told is) kind block by old new (Err fault)
IsTaken was is kind block by old new before now (Err (Store fault)) = IsRefused was is kind block by old new before now fault
