-- The waiting blocks that follow an admitted block, as they are taken one by one.
use Rattle.std.specs.Prelude.{ℕ, ◌≡◌, ◌+◌, ◌≤◌, true, false, List, [], ◌∷◌, ◌++◌, length, filter, Option, None, Some, IsSome, ⊤}
use Rattle.std.specs.List.{AllByRecursion}
use Rattle.block_record.specs.declared.blocks.Block.{Block}
use Rattle.block_record.specs.declared.blocks.Slip.{Slip}
use Rattle.chain_model.specs.Ancestry.{find_id, has_id}
use Rattle.relay_model.specs.declared.answers.Conflict.{Conflict as Clash}
use Rattle.relay_model.specs.Worlds.{World, descendants, descends}
use Rattle.relay_model.specs.Offers.{Intake, judge, take_in}
use Rattle.relay_model.specs.Verdicts as verdict
use Rattle.relay_model.specs.Soundness.{IsBlock, IsDistinct, IsSound}
use Rattle.relay_model.proofs.public.Intakes.{IsTaking}
use Rattle.fork_db.specs.Forks.{Forks}
use Rattle.wait_room.specs.Rooms.{AreKept, Room}
use Rattle.block_intake.specs.Judged.{HasParts}
use Rattle.block_intake.specs.declared.answers.OfferFault.{OfferFault}
use Rattle.block_intake.specs.declared.answers.OfferFault.TheVariants as fault

-- the conflicts of the blocks that were dropped, the last one first, and for how many more there is memory
pub record Dropping : Type 0 where
  pub conflicts : List Clash
  pub spare : ℕ

-- how far the waiting blocks are taken
abbrev pub intake_of : Forks → Room → Dropping → Intake
intake_of db room drops = record { history = db.history; waiting = room.waiting; dropped = drops.conflicts }

-- more blocks came to the history, each with its payload
pub record HoldsMore (old new : Forks) : Type 0 where
  pub more : List Slip
  pub history : new.history ≡ more ++ old.history
  pub kept : List (Option Block)
  pub held : new.held ≡ old.held ++ kept
  pub given : AllByRecursion IsSome kept
  pub same : length kept ≡ length more

-- so they did, and each block that waits has its payload
pub record StaysHeld (old new : Forks) (room : Room) : Type 0 where
  pub more : HoldsMore old new
  pub waiting : AreKept room

-- the limits of the history and of the room stay
pub record KeepsLimits (db : Forks) (room : Room) (db' : Forks) (room' : Room) : Type 0 where
  pub history : db'.limit ≡ db.limit
  pub blocks : room'.most_blocks ≡ room.most_blocks
  pub bytes : room'.most_bytes ≡ room.most_bytes

-- the history after a block whose parent is held, by how it contradicts the history
abbrev pub history_after : List Slip → Slip → Option Clash → List Slip
history_after newest s None = s ∷ newest
history_after newest s (Some c) = newest

-- the conflicts after it
abbrev pub dropped_after : List Clash → Option Clash → List Clash
dropped_after ds None = ds
dropped_after ds (Some c) = c ∷ ds

-- what holds while the waiting blocks are taken that follow an admitted block: the more blocks of the history waited and descend from it, and so does each that is taken next
pub record Counted (w : World) (s : Slip) (d : Intake) : Type 0 where
  pub more : List Slip
  pub history : d.history ≡ more ++ s ∷ w.history
  pub held : AllByRecursion (λ y. (find_id w.waiting y.id ≡ Some y) × (descends (length more) w.waiting s.id y ≡ true)) more
  pub found : AllByRecursion (λ x. find_id w.waiting x.id ≡ Some x) d.waiting
  pub orphans : AllByRecursion (λ x. has_id w.history x.parent_id ≡ false) d.waiting
  pub short : length more + length d.waiting ≤ length w.waiting
  pub distinct : IsDistinct d.waiting
  pub count : length more + length d.dropped + length (filter (descends (length w.waiting) w.waiting s.id) d.waiting) ≤ descendants w.waiting s.id

-- the waiting blocks may be taken: what was admitted so far is sound, and so many blocks have room as descend from the first of them
pub record CanTake (d : Intake) (room : ℕ) : Type 0 where
  pub world : World
  pub first : Slip
  pub counted : Counted world first d
  pub taking : IsTaking d
  pub enough : length (filter (descends (length world.waiting) world.waiting first.id) d.waiting) ≤ room

-- what follows the admission of a block
abbrev pub intake_from : List Slip → List Slip → Slip → Intake
intake_from history waiting s = take_in (length waiting) (record { history = s ∷ history; waiting = waiting; dropped = [] })

-- the block is one that a sound world with this history and these waiting blocks admits
pub record CanStart (db : Forks) (room : Room) (s : Slip) : Type 0 where
  pub world : World
  pub parts : HasParts world db room
  pub sound : IsSound world
  pub block : IsBlock s
  pub takes : judge world s ≡ verdict.Admitted

-- why there may be no room: the limit of the history, or no memory
abbrev pub IsRoomFault : OfferFault → Type 0
IsRoomFault (fault.HistoryFull len need) = ⊤
IsRoomFault fault.Mem = ⊤
IsRoomFault (fault.Closed len) = ⊥
IsRoomFault (fault.Conflict c) = ⊥
IsRoomFault (fault.WaitFull blocks bytes) = ⊥
