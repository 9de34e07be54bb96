-- What callers see of an intake, and the world that it stands for.
use Rattle.std.specs.Prelude.{ℕ, ◌≡◌, ◌+◌, ◌<◌, ◌≤◌, ◌^◌, true, false, Bool, List, [], ◌∷◌, set, Option, None, Some, Result}
use Rattle.block_record.specs.declared.blocks.Kind.{Kind}
use Rattle.block_record.specs.declared.blocks.Slip.{Slip}
use Rattle.relay_model.specs.Worlds.{World, Limits, descendants, usual_size}
use Rattle.relay_model.specs.Offers.{answer_by, plain_kind, world_by}
use Rattle.relay_model.specs.Verdicts.{Verdict}
use Rattle.fork_db.specs.Forks.{Forks}
use Rattle.wait_room.specs.Rooms.{AreKept, Room}
use Rattle.block_intake.specs.declared.limits.IntakeLimits.{IntakeLimits}
use Rattle.block_intake.specs.declared.answers.Offered.{Offered}
use Rattle.block_intake.specs.declared.answers.OfferFault.{OfferFault}
use Rattle.block_intake.specs.Answers.{IsAnswer, is_mem}
use Rattle.block_intake.specs.Taking.{StaysHeld}

-- what callers see of an intake: the least number that is taken, the history and the blocks that wait, each with its limits and with what is kept of its blocks, and for how many dropped blocks there is memory
pub record TakenIn : Type 0 where
  pub first : ℕ
  pub forks : Forks
  pub room : Room
  pub spare : ℕ

-- the same of its parts
abbrev pub taken_in : ℕ → Forks → Room → ℕ → TakenIn
taken_in first forks room spare = record { first = first; forks = forks; room = room; spare = spare }

-- the limits that rule an intake
abbrev pub limits_in : IntakeLimits → Limits
limits_in l = record { history = l.history; wait_blocks = l.wait_blocks; wait_bytes = l.wait_bytes }

-- the kind of a history whose nodes tell none
abbrev pub untold_kind : List Slip → Option Kind
untold_kind [] = None
untold_kind (s ∷ older) = Some plain_kind

-- the world of an intake: it is open, its nodes tell no kind, and no block is stored and no conflict noted
abbrev pub world_taken : TakenIn → World
world_taken t = record {
  first = t.first;
  run = 0;
  limits = record { history = t.forks.limit; wait_blocks = t.room.most_blocks; wait_bytes = t.room.most_bytes };
  size = usual_size;
  kind = untold_kind t.forks.history;
  history = t.forks.history;
  waiting = t.room.waiting;
  stored = [];
  conflicts = [];
  closed = false;
}

-- two worlds are alike to an offer: they have the same first number, limits, history and waiting blocks
pub record IsAlike (w v : World) : Type 0 where
  pub first : w.first ≡ v.first
  pub limits : w.limits ≡ v.limits
  pub history : w.history ≡ v.history
  pub waiting : w.waiting ≡ v.waiting

-- a world without the conflicts that were noted in it
abbrev pub unnoted : World → World
unnoted w = record w { conflicts = [] }

-- nothing but memory was taken
pub record IsUnchanged (old new : TakenIn) : Type 0 where
  pub first : new.first ≡ old.first
  pub history : new.forks.history ≡ old.forks.history
  pub held : new.forks.held ≡ old.forks.held
  pub limit : new.forks.limit ≡ old.forks.limit
  pub room : new.room ≡ old.room

-- there is room for a block of the id and its waiting descendants, of which there are at most so many
pub record HasRoomFor (t : TakenIn) (id : List ℕ) (most : ℕ) : Type 0 where
  pub follow : descendants t.room.waiting id ≤ most
  pub history : 1 + most ≤ t.forks.room
  pub spare : most ≤ t.spare
  pub small : most < 2 ^ 63

-- an offer was answered, and what the intake has then, as a verdict has it; nothing but memory was taken where there was not enough, and where the block was given and each that waits has its payload, so has each that came
pub record IsOffered (v : Verdict) (s : Slip) (given : Bool) (old new : TakenIn) (result : Result Offered OfferFault) : Type 0 where
  pub said : IsAnswer (answer_by (world_taken old) s v) result
  pub world : is_mem result ≡ false → world_taken new ≡ unnoted (world_by (world_taken old) s v)
  pub mem : is_mem result ≡ true → IsUnchanged old new
  pub held : given ≡ true → AreKept old.room → StaysHeld old.forks new.forks new.room

-- an intake after the payload at a place was given up
abbrev pub released : ℕ → TakenIn → TakenIn
released at t = record t { forks = record t.forks { held = set t.forks.held at None } }
