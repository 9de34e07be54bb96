-- The world of a relay, and its waiting room.
use Rattle.std.specs.Prelude.{ℕ, zero, suc, ◌+◌, Bool, false, not, ◌||◌, ◌&&◌, nat_le, nat_lt, List, [], ◌∷◌, length, if◌then◌else◌, Option, None, Some, filter}
use Rattle.std.specs.List.{list_any}
use Rattle.block_record.specs.declared.blocks.Slip.{Slip}
use Rattle.block_record.specs.declared.blocks.Kind.{Kind}
use Rattle.block_record.specs.Ids.{same_id}
use Rattle.chain_model.specs.Ancestry.{has_id}
use Rattle.relay_model.specs.declared.answers.Conflict.{Conflict as Clash}

-- the limits of a relay: the blocks of the history, and the blocks and the bytes of payloads that may wait
pub record Limits : Type 0 where
  pub history : ℕ
  pub wait_blocks : ℕ
  pub wait_bytes : ℕ

-- how many numbers a bundle covers, where no other size is set
abbrev pub usual_size : ℕ
usual_size = 100

-- the world of a relay; `size` is how many numbers a bundle covers; each list has what came last first, and the stored places are counted from the root
pub record World : Type 0 where
  pub first : ℕ
  pub run : ℕ
  pub limits : Limits
  pub size : ℕ
  pub kind : Option Kind
  pub history : List Slip
  pub waiting : List Slip
  pub stored : List ℕ
  pub conflicts : List Clash
  pub closed : Bool

-- the earlier of two, where the later's number is not less
abbrev pub lesser : Option Slip → Slip → Option Slip
lesser None s = Some s
lesser (Some t) s = if nat_lt s.num t.num then Some s else Some t

-- the block with the least number, among equals the oldest
abbrev pub least : List Slip → Option Slip
least [] = None
least (s ∷ older) = lesser (least older) s

-- whether the chain of parent ids inside the room leads from a block to the id, in at most n links
abbrev pub descends : ℕ → List Slip → List ℕ → Slip → Bool
descends zero room id s = false
descends (suc n) room id s = same_id s.parent_id id || list_any (λ p. same_id p.id s.parent_id && descends n room id p) room

-- how many blocks of the room descend from the id, by parent ids alone
abbrev pub descendants : List Slip → List ℕ → ℕ
descendants room id = length (filter (descends (length room) room id) room)

-- the bytes of the payloads in the room
abbrev pub room_bytes : List Slip → ℕ
room_bytes [] = 0
room_bytes (s ∷ older) = s.length + room_bytes older

-- whether one more block passes no limit of the room
abbrev pub has_room : Limits → List Slip → Slip → Bool
has_room limits room s = nat_le (length room + 1) limits.wait_blocks && nat_le (room_bytes room + s.length) limits.wait_bytes

-- of the waiting blocks whose parent is known, the one with the least number, among equals the earliest
abbrev pub next_waiting : List Slip → List Slip → Option Slip
next_waiting newest room = least (filter (λ s. has_id newest s.parent_id) room)

-- the room without the block of an id
abbrev pub without : Slip → List Slip → List Slip
without s room = filter (λ t. not (same_id t.id s.id)) room
