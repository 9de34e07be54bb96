-- What of a history is stored: the blocks whose payloads were given up.
use Rattle.std.specs.Prelude.{ℕ, suc, ◌≡◌, ◌<◌, ◌≤◌, ◌+◌, ◌++◌, ◌==◌, Bool, true, false, not, ◌&&◌, nat_lt, List, [], ◌∷◌, length, take, reverse, set, filter, if◌then◌else◌, Option, None, Some, IfSome, IsSome}
use Rattle.std.specs.List.{AllByRecursion, find, slice_get}
use Rattle.block_record.specs.declared.blocks.Block.{Block}
use Rattle.block_record.specs.declared.blocks.Slip.{Slip}
use Rattle.chain_model.specs.Ancestry.{has_id}
use Rattle.relay_model.specs.Runs.{empty_world}
use Rattle.relay_model.specs.Worlds.{World}
use Rattle.bundle_model.specs.Bundles.{finals_up}
use Rattle.bundle_model.specs.Members.{Among}
use Rattle.bundle_model.specs.Plans.{at_places}
use Rattle.block_tree.specs.Places.{slip_at, slip_of}
use Rattle.fork_db.specs.Forks.{Forks}
use Rattle.stored_blocks.specs.declared.places.NumberedPlace.{NumberedPlace}

-- the places, counted from n, whose payloads were given up
abbrev pub gone_places : ℕ → List (Option Block) → List ℕ
gone_places n [] = []
gone_places n (None ∷ held) = n ∷ gone_places (suc n) held
gone_places n (Some b ∷ held) = gone_places (suc n) held

-- whether a payload was given up
abbrev pub is_gone : Option (Option Block) → Bool
is_gone None = false
is_gone (Some None) = true
is_gone (Some (Some b)) = false

-- whether a block is stored
abbrev pub is_given_up : Forks → Slip → Bool
is_given_up f s = has_id (at_places (gone_places 0 f.held) f.history) s.id

-- the world of a history with bundles of the size, of which those blocks are stored
abbrev pub world_in : ℕ → Forks → World
world_in size f = record (empty_world 0 0 (record { history = 0; wait_blocks = 0; wait_bytes = 0 })) { size = size; history = f.history; stored = gone_places 0 f.held }

-- what is kept of it: how many blocks and how many final blocks were taken in; how many final blocks from the root on are stored, one after another; the place of the last stored final block; how many blocks are stored, and how many of the final ones; the blocks off the final path that are not stored, by number; and for how many more there is room
pub record Index : Type 0 where
  pub seen : ℕ
  pub finals : ℕ
  pub front : ℕ
  pub last : Option ℕ
  pub stored : ℕ
  pub stored_finals : ℕ
  pub off : List NumberedPlace
  pub room : ℕ

-- how many blocks pass a test before the first that fails it
abbrev pub front_count : (Slip → Bool) → List Slip → ℕ
front_count test [] = 0
front_count test (s ∷ rest) = if test s then suc (front_count test rest) else 0

-- whether a block is not on the path and not stored
abbrev pub is_off : List Slip → (Slip → Bool) → Slip → Bool
is_off path stored s = not (has_id path s.id) && not (stored s)

-- the number and the place of a block that passes a test, among the first so many of a history
pub record IsPassing (newest : List Slip) (test : Slip → Bool) (seen : ℕ) (x : NumberedPlace) : Type 0 where
  pub low : x.place < seen
  pub slip : Slip
  pub here : slip_at newest x.place ≡ Some slip
  pub num : slip.num ≡ x.num
  pub passes : test slip ≡ true

-- these are all of them
pub record ArePassing (newest : List Slip) (test : Slip → Bool) (seen : ℕ) (xs : List NumberedPlace) : Type 0 where
  pub own : (x : NumberedPlace) → Among xs x → IsPassing newest test seen x
  pub all : (at : ℕ) (s : Slip) → at < seen → slip_at newest at ≡ Some s → test s ≡ true → Among xs (record { num = s.num; place = at })

-- an index of the first so many blocks of a history, with the blocks of a path, upwards, for its final ones
pub record HasTaken (newest path : List Slip) (stored : Slip → Bool) (i : Index) : Type 0 where
  pub low : i.seen ≤ length newest
  pub finals_is : i.finals ≡ length path
  pub front : i.front ≡ front_count stored path
  pub last : slip_of newest i.last ≡ find stored (reverse path)
  pub range : IfSome i.last (λ at. at < length newest)
  pub stored_is : i.stored ≡ length (filter stored newest)
  pub finals_stored : i.stored_finals ≡ length (filter stored path)
  pub off : ArePassing newest (is_off path stored) i.seen i.off

-- an index that has the first so many of the final blocks
pub record HasBegun (f : Forks) (i : Index) : Type 0 where
  pub taken : HasTaken f.history (take i.finals (finals_up f.history)) (is_given_up f) i
  pub same : length f.held ≡ length f.history

-- the index of a history whose payloads are held or were given up
pub record IsIndex (f : Forks) (i : Index) : Type 0 where
  pub taken : HasTaken f.history (finals_up f.history) (is_given_up f) i
  pub whole : i.seen ≡ length f.history
  pub same : length f.held ≡ length f.history

-- the index is that of a history before blocks came to it, each with its payload, and there is room for them
pub record HasGrown (i : Index) (f : Forks) : Type 0 where
  pub before : Forks
  pub index : IsIndex before i
  pub more : List Slip
  pub history : f.history ≡ more ++ before.history
  pub kept : List (Option Block)
  pub held : f.held ≡ before.held ++ kept
  pub given : AllByRecursion IsSome kept
  pub same : length kept ≡ length more
  pub enough : length more ≤ i.room

-- the index is that of a history in which the payload of the block at a place was still held
pub record HasReleased (i : Index) (f : Forks) (at : ℕ) : Type 0 where
  pub before : Forks
  pub index : IsIndex before i
  pub history : f.history ≡ before.history
  pub range : at < length before.history
  pub held : f.held ≡ set before.held at None
  pub block : Block
  pub there : slice_get before.held at ≡ Some (Some block)

-- an index after its next final block, at a place, is found to be stored
abbrev pub next_stored : Index → ℕ → Index
next_stored i at = record i { front = if i.front == i.finals then i.front + 1 else i.front; last = Some at; stored_finals = i.stored_finals + 1 }

-- whether a block is above another, where there is one
abbrev pub is_past : Option Slip → Slip → Bool
is_past None y = true
is_past (Some t) y = nat_lt t.num y.num

-- an index after a final block, at a place, came to be stored
abbrev pub final_stored : Forks → Slip → ℕ → Index → Index
final_stored f y at i = record i {
  front = front_count (is_given_up f) (finals_up f.history);
  last = if is_past (slip_of f.history i.last) y then Some at else i.last;
  stored_finals = i.stored_finals + 1;
}

-- a history without a block
abbrev pub no_forks : Forks
no_forks = record { history = []; held = []; room = 0; limit = 0 }

-- the blocks that are not taken in are on no path so far, and not stored
abbrev pub RestIsOff : Forks → Index → Type 0
RestIsOff f i = (at : ℕ) (s : Slip) → i.seen ≤ at → slip_at f.history at ≡ Some s → is_off (take i.finals (finals_up f.history)) (is_given_up f) s ≡ true
