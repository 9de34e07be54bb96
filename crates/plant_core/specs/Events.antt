-- What an event makes of a plant, and what it writes.
use Rattle.std.specs.Prelude.{ℕ, ◌≡◌, ◌⊎◌, ◌≤◌, true, false, List, [], ◌∷◌, ◌++◌, Option, None, Some}
use Rattle.one_block.specs.declared.faults.StoreFault.{StoreFault}
use Rattle.one_block.specs.declared.faults.StoreFault.TheVariants as store
use Rattle.fire_lines.specs.Reader.{state_after}
use Rattle.block_relay.specs.Chronicle.{Told, world_told, closed_entries}
use Rattle.bundle_merger.specs.declared.merging.Merged.{Merged}
use Rattle.bundle_merger.specs.Merging.{AddsStored, IsHalted, IsMerged}
use Rattle.node_feed.specs.Outcomes.{Outside, outside}
use Rattle.node_feed.specs.Readers.{IsFed, IsStoppedFeed, ended, end_lines}
use Rattle.replay_text.specs.Lines.{merged_line, over_line}
use Rattle.script_clients.specs.Clients.{without_client}
use Rattle.script_clients.specs.Looking.{IsLooked, IsStopped}
use Rattle.script_clients.specs.Opening.{IsOpened}
use Rattle.script_text.specs.declared.script.Event.{Event}
use Rattle.script_text.specs.declared.script.Event.TheVariants as event
use Rattle.plant_core.specs.declared.readers.Reader.{Reader}
use Rattle.plant_core.specs.Moments.{Moment, reader_of, with_reader}

-- ---- readers

-- what a reader works on, of a moment: the relay, the files with its own, and the text
abbrev pub outside_of : Moment → Reader → Outside
outside_of m r = outside m.plant.told m.files r.own m.faults m.text

-- the reader of a name, who is new where there is none yet
abbrev pub reader_in : Moment → List ℕ → Reader
reader_in m name = reader_of m.plant.limits.line name m.plant.readers

-- a piece was taken from its node by a reader that is over, which writes its line alone, or by one that isn't
pub record WasOver (was now : Reader) (old new : Moment) : Type 0 where
  pub over : was.node.over ≡ true
  pub same : now ≡ was
  pub told : outside_of new now ≡ record (outside_of old was) { text = old.text ++ over_line was.node.name }

pub record TookPiece (piece : List ℕ) (was now : Reader) (old new : Moment) : Type 0 where
  pub goes_on : was.node.over ≡ false
  pub fed : (read : List ℕ) → was.node.lines ≡ state_after was.node.lines.max read → IsFed read piece was.node now.node (outside_of old was) (outside_of new now)

-- a reader's node wrote this piece
pub record HasFed (name piece : List ℕ) (old new : Moment) : Type 0 where
  pub now : Reader
  pub fed : WasOver (reader_in old name) now old new ⊎ TookPiece piece (reader_in old name) now old new
  pub plant : new.plant ≡ record old.plant { told = new.plant.told; readers = with_reader now old.plant.readers }

-- a piece was stopped, by this fault: a front of what it brings was brought and told
pub record HasFedFront (name piece : List ℕ) (old new : Moment) (fault : StoreFault) : Type 0 where
  pub now : Reader
  pub goes_on : (reader_in old name).node.over ≡ false
  pub fed : (read : List ℕ) → (reader_in old name).node.lines ≡ state_after (reader_in old name).node.lines.max read
      → IsStoppedFeed read piece (reader_in old name).node (outside_of old (reader_in old name)) (outside_of new now) fault

-- the run of a reader's node ended
abbrev pub after_end : Reader → Moment → Moment
after_end r m = record m {
  plant = record m.plant { readers = with_reader (record r { node = ended r.node }) m.plant.readers };
  text = m.text ++ end_lines r.node;
}

-- ---- clients, merges, the end

-- clients and text alone changed, in this way
pub record ChangesClients (old new : Moment) : Type 0 where
  pub plant : new.plant ≡ record old.plant { clients = new.plant.clients }
  pub files : new.files ≡ old.files
  pub later : old.faults ≤ new.faults

-- a client connected with this request line
pub record HasOpened (name request : List ℕ) (old new : Moment) : Type 0 where
  pub opened : IsOpened old.plant.limits.request old.plant.run name request old.plant.clients new.plant.clients old.text new.text
  pub else_same : ChangesClients old new

-- a client looked, and was sent at most so many steps
pub record HasLooked (most : Option ℕ) (name : List ℕ) (old new : Moment) : Type 0 where
  pub looked : IsLooked old.plant.told most name old.plant.clients new.plant.clients old.text new.text
  pub else_same : ChangesClients old new

-- the same of one that was stopped
pub record HasLookedFront (most : Option ℕ) (name : List ℕ) (old new : Moment) (fault : StoreFault) : Type 0 where
  pub stopped : IsStopped old.plant.told most name old.files old.faults new.faults old.plant.clients new.plant.clients old.text new.text fault
  pub else_same : ChangesClients old new

-- a merge: of the relay only what is stored changed
pub record HasMerged (old new : Moment) : Type 0 where
  pub merged : Merged
  pub done : IsMerged (world_told old.plant.told) (world_told new.plant.told) old.files new.files merged
  pub stored : AddsStored old.plant.told.entries new.plant.told.entries
  pub conflicts : new.plant.told.conflicts ≡ old.plant.told.conflicts
  pub plant : new.plant ≡ record old.plant { told = new.plant.told }
  pub told : new.text ≡ old.text ++ merged_line merged

-- a merge that was stopped, or that came to its end without memory for its line
pub record HasMergedFront (old new : Moment) (fault : StoreFault) : Type 0 where
  pub went : IsHalted (world_told old.plant.told) (world_told new.plant.told) old.files new.files old.faults new.faults fault
      ⊎ ((fault ≡ store.Mem) × ((merged : Merged) × IsMerged (world_told old.plant.told) (world_told new.plant.told) old.files new.files merged))
  pub text : new.text ≡ old.text

-- what is told of a relay once it is closed
abbrev pub told_closed : Told → Told
told_closed t = record t { entries = closed_entries (world_told t).closed t.entries }

abbrev pub after_close : Moment → Moment
after_close m = record m { plant = record m.plant { told = told_closed m.plant.told } }

abbrev pub after_drop : List ℕ → Moment → Moment
after_drop name m = record m { plant = record m.plant { clients = without_client name m.plant.clients } }

-- ---- events

-- what an event brings about
abbrev pub Happens : Event → Moment → Moment → Type 0
Happens (event.Bytes reader bytes) old new = HasFed reader bytes old new
Happens (event.Line reader text) old new = HasFed reader (text ++ 10 ∷ []) old new
Happens (event.Death reader) old new = new ≡ after_end (reader_in old reader) old
Happens (event.Open client request) old new = HasOpened client request old new
Happens (event.Look client) old new = HasLooked None client old new
Happens (event.Part client steps) old new = HasLooked (Some steps) client old new
Happens (event.Drop client) old new = new ≡ after_drop client old
Happens event.Merge old new = HasMerged old new
Happens event.Close old new = new ≡ after_close old

-- nothing was written, for want of memory
pub record RanOut (old new : Moment) (fault : StoreFault) : Type 0 where
  pub mem : fault ≡ store.Mem
  pub text : new.text ≡ old.text

-- a piece was stopped: there was no memory to begin it, or a front of it was taken
abbrev pub IsFedCutOff : List ℕ → List ℕ → Moment → Moment → StoreFault → Type 0
IsFedCutOff name piece old new fault = RanOut old new fault ⊎ HasFedFront name piece old new fault

-- an event was stopped by this fault, and what of it stands: there was no memory to begin it, or a front of it was done
abbrev pub IsCutOff : Event → Moment → Moment → StoreFault → Type 0
IsCutOff (event.Bytes reader bytes) old new fault = IsFedCutOff reader bytes old new fault
IsCutOff (event.Line reader text) old new fault = IsFedCutOff reader (text ++ 10 ∷ []) old new fault
IsCutOff (event.Death reader) old new fault = RanOut old new fault
IsCutOff (event.Open client request) old new fault = RanOut old new fault
IsCutOff (event.Look client) old new fault = HasLookedFront None client old new fault
IsCutOff (event.Part client steps) old new fault = HasLookedFront (Some steps) client old new fault
IsCutOff (event.Drop client) old new fault = ⊥
IsCutOff event.Merge old new fault = HasMergedFront old new fault
IsCutOff event.Close old new fault = ⊥
