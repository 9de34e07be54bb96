-- What there is of a plant between two events.
use Rattle.std.specs.Prelude.{ℕ, ◌≡◌, ◌<◌, Bool, false, List, [], ◌∷◌, length, get_or, if◌then◌else◌, Option}
use Rattle.std.specs.List.{AllByRecursion, position}
use Rattle.std.specs.Str.{bytes_eq}
use Rattle.block_record.specs.Texts.{IsReaderName}
use Rattle.outer_world.specs.Files.{Files}
use Rattle.fire_lines.specs.Reader.{state_after}
use Rattle.block_reader.specs.Kept.{AreOwn}
use Rattle.block_relay.specs.Chronicle.{Told, world_told}
use Rattle.block_relay.specs.declared.limits.Limits.{Limits}
use Rattle.node_feed.specs.Readers.{node_state}
use Rattle.own_laws.specs.Away.{AreBy}
use Rattle.script_clients.specs.declared.named.Named.{Named}
use Rattle.script_clients.specs.Serving.{AllServed}
use Rattle.plant_core.specs.declared.readers.Reader.{Reader}

-- a plant: what is told of its relay, its run and limits, its readers, each with its own files, and its clients
pub record PlantState : Type 0 where
  pub told : Told
  pub run : ℕ
  pub limits : Limits
  pub readers : List Reader
  pub clients : List Named

-- a plant of this run and these limits, without readers and clients
abbrev pub plant_of : Told → ℕ → Limits → PlantState
plant_of t run limits = record { told = t; run = run; limits = limits; readers = []; clients = [] }

-- the plant, the files of its shelf, how often the shelf has failed, and the text that was written
pub record Moment : Type 0 where
  pub plant : PlantState
  pub files : Option Files
  pub faults : ℕ
  pub text : List ℕ

abbrev pub moment : PlantState → Option Files → ℕ → List ℕ → Moment
moment plant files faults text = record { plant = plant; files = files; faults = faults; text = text }

-- ---- the readers, by their names

-- whether a reader has the name
abbrev pub is_named : List ℕ → Reader → Bool
is_named name r = bytes_eq r.node.name name

-- where the reader of a name stands
abbrev pub place_of : List ℕ → List Reader → Option ℕ
place_of name readers = position (is_named name) readers

-- a reader that was told nothing yet, and takes lines of at most so many bytes
abbrev pub new_reader : ℕ → List ℕ → Reader
new_reader max name = record { node = node_state name (state_after max []) false; own = [] }

-- the reader of a name, who is new where there is none yet
abbrev pub reader_of : ℕ → List ℕ → List Reader → Reader
reader_of max name [] = new_reader max name
reader_of max name (r ∷ readers) = if is_named name r then r else reader_of max name readers

-- the readers with this one: in place of the one of its name, or else as the last
abbrev pub with_reader : Reader → List Reader → List Reader
with_reader now [] = now ∷ []
with_reader now (r ∷ readers) = if is_named now.node.name r then now ∷ readers else r ∷ with_reader now readers

-- this reader stands at a place
pub record StandsAt (readers : List Reader) (place : ℕ) (one : Reader) : Type 0 where
  pub within : place < length readers
  pub is : one ≡ get_or readers place one

-- ---- what holds at each moment

-- a reader's own files are by it, and what it has read of its node's run is some text
pub record IsReader (r : Reader) : Type 0 where
  pub name : IsReaderName r.node.name
  pub own : AreBy r.node.name r.own
  pub read : List ℕ
  pub lines : r.node.lines ≡ state_after r.node.lines.max read

-- no later reader has the name of one
abbrev pub AreApart : List Reader → Type 0
AreApart [] = Unit {0}
AreApart (r ∷ readers) = AllByRecursion (λ x. is_named r.node.name x ≡ false) readers × AreApart readers

-- the relay is of the run and serves each client, and each reader is one of its name
pub record IsSteady (p : PlantState) : Type 0 where
  pub run_is : (world_told p.told).run ≡ p.run
  pub served : AllServed p.told p.clients
  pub readers : AllByRecursion IsReader p.readers
  pub apart : AreApart p.readers

-- the own files of each reader are there
abbrev pub AllOwn : Option Files → List Reader → Type 0
AllOwn files readers = AllByRecursion (λ r. AreOwn files r.own) readers
