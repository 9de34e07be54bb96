-- A script, run over a shelf.
use Rattle.std.specs.Prelude.{ℕ, ◌≡◌, ◌⊎◌, List, [], ◌∷◌, ◌++◌, Option, Ok, Err}
use Rattle.outer_world.specs.Files.{Files}
use Rattle.one_block.specs.declared.faults.StoreFault.{StoreFault}
use Rattle.one_block.specs.declared.faults.StoreFault.TheVariants as store
use Rattle.relay_model.specs.Chronicles.{Opened}
use Rattle.relay_model.specs.Worlds.{World, usual_size}
use Rattle.block_relay.specs.Chronicle.{Told, limits_told, world_told}
use Rattle.replay_text.specs.Lines.{load_fault_line, loaded_line}
use Rattle.script_text.specs.declared.script.Event.{Event}
use Rattle.script_text.specs.Scripts.{Plan}
use Rattle.shelf_check.specs.declared.faults.LoadFault.{LoadFault}
use Rattle.shelf_check.specs.declared.faults.LoadFault.TheVariants as load
use Rattle.shelf_load.specs.declared.loads.Loaded.{Loaded}
use Rattle.shelf_load.specs.Load.{ShelfAnswers}
use Rattle.plant_core.specs.Moments.{Moment, PlantState, moment, plant_of}
use Rattle.plant_core.specs.Events.{Happens, IsCutOff}

-- events happened one after another
abbrev pub IsRun : List Event → Moment → Moment → Type 0
IsRun [] old new = new ≡ old
IsRun (e ∷ events) old new = (mid : Moment) × Happens e old mid × IsRun events mid new

-- what is told of a new relay
abbrev pub told_new : Plan → Told
told_new p = record { entries = Opened p.first p.run (limits_told p.limits) usual_size ∷ []; conflicts = [] }

-- a plant stands where these events lead, with this relay
pub record RunsTo (events : List Event) (start : Moment) (files : Option Files) (faults : ℕ) (text : List ℕ) (relay : Told) : Type 0 where
  pub last : PlantState
  pub relay_is : last.told ≡ relay
  pub run : IsRun events start (moment last files faults text)

-- one of these events was cut off by this fault, once those before it had happened
pub record StopsWithin (events : List Event) (start : Moment) (files : Option Files) (faults : ℕ) (text : List ℕ) (fault : StoreFault) : Type 0 where
  pub done : List Event
  pub next : Event
  pub left : List Event
  pub all : events ≡ done ++ next ∷ left
  pub between : Moment
  pub run : IsRun done start between
  pub last : PlantState
  pub cut_off : IsCutOff next between (moment last files faults text) fault

-- a shelf was loaded into a new relay of a script, and the line of that was written
pub record HasLoaded (p : Plan) (files : Option Files) (before : ℕ) (text : List ℕ) (start : Moment) : Type 0 where
  pub loaded : Loaded
  pub answer : ShelfAnswers files (world_told (told_new p)) (world_told start.plant.told) before start.faults (Ok loaded)
  pub plant : start.plant ≡ plant_of start.plant.told p.run p.limits
  pub files_are : start.files ≡ files
  pub told : start.text ≡ text ++ loaded_line loaded

-- it was loaded, and then something is so of this start
pub record LoadedThen (p : Plan) (files : Option Files) (before : ℕ) (text : List ℕ) (P : Moment → Type 0) : Type 0 where
  pub start : Moment
  pub loaded : HasLoaded p files before text start
  pub goes_on : P start

-- a refusal of what a shelf holds, and not of the shelf
abbrev pub IsOwn : LoadFault → Type 0
IsOwn (load.Store fault) = ⊥
IsOwn (load.KindClash held offered) = Unit {0}
IsOwn (load.HistoryFull len need) = Unit {0}

-- loading a shelf into a new relay of a script is refused with this
pub record IsUnloaded (p : Plan) (files : Option Files) (before faults : ℕ) (refused : LoadFault) : Type 0 where
  pub halfway : World
  pub answer : ShelfAnswers files (world_told (told_new p)) halfway before faults (Err refused)

-- the shelf has two kinds, or more blocks than a history may: that was told, and no event happened
pub record WasNotRun (p : Plan) (files now : Option Files) (before faults : ℕ) (text after : List ℕ) (relay : Told) : Type 0 where
  pub refused : LoadFault
  pub own : IsOwn refused
  pub unloaded : IsUnloaded p files before faults refused
  pub relay_is : relay ≡ told_new p
  pub files_are : now ≡ files
  pub told : after ≡ text ++ load_fault_line refused

-- no event happened, for want of memory
pub record DidNotBegin (files now : Option Files) (text after : List ℕ) (fault : StoreFault) : Type 0 where
  pub mem : fault ≡ store.Mem
  pub files_are : now ≡ files
  pub same : after ≡ text

-- a refusal of what a shelf holds was told, and a new relay was made
pub record IsTold (p : Plan) (refused : LoadFault) (text after : List ℕ) (relay : Told) : Type 0 where
  pub own : IsOwn refused
  pub relay_is : relay ≡ told_new p
  pub told : after ≡ text ++ load_fault_line refused

-- it was not: there was no memory for that, or the shelf itself was refused
pub record IsGivenUp (refused : LoadFault) (text after : List ℕ) (fault : StoreFault) : Type 0 where
  pub why : (fault ≡ store.Mem) ⊎ (refused ≡ load.Store fault)
  pub line : List ℕ
  pub told : after ≡ text ++ line

-- a script was replayed, and gave this relay
abbrev pub IsReplayed : Plan → Option Files → Option Files → ℕ → ℕ → List ℕ → List ℕ → Told → Type 0
IsReplayed p files now before faults text after relay =
    LoadedThen p files before text (λ start. RunsTo p.events start now faults after relay) ⊎ WasNotRun p files now before faults text after relay

-- a replay was stopped by this fault before its first event: for want of memory, or by the shelf
pub record IsStoppedEarly (p : Plan) (files now : Option Files) (before faults : ℕ) (text after : List ℕ) (fault : StoreFault) : Type 0 where
  pub why : (fault ≡ store.Mem) ⊎ IsUnloaded p files before faults (load.Store fault)
  pub files_are : now ≡ files
  pub line : List ℕ
  pub told : after ≡ text ++ line

-- a replay was stopped by this fault
abbrev pub IsStopped : Plan → Option Files → Option Files → ℕ → ℕ → List ℕ → List ℕ → StoreFault → Type 0
IsStopped p files now before faults text after fault =
    IsStoppedEarly p files now before faults text after fault ⊎ LoadedThen p files before text (λ start. StopsWithin p.events start now faults after fault)
