-- What bringing blocks of a reader is answered, and what stands then.
use Rattle.std.specs.Prelude.{ℕ, ◌≡◌, ◌⊎◌, ◌≤◌, Bool, true, false, not, if◌then◌else◌, List, [], ◌∷◌, ◌++◌, Option, Some, Result, Ok, Err}
use Rattle.std.specs.declared.alloc.AllocError.{AllocError}
use Rattle.std.specs.Option.{is_some, option_map_or}
use Rattle.block_record.specs.declared.blocks.Block.{Block}
use Rattle.block_record.specs.declared.blocks.Kind.{Kind}
use Rattle.block_record.specs.declared.blocks.Slip.{Slip}
use Rattle.block_record.specs.Slips.{slip}
use Rattle.block_reader.specs.declared.faults.TakeFault.TheVariants.{Store}
use Rattle.block_reader.specs.declared.own.OwnFile.{OwnFile}
use Rattle.block_reader.specs.Changes.{Shelved, shelved}
use Rattle.block_reader.specs.Takes.{IsRefused}
use Rattle.block_relay.specs.Chronicle.{Told}
use Rattle.fire_lines.specs.declared.faults.LineFault.{LineFault}
use Rattle.one_block.specs.declared.faults.StoreFault.{StoreFault}
use Rattle.one_block.specs.declared.faults.StoreFault.TheVariants as store
use Rattle.one_block.specs.Puts.{IsClash}
use Rattle.outer_world.specs.Files.{Files}
use Rattle.replay_text.specs.Lines.{bad_line, taken_lines}
use Rattle.node_feed.specs.Feeding.{Brought, told_after, is_refused, slip_lines, feed_slips, told_greeted, greets, clash_line, feed_kind, with_bad_line}

-- what a reader works on: what is told of the relay, the files and the own ones, the shelf's count of faults, and the text
pub record Outside : Type 0 where
  pub told : Told
  pub files : Shelved
  pub faults : ℕ
  pub text : List ℕ

abbrev pub outside : Told → Option Files → List OwnFile → ℕ → List ℕ → Outside
outside t files own faults text = record { told = t; files = shelved files own; faults = faults; text = text }

-- this was brought, and told, and whether the reader is over
pub record IsBrought (b : Brought) (old new : Outside) (over : Bool) : Type 0 where
  pub told : new.told ≡ b.told
  pub text : new.text ≡ old.text ++ b.lines
  pub over_is : over ≡ b.over

-- a fault that is a refusal of the shelf itself, or want of memory
abbrev pub IsNoClash : StoreFault → Type 0
IsNoClash store.ShelfFault = Unit {0}
IsNoClash (store.ShelfBad name at) = Unit {0}
IsNoClash (store.Missing name) = ⊥
IsNoClash (store.StoredOther kept read) = ⊥
IsNoClash (store.NameClash held other) = ⊥
IsNoClash store.Mem = Unit {0}

-- a block of this slip was offered, and its lines stand
pub record IsSlipFed (name : List ℕ) (s : Slip) (old new : Outside) (over : Bool) : Type 0 where
  pub told : new.told ≡ told_after old.told s
  pub text : new.text ≡ old.text ++ slip_lines name old.told s
  pub over_is : over ≡ is_refused old.told s

-- it was not offered: the shelf holds another block under its file's name, and the line of that stands
pub record IsSlipClash (name : List ℕ) (s : Slip) (old new : Outside) : Type 0 where
  pub told : new.told ≡ old.told
  pub held : Slip
  pub other : Slip
  pub clash : IsClash s name new.files.files new.files.files held other
  pub text : new.text ≡ old.text ++ taken_lines name s.num s.id (Err (Store (store.NameClash held other)))

-- the store refused it, and no line of it stands
pub record IsSlipRefused (name : List ℕ) (k : Kind) (s : Slip) (old new : Outside) (fault : StoreFault) : Type 0 where
  pub block : Block
  pub slip_is : slip block ≡ s
  pub refused : IsRefused old.told new.told k block name old.files new.files old.faults new.faults fault
  pub text : new.text ≡ old.text

-- there was no memory: it was offered or not, and no line of it stands
pub record IsSlipShort (s : Slip) (old new : Outside) (fault : StoreFault) : Type 0 where
  pub mem : fault ≡ store.Mem
  pub told : (new.told ≡ old.told) ⊎ (new.told ≡ told_after old.told s)
  pub text : new.text ≡ old.text

-- a block of this slip stopped all
pub record IsSlipStopped (name : List ℕ) (k : Kind) (s : Slip) (old new : Outside) (fault : StoreFault) : Type 0 where
  pub no_clash : IsNoClash fault
  pub why : IsSlipRefused name k s old new fault ⊎ IsSlipShort s old new fault

-- what is answered to a block of this slip
abbrev pub SlipAnswers : List ℕ → Kind → Slip → Outside → Outside → Result Bool StoreFault → Type 0
SlipAnswers name k s old new (Ok over) = IsSlipFed name s old new over ⊎ (IsSlipClash name s old new × (over ≡ true))
SlipAnswers name k s old new (Err fault) = IsSlipStopped name k s old new fault

-- these were brought, and none was refused
pub record IsFedUpTo (name : List ℕ) (done : List Slip) (old new : Outside) : Type 0 where
  pub fed : IsBrought (feed_slips name old.told done) old new false
  pub later : old.faults ≤ new.faults

-- one of them had a file whose name is another block's, after the ones before it were brought
pub record IsClashAmong (name : List ℕ) (slips : List Slip) (old new : Outside) : Type 0 where
  pub done : List Slip
  pub next : Slip
  pub left : List Slip
  pub all : slips ≡ done ++ next ∷ left
  pub between : Outside
  pub before : IsFedUpTo name done old between
  pub clash : IsSlipClash name next between new

-- one of them stopped all, after the ones before it were brought
pub record IsStoppedAmong (name : List ℕ) (k : Kind) (slips : List Slip) (old new : Outside) (fault : StoreFault) : Type 0 where
  pub done : List Slip
  pub next : Slip
  pub left : List Slip
  pub all : slips ≡ done ++ next ∷ left
  pub between : Outside
  pub before : IsFedUpTo name done old between
  pub stopped : IsSlipStopped name k next between new fault

-- what is answered to blocks of these slips
abbrev pub SlipsAnswer : List ℕ → Kind → List Slip → Outside → Outside → Result Bool StoreFault → Type 0
SlipsAnswer name k slips old new (Ok over) = IsBrought (feed_slips name old.told slips) old new over ⊎ (IsClashAmong name slips old new × (over ≡ true))
SlipsAnswer name k slips old new (Err fault) = IsStoppedAmong name k slips old new fault

-- nothing changed, for want of memory
pub record IsShort (old new : Outside) (fault : StoreFault) : Type 0 where
  pub mem : fault ≡ store.Mem
  pub same : new ≡ old

-- a kind was told, or its line stands where it may not be
pub record IsGreeted (name : List ℕ) (k : Kind) (was is : Told) (before after : List ℕ) (over : Bool) : Type 0 where
  pub may : greets k was ≡ not over
  pub told : is ≡ (if over then was else told_greeted k was)
  pub text : after ≡ (if over then before ++ clash_line name k was else before)

-- there was no memory to tell it, or for its line
pub record IsUngreeted (was is : Told) (before after : List ℕ) (fault : StoreFault) : Type 0 where
  pub mem : fault ≡ store.Mem
  pub told : is ≡ was
  pub text : after ≡ before

-- what is answered to nodes of a kind
abbrev pub GreetAnswers : List ℕ → Kind → Told → Told → List ℕ → List ℕ → Result Bool StoreFault → Type 0
GreetAnswers name k was is before after (Ok over) = IsGreeted name k was is before after over
GreetAnswers name k was is before after (Err fault) = IsUngreeted was is before after fault

-- the relay after it was told a kind, with all else as it was
abbrev pub when_greeted : Kind → Outside → Outside
when_greeted k o = record o { told = told_greeted k o.told }

-- a block clashed after its kind was told
pub record IsClashOf (name : List ℕ) (kind : Option Kind) (slips : List Slip) (old new : Outside) : Type 0 where
  pub k : Kind
  pub known : kind ≡ Some k
  pub may : greets k old.told ≡ true
  pub among : IsClashAmong name slips (when_greeted k old) new

-- a block stopped all after its kind was told
pub record IsStoppedOf (name : List ℕ) (kind : Option Kind) (slips : List Slip) (old new : Outside) (fault : StoreFault) : Type 0 where
  pub k : Kind
  pub known : kind ≡ Some k
  pub may : greets k old.told ≡ true
  pub among : IsStoppedAmong name k slips (when_greeted k old) new fault

-- what is answered to blocks of these slips in a run, whose kind is told first
abbrev pub KindAnswers : List ℕ → Option Kind → List Slip → Outside → Outside → Result Bool StoreFault → Type 0
KindAnswers name kind slips old new (Ok over) = IsBrought (feed_kind name old.told kind slips) old new over ⊎ (IsClashOf name kind slips old new × (over ≡ true))
KindAnswers name kind slips old new (Err fault) = IsShort old new fault ⊎ IsStoppedOf name kind slips old new fault

-- all blocks were brought, none was refused, and there was no memory for the line of the bad line
pub record IsShortAfter (b : Brought) (old new : Outside) (fault : StoreFault) : Type 0 where
  pub mem : fault ≡ store.Mem
  pub fed : IsBrought b old new false

-- why an event was stopped: for want of memory before or after its blocks, or by one of them
abbrev pub IsStopped : List ℕ → Option Kind → List Slip → Outside → Outside → StoreFault → Type 0
IsStopped name kind slips old new fault = IsShort old new fault ⊎ IsStoppedOf name kind slips old new fault ⊎ IsShortAfter (feed_kind name old.told kind slips) old new fault

-- a bad line, where there is one, was told
pub record IsBadTold (name : List ℕ) (bad : Option LineFault) (before after : List ℕ) (over : Bool) : Type 0 where
  pub over_is : over ≡ is_some bad
  pub text : after ≡ before ++ option_map_or (bad_line name) bad []

-- what is answered to a bad line
abbrev pub BadLineAnswers : List ℕ → Option LineFault → List ℕ → List ℕ → Result Bool AllocError → Type 0
BadLineAnswers name bad before after (Ok over) = IsBadTold name bad before after over
BadLineAnswers name bad before after (Err e) = after ≡ before

-- what is answered to what was read: blocks of these slips, and then a bad line, where there is one
abbrev pub ReadAnswers : List ℕ → Option Kind → List Slip → Option LineFault → Outside → Outside → Result Bool StoreFault → Type 0
ReadAnswers name kind slips bad old new (Ok over) = IsBrought (with_bad_line name bad (feed_kind name old.told kind slips)) old new over ⊎ (IsClashOf name kind slips old new × (over ≡ true))
ReadAnswers name kind slips bad old new (Err fault) = IsStopped name kind slips old new fault
