-- What callers see of a relay, and what it keeps of it.
use Rattle.std.specs.Prelude.{ℕ, ◌≡◌, ◌==◌, Bool, true, false, List, [], ◌∷◌, ◌++◌, reverse, if◌then◌else◌, Option, None, Some}
use Rattle.std.specs.List.{list_any}
use Rattle.std.specs.Str.{bytes_eq}
use Rattle.block_record.specs.declared.blocks.Slip.{Slip}
use Rattle.block_record.specs.declared.blocks.Kind.{Kind as NodeKind}
use Rattle.relay_model.specs.declared.answers.Conflict.{Conflict as Clash}
use Rattle.relay_model.specs.Worlds.{World, Limits}
use Rattle.relay_model.specs.Chronicles.{Entry, Opened, Kind, Admitted, Waited, Stored, Closed, history_of, stored_of, world_of}
use Rattle.bundle_model.specs.Plans.{Plan}
use Rattle.bundle_model.specs.Shedding.{place_in}
use Rattle.relay_model.specs.Soundness.{IsSound}
use Rattle.block_intake.specs.Intakes.{IsAlike, TakenIn, world_taken}
use Rattle.block_relay.specs.declared.limits.Limits.{Limits as PlantLimits}
use Rattle.block_relay.specs.declared.marks.Mark.{Mark}
use Rattle.block_relay.specs.declared.marks.Mark.TheVariants as mark

-- the entries of the chronicle, and all conflicts that were noted, both with what came last first
pub record Told : Type 0 where
  pub entries : List Entry
  pub conflicts : List Clash

-- the world that a relay stands for
abbrev pub world_told : Told → World
world_told t = record (world_of t.entries) { conflicts = t.conflicts }

-- the limits that rule a relay
abbrev pub limits_told : PlantLimits → Limits
limits_told l = record { history = l.history; wait_blocks = l.wait_blocks; wait_bytes = l.wait_bytes }

-- the entry of the kind, where it is kept
abbrev pub kind_entry : Option NodeKind → List Entry
kind_entry None = []
kind_entry (Some k) = Kind k ∷ []

-- its mark
abbrev pub kind_mark : Option NodeKind → List Mark
kind_mark None = []
kind_mark (Some k) = mark.Kind ∷ []

-- an entry with the newest slip that is left, and the entries before it with the others
abbrev pub with_newest : (Slip → Entry) → (List Slip → List Entry) → List Slip → List Entry
with_newest entry before [] = before []
with_newest entry before (s ∷ older) = entry s ∷ before older

-- the entries that the marks stand for, the newest first, with the kept kind, the history and the blocks that were answered `Waiting`
abbrev pub entries_by : Entry → Option NodeKind → List Mark → List Slip → List Slip → List Entry
entries_by opening k [] history waited = opening ∷ []
entries_by opening k (mark.Kind ∷ ms) history waited = kind_entry k ++ entries_by opening k ms history waited
entries_by opening k (mark.Admitted ∷ ms) history waited = with_newest Admitted (λ older. entries_by opening k ms older waited) history
entries_by opening k (mark.Waited ∷ ms) history waited = with_newest Waited (λ older. entries_by opening k ms history older) waited
entries_by opening k (mark.Stored at ∷ ms) history waited = Stored at ∷ entries_by opening k ms history waited
entries_by opening k (mark.Closed ∷ ms) history waited = Closed ∷ entries_by opening k ms history waited

-- what is told of a relay that has taken in so much, by what it keeps beside that
abbrev pub told_with : TakenIn → ℕ → Limits → ℕ → Option NodeKind → List Mark → List Slip → List Clash → Told
told_with t run limits size k marks waited conflicts = record {
  entries = entries_by (Opened t.first run limits size) k (reverse marks) t.forks.history (reverse waited);
  conflicts = reverse conflicts;
}

-- what a relay keeps beside its entries is what they stand for, and their world is sound
pub record IsKept (w : World) (taken : TakenIn) (kept : Option NodeKind) (shut : Bool) (run size : ℕ) : Type 0 where
  pub alike : IsAlike w (world_taken taken)
  pub kind : w.kind ≡ kept
  pub closed : w.closed ≡ shut
  pub run_is : w.run ≡ run
  pub size_is : w.size ≡ size
  pub sound : IsSound w

-- the entries after the relay is closed: a second time adds nothing
abbrev pub closed_entries : Bool → List Entry → List Entry
closed_entries true es = es
closed_entries false es = Closed ∷ es

-- whether a mark of the kind is among them
abbrev pub has_kind_mark : List Mark → Bool
has_kind_mark [] = false
has_kind_mark (mark.Kind ∷ ms) = true
has_kind_mark (mark.Admitted ∷ ms) = has_kind_mark ms
has_kind_mark (mark.Waited ∷ ms) = has_kind_mark ms
has_kind_mark (mark.Stored at ∷ ms) = has_kind_mark ms
has_kind_mark (mark.Closed ∷ ms) = has_kind_mark ms

-- whether nodes of a kind may feed a relay that keeps another: they have blocks of one type
abbrev pub may_greet : Option NodeKind → NodeKind → Bool
may_greet None k = true
may_greet (Some held) k = bytes_eq held.block_type k.block_type

-- the entries after nodes of a kind said so: the first kind is kept
abbrev pub greeted : Option NodeKind → NodeKind → List Entry → List Entry
greeted None k es = Kind k ∷ es
greeted (Some held) k es = es

-- the entries after the block at a place, where there is one, came to be stored
abbrev pub entry_at : List Entry → Option ℕ → List Entry
entry_at es None = es
entry_at es (Some at) = if list_any (λ n. n == at) (stored_of es) then es else Stored at ∷ es

-- the entries after blocks, one after another, came to be stored: of each that is in the history and was not stored
abbrev pub stored_entries : List Slip → List Entry → List Slip → List Entry
stored_entries newest es [] = es
stored_entries newest es (s ∷ rest) = stored_entries newest (entry_at es (place_in newest s)) rest

-- the entries after a plan was shed
abbrev pub shed_entries : List Entry → Plan → List Entry
shed_entries es plan = stored_entries (history_of es) es (plan.finals ++ plan.dead)

-- the entries with bundles of another size
abbrev pub resized : ℕ → List Entry → List Entry
resized size [] = []
resized size (Opened first run limits n ∷ es) = Opened first run limits size ∷ resized size es
resized size (e ∷ es) = e ∷ resized size es
