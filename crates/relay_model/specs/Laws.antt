-- The laws of one offer and one look, as statements.
use Rattle.std.specs.Prelude.{ℕ, ◌≡◌, ◌≤◌, false, List, [], ◌∷◌, ◌++◌, length, Option, None, Some}
use Rattle.std.specs.List.{AllByRecursion}
use mathlib.Core.List.{IsSuffix}
use Rattle.block_record.specs.declared.blocks.Slip.{Slip}
use Rattle.chain_model.specs.Steps.{ref_of}
use Rattle.chain_model.specs.Places.{PlacedStep, steps_to, PlaceFits, IsAhead, opening}
use Rattle.chain_model.specs.declared.places.Place.{Place}
use Rattle.chain_model.specs.declared.places.Mode.{Mode}
use Rattle.step_cursor.specs.declared.cursor.Cursor.{Cursor}
use Rattle.step_cursor.specs.Fitting.{CursorFits}
use Rattle.step_cursor.specs.declared.cursor.Request.{Request}
use Rattle.step_cursor.specs.declared.cursor.Tail.{Tail}
use Rattle.step_cursor.specs.declared.cursor.MisfitField.{MisfitField}
use Rattle.relay_model.specs.declared.answers.Conflict.{Conflict as Clash}
use Rattle.relay_model.specs.Worlds.{World}
use Rattle.relay_model.specs.Offers.{Answer, Closed, Duplicate, Conflict, Early, Stale, WaitFull, Waiting, HistoryFull, Admitted, offered}
use Rattle.relay_model.specs.Looks.{Start, Batch, Unknown, Misfit, looked}
use Rattle.relay_model.specs.Chronicles.{Entry, added, world_of}
use Rattle.relay_model.specs.Soundness.{IsBlock, IsSound}
use Rattle.relay_model.specs.Runs.{is_ok}

-- an offer leaves a sound world sound
abbrev pub OfferKeeps : Type 0
OfferKeeps = (w : World) (s : Slip) → IsSound w → IsBlock s → IsSound (offered w s).world

-- the history only grows
abbrev pub OfferGrows : Type 0
OfferGrows = (w : World) (s : Slip) → IsSuffix w.history (offered w s).world.history

-- the conflicts that an answer other than admission notes
abbrev pub noted : Answer → List Clash
noted (Closed len) = []
noted Duplicate = []
noted (Conflict c) = c ∷ []
noted Early = []
noted Stale = []
noted (WaitFull blocks bytes) = []
noted Waiting = []
noted (HistoryFull len need) = []
noted (Admitted from count dropped) = []

-- a refusal changes nothing but that a conflict is noted
abbrev pub RefusalKeeps : Type 0
RefusalKeeps = (w : World) (s : Slip) → is_ok (offered w s).answer ≡ false
    → (offered w s).world ≡ record w { conflicts = noted (offered w s).answer ++ w.conflicts }

-- the entries that an offer adds bring the world that it leaves; conflicts are not in a chronicle
abbrev pub OfferAdds : Type 0
OfferAdds = (es : List Entry) (s : Slip) → IsSound (world_of es) → IsBlock s
    → world_of (added (world_of es) s ++ es) ≡ record (offered (world_of es) s).world { conflicts = [] }

-- a batch at the start has the whole history and begins at a place that fits it, with the stop not below its end: without a cursor it is the opening of the start; from a cursor it is the cursor's place, and the cursor fits and saw no more of this run than there is
pub record BatchBegins (w : World) (r : Request) (len : ℕ) (place : Place) : Type 0 where
  pub whole : len ≡ length w.history
  pub fits : PlaceFits w.history place.end place.lib
  pub ahead : IsAhead r.stop place.end
  pub opens : r.cursor ≡ None → place ≡ opening w.history r.start
  pub cursor : (c : Cursor) → r.cursor ≡ Some c → (place ≡ c.place) × CursorFits c w.history
  pub seen : (c : Cursor) (t : Tail) → r.cursor ≡ Some c → c.tail ≡ Some t → t.run ≡ w.run → t.seen ≤ length w.history

-- so does each batch that answers a look at the start of a sound world
abbrev pub BatchFits : Type 0
BatchFits = (w : World) (r : Request) (len : ℕ) (place : Place) → IsSound w → looked w r Start ≡ Batch len place → BatchBegins w r len place

-- the cursor that stands in the line of a step, from a history of so many blocks in a run
abbrev pub cursor_of : ℕ → ℕ → PlacedStep → Cursor
cursor_of run_number seen x = record { step = x.step.step; block = ref_of x.step.slip; place = x.place; tail = Some (record { run = run_number; seen = seen }) }

-- a look at the start is not refused for its cursor
pub record IsTakenUp (w : World) (r : Request) : Type 0 where
  pub known : (id : List ℕ) → looked w r Start ≡ Unknown id → ⊥
  pub fits : (f : MisfitField) → looked w r Start ≡ Misfit f → ⊥

-- a cursor that this run gave, in a batch over a shorter history or over this one, is never refused
abbrev pub GivenCursors : Type 0
GivenCursors = (w : World) (older more : List Slip) (place : Place) (mode : Mode) (stop : Option ℕ) → IsSound w
    → more ++ older ≡ w.history → PlaceFits older place.end place.lib → IsAhead stop place.end
    → AllByRecursion (λ x. (r : Request) → r.cursor ≡ Some (cursor_of w.run (length older) x) → IsTakenUp w r) (steps_to older place mode stop)
