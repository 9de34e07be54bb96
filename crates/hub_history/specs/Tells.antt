-- What each kind of step tells the pass that takes it.
use Rattle.std.specs.Prelude.{◌≡◌, ◌≢◌, ℕ, ◌^◌, ◌<◌, ◌≤◌, Bool, true, false, List, [], ◌∷◌, Option, Some}
use mathlib.Core.List.{IsPrefix}
use Rattle.atomic_table.specs.Table.{Step}
use Rattle.atomic_table.specs.declared.shared.Seat.{Seat}
use Rattle.hub_history.specs.Chronicles.{Covers}
use Rattle.hub_history.specs.Turns.{SeatState, with_stage, with_ticket, with_over, given_view}
use Rattle.hub_history.specs.declared.view.View.{View}
use Rattle.hub_history.specs.declared.view.Stage.TheVariants.{Waits, Runs, Ends}

-- the same seat at the same table
abbrev pub IsSameSeat : {T E : Type 0} → Seat (Option T) (View E) → Seat (Option T) (View E) → Type 0
IsSameSeat old new = (new.table_id ≡ old.table_id) × (new.id ≡ old.id)

-- what a seat in turn finds: a list that begins with what it had seen, and where it leads, with no marked entry behind that
abbrev pub Finds : {E : Type 0} → (E → Bool) → View E → List E → Type 0
Finds marked v found = IsPrefix v.seen found × (v.leads ≡ true → Covers marked v.seen found)

module _ {T E : Type 0} where
  -- draw: the ticket was drawn, or all were, of which a sole seat drew each, or another seat came first
  abbrev pub Draws : Step (Option T) → SeatState T E → ℕ → SeatState T E → Type 0
  Draws st me word me' = (me'.1 ≡ me.1) × (word ≤ 2 ^ 62)
      × (word ≡ st.first → (me'.0 ≡ with_ticket word me.0) × (me.0.over ≡ false) × (me.0.drawn < 2 ^ 62))
      × (word ≢ st.first → (word ≡ 2 ^ 62 → (me'.0 ≡ with_over me.0) × (me.0.sole ≡ true → me.0.drawn ≡ 2 ^ 62)) × (word ≢ 2 ^ 62 → me'.0 ≡ me.0))

  -- learn: the lists that were joined begin what was seen, and not both passes led
  abbrev pub Learns : Step (Option T) → SeatState T E → ℕ → SeatState T E → Type 0
  Learns st me word me' = (me' ≡ me) × IsPrefix me.0.first_old me.0.seen × IsPrefix me.0.second_old me.0.seen × (me.0.both_led ≡ false)

module _ {T E : Type 0} (list : T → List E) (marked : E → Bool) where
  -- load and take: where its ticket is served, the seat has the value
  abbrev pub Takes : Step (Option T) → SeatState T E → ℕ → SeatState T E → Type 0
  Takes st me word me' = (t : ℕ) → me.0.stage ≡ Waits t
      → (word ≡ t → (x : T) × (me'.0 ≡ with_stage (Runs (list x)) me.0) × (me'.1 ≡ (0, Some x) ∷ me.1) × Finds marked me.0 (list x)) × (word ≢ t → me' ≡ me)

  -- load in the last turn: where its ticket is served, the value stays in the slot
  abbrev pub Arrives : Step (Option T) → SeatState T E → ℕ → SeatState T E → Type 0
  Arrives st me word me' = (t : ℕ) → me.0.stage ≡ Waits t
      → (word ≡ t → (found : List E) × (me'.0 ≡ with_stage (Ends found) me.0) × (me'.1 ≡ me.1) × Finds marked me.0 found) × (word ≢ t → me' ≡ me)

  -- give back and raise: the value is in the slot, and its list was seen
  abbrev pub Raises : Step (Option T) → SeatState T E → ℕ → SeatState T E → Type 0
  Raises st me word me' = (x : T) → me.1 ≡ (0, Some x) ∷ [] → (me'.0 ≡ given_view (list x) me.0) × (me'.1 ≡ [])
