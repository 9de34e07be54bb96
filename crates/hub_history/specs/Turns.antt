-- The rule of the turns, over the two words, the slot and the views of all passes. A pass is a seat at the table.
-- Word 0 is the ticket that is served, and word 1 the number of tickets drawn. The slot has the value.
--
-- Kinds of step on them:
--   draw: compare and exchange of word 1 from t to t + 1; the ticket is t, or all tickets are found to be drawn. The
--     pass counts it
--   load: of word 0; where it is the pass's ticket, the pass is in turn, and finds the list of the value
--   take: the value leaves the slot, in the same step as that load; the last turn, which closes, leaves it there
--   give back: the value returns to the slot, in the same step as the raise
--   raise: one is added to word 0; the pass has no ticket, and has seen the list of the value
--   split, join: a new pass that knows as much, drew no ticket and does not lead; one pass with the longer list of two
--     and the tickets of both
--   learn: a pass learns that the two lists which it joined begin the one that it has
--
-- What holds between any two of them:
--   1. no more tickets are served than drawn, and at most 2 ^ 62 are drawn (`order`, `limit`)
--   2. each ticket from the served one on that was drawn is out with one pass, and no other tickets are out (`held`, `stands`)
--   3. at most the pass with the served ticket is in turn (`stands`)
--   4. where no pass has the value, it lies in the slot, and each list seen begins its list (`place`, `seen`)
--   5. where a pass has the value, each list seen begins the list that this pass found (`place`, `stands`, `seen`)
--   6. at most one pass leads, and of that list it has seen all marked entries (`leads`, `one_led`)
--   7. a pass in turn that does not lead puts a value back with no more marked entries than it found: a step that
--      gives back and raises at once owes it, and no state lies between
--   8. the tickets drawn are those that all passes drew, also those that were dropped (`counted`), and a pass that
--      is sole is the only one that was made (`alone`)
use Rattle.std.specs.Prelude.{◌≡◌, ◌⊎◌, ℕ, ◌+◌, ◌^◌, ◌<◌, ◌≤◌, Bool, true, false, ◌||◌, ◌&&◌, List, [], ◌∷◌, length, Option, Some}
use mathlib.Core.Option.{some, none}
use mathlib.Core.Option as maybe
use mathlib.Core.List.{IsPrefix}
use lib.ListN.{get_elem?}
use Rattle.atomic_table.specs.Table.{State, Me}
use Rattle.hub_history.specs.Chronicles.{Covers, longer_of}
use Rattle.hub_history.specs.declared.view.View.{View}
use Rattle.hub_history.specs.declared.view.Stage.{Stage}
use Rattle.hub_history.specs.declared.view.Stage.TheVariants.{Idle, Waits, Runs, Ends}

module _ {E : Type 0} (now : List E) (serving tickets : ℕ) (owner : ℕ → ℕ) (seat : ℕ) where
  -- a seat at this stage has a ticket of its own from the served one on, and is in turn only with the served one
  abbrev pub FitsStage : Stage E → Type 0
  FitsStage Idle = Unit {0}
  FitsStage (Waits t) = (serving ≤ t) × (t < tickets) × (owner t ≡ seat)
  FitsStage (Runs found) = (serving < tickets) × (owner serving ≡ seat) × (found ≡ now)
  FitsStage (Ends found) = (serving < tickets) × (owner serving ≡ seat) × (found ≡ now)

module _ {E : Type 0} where
  -- a seat at this stage has the ticket t
  abbrev pub HasTicket : ℕ → ℕ → Stage E → Type 0
  HasTicket serving t Idle = ⊥
  HasTicket serving t (Waits u) = u ≡ t
  HasTicket serving t (Runs found) = t ≡ serving
  HasTicket serving t (Ends found) = t ≡ serving

  -- each ticket from the served one on that was drawn is out with its owner
  abbrev pub AreOut : ℕ → ℕ → (ℕ → ℕ) → List (View E) → Type 0
  AreOut serving tickets owner views = (t : ℕ) → serving ≤ t → t < tickets → (v : View E) × (get_elem? views (owner t) ≡ some v) × HasTicket serving t v.stage

module _ {E : Type 0} where
  -- how many tickets the seats drew
  abbrev pub drawn_by : List (View E) → ℕ
  drawn_by [] = 0
  drawn_by (v ∷ vs) = v.drawn + drawn_by vs

  -- a seat that is sole is the only one
  abbrev pub AreSole : List (View E) → Type 0
  AreSole views = (j : ℕ) (v : View E) → get_elem? views j ≡ some v → v.sole ≡ true → length views ≡ 1

-- what is so of one seat and its view
pub record FitsSeat {E : Type 0} (marked : E → Bool) (now : List E) (serving tickets : ℕ) (owner : ℕ → ℕ) (leader seat : ℕ) (v : View E) : Type 0 where
  pub stands : FitsStage now serving tickets owner seat v.stage
  pub seen : IsPrefix v.seen now
  pub first_old : IsPrefix v.first_old now
  pub second_old : IsPrefix v.second_old now
  pub longest : (length v.first_old ≤ length v.seen) × (length v.second_old ≤ length v.seen)
  pub leads : v.leads ≡ true → (seat ≡ leader) × Covers marked v.seen now
  pub one_led : v.both_led ≡ false
  pub over : v.over ≡ true → tickets ≡ 2 ^ 62

module _ {T E : Type 0} where
  -- the value lies in the slot
  abbrev pub IsHome : (T → List E) → List E → List (maybe.Option (Option T)) → Type 0
  IsHome list now homes = (x : T) × (homes ≡ some (Some x) ∷ []) × (list x ≡ now)

  -- a seat in turn has the value, whose list it found
  abbrev pub IsOut : List E → List (maybe.Option (Option T)) → List (View E) → Type 0
  IsOut now homes views = (j : ℕ) × (v : View E) × (homes ≡ none ∷ []) × (get_elem? views j ≡ some v) × (v.stage ≡ Runs now)

-- The rule. `now` is the list of the value, or, while a seat has the value, the list that it found
pub record KeepsTurns {T E : Type 0} (list : T → List E) (marked : E → Bool) (s : State (Option T) (View E)) : Type 0 where
  pub serving : ℕ
  pub tickets : ℕ
  pub now : List E
  pub owner : ℕ → ℕ
  pub leader : ℕ
  pub words_are : s.words ≡ serving ∷ tickets ∷ []
  pub order : serving ≤ tickets
  pub limit : tickets ≤ 2 ^ 62
  pub counted : tickets ≡ drawn_by s.views
  pub alone : AreSole s.views
  pub place : IsHome list now s.homes ⊎ IsOut now s.homes s.views
  pub held : AreOut serving tickets owner s.views
  pub each_seat : (j : ℕ) (v : View E) → get_elem? s.views j ≡ some v → FitsSeat marked now serving tickets owner leader j v

module _ {E : Type 0} where
  -- the view at another stage
  abbrev pub with_stage : Stage E → View E → View E
  with_stage st v = record v { stage = st }

  -- the view of a seat that drew this ticket
  abbrev pub with_ticket : ℕ → View E → View E
  with_ticket t v = record v { stage = Waits t; drawn = v.drawn + 1 }

  -- the view of a seat that knows that all tickets were drawn
  abbrev pub with_over : View E → View E
  with_over v = record v { over = true }

  -- the view of a seat that gave the value back, of which this is the list
  abbrev pub given_view : List E → View E → View E
  given_view seen v = record v { stage = Idle; seen = seen; first_old = []; second_old = []; both_led = false }

  -- the view of a seat with no ticket that has seen this list, and drew none
  abbrev pub idle_view : List E → Bool → Bool → Bool → View E
  idle_view seen leads over sole = record { stage = Idle; seen = seen; first_old = []; second_old = []; leads = leads; both_led = false; over = over; drawn = 0; sole = sole }

  -- the first seat's view: it has seen the whole list, leads, and is the only one
  abbrev pub opening_view : List E → View E
  opening_view seen = idle_view seen true false true

  -- the view of a seat that is split off
  abbrev pub new_view : View E → View E
  new_view v = idle_view v.seen false v.over false

  -- the view of the seat that it was split off from
  abbrev pub shared_view : View E → View E
  shared_view v = record v { sole = false }

  -- the view of a seat that takes another in
  abbrev pub joined_view : View E → View E → View E
  joined_view v w = record { stage = v.stage; seen = longer_of v.seen w.seen; first_old = v.seen; second_old = w.seen; leads = v.leads || w.leads; both_led = v.leads && w.leads; over = v.over || w.over; drawn = v.drawn + w.drawn; sole = false }

  -- the view of a seat that was taken in
  abbrev pub spent_view : View E
  spent_view = idle_view [] false false false

-- a seat's view, and the slots that it has taken
abbrev pub SeatState : Type 0 → Type 0 → Type 0
SeatState T E = Me (Option T) (View E)
