-- How a session ends.
use Rattle.std.proofs.Common.{◌≡◌, ◌⊎◌, inl, inr, ℕ, Bool, true, false, not, cond, ◌||◌, ◌&&◌, List, [], ◌∷◌, length, map, Option, Some, None, refl, sym, ◌∙◌, ap, subst}
use Rattle.block_record.specs.declared.blocks.Slip.{Slip}
use Rattle.chain_model.specs.declared.places.Place.{Place}
use Rattle.chain_model.specs.Steps.{BlockStep, steps_of}
use Rattle.chain_model.specs.Places.{opening}
use Rattle.step_cursor.specs.declared.cursor.Cursor.{Cursor}
use Rattle.step_cursor.specs.declared.cursor.Request.{Request}
use Rattle.step_cursor.specs.declared.cursor.MisfitField.{MisfitField}
use Rattle.relay_model.specs.Worlds.{World}
use Rattle.relay_model.specs.Looks.{Position, Start, At, Look, Batch, NotYet, Done, Closing, Unknown, Misfit, StopBelow, look_from, look_idle, look_open, look_known, look_fitted, look_start, look_cursor, is_none, is_final_by, is_ahead, unknown, misfit, stops_below, end_num}
use Rattle.session_model.specs.Told.{Told, told}
use Rattle.session_model.specs.Progress.{Stage, Waits, Progress}
use Rattle.session_model.specs.Standing.{StandsAt}
use Rattle.session_laws.specs.Laws.{IsStill, EndsRight, LooksEndRight}

no_steps : (xs : List BlockStep) → is_none xs ≡ true → xs ≡ []
no_steps [] e = refl
no_steps (x ∷ xs) e = absurd (cc)

-- an answer that neither waits nor sends says that the session is done, that it is closing, or neither
abbrev is_done : Look → Bool
is_done (Batch n place) = false
is_done (NotYet n) = false
is_done (Done n) = true
is_done (Closing n) = false
is_done (Unknown id) = false
is_done (Misfit f) = false
is_done (StopBelow n) = false

abbrev is_closing : Look → Bool
is_closing (Batch n place) = false
is_closing (NotYet n) = false
is_closing (Done n) = false
is_closing (Closing n) = true
is_closing (Unknown id) = false
is_closing (Misfit f) = false
is_closing (StopBelow n) = false

never : (P : Type 0) → false ≡ true → P
never P e = cc

-- what is said where nothing can be sent
idle_done : (w : World) → is_done (look_idle w) ≡ true → ⊥
idle_done w = go w.closed
  where
    go : (b : Bool) → is_done (cond b (Closing (length w.history)) (NotYet (length w.history))) ≡ true → ⊥
    go true e = cc
    go false e = cc

idle_closing : (w : World) → is_closing (look_idle w) ≡ true → w.closed ≡ true
idle_closing w = go w.closed refl
  where
    go : (b : Bool) → w.closed ≡ b → is_closing (cond b (Closing (length w.history)) (NotYet (length w.history))) ≡ true → w.closed ≡ true
    go true k e = k
    go false k e = never (w.closed ≡ true) e

-- from a place where an earlier batch ended
record SaysDone (w : World) (r : Request) (place : Place) : Type 0 where
  still : steps_of w.history place r.mode r.stop ≡ []
  final : is_final_by w.history r.stop ≡ true

record SaysClosing (w : World) (r : Request) (place : Place) : Type 0 where
  still : steps_of w.history place r.mode r.stop ≡ []
  closed : w.closed ≡ true

later_done : (w : World) (r : Request) (place : Place) → is_done (look_from false w r place) ≡ true → SaysDone w r place
later_done w r place = go (stops_below r.stop place.end)
  where
    xs : List BlockStep
    xs = steps_of w.history place r.mode r.stop

    third : is_none xs ≡ true → (b : Bool) → is_final_by w.history r.stop ≡ b → is_done (cond b (Done (length w.history)) (look_idle w)) ≡ true → SaysDone w r place
    third s true k e = record { still = no_steps xs s; final = k }
    third s false k e = absurd (idle_done w e)

    second : (b : Bool) → is_none xs ≡ b → is_done (cond (not b) (Batch (length w.history) place) (cond (is_final_by w.history r.stop) (Done (length w.history)) (look_idle w))) ≡ true → SaysDone w r place
    second true k e = third k (is_final_by w.history r.stop) refl e
    second false k e = never (SaysDone w r place) e

    go : (b : Bool) → is_done (cond b (StopBelow (end_num place.end)) (cond (false || not (is_none xs)) (Batch (length w.history) place) (cond (is_final_by w.history r.stop) (Done (length w.history)) (look_idle w)))) ≡ true → SaysDone w r place
    go true e = never (SaysDone w r place) e
    go false e = second (is_none xs) refl e

later_closing : (w : World) (r : Request) (place : Place) → is_closing (look_from false w r place) ≡ true → SaysClosing w r place
later_closing w r place = go (stops_below r.stop place.end)
  where
    xs : List BlockStep
    xs = steps_of w.history place r.mode r.stop

    third : is_none xs ≡ true → (b : Bool) → is_closing (cond b (Done (length w.history)) (look_idle w)) ≡ true → SaysClosing w r place
    third s true e = never (SaysClosing w r place) e
    third s false e = record { still = no_steps xs s; closed = idle_closing w e }

    second : (b : Bool) → is_none xs ≡ b → is_closing (cond (not b) (Batch (length w.history) place) (cond (is_final_by w.history r.stop) (Done (length w.history)) (look_idle w))) ≡ true → SaysClosing w r place
    second true k e = third k (is_final_by w.history r.stop) e
    second false k e = never (SaysClosing w r place) e

    go : (b : Bool) → is_closing (cond b (StopBelow (end_num place.end)) (cond (false || not (is_none xs)) (Batch (length w.history) place) (cond (is_final_by w.history r.stop) (Done (length w.history)) (look_idle w)))) ≡ true → SaysClosing w r place
    go true e = never (SaysClosing w r place) e
    go false e = second (is_none xs) refl e

-- at the start a look is never done
first_plain : (w : World) (r : Request) (place : Place) → (is_done (look_from true w r place) ≡ true → ⊥) × (is_closing (look_from true w r place) ≡ true → ⊥)
first_plain w r place = go (stops_below r.stop place.end)
  where
    go : (b : Bool)
        → (is_done (cond b (StopBelow (end_num place.end)) (Batch (length w.history) place)) ≡ true → ⊥)
        × (is_closing (cond b (StopBelow (end_num place.end)) (Batch (length w.history) place)) ≡ true → ⊥)
    go true = (λ e. never ⊥ e, λ e. never ⊥ e)
    go false = (λ e. never ⊥ e, λ e. never ⊥ e)

-- and it closes only where there is no block
record StartEnds (w : World) (x : Look) : Type 0 where
  done : is_done x ≡ true → ⊥
  closing : is_closing x ≡ true → (w.history ≡ []) × (w.closed ≡ true)

plain : (w : World) (x : Look) → is_done x ≡ false → is_closing x ≡ false → StartEnds w x
plain w x d c = record {
  done = λ e. never ⊥ (sym d ∙ e);
  closing = λ e. absurd (never ⊥ (sym c ∙ e));
}

from_first : (w : World) (r : Request) (place : Place) → StartEnds w (look_from true w r place)
from_first w r place = record {
  done = (first_plain w r place).0;
  closing = λ e. absurd ((first_plain w r place).1 e);
}

open_ends : (w : World) (r : Request) (newest : List Slip) → w.history ≡ newest → StartEnds w (look_open w r newest)
open_ends w r [] is = record {
  done = idle_done w;
  closing = λ e. (is, idle_closing w e);
}
open_ends w r (s ∷ older) is = from_first w r (opening w.history r.start)

cursor_ends : (w : World) (r : Request) (c : Cursor) → StartEnds w (look_cursor w r c)
cursor_ends w r c = go (is_ahead w.run w.history c.tail && not w.closed)
  where
    fitted : (m : Option MisfitField) → StartEnds w (look_fitted w r c m)
    fitted (Some f) = plain w (Misfit f) refl refl
    fitted None = from_first w r c.place

    known : (o : Option (List ℕ)) → StartEnds w (look_known w r c o)
    known (Some id) = plain w (Unknown id) refl refl
    known None = fitted (misfit w.run w.history c)

    go : (b : Bool) → StartEnds w (cond b (NotYet (length w.history)) (look_known w r c (unknown w.history c)))
    go true = plain w (NotYet (length w.history)) refl refl
    go false = known (unknown w.history c)

start_ends : (w : World) (r : Request) (o : Option Cursor) → StartEnds w (look_start w r o)
start_ends w r None = open_ends w r w.history refl
start_ends w r (Some c) = cursor_ends w r c

ends : (w : World) (type : List ℕ) (r : Request) (run : ℕ) (lens : List ℕ) (position : Position) (lines : List Told)
    → StandsAt w.history type r run lens (Waits position) lines
    → EndsRight w type (record { request = r; run_number = run; lens = lens; stage = Waits position }) position
ends w type r run lens Start lines h =
    let s = start_ends w r r.cursor in
    record {
      done = λ n e. absurd (s.done (ap is_done e));
      closing = λ n e. let c = s.closing (ap is_closing e) in record { closed = c.1; still = inl c.0 };
    }
ends w type r run lens (At place) lines h = record {
  done = λ n e. let d = later_done w r place (ap is_done e) in
      record { still = record { some = h.some; still = subst (λ (q : Place). steps_of w.history q r.mode r.stop ≡ []) h.place_is d.still }; final = d.final };
  closing = λ n e. let c = later_closing w r place (ap is_closing e) in
      record { closed = c.closed; still = inr (record { some = h.some; still = subst (λ (q : Place). steps_of w.history q r.mode r.stop ≡ []) h.place_is c.still }) };
}

pub looks_end_right : LooksEndRight
looks_end_right w type p text position sound h waits =
    let stands : StandsAt w.history type p.request p.run_number p.lens (Waits position) (map told h.replies) =
    subst (λ (s : Stage). StandsAt w.history type p.request p.run_number p.lens s (map told h.replies)) waits h.stands in
    let at_position = ends w type p.request p.run_number p.lens position (map told h.replies) stands in
    record {
      done = λ n e. let d = at_position.done n e in record { still = record { some = d.still.some; still = d.still.still }; final = d.final };
      closing = λ n e. let c = at_position.closing n e in record { closed = c.closed; still = same w p position c.still };
    }
  where
    same : (w : World) (p : Progress) (position : Position) → (w.history ≡ []) ⊎ IsStill w.history (record p { stage = Waits position }) → (w.history ≡ []) ⊎ IsStill w.history p
    same w p position (inl e) = inl e
    same w p position (inr s) = inr (record { some = s.some; still = s.still })
