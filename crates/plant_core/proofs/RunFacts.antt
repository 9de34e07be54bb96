-- Events one after another.
use Rattle.std.proofs.Common.{◌≡◌, ◌+◌, ◌<◌, ◌≤◌, ◌++◌, ℕ, suc, List, [], ◌∷◌, Option, length, take, drop, drop-cons, get_or, refl, sym, ◌∙◌, ap, subst}
use Rattle.std.proofs.lemmas.List.{take_all, take_more, take-append-drop}
use Rattle.outer_world.specs.Files.{Files}
use Rattle.block_relay.specs.Chronicle.{Told}
use Rattle.one_block.specs.declared.faults.StoreFault.{StoreFault}
use Rattle.script_text.specs.declared.script.Event.{Event}
use Rattle.plant_core.specs.Events.{Happens, IsCutOff}
use Rattle.plant_core.specs.Moments.{Moment, PlantState, moment}
use Rattle.plant_core.specs.Runs.{IsRun, RunsTo, StopsWithin}

-- and one more
pub run_more : (events : List Event) (e : Event) (a b c : Moment) → IsRun events a b → Happens e b c → IsRun (events ++ e ∷ []) a c
run_more [] e a b c r h = (c, subst (λ (m : Moment). Happens e m c) r h, refl)
run_more (x ∷ events) e a b c r h = (r.0, r.1, run_more events e r.0 b c r.2 h)

-- the events up to the next one, and with it
cut : (events : List Event) (i : ℕ) (e : Event) → i < length events → e ≡ get_or events i e → events ≡ take i events ++ e ∷ drop (suc i) events
cut events i e within item = sym (take-append-drop i events) ∙ ap (λ (l : List Event). take i events ++ l) (drop-cons events i e within ∙ ap (λ (x : Event). x ∷ drop (suc i) events) (sym item))

one_more : (events : List Event) (i : ℕ) (e : Event) → i < length events → e ≡ get_or events i e → take (i + 1) events ≡ take i events ++ e ∷ []
one_more events i e within item = take_more events i e within ∙ ap (λ (x : Event). take i events ++ x ∷ []) (sym item)

-- the next event happened
pub goes_on : (events : List Event) (i : ℕ) (e : Event) (start mid new : Moment) → i < length events → e ≡ get_or events i e → IsRun (take i events) start mid → Happens e mid new → IsRun (take (i + 1) events) start new
goes_on events i e start mid new within item run h = subst (λ (l : List Event). IsRun l start new) (sym (one_more events i e within item)) (run_more (take i events) e start mid new run h)

-- the next event was cut off
pub stops : (events : List Event) (i : ℕ) (e : Event) (start mid : Moment) (p : PlantState) (files : Option Files) (faults : ℕ) (text : List ℕ) (f : StoreFault) → i < length events → e ≡ get_or events i e
    → IsRun (take i events) start mid → IsCutOff e mid (moment p files faults text) f → StopsWithin events start files faults text f
stops events i e start mid p files faults text f within item run h = record {
  done = take i events;
  next = e;
  left = drop (suc i) events;
  all = cut events i e within item;
  between = mid;
  run = run;
  last = p;
  cut_off = h;
}

-- all events happened
pub ends : (events : List Event) (i : ℕ) (start : Moment) (p : PlantState) (files : Option Files) (faults : ℕ) (text : List ℕ) (t : Told) → length events ≤ i → p.told ≡ t → IsRun (take i events) start (moment p files faults text) → RunsTo events start files faults text t
ends events i start p files faults text t all is run = record { last = p; relay_is = is; run = subst (λ (l : List Event). IsRun l start (moment p files faults text)) (take_all i events all) run }
