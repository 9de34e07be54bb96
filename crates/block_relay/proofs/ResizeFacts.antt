-- A relay's entries with another size of a bundle.
use Rattle.std.proofs.Common.{◌≡◌, ◌∷◌, ℕ, Bool, List, [], Option, Some, None, refl, sym, ◌∙◌, ap, subst}
use Rattle.block_record.specs.declared.blocks.Kind.{Kind as NodeKind}
use Rattle.block_record.specs.declared.blocks.Slip.{Slip}
use Rattle.relay_model.specs.Chronicles.{Admitted, Closed, Entry, Kind, Opened, Stored, Waited, closed_of, first_of, history_of, kind_of, limits_of, run_of, size_of, stored_of, waited_of, world_of}
use Rattle.relay_model.specs.Worlds.{Limits, World}
use Rattle.block_relay.specs.declared.marks.Mark.{Mark}
use Rattle.block_relay.specs.declared.marks.Mark.TheVariants as mark
use Rattle.relay_model.specs.declared.answers.Conflict.{Conflict as Clash}
use Rattle.relay_model.proofs.public.Sound.{same_sound}
use Rattle.block_intake.specs.Intakes.{TakenIn}
use Rattle.block_relay.specs.Chronicle.{IsKept, entries_by, resized, world_told}
use Rattle.block_relay.proofs.KeptFacts.{told}

-- the entries of marks differ in the opening alone
pub resized_by : (f r : ℕ) (l : Limits) (m n : ℕ) (k : Option NodeKind) (ms : List Mark) (h ws : List Slip) → resized n (entries_by (Opened f r l m) k ms h ws) ≡ entries_by (Opened f r l n) k ms h ws
resized_by f r l m n k [] h ws = refl
resized_by f r l m n None (mark.Kind ∷ ms) h ws = resized_by f r l m n None ms h ws
resized_by f r l m n (Some k) (mark.Kind ∷ ms) h ws = ap (λ es. Kind k ∷ es) (resized_by f r l m n (Some k) ms h ws)
resized_by f r l m n k (mark.Admitted ∷ ms) [] ws = resized_by f r l m n k ms [] ws
resized_by f r l m n k (mark.Admitted ∷ ms) (s ∷ h) ws = ap (λ es. Admitted s ∷ es) (resized_by f r l m n k ms h ws)
resized_by f r l m n k (mark.Waited ∷ ms) h [] = resized_by f r l m n k ms h []
resized_by f r l m n k (mark.Waited ∷ ms) h (s ∷ ws) = ap (λ es. Waited s ∷ es) (resized_by f r l m n k ms h ws)
resized_by f r l m n k (mark.Stored at ∷ ms) h ws = ap (λ es. Stored at ∷ es) (resized_by f r l m n k ms h ws)
resized_by f r l m n k (mark.Closed ∷ ms) h ws = ap (λ es. Closed ∷ es) (resized_by f r l m n k ms h ws)

pub size_by : (f r : ℕ) (l : Limits) (n : ℕ) (k : Option NodeKind) (ms : List Mark) (h ws : List Slip) → size_of (entries_by (Opened f r l n) k ms h ws) ≡ n
size_by f r l n k [] h ws = refl
size_by f r l n None (mark.Kind ∷ ms) h ws = size_by f r l n None ms h ws
size_by f r l n (Some k) (mark.Kind ∷ ms) h ws = size_by f r l n (Some k) ms h ws
size_by f r l n k (mark.Admitted ∷ ms) [] ws = size_by f r l n k ms [] ws
size_by f r l n k (mark.Admitted ∷ ms) (s ∷ h) ws = size_by f r l n k ms h ws
size_by f r l n k (mark.Waited ∷ ms) h [] = size_by f r l n k ms h []
size_by f r l n k (mark.Waited ∷ ms) h (s ∷ ws) = size_by f r l n k ms h ws
size_by f r l n k (mark.Stored at ∷ ms) h ws = size_by f r l n k ms h ws
size_by f r l n k (mark.Closed ∷ ms) h ws = size_by f r l n k ms h ws

first_same : (n : ℕ) (es : List Entry) → first_of (resized n es) ≡ first_of es
first_same n [] = refl
first_same n (Opened f r l m ∷ es) = refl
first_same n (Kind k ∷ es) = first_same n es
first_same n (Admitted s ∷ es) = first_same n es
first_same n (Waited s ∷ es) = first_same n es
first_same n (Stored at ∷ es) = first_same n es
first_same n (Closed ∷ es) = first_same n es

run_same : (n : ℕ) (es : List Entry) → run_of (resized n es) ≡ run_of es
run_same n [] = refl
run_same n (Opened f r l m ∷ es) = refl
run_same n (Kind k ∷ es) = run_same n es
run_same n (Admitted s ∷ es) = run_same n es
run_same n (Waited s ∷ es) = run_same n es
run_same n (Stored at ∷ es) = run_same n es
run_same n (Closed ∷ es) = run_same n es

limits_same : (n : ℕ) (es : List Entry) → limits_of (resized n es) ≡ limits_of es
limits_same n [] = refl
limits_same n (Opened f r l m ∷ es) = refl
limits_same n (Kind k ∷ es) = limits_same n es
limits_same n (Admitted s ∷ es) = limits_same n es
limits_same n (Waited s ∷ es) = limits_same n es
limits_same n (Stored at ∷ es) = limits_same n es
limits_same n (Closed ∷ es) = limits_same n es

kind_same : (n : ℕ) (es : List Entry) → kind_of (resized n es) ≡ kind_of es
kind_same n [] = refl
kind_same n (Opened f r l m ∷ es) = kind_same n es
kind_same n (Kind k ∷ es) = refl
kind_same n (Admitted s ∷ es) = kind_same n es
kind_same n (Waited s ∷ es) = kind_same n es
kind_same n (Stored at ∷ es) = kind_same n es
kind_same n (Closed ∷ es) = kind_same n es

history_same : (n : ℕ) (es : List Entry) → history_of (resized n es) ≡ history_of es
history_same n [] = refl
history_same n (Opened f r l m ∷ es) = history_same n es
history_same n (Kind k ∷ es) = history_same n es
history_same n (Admitted s ∷ es) = ap (λ l. s ∷ l) (history_same n es)
history_same n (Waited s ∷ es) = history_same n es
history_same n (Stored at ∷ es) = history_same n es
history_same n (Closed ∷ es) = history_same n es

waited_same : (n : ℕ) (es : List Entry) → waited_of (resized n es) ≡ waited_of es
waited_same n [] = refl
waited_same n (Opened f r l m ∷ es) = waited_same n es
waited_same n (Kind k ∷ es) = waited_same n es
waited_same n (Admitted s ∷ es) = waited_same n es
waited_same n (Waited s ∷ es) = ap (λ l. s ∷ l) (waited_same n es)
waited_same n (Stored at ∷ es) = waited_same n es
waited_same n (Closed ∷ es) = waited_same n es

stored_same : (n : ℕ) (es : List Entry) → stored_of (resized n es) ≡ stored_of es
stored_same n [] = refl
stored_same n (Opened f r l m ∷ es) = stored_same n es
stored_same n (Kind k ∷ es) = stored_same n es
stored_same n (Admitted s ∷ es) = stored_same n es
stored_same n (Waited s ∷ es) = stored_same n es
stored_same n (Stored at ∷ es) = ap (λ l. at ∷ l) (stored_same n es)
stored_same n (Closed ∷ es) = stored_same n es

closed_same : (n : ℕ) (es : List Entry) → closed_of (resized n es) ≡ closed_of es
closed_same n [] = refl
closed_same n (Opened f r l m ∷ es) = closed_same n es
closed_same n (Kind k ∷ es) = closed_same n es
closed_same n (Admitted s ∷ es) = closed_same n es
closed_same n (Waited s ∷ es) = closed_same n es
closed_same n (Stored at ∷ es) = closed_same n es
closed_same n (Closed ∷ es) = refl

-- and so do their worlds in the size alone
pub resized_world : (n : ℕ) (es : List Entry) → world_of (resized n es) ≡ record (world_of es) { size = size_of (resized n es) }
resized_world n es = rw (first_same n es, run_same n es, limits_same n es, kind_same n es, history_same n es, waited_same n es, stored_same n es, closed_same n es) refl

-- what a relay tells with another size, in place of its own
pub resized_told : (f r : ℕ) (l : Limits) (m n : ℕ) (k : Option NodeKind) (ms : List Mark) (h ws : List Slip) (cs : List Clash)
    → world_told (told (entries_by (Opened f r l n) k ms h ws) cs) ≡ record (world_told (told (entries_by (Opened f r l m) k ms h ws) cs)) { size = n }
resized_told f r l m n k ms h ws cs =
    let es = entries_by (Opened f r l m) k ms h ws in
    let is = resized_by f r l m n k ms h ws in
    ap (λ (x : List Entry). world_told (told x cs)) (sym is)
    ∙ ap (λ (w : World). record w { conflicts = cs }) (resized_world n es)
    ∙ ap (λ s. record (world_told (told es cs)) { size = s }) (ap size_of is ∙ size_by f r l n k ms h ws)

-- and it keeps all else
pub resizes : (w v : World) (t : TakenIn) (kept : Option NodeKind) (shut : Bool) (run m n : ℕ) → v ≡ record w { size = n } → IsKept w t kept shut run m → IsKept v t kept shut run n
resizes w v t kept shut run m n e k = subst (λ (x : World). IsKept x t kept shut run n) (sym e) (record {
  alike = record { first = k.alike.first; limits = k.alike.limits; history = k.alike.history; waiting = k.alike.waiting };
  kind = k.kind;
  closed = k.closed;
  run_is = k.run_is;
  size_is = refl;
  sound = same_sound w (record w { size = n }) refl refl (λ none. none) refl k.sound;
})
