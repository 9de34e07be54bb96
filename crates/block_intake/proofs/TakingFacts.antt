-- The waiting blocks as they are taken: what was dropped, as the history grows, and what may be taken next.
use Rattle.std.proofs.Common.{arith, ◌≡◌, ◌≤◌, ◌+◌, List, [], ◌∷◌, ◌++◌, length, Option, Some, None, refl, sym, ap, ◌∙◌, IsSome, ℕ, false, true, is_some, filter, inl, inr, subst}
use Rattle.std.specs.List.{AllByRecursion}
use Rattle.std.proofs.lemmas.List.{append_assoc, append-nil, length-append}
use Rattle.std.specs.Option.{option_map}
use Rattle.block_record.specs.declared.blocks.Block.{Block}
use Rattle.block_record.specs.declared.blocks.Slip.{Slip}
use Rattle.relay_model.specs.declared.answers.Conflict.{Conflict as Clash}
use Rattle.relay_model.specs.Worlds.{descendants, descends, next_waiting, without}
use Rattle.relay_model.specs.Offers.{Intake, clash, take_judged, take_one}
use Rattle.chain_model.specs.Ancestry.{has_id}
use Rattle.chain_model.specs.Finality.{root_num}
use Rattle.fork_db.specs.Forks.{Forks}
use Rattle.fork_db.specs.Verdicts.{verdict_of, fits}
use Rattle.wait_room.specs.Rooms.{AreKept, Room, children_in, linked_in, room_without}
use Rattle.wait_room.proofs.public.LinkedFacts.{linked_more, none_held}
use Rattle.relay_model.proofs.public.Judged.{IsTaker, judged_takes}
use Rattle.relay_model.proofs.public.Sound.{first_intake, new_parts, rises_above, starts}
use Rattle.block_intake.proofs.JudgedFacts.{fits_child}
use Rattle.relay_model.proofs.public.Intakes.{keeps_one, next_is}
use Rattle.block_intake.specs.Taking.{CanStart, CanTake, HoldsMore, KeepsLimits, StaysHeld, dropped_after, history_after}
use Rattle.block_intake.proofs.CountFacts.{counts_first, counts_one, next_counts}

abbrev pub intake_by : List Slip → List Slip → List Clash → Intake
intake_by h w ds = record { history = h; waiting = w; dropped = ds }

-- a block was appended or dropped
pub placed : (d : Intake) (x : Slip) (o : Option Clash) (h w : List Slip) (ds : List Clash) → h ≡ history_after d.history x o → w ≡ without x d.waiting → ds ≡ dropped_after d.dropped o → intake_by h w ds ≡ take_judged d x o
placed d x None h w ds eh ew ed = rw (eh, ew, ed) refl
placed d x (Some c) h w ds eh ew ed = rw (eh, ew, ed) refl

waiting_judged : (d : Intake) (x : Slip) (o : Option Clash) → (take_judged d x o).waiting ≡ without x d.waiting
waiting_judged d x None = refl
waiting_judged d x (Some c) = refl

-- the next one may be taken then
pub next_can : (d : Intake) (x : Slip) (room left : ℕ) → CanTake d room → next_waiting d.history d.waiting ≡ Some x → room ≤ left + 1 → CanTake (take_one d (Some x)) left
next_can d x room left can e le =
    let k = next_counts can.world can.first d can.counted x (next_is d.history d.waiting x e) in
    let test = descends (length can.world.waiting) can.world.waiting can.first.id in
    record {
      world = can.world;
      first = can.first;
      counted = counts_one can.world can.first d can.counted (Some x) e;
      taking = keeps_one d can.taking (Some x) e;
      enough = omega (arith, ap (λ l. length (filter test l)) (waiting_judged d x (clash d.history x)), k.fewer, can.enough, le);
    }

-- a block that a sound world admits may come next in its history
pub start_fits : (db : Forks) (room : Room) (s : Slip) → CanStart db room s → verdict_of db.history s ≡ fits
start_fits db room s can =
    let is = judged_takes can.world s can.takes in
    let new = (new_parts can.world s is.new).1 in
    subst (λ l. verdict_of l s ≡ fits) can.parts.history (by is.links new)
  where
    first : (l : List Slip) → l ≡ [] → verdict_of l s ≡ fits
    first [] e = refl
    first (t ∷ older) e = absurd (grind (arith, e))

    by : IsTaker can.world s → has_id can.world.history s.id ≡ false → verdict_of can.world.history s ≡ fits
    by (inl empty) new = first can.world.history empty
    by (inr link) new = fits_child can.world.history s link.0 link.1.parent link.1.fits new (rises_above s (root_num can.world.history) can.block link.1.above)

-- and what waits may be taken after it
pub start_can : (db : Forks) (room : Room) (s : Slip) (left : ℕ) → CanStart db room s → descendants room.waiting s.id ≤ left → CanTake (intake_by (s ∷ db.history) room.waiting []) left
start_can db room s left can le =
    let is = judged_takes can.world s can.takes in
    let d = first_intake can.world s in
    let same : intake_by (s ∷ db.history) room.waiting [] ≡ d = rw (can.parts.history, can.parts.waiting) refl in
    subst (λ (e : Intake). CanTake e left) (sym same) record {
      world = can.world;
      first = s;
      counted = counts_first can.world s can.sound;
      taking = starts can.world s can.sound can.block is;
      enough = omega (arith, le, ap (λ l. descendants l s.id) can.parts.waiting);
    }

-- once the block is admitted, the parents of its children are held, and those of no other waiting block
pub children_linked : (db : Forks) (room : Room) (s : Slip) → CanStart db room s → linked_in (s ∷ db.history) room.waiting ≡ children_in room.waiting s.id
children_linked db room s can =
    let apart : AllByRecursion (λ x. has_id db.history x.parent_id ≡ false) room.waiting = rw (← can.parts.history, ← can.parts.waiting) can.sound.orphans in
    let new : has_id db.history s.id ≡ false = rw (← can.parts.history) (new_parts can.world s (judged_takes can.world s can.takes).new).1 in
    omega (arith, linked_more db.history s room.waiting new, none_held db.history room.waiting apart)

-- a room without a block keeps its limits
pub without_blocks : (room : Room) (o : Option Slip) → (room_without room o).most_blocks ≡ room.most_blocks
without_blocks room None = refl
without_blocks room (Some s) = refl

pub without_bytes : (room : Room) (o : Option Slip) → (room_without room o).most_bytes ≡ room.most_bytes
without_bytes room None = refl
without_bytes room (Some s) = refl

-- one more block that has its payload
pub holds_one : (old new : Forks) (s : Slip) (o : Option Block) → new.history ≡ s ∷ old.history → new.held ≡ old.held ++ o ∷ [] → IsSome o → HoldsMore old new
holds_one old new s o history held some = record { more = s ∷ []; history = history; kept = o ∷ []; held = held; given = (some, tt); same = refl }

pub holds_same : (old new : Forks) → new.history ≡ old.history → new.held ≡ old.held → HoldsMore old new
holds_same old new history held = record { more = []; history = history; kept = []; held = held ∙ sym (append-nil old.held); given = tt; same = refl }

-- more, and then more
pub holds_twice : (a b c : Forks) → HoldsMore a b → HoldsMore b c → HoldsMore a c
holds_twice a b c h k = record {
  more = k.more ++ h.more;
  history = k.history ∙ ap (λ l. k.more ++ l) h.history ∙ sym (append_assoc k.more h.more a.history);
  kept = h.kept ++ k.kept;
  held = k.held ∙ ap (λ l. l ++ k.kept) h.held ∙ append_assoc a.held h.kept k.kept;
  given = both h.kept h.given;
  same = let s = h.same in let t = k.same in omega (arith, s, t, length-append h.kept k.kept, length-append k.more h.more);
}
  where
    both : (xs : List (Option Block)) → AllByRecursion IsSome xs → AllByRecursion IsSome (xs ++ k.kept)
    both [] all = k.given
    both (x ∷ xs) all = (all.0, both xs all.1)

pub stays_twice : (a b c : Forks) (x y : Room) → StaysHeld a b x → (AreKept x → StaysHeld b c y) → StaysHeld a c y
stays_twice a b c x y h f = let k = f h.waiting in record { more = holds_twice a b c h.more k.more; waiting = k.waiting }

-- limits stay twice
pub limits_twice : (a b c : Forks) (x y z : Room) → KeepsLimits a x b y → KeepsLimits b y c z → KeepsLimits a x c z
limits_twice a b c x y z h k = record { history = k.history ∙ h.history; blocks = k.blocks ∙ h.blocks; bytes = k.bytes ∙ h.bytes }

-- the value of a block that is given is given
pub kept_some : {X : Type 0} → (f : X → Block) (o : Option X) → is_some o ≡ true → IsSome (option_map f o)
kept_some f None e = absurd (grind (arith, e))
kept_some f (Some b) e = refl
