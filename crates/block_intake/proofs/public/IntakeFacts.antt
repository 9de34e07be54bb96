-- What an intake has after an offer, by the rule that decides it.
use Rattle.std.proofs.Common.{arith, cond, leb, ltb, inl, inr, ◌≡◌, ◌<◌, ◌≤◌, ◌+◌, ◌-◌, ◌++◌, ℕ, Bool, true, false, List, [], ◌∷◌, length, reverse, Option, Some, None, Result, Err, IsTrue, refl, sym, ◌∙◌, ap, subst, ◌||◌, is_some, Bor}
use Rattle.std.proofs.lemmas.Bool.{cases_Bool, le-leb, ltb-false, ltb-true}
use Rattle.std.proofs.lemmas.List.{length-append, reverse-reverse}
use Rattle.block_record.specs.declared.blocks.Block.{Block}
use Rattle.std.specs.Option.{option_copied}
use Rattle.block_record.specs.Ids.{same_id}
use Rattle.block_record.specs.declared.blocks.Slip.{Slip}
use Rattle.chain_model.specs.Ancestry.{find_id, has_id}
use Rattle.chain_model.specs.Finality.{root_num}
use Rattle.relay_model.specs.declared.answers.Conflict.{Conflict as Clash}
use Rattle.relay_model.specs.Worlds.{World, descendants, has_room, room_bytes}
use Rattle.relay_model.specs.Offers.{Intake, Admitted, answer_by, clash, intake, judge, judge_held, judge_limit, judge_linked, judge_parent, kind_after, purged, tip_num, world_by}
use Rattle.relay_model.specs.Verdicts.{Verdict}
use Rattle.relay_model.specs.Verdicts as verdict
use Rattle.relay_model.specs.Runs.{empty_world}
use Rattle.relay_model.specs.Soundness.{IsBlock, IsSound}
use Rattle.relay_model.proofs.public.Intakes.{taking_grows}
use Rattle.relay_model.proofs.public.Judged.{judged_waits, limit_takes, clash_waits}
use Rattle.relay_model.proofs.public.Sound.{empty_sound, intake_grows, keeps_by, new_parts, same_sound}
use Rattle.wait_room.specs.Rooms.{fits_in, with_block}
use Rattle.block_intake.specs.declared.limits.IntakeLimits.{IntakeLimits}
use Rattle.block_intake.specs.declared.answers.Offered.{Offered}
use Rattle.block_intake.specs.declared.answers.OfferFault.{OfferFault}
use Rattle.block_intake.specs.declared.answers.OfferFault.TheVariants as fault
use Rattle.block_intake.specs.Answers.{IsAnswer, TakesMemory, is_mem}
use Rattle.wait_room.specs.Rooms.{AreKept}
use Rattle.block_intake.specs.Taking.{HoldsMore, StaysHeld}
use Rattle.fork_db.specs.Forks.{Forks}
use Rattle.block_intake.proofs.TakingFacts.{holds_same, holds_twice}
use Rattle.block_intake.specs.Intakes.{IsOffered, IsUnchanged, TakenIn, limits_in, unnoted, untold_kind, world_taken}
use Rattle.block_intake.specs.Judged.{HasParts}
use Rattle.block_intake.specs.Taking.{IsRoomFault, KeepsLimits, intake_from}
use Rattle.block_intake.proofs.CountFacts.{intake_within}

-- a block that has to wait has room
room_waits : (w : World) (s : Slip) (o : Option Slip) → judge_parent w s o ≡ verdict.Waiting → has_room w.limits w.waiting s ≡ true
room_waits w s (Some p) e = absurd (clash_waits w s (clash w.history s) e)
room_waits w s None e =
    elim (cases_Bool (leb s.num (tip_num w.history))) [
      | inl low ↦ absurd (grind (arith, e, low))
      | inr high ↦ elim (cases_Bool (has_room w.limits w.waiting s)) [
        | inl room ↦ room
        | inr full ↦ absurd (grind (arith, e, high, full))
      ]
    ]

linked_room : (w : World) (s : Slip) (h : List Slip) → judge_linked w s h ≡ verdict.Waiting → has_room w.limits w.waiting s ≡ true
linked_room w s [] e = absurd (limit_takes w s e)
linked_room w s (t ∷ older) e =
    elim (cases_Bool (leb s.num (root_num w.history))) [
      | inl low ↦ absurd (grind (arith, e, low))
      | inr high ↦ room_waits w s (find_id w.history s.parent_id) (rw high at e)
    ]

held_room : (w : World) (s : Slip) (o : Option Slip) → judge_held w s o ≡ verdict.Waiting → has_room w.limits w.waiting s ≡ true
held_room w s (Some h) e = absurd (grind (arith, e))
held_room w s None e =
    elim (cases_Bool (ltb s.num w.first)) [
      | inl low ↦ absurd (grind (arith, e, low))
      | inr high ↦ linked_room w s w.history (rw high at e)
    ]

pub judged_room : (w : World) (s : Slip) → judge w s ≡ verdict.Waiting → has_room w.limits w.waiting s ≡ true
judged_room w s e =
    elim (cases_Bool w.closed) [
      | inl shut ↦ absurd (grind (arith, e, shut))
      | inr open' ↦ held_room w s (find_id (w.waiting ++ w.history) s.id) (rw open' at e)
    ]

-- an intake's own world
pub own_parts : (t : TakenIn) → HasParts (world_taken t) t.forks t.room
own_parts t = record { history = refl; waiting = refl; wait_blocks = refl; wait_bytes = refl }

-- its room has room for such a block, and not its id
pub fits_room : (t : TakenIn) (s : Slip) → judge (world_taken t) s ≡ verdict.Waiting → IsTrue (fits_in t.room s.length)
fits_room t s e =
    let has : has_room (world_taken t).limits t.room.waiting s ≡ true = judged_room (world_taken t) s e in
    has

pub lacks_room : (t : TakenIn) (s : Slip) → judge (world_taken t) s ≡ verdict.Waiting → has_id t.room.waiting s.id ≡ false
lacks_room t s e = (new_parts (world_taken t) s (judged_waits (world_taken t) s e).new).0

-- where nothing but memory was taken the world is the same, and no payload came or went
pub unchanged_world : (old new : TakenIn) → IsUnchanged old new → world_taken new ≡ world_taken old
unchanged_world old new u = rw (u.first, u.history, u.limit, u.room) refl

pub unchanged_holds : (old new : TakenIn) → IsUnchanged old new → HoldsMore old.forks new.forks
unchanged_holds old new u = holds_same old.forks new.forks u.history u.held

-- and then blocks came
pub unchanged_more : (old mid : TakenIn) (new : Forks) → IsUnchanged old mid → HoldsMore mid.forks new → HoldsMore old.forks new
unchanged_more old mid new u h = holds_twice old.forks mid.forks new (unchanged_holds old mid u) h

pub unchanged_same : (t : TakenIn) → IsUnchanged t t
unchanged_same t = record { first = refl; history = refl; held = refl; limit = refl; room = refl }

-- an answer that leaves the intake as it is
pub stays_offered : (t : TakenIn) (s : Slip) (given : Bool) (v u : Verdict) (result : Result Offered OfferFault) → v ≡ u → IsAnswer (answer_by (world_taken t) s v) result → unnoted (world_by (world_taken t) s v) ≡ world_taken t
    → IsOffered u s given t t result
stays_offered t s given v u result e said same =
    subst (λ (x : Verdict). IsOffered x s given t t result) e (record {
      said = said;
      world = λ _. sym same;
      mem = λ _. unchanged_same t;
      held = λ _ h. record { more = holds_same t.forks t.forks refl refl; waiting = h };
    })

-- a block that links is taken where the limit has room
pub takes_limit : (w : World) (s : Slip) → length w.history + (1 + descendants w.waiting s.id) ≤ w.limits.history → judge_limit w s ≡ verdict.Admitted
takes_limit w s le =
    let fits : leb (length w.history + (1 + descendants w.waiting s.id)) w.limits.history ≡ true = le-leb _ _ le in
    rw fits refl

pub takes_rule : (w : World) (s : Slip) → judge w s ≡ judge_limit w s → (w.limits.history < length w.history + (1 + descendants w.waiting s.id) → ⊥) → judge w s ≡ verdict.Admitted
takes_rule w s rule enough =
    rule ∙ takes_limit w s (elim (cases_Bool (ltb w.limits.history (length w.history + (1 + descendants w.waiting s.id)))) [
      | inl less ↦ absurd (enough (ltb-true _ _ less))
      | inr more ↦ ltb-false _ _ more
    ])

-- and is refused where it has not
pub full_rule : (w : World) (s : Slip) (len need : ℕ) → (len ≡ length w.history) × (need ≡ 1 + descendants w.waiting s.id) × (w.limits.history < len + need) → judge_limit w s ≡ verdict.HistoryFull need
full_rule w s len need k =
    let no : leb (length w.history + (1 + descendants w.waiting s.id)) w.limits.history ≡ false = over _ _ (omega (arith, k.0, k.1, k.2)) in
    rw (no, k.1) refl
  where
    over : (a b : ℕ) → b < a → leb a b ≡ false
    over a b lt = grind arith

-- in either case memory may be wanting
pub limit_memory : (w : World) (s : Slip) → TakesMemory (answer_by w s (judge_limit w s))
limit_memory w s = by (leb (length w.history + (1 + descendants w.waiting s.id)) w.limits.history)
  where
    by : (b : Bool) → TakesMemory (answer_by w s (cond b verdict.Admitted (verdict.HistoryFull (1 + descendants w.waiting s.id))))
    by true = tt
    by false = tt

-- a block that links and for which no room was made
pub refused_room : (old new : TakenIn) (s : Slip) (given : Bool) (f : OfferFault) → IsUnchanged old new → IsRoomFault f → judge (world_taken old) s ≡ judge_limit (world_taken old) s
    → ((len need : ℕ) → f ≡ fault.HistoryFull len need → (len ≡ length old.forks.history) × (need ≡ 1 + descendants old.room.waiting s.id) × (old.forks.limit < len + need))
    → IsOffered (judge (world_taken old) s) s given old new (Err f)
refused_room old new s given (fault.HistoryFull len need) u is rule full =
    let w = world_taken old in
    let k = full len need refl in
    let v : verdict.HistoryFull need ≡ judge w s = sym (rule ∙ full_rule w s len need k) in
    subst (λ (x : Verdict). IsOffered x s given old new (Err (fault.HistoryFull len need))) v (record {
      said = ap (λ n. Rattle.relay_model.specs.Offers.HistoryFull n need) (sym k.0);
      world = λ _. unchanged_world old new u;
      mem = λ m. absurd (grind (arith, m));
      held = λ _ h. record { more = unchanged_holds old new u; waiting = rw u.room h };
    })
refused_room old new s given fault.Mem u is rule full =
    let w = world_taken old in
    record {
      said = subst (λ (x : Verdict). TakesMemory (answer_by w s x)) (sym rule) (limit_memory w s);
      world = λ m. absurd (grind (arith, m));
      mem = λ _. u;
      held = λ _ h. record { more = unchanged_holds old new u; waiting = rw u.room h };
    }
refused_room old new s given (fault.Closed len) u is rule full = absurd is
refused_room old new s given (fault.Conflict c) u is rule full = absurd is
refused_room old new s given (fault.WaitFull blocks bytes) u is rule full = absurd is

-- what follows an admission hangs on the history and on what waits alone
pub intake_same : (w : World) (h room : List Slip) (s : Slip) → w.history ≡ h → w.waiting ≡ room → intake w s ≡ intake_from h room s
intake_same w h room s eh er = rw (eh, er) refl

-- the blocks that an admission brings
pub brings : (t : TakenIn) (s : Slip) → (more : List Slip) × (more ++ t.forks.history ≡ (intake_from t.forks.history t.room.waiting s).history)
brings t s = intake_grows (world_taken t) s

-- of which the block itself is one
pub brings_some : (t : TakenIn) (s : Slip) → length t.forks.history < length (intake_from t.forks.history t.room.waiting s).history
brings_some t s =
    let grows = taking_grows (length t.room.waiting) (record { history = s ∷ t.forks.history; waiting = t.room.waiting; dropped = [] }) in
    omega (arith, ap length grows.1, length-append grows.0 (s ∷ t.forks.history))

-- an admission brings and drops no more blocks than itself and its waiting descendants
pub brings_most : (t : TakenIn) (s : Slip) → IsSound (world_taken t) → length (intake_from t.forks.history t.room.waiting s).history + length (intake_from t.forks.history t.room.waiting s).dropped ≤ length t.forks.history + (1 + descendants t.room.waiting s.id)
brings_most t s sound = intake_within (world_taken t) s sound

-- the kind of a history to which a block came
kind_later : (more h all : List Slip) → more ++ h ≡ all → length h < length all → untold_kind all ≡ kind_after (untold_kind h) h
kind_later more h all e lt = ap untold_kind (sym e) ∙ by more h (omega (arith, ap length e, length-append more h, lt))
  where
    by : (more h : List Slip) → 0 < length more → untold_kind (more ++ h) ≡ kind_after (untold_kind h) h
    by [] h lt = absurd (omega arith)
    by (y ∷ more) [] lt = refl
    by (y ∷ more) (x ∷ xs) lt = refl

-- the world of an intake after an admission
pub admitted_world : (t new : TakenIn) (s : Slip) → new.first ≡ t.first → new.forks.history ≡ (intake_from t.forks.history t.room.waiting s).history
    → new.room.waiting ≡ purged new.forks.history (intake_from t.forks.history t.room.waiting s).waiting → KeepsLimits t.forks t.room new.forks new.room
    → world_taken new ≡ unnoted (world_by (world_taken t) s verdict.Admitted)
admitted_world t new s first history waiting limits =
    let d = intake_from t.forks.history t.room.waiting s in
    let b = brings t s in
    let kind : untold_kind d.history ≡ kind_after (untold_kind t.forks.history) t.forks.history = kind_later b.0 t.forks.history d.history b.1 (brings_some t s) in
    rw (waiting, history, first, limits.history, limits.blocks, limits.bytes, kind) refl

-- which is sound
pub admitted_sound : (t new : TakenIn) (s : Slip) → IsSound (world_taken t) → IsBlock s → judge (world_taken t) s ≡ verdict.Admitted → world_taken new ≡ unnoted (world_by (world_taken t) s verdict.Admitted) → IsSound (world_taken new)
admitted_sound t new s sound block takes e =
    subst IsSound (sym e) (same_sound (world_by (world_taken t) s verdict.Admitted) (unnoted (world_by (world_taken t) s verdict.Admitted)) refl refl (λ none. none) refl (keeps_by (world_taken t) s sound block verdict.Admitted takes))

-- what an admission is answered
pub said_after : (w : World) (h room : List Slip) (s : Slip) (from count : ℕ) (newest : List Slip) (dropped d : List Clash) → w.history ≡ h → w.waiting ≡ room → newest ≡ (intake_from h room s).history
    → from ≡ length h → length newest ≡ count + length h → reverse dropped ≡ d → d ≡ (intake_from h room s).dropped → answer_by w s verdict.Admitted ≡ Admitted from count dropped
said_after w h room s from count newest dropped d eh er is start len turned all =
    let same = intake_same w h room s eh er in
    let n : length (intake w s).history - length w.history ≡ count = omega (arith, ap (λ (i : Intake). length i.history) same, ap length is, ap length eh, len) in
    let f : length w.history ≡ from = omega (arith, ap length eh, start) in
    let ds : reverse (intake w s).dropped ≡ dropped = ap (λ (i : Intake). reverse i.dropped) same ∙ ap reverse (sym all ∙ sym turned) ∙ reverse-reverse dropped in
    ap (λ k. Admitted k (length (intake w s).history - length w.history) (reverse (intake w s).dropped)) f ∙ ap (λ k. Admitted from k (reverse (intake w s).dropped)) n ∙ ap (λ l. Admitted from count l) ds

-- an intake that has taken nothing
pub opened_world : (t : TakenIn) (limits : IntakeLimits) → t.forks.history ≡ [] → t.forks.limit ≡ limits.history → t.room.waiting ≡ [] → t.room.most_blocks ≡ limits.wait_blocks → t.room.most_bytes ≡ limits.wait_bytes
    → world_taken t ≡ empty_world t.first 0 (limits_in limits)
opened_world t limits h l w blocks bytes = rw (h, l, w, blocks, bytes) refl

pub opened_sound : (t : TakenIn) (limits : IntakeLimits) → world_taken t ≡ empty_world t.first 0 (limits_in limits) → IsSound (world_taken t)
opened_sound t limits e = subst IsSound (sym e) (empty_sound t.first 0 (limits_in limits))

-- a block that waits
pub waits_world : (t new : TakenIn) (s : Slip) (b : Option Block) → new.first ≡ t.first → new.forks ≡ t.forks → new.room ≡ with_block t.room s b → world_taken new ≡ world_by (world_taken t) s verdict.Waiting
waits_world t new s b first forks room = rw (first, forks, room) refl

pub waits_sound : (t new : TakenIn) (s : Slip) → IsSound (world_taken t) → IsBlock s → judge (world_taken t) s ≡ verdict.Waiting → world_taken new ≡ world_by (world_taken t) s verdict.Waiting → IsSound (world_taken new)
waits_sound t new s sound block rule e = subst IsSound (sym e) (keeps_by (world_taken t) s sound block verdict.Waiting rule)

-- a block that would have to wait, and passes a limit of the room
pub full_answer : (t : TakenIn) (blocks bytes : ℕ) → blocks ≡ length t.room.waiting → bytes ≡ room_bytes t.room.waiting → (s : Slip) → IsAnswer (answer_by (world_taken t) s verdict.WaitFull) (Err (fault.WaitFull blocks bytes))
full_answer t blocks bytes n k s = cc

-- where nothing but memory was taken the world stays sound
pub unchanged_sound : (old new : TakenIn) → IsUnchanged old new → IsSound (world_taken old) → IsSound (world_taken new)
unchanged_sound old new u sound = subst IsSound (sym (unchanged_world old new u)) sound

-- a block that was admitted after room was made
pub admitted_offer : (old mid new : TakenIn) (s : Slip) (given : Bool) (result : Result Offered OfferFault) → IsUnchanged old mid → judge (world_taken old) s ≡ verdict.Admitted
    → IsAnswer (answer_by (world_taken mid) s verdict.Admitted) result → is_mem result ≡ false → world_taken new ≡ unnoted (world_by (world_taken mid) s verdict.Admitted) → (given ≡ true → AreKept mid.room → StaysHeld mid.forks new.forks new.room)
    → IsOffered (judge (world_taken old) s) s given old new result
admitted_offer old mid new s given result u rule said ok world held =
    let same = unchanged_world old mid u in
    subst (λ (x : Verdict). IsOffered x s given old new result) (sym rule) (record {
      said = subst (λ (w : World). IsAnswer (answer_by w s verdict.Admitted) result) same said;
      world = λ _. world ∙ ap (λ (w : World). unnoted (world_by w s verdict.Admitted)) same;
      mem = λ m. absurd (grind (arith, m, ok));
      held = λ g h. let k = held g (rw u.room h) in record { more = unchanged_more old mid new.forks u k.more; waiting = k.waiting };
    })

-- an answer for want of memory that leaves the intake as it is
pub no_memory : (old new : TakenIn) (s : Slip) (given : Bool) (v u : Verdict) → v ≡ u → TakesMemory (answer_by (world_taken old) s v) → IsUnchanged old new → IsOffered u s given old new (Err fault.Mem)
no_memory old new s given v u e takes same =
    subst (λ (x : Verdict). IsOffered x s given old new (Err fault.Mem)) e (record {
      said = takes;
      world = λ m. absurd (grind (arith, m));
      mem = λ _. same;
      held = λ _ h. record { more = unchanged_holds old new same; waiting = rw same.room h };
    })

-- whether an id is found
pub found_any : (xs : List Slip) (id : List ℕ) → is_some (find_id xs id) ≡ has_id xs id
found_any [] id = refl
found_any (x ∷ xs) id =
    let ih = found_any xs id in
    let P : Bool → Type 0 = λ b. is_some (cond b (Some x) (find_id xs id)) ≡ (b || has_id xs id) in
    elim (same_id x.id id) as P [ true ↦ refl | false ↦ ih ]

pub some_copied : (o : Option (Bor Slip)) → is_some o ≡ is_some (option_copied o)
some_copied None = refl
some_copied (Some s) = refl
