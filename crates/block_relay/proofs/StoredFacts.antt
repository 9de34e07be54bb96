-- What is stored in a relay's world, by the payloads that its history gave up.
use Rattle.std.proofs.Common.{arith, ◌≡◌, ◌≤◌, ◌<◌, ◌+◌, ◌-◌, ℕ, zero, suc, Bool, true, false, not, cond, List, [], ◌∷◌, ◌++◌, length, map, reverse, set, take, Option, Some, None, refl, sym, ◌∙◌, ap, subst, ◌&&◌, ◌||◌, IsSome, is_some}
use Rattle.std.specs.List.{AllByRecursion, filter, find, list_all, list_any, slice_get}
use Rattle.std.specs.Option.{option_map}
use Rattle.std.proofs.Math.Dec.{eqb}
use Rattle.std.proofs.lemmas.Bool.{both_ways, false_from_ne_true}
use Rattle.std.proofs.lemmas.List.{length-append}
use Rattle.block_record.specs.declared.blocks.Block.{Block}
use Rattle.block_record.specs.declared.blocks.Slip.{Slip}
use Rattle.block_record.specs.Slips.{same_slip}
use Rattle.block_record.specs.Ids.{same_id, same_id-true, same_id_refl}
use Rattle.block_tree.specs.Places.{place_of, slip_at}
use Rattle.chain_model.specs.Ancestry.{has_id, IsHistory}
use Rattle.chain_model.specs.Finality.{final_ancestry, final_tip}
use Rattle.block_record.specs.declared.blocks.Kind.{Kind as NodeKind}
use Rattle.relay_model.specs.Offers.{intake, tip_num}
use Rattle.relay_model.specs.Verdicts as verdict
use Rattle.relay_model.specs.Chronicles.{Admitted, Entry, Stored, added_by, history_of, kind_added, stored_of, world_of}
use Rattle.relay_model.specs.Worlds.{World}
use Rattle.bundle_model.specs.Bundles.{base_of, finals_up, is_within}
use Rattle.std.specs.Prelude.{nat_le, nat_lt, if◌then◌else◌}
use Rattle.bundle_model.specs.Plans.{Plan, at_places, first_unstored, is_stored, last_stored, next_plan, plan_dead, plan_first, plan_with, stored_slips}
use Rattle.bundle_model.specs.Shedding.{is_reached, may_sweep, place_in, shed, stored_after, stored_at}
use Rattle.bundle_model.proofs.public.MemberFacts.{reverse-push}
use Rattle.bundle_model.proofs.public.StoredFacts.{is_one}
use Rattle.bundle_model.proofs.public.PlanFacts.{at_places_among}
use Rattle.bundle_model.proofs.public.RetainedFacts.{id_there}
use Rattle.bundle_model.specs.Retained.{retained, stored_finals}
use Rattle.block_record.proofs.public.SlipFacts.{same_slip_is, same_slip_refl}
use Rattle.block_tree.proofs.public.PlaceFacts.{is_held, place_none, place_range, place_slip, slip_at_past, slip_at_top}
use Rattle.chain_laws.proofs.public.Lines.{IsHistory-rest, is_fresh}
use Rattle.std.proofs.lemmas.Option.{same_Some}
use Rattle.block_intake.specs.Intakes.{world_taken}
use Rattle.relay_model.specs.declared.answers.Conflict.{Conflict as Clash}
use Rattle.stored_blocks.proofs.public.PathFacts.{filter_same}
use Rattle.block_relay.specs.Chronicle.{IsKept, Told, world_told}
use Rattle.block_relay.proofs.KeptFacts.{told}
use Rattle.fork_db.specs.Forks.{Forks}
use Rattle.block_intake.specs.Intakes.{TakenIn}
use Rattle.block_intake.specs.Taking.{HoldsMore}
use Rattle.stored_blocks.specs.Stored.{HasGrown, HasTaken, Index, IsIndex, gone_places, is_given_up, is_gone, world_in}
use Rattle.stored_blocks.proofs.public.HeldFacts.{given_up_at, gone_append, gone_is, has_among, set_gone}
use Rattle.block_relay.specs.Chronicle.{entry_at, shed_entries, stored_entries}
use Rattle.block_relay.specs.Held.{AreGone, HasMarksLeft}

-- the same places have the same blocks
at_alike : (ps qs : List ℕ) (xs : List Slip) → ((n : ℕ) → is_one ps n ≡ is_one qs n) → at_places ps xs ≡ at_places qs xs
at_alike ps qs [] same = refl
at_alike ps qs (x ∷ xs) same = let e = same (length xs) in let ih = at_alike ps qs xs same in rw (e, ih) refl

-- the stored blocks of a world whose stored places are those that were given up
pub slips_alike : (w : World) (f : Forks) → w.history ≡ f.history → AreGone w.stored f.held → stored_slips w ≡ at_places (gone_places 0 f.held) f.history
slips_alike w f history gone = at_alike w.stored (gone_places 0 f.held) w.history (λ n. gone n ∙ sym (gone_is f.held n)) ∙ ap (at_places (gone_places 0 f.held)) history

pub stored_alike : (w : World) (f : Forks) → w.history ≡ f.history → AreGone w.stored f.held → (s : Slip) → is_stored w s ≡ is_given_up f s
stored_alike w f history gone s = ap (λ l. has_id l s.id) (slips_alike w f history gone)

-- plans by the history and the stored blocks alone
abbrev is_in : List Slip → Slip → Bool
is_in stored s = has_id stored s.id

-- so they plan the same
dead_same : (w v : World) → w.size ≡ v.size → stored_slips w ≡ stored_slips v → w.history ≡ v.history → (o : Option Slip) → plan_dead w o ≡ plan_dead v o
dead_same w v size slips history None = refl
dead_same w v size slips history (Some s) = go w.size v.size (stored_slips w) (stored_slips v) w.history v.history size slips history
  where
    by : ℕ → List Slip → List Slip → Option Plan
    by n st h =
        let base = base_of n s.num in
        if nat_le (base + n) (tip_num h) then plan_with n base (filter (λ x. not (has_id (final_ancestry h) x.id) && nat_lt x.num (base + n) && not (has_id st x.id)) (reverse h)) else None

    go : (n m : ℕ) (st su h k : List Slip) → n ≡ m → st ≡ su → h ≡ k → by n st h ≡ by m su k
    go n m st su h k a b c = ap (λ x. by x st h) a ∙ ap (λ x. by m x h) b ∙ ap (λ x. by m su x) c

last_same : (w v : World) → stored_slips w ≡ stored_slips v → w.history ≡ v.history → last_stored w ≡ last_stored v
last_same w v slips history = ap (λ l. find (λ x. has_id l x.id) (final_ancestry w.history)) slips ∙ ap (λ h. find (is_stored v) (final_ancestry h)) history

plan_first_same : (w v : World) → w.size ≡ v.size → stored_slips w ≡ stored_slips v → w.history ≡ v.history → (o : Option Slip) → plan_first w o ≡ plan_first v o
plan_first_same w v size slips history o = go o
  where
    dead : plan_dead w (last_stored w) ≡ plan_dead v (last_stored v)
    dead = dead_same w v size slips history (last_stored w) ∙ ap (plan_dead v) (last_same w v slips history)

    at : ℕ → List Slip → List Slip → ℕ → Plan
    at n st h base = record {
      size = n;
      base = base;
      finals = filter (is_within n base) (finals_up h);
      dead = filter (λ x. not (has_id (final_ancestry h) x.id) && nat_lt x.num (base + n) && not (has_id st x.id)) (reverse h);
      below = base + n;
    }

    by : ℕ → List Slip → List Slip → Slip → Option Plan → Option Plan
    by n st h s other =
        let plan = at n st h (base_of n s.num) in
        if nat_le plan.below (tip_num h) && list_all (λ t. not (has_id st t.id)) plan.finals then Some plan else other

    go : (o : Option Slip) → plan_first w o ≡ plan_first v o
    go None = dead
    go (Some s) =
        ap (λ n. by n (stored_slips w) w.history s (plan_dead w (last_stored w))) size
        ∙ ap (λ l. by v.size l w.history s (plan_dead w (last_stored w))) slips
        ∙ ap (λ h. by v.size (stored_slips v) h s (plan_dead w (last_stored w))) history
        ∙ ap (λ d. by v.size (stored_slips v) v.history s d) dead

unstored_same : (w v : World) → stored_slips w ≡ stored_slips v → w.history ≡ v.history → first_unstored w ≡ first_unstored v
unstored_same w v slips history = ap (λ l. find (λ x. not (has_id l x.id)) (finals_up w.history)) slips ∙ ap (λ h. find (λ x. not (is_stored v x)) (finals_up h)) history

pub plan_alike : (w : World) (f : Forks) → w.history ≡ f.history → AreGone w.stored f.held → next_plan w ≡ next_plan (world_in w.size f)
plan_alike w f history gone =
    let v = world_in w.size f in
    let slips = slips_alike w f history gone in
    plan_first_same w v refl slips history (first_unstored w)
    ∙ ap (plan_first v) (unstored_same w v slips history)

-- the entries after a block came to be stored
entry_world : (es : List Entry) (o : Option ℕ) → world_of (entry_at es o) ≡ record (world_of es) { stored = stored_at (stored_of es) o }
entry_world es None = refl
entry_world es (Some at) = go (list_any (λ n. eqb n at) (stored_of es))
  where
    go : (b : Bool) → world_of (cond b es (Stored at ∷ es)) ≡ record (world_of es) { stored = cond b (stored_of es) (at ∷ stored_of es) }
    go true = refl
    go false = refl

entry_stored : (es : List Entry) (o : Option ℕ) → stored_of (entry_at es o) ≡ stored_at (stored_of es) o
entry_stored es o = ap (λ (w : World). w.stored) (entry_world es o)

pub entries_world : (newest : List Slip) (es : List Entry) (ss : List Slip) → world_of (stored_entries newest es ss) ≡ record (world_of es) { stored = stored_after newest (stored_of es) ss }
entries_world newest es [] = refl
entries_world newest es (s ∷ rest) =
    let more = entry_at es (place_in newest s) in
    entries_world newest more rest
    ∙ ap (λ (w : World). record w { stored = stored_after newest (stored_of more) rest }) (entry_world es (place_in newest s))
    ∙ ap (λ l. record (world_of es) { stored = stored_after newest l rest }) (entry_stored es (place_in newest s))

pub shed_world : (es : List Entry) (plan : Plan) → world_of (shed_entries es plan) ≡ shed (world_of es) plan
shed_world es plan = entries_world (history_of es) es (plan.finals ++ plan.dead)

-- one after another
entries_twice : (newest : List Slip) (es : List Entry) (xs ys : List Slip) → stored_entries newest es (xs ++ ys) ≡ stored_entries newest (stored_entries newest es xs) ys
entries_twice newest es [] ys = refl
entries_twice newest es (x ∷ xs) ys = entries_twice newest (entry_at es (place_in newest x)) xs ys

entries_history : (newest : List Slip) (es : List Entry) (ss : List Slip) → history_of (stored_entries newest es ss) ≡ history_of es
entries_history newest es ss = ap (λ (w : World). w.history) (entries_world newest es ss)

-- how many are stored, and how many are not
pub both_counts : (q : Slip → Bool) (xs : List Slip) → length (filter q xs) + length (filter (λ s. not (q s)) xs) ≡ length xs
both_counts q [] = refl
both_counts q (x ∷ xs) =
    let ih = both_counts q xs in
    let P : Bool → Type 0 = λ b. length (cond b (x ∷ filter q xs) (filter q xs)) + length (cond (not b) (x ∷ filter (λ s. not (q s)) xs) (filter (λ s. not (q s)) xs)) ≡ suc (length xs) in
    elim (q x) as P [ true ↦ omega (arith, ih) | false ↦ omega (arith, ih) ]

-- counting backwards
pub count_reverse : (q : Slip → Bool) (xs : List Slip) → length (filter q (reverse xs)) ≡ length (filter q xs)
count_reverse q [] = refl
count_reverse q (x ∷ xs) =
    let ih = count_reverse q xs in
    let push = ap (λ l. length (filter q l)) (reverse-push x xs) ∙ ap length (Rattle.std.proofs.lemmas.List.Elements.filter-append q (reverse xs) (x ∷ [])) ∙ length-append (filter q (reverse xs)) (filter q (x ∷ [])) in
    let P : Bool → Type 0 = λ b. length (filter q (reverse xs)) + length (cond b (x ∷ []) []) ≡ length (cond b (x ∷ filter q xs) (filter q xs)) in
    push ∙ (elim (q x) as P [ true ↦ omega (arith, ih) | false ↦ omega (arith, ih) ])

-- places that were given up stay so, where blocks come with their payloads
pub gone_on : (stored : List ℕ) (held kept : List (Option Block)) → AllByRecursion IsSome kept → AreGone stored held → AreGone stored (held ++ kept)
gone_on stored held kept all gone at = gone at ∙ sym (gone_is held at) ∙ ap (λ l. is_one l at) (sym (gone_append held kept 0 all)) ∙ gone_is (held ++ kept) at

-- one more is given up
pub gone_more : (stored : List ℕ) (held : List (Option Block)) (at : ℕ) → at < length held → AreGone stored held → AreGone (at ∷ stored) (set held at None)
gone_more stored held at low gone k =
    let e = gone k in
    let m = set_gone held at k low in
    turn (eqb at k) (list_any (λ n. eqb n k) stored) ∙ ap (λ b. b || eqb at k) e ∙ sym m
  where
    turn : (a b : Bool) → (a || b) ≡ (b || a)
    turn true true = refl
    turn true false = refl
    turn false true = refl
    turn false false = refl

-- no more are stored than there are
pub index_low : (f : Forks) (i : Index) → IsIndex f i → i.stored ≤ length f.history
index_low f i h = let e = h.taken.stored_is in let b = both_counts (is_given_up f) f.history in omega (arith, e, b)

-- an index says nothing of room and limits
pub index_on : (f g : Forks) (i : Index) (room : ℕ) → g.history ≡ f.history → g.held ≡ f.held → IsIndex f i → IsIndex g (record i { room = room })
index_on f g i room history held h =
    let t = h.taken in
    let u : HasTaken f.history (finals_up f.history) (λ s. has_id (at_places (gone_places 0 f.held) f.history) s.id) (record i { room = room }) =
    record { low = t.low; finals_is = t.finals_is; front = t.front; last = t.last; range = t.range; stored_is = t.stored_is; finals_stored = t.finals_stored; off = t.off } in
    record {
      taken = rw (history, held) u;
      whole = h.whole ∙ ap length (sym history);
      same = ap length held ∙ h.same ∙ ap length (sym history);
    }

-- marks for which there is room
pub marks_left : (shut : Bool) (t : TakenIn) (i : Index) (len capacity : ℕ) → len + length t.forks.history + 1 ≤ capacity + i.stored → HasMarksLeft shut t i len capacity
marks_left true t i len capacity le = omega (arith, le)
marks_left false t i len capacity le = le

pub marks_open : (shut : Bool) (t : TakenIn) (i : Index) (len capacity : ℕ) → shut ≡ false → HasMarksLeft shut t i len capacity → len + length t.forks.history + 1 ≤ capacity + i.stored
marks_open true t i len capacity e h = absurd (both_ways _ e refl)
marks_open false t i len capacity e h = h

pub marks_some : (shut : Bool) (t : TakenIn) (i : Index) (len capacity : ℕ) → HasMarksLeft shut t i len capacity → len + length t.forks.history ≤ capacity + i.stored
marks_some true t i len capacity h = omega (arith, h)
marks_some false t i len capacity h = omega (arith, h)

-- blocks came with their payloads
pub grown_from : (old new : Forks) (i : Index) (n : ℕ) → HoldsMore old new → IsIndex old i → length new.history ≡ n + length old.history → n ≤ i.room → HasGrown i new
grown_from old new i n h k count room = record {
  before = old;
  index = k;
  more = h.more;
  history = h.history;
  kept = h.kept;
  held = h.held;
  given = h.given;
  same = h.same;
  enough = let e = h.history in omega (arith, count, room, ap length e, length-append h.more old.history);
}

pub gone_grown : (stored : List ℕ) (old new : Forks) → HoldsMore old new → AreGone stored old.held → AreGone stored new.held
gone_grown stored old new h gone = subst (AreGone stored) (sym h.held) (gone_on stored old.held h.kept h.given gone)

-- an admission stores nothing
stored_admitted : (more : List Slip) (es : List Entry) → stored_of (map Admitted more ++ es) ≡ stored_of es
stored_admitted [] es = refl
stored_admitted (s ∷ more) es = stored_admitted more es

stored_kind : (k : Option NodeKind) (h : List Slip) (es : List Entry) → stored_of (kind_added k h ++ es) ≡ stored_of es
stored_kind None [] es = refl
stored_kind None (s ∷ h) es = refl
stored_kind (Some k) h es = refl

pub added_stored : (w : World) (s : Slip) (es : List Entry) → stored_of (added_by w s verdict.Admitted ++ es) ≡ stored_of es
added_stored w s es =
    let more = take (length (intake w s).history - length w.history) (intake w s).history in
    ap stored_of (Rattle.std.proofs.lemmas.List.append_assoc (map Admitted more) (kind_added w.kind w.history) es)
    ∙ stored_admitted more (kind_added w.kind w.history ++ es) ∙ stored_kind w.kind w.history es

-- whether two slips are the same, either way
pub slip_turn : (a b : Slip) → same_slip a b ≡ same_slip b a
slip_turn a b = go (same_slip a b) (same_slip b a) refl refl
  where
    go : (p q : Bool) → same_slip a b ≡ p → same_slip b a ≡ q → p ≡ q
    go true true ep eq = refl
    go true false ep eq = let same = same_slip_is a b ep in absurd (both_ways _ eq (subst (λ (x : Slip). same_slip b x ≡ true) (sym same) (same_slip_refl b)))
    go false true ep eq = let same = same_slip_is b a eq in absurd (both_ways _ ep (subst (λ (x : Slip). same_slip a x ≡ true) (sym same) (same_slip_refl a)))
    go false false ep eq = refl

-- a block whose id is not known has no place
pub place_missing : (newest : List Slip) (s : Slip) → place_of newest s.id ≡ None → place_in newest s ≡ None
place_missing [] s e = refl
place_missing (t ∷ older) s e = go (same_id t.id s.id) (same_slip t s) refl refl e (λ k. place_missing older s k)
  where
    go : (a b : Bool) → same_id t.id s.id ≡ a → same_slip t s ≡ b → cond a (Some (length older)) (place_of older s.id) ≡ None → (place_of older s.id ≡ None → place_in older s ≡ None) → cond b (Some (length older)) (place_in older s) ≡ None
    go true b ea eb k ih = absurd (filled k)
      where
        filled : Some (length older) ≡ None → ⊥
        filled m = grind (arith, m)
    go false true ea eb k ih = absurd (both_ways _ ea (subst (λ (x : Slip). same_id t.id x.id ≡ true) (same_slip_is t s eb) (same_id_refl t.id)))
    go false false ea eb k ih = ih k

-- the place of a block that is found by its id
pub place_found : (newest : List Slip) (s t : Slip) (at : ℕ) → IsHistory newest → place_of newest s.id ≡ Some at → slip_at newest at ≡ Some t → place_in newest s ≡ cond (same_slip t s) (Some at) None
place_found [] s t at history e here = absurd (grind (arith, e))
place_found (x ∷ older) s t at history e here = go (same_id x.id s.id) refl e (λ k h. place_found older s t at (IsHistory-rest x older history) k h)
  where
    go : (a : Bool) → same_id x.id s.id ≡ a → cond a (Some (length older)) (place_of older s.id) ≡ Some at → (place_of older s.id ≡ Some at → slip_at older at ≡ Some t → place_in older s ≡ cond (same_slip t s) (Some at) None) → place_in (x ∷ older) s ≡ cond (same_slip t s) (Some at) None
    go true ea k ih =
        let place : length older ≡ at = same_Some (length older) at k in
        let one : x ≡ t = same_Some x t (sym (slip_at_top x older) ∙ ap (slip_at (x ∷ older)) place ∙ here) in
        let lacks : has_id older s.id ≡ false = ap (has_id older) (sym (same_id-true x.id s.id ea)) ∙ is_fresh x older history in
        let none : place_in older s ≡ None = place_missing older s (missing (place_of older s.id) (is_held older s.id ∙ lacks)) in
        ap (λ o. cond (same_slip x s) (Some (length older)) o) none
        ∙ ap (λ n. cond (same_slip x s) (Some n) None) place
        ∙ ap (λ (y : Slip). cond (same_slip y s) (Some at) None) one
      where
        missing : (o : Option ℕ) → is_some o ≡ false → o ≡ None
        missing None f = refl
        missing (Some n) f = absurd (both_ways _ f refl)
    go false ea k ih =
        let low = place_range older s.id at k in
        let rest = ih k (sym (slip_at_past x older at low) ∙ here) in
        let miss : same_slip x s ≡ false = false_from_ne_true _ (λ b. both_ways _ ea (subst (λ (y : Slip). same_id x.id y.id ≡ true) (same_slip_is x s b) (same_id_refl x.id))) in
        ap (λ b. cond b (Some (length older)) (place_in older s)) miss ∙ rest

-- the entries after a block
pub entry_none : (es : List Entry) (newest : List Slip) (s : Slip) (held : List (Option Block)) → AreGone (stored_of es) held → ((at : ℕ) → place_in newest s ≡ Some at → is_gone (slice_get held at) ≡ true) → entry_at es (place_in newest s) ≡ es
entry_none es newest s held gone f = go (place_in newest s) refl
  where
    go : (o : Option ℕ) → place_in newest s ≡ o → entry_at es o ≡ es
    go None e = refl
    go (Some at) e = let hit : list_any (λ n. eqb n at) (stored_of es) ≡ true = gone at ∙ f at e in rw hit refl

pub entry_some : (es : List Entry) (newest : List Slip) (s : Slip) (at : ℕ) (held : List (Option Block)) → AreGone (stored_of es) held → place_in newest s ≡ Some at → is_gone (slice_get held at) ≡ false → entry_at es (place_in newest s) ≡ Stored at ∷ es
entry_some es newest s at held gone e open' = let miss : list_any (λ n. eqb n at) (stored_of es) ≡ false = gone at ∙ open' in ap (entry_at es) e ∙ (rw miss refl)

-- a payload that is held
pub payload : (held : List (Option Block)) (at : ℕ) → at < length held → is_gone (slice_get held at) ≡ false → (b : Block) × (slice_get held at ≡ Some (Some b))
payload [] at low e = absurd (omega (arith, low))
payload (None ∷ held) zero low e = absurd (both_ways _ e refl)
payload (Some b ∷ held) zero low e = (b, refl)
payload (x ∷ held) (suc at) low e = payload held at (omega (arith, low)) e

-- one more place is stored
pub stores : (es : List Entry) (cs : List Clash) (t new : TakenIn) (kept : Option NodeKind) (shut : Bool) (run size at : ℕ) → at < length t.forks.history → world_taken new ≡ world_taken t → IsKept (world_told (told es cs)) t kept shut run size
    → IsKept (world_told (told (Stored at ∷ es) cs)) new kept shut run size
stores es cs t new kept shut run size at low same k =
    let a = k.alike in
    let s = k.sound in
    record {
      alike = record { first = a.first ∙ ap (λ (w : World). w.first) (sym same); limits = a.limits ∙ ap (λ (w : World). w.limits) (sym same); history = a.history ∙ ap (λ (w : World). w.history) (sym same); waiting = a.waiting ∙ ap (λ (w : World). w.waiting) (sym same) };
      kind = k.kind;
      closed = k.closed;
      run_is = k.run_is;
      size_is = k.size_is;
      sound = record {
        history = s.history;
        agreed = s.agreed;
        kind = s.kind;
        stored = ((let e = a.history in omega (arith, low, ap length e)), s.stored);
        distinct = s.distinct;
        apart = s.apart;
        orphans = s.orphans;
        above = s.above;
        rises = s.rises;
      };
    }

-- what is retained, and what is stored of the final path
pub retained_is : (w : World) (f : Forks) (i : Index) → w.history ≡ f.history → AreGone w.stored f.held → IsIndex f i → length f.history - i.stored ≡ retained w
retained_is w f i history gone h =
    let e = h.taken.stored_is in
    let same = filter_same (λ s. not (is_given_up f s)) (λ s. not (is_stored w s)) f.history (λ s k. ap not (sym (stored_alike w f history gone s))) in
    let b = both_counts (is_given_up f) f.history in
    let r : retained w ≡ length (filter (λ s. not (is_given_up f s)) f.history) = ap (λ l. length (filter (λ s. not (is_stored w s)) l)) history ∙ ap length (sym same) in
    omega (arith, e, b, r)

pub finals_is : (w : World) (f : Forks) (i : Index) → w.history ≡ f.history → AreGone w.stored f.held → IsIndex f i → i.stored_finals ≡ stored_finals w
finals_is w f i history gone h =
    h.taken.finals_stored ∙ count_reverse (is_given_up f) (final_ancestry f.history)
    ∙ ap length (filter_same (is_given_up f) (is_stored w) (final_ancestry f.history) (λ s k. sym (stored_alike w f history gone s)))
    ∙ ap (λ l. length (filter (is_stored w) (final_ancestry l))) (sym history)

-- which files may be swept
pub sweep_found : (w : World) (f : Forks) (num at : ℕ) (id : List ℕ) → IsHistory f.history → w.history ≡ f.history → AreGone w.stored f.held → place_of f.history id ≡ Some at → is_gone (slice_get f.held at) ≡ may_sweep w num id
sweep_found w f num at id history same gone e =
    let q = place_slip f.history id at e in
    let stored : has_id (stored_slips w) id ≡ is_gone (slice_get f.held at) =
    ap (λ l. has_id l id) (slips_alike w f same gone) ∙ ap (has_id (at_places (gone_places 0 f.held) f.history)) (sym q.2) ∙ given_up_at f at q.0 history q.1 in
    let there : has_id w.history id ≡ true = ap (λ l. has_id l id) same ∙ sym (is_held f.history id) ∙ ap is_some e in
    let both = in_both w.waiting w.history id there in
    rw (stored, both) (sym (plain (is_gone (slice_get f.held at))))
  where
    plain : (b : Bool) → (b || false) ≡ b
    plain true = refl
    plain false = refl

    in_both : (xs ys : List Slip) (i : List ℕ) → has_id ys i ≡ true → has_id (xs ++ ys) i ≡ true
    in_both [] ys i h = h
    in_both (x ∷ xs) ys i h =
        let ih = in_both xs ys i h in
        let P : Bool → Type 0 = λ b. (b || has_id (xs ++ ys) i) ≡ true in
        elim (same_id x.id i) as P [ true ↦ refl | false ↦ ih ]

pub sweep_lost : (w : World) (f : Forks) (num : ℕ) (id : List ℕ) (waits : Bool) → w.history ≡ f.history → waits ≡ has_id w.waiting id → AreGone w.stored f.held → place_of f.history id ≡ None → (not waits && is_reached (final_tip f.history) num) ≡ may_sweep w num id
sweep_lost w f num id waits same held gone e =
    let lacks : has_id w.history id ≡ false = ap (λ l. has_id l id) same ∙ place_none f.history id e in
    let none : has_id (stored_slips w) id ≡ false = false_from_ne_true _ (λ t.
    let p = has_among (stored_slips w) id t in
    both_ways _ lacks (subst (λ (i : List ℕ). has_id w.history i ≡ true) p.2 (id_there w.history p.0 (at_places_among w.stored w.history p.0 p.1)))) in
    let both : has_id (w.waiting ++ w.history) id ≡ waits = in_first w.waiting w.history id lacks ∙ sym held in
    rw (none, both, same) refl
  where
    in_first : (xs ys : List Slip) (i : List ℕ) → has_id ys i ≡ false → has_id (xs ++ ys) i ≡ has_id xs i
    in_first [] ys i h = h
    in_first (x ∷ xs) ys i h = let ih = in_first xs ys i h in rw ih refl

-- the place of a block whose id is known, by whether the slips are the same
pub place_same : (newest : List Slip) (s t : Slip) (at : ℕ) (same : Bool) → IsHistory newest → place_of newest s.id ≡ Some at → slip_at newest at ≡ Some t → same ≡ same_slip s t → place_in newest s ≡ cond same (Some at) None
place_same newest s t at same history e here test = place_found newest s t at history e here ∙ ap (λ b. cond b (Some at) None) (slip_turn t s ∙ sym test)

-- no place is none
pub none_some : (at : ℕ) → None ≡ Some at → ⊥
none_some at e = grind (arith, e)

-- room for marks stays where as much is left
pub marks_on : (shut : Bool) (t u : TakenIn) (i j : Index) (len capacity len' capacity' : ℕ) → HasMarksLeft shut t i len capacity → len' + length u.forks.history + (capacity + i.stored) ≤ len + length t.forks.history + (capacity' + j.stored) → HasMarksLeft shut u j len' capacity'
marks_on true t u i j len capacity len' capacity' h le = omega (arith, h, le)
marks_on false t u i j len capacity len' capacity' h le = omega (arith, h, le)

-- one more block after those that came to be stored
entries_push : (newest : List Slip) (es : List Entry) (xs : List Slip) (s : Slip) → stored_entries newest es (xs ++ s ∷ []) ≡ entry_at (stored_entries newest es xs) (place_in newest s)
entries_push newest es xs s = entries_twice newest es xs (s ∷ [])

pub entries_next : (es now new : List Entry) (xs : List Slip) (s : Slip) → now ≡ stored_entries (history_of es) es xs → new ≡ entry_at now (place_in (history_of now) s) → new ≡ stored_entries (history_of es) es (xs ++ s ∷ [])
entries_next es now new xs s before one =
    one
    ∙ ap (λ l. entry_at now (place_in l s)) (ap history_of before ∙ entries_history (history_of es) es xs)
    ∙ ap (λ l. entry_at l (place_in (history_of es) s)) before
    ∙ sym (entries_push (history_of es) es xs s)

-- two lists of blocks, each by the history of the entries before it
pub entries_both : (es mid new : List Entry) (xs ys : List Slip) → mid ≡ stored_entries (history_of es) es xs → new ≡ stored_entries (history_of mid) mid ys → new ≡ stored_entries (history_of es) es (xs ++ ys)
entries_both es mid new xs ys first second =
    second
    ∙ ap (λ l. stored_entries l mid ys) (ap history_of first ∙ entries_history (history_of es) es xs)
    ∙ ap (λ l. stored_entries (history_of es) l ys) first
    ∙ sym (entries_twice (history_of es) es xs ys)

-- what is told after a plan was shed
pub shed_told : (old new : Told) (plan : Plan) → new.entries ≡ shed_entries old.entries plan → new.conflicts ≡ old.conflicts → world_told new ≡ shed (world_told old) plan
shed_told old new plan entries conflicts =
    ap (λ (es : List Entry). world_told (told es new.conflicts)) entries
    ∙ ap (λ (w : World). record w { conflicts = new.conflicts }) (shed_world old.entries plan)
    ∙ ap (λ (cs : List Clash). record (shed (world_of old.entries) plan) { conflicts = cs }) conflicts

-- whether a payload is not held
pub gone_none : {X : Type 0} (f : X → Block) (o : Option X) → not (is_some o) ≡ is_gone (Some (option_map f o))
gone_none {X} f None = refl
gone_none {X} f (Some x) = refl

pub other_way : (a b : Bool) → a ≡ not b → b ≡ not a
other_way a true e = ap not (sym e)
other_way a false e = ap not (sym e)

-- what is told after a block came to be stored
pub stored_told : (old new : Told) (s : Slip) → new.entries ≡ entry_at old.entries (place_in (history_of old.entries) s) → new.conflicts ≡ old.conflicts
    → world_told new ≡ record (world_told old) { stored = stored_at (world_told old).stored (place_in (world_told old).history s) }
stored_told old new s entries conflicts =
    ap (λ (es : List Entry). world_told (told es new.conflicts)) entries
    ∙ ap (λ (w : World). record w { conflicts = new.conflicts }) (entry_world old.entries (place_in (history_of old.entries) s))
    ∙ ap (λ (cs : List Clash). record (world_of old.entries) { stored = stored_at (stored_of old.entries) (place_in (history_of old.entries) s); conflicts = cs }) conflicts
