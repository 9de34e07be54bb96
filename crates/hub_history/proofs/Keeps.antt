-- Each step keeps the rule.
use Rattle.std.proofs.Common.{◌≡◌, ℕ, zero, suc, ◌+◌, ◌%◌, ◌^◌, ◌<◌, ◌≤◌, eqb, ◌≢◌, ◌⊎◌, ◌||◌, ◌&&◌, Bool, true, false, cond, List, [], ◌∷◌, length, get_or, set, sym, refl, ap, ◌∙◌, subst, ⊎_elim, inl, inr, arith, mod-eq_of_lt, eq-eqb, ne_eqb, le_refl, zero-le, true≢false}
use mathlib.Core.Logic.{dite}
use mathlib.Core.Path.{Path}
use mathlib.Core.Option.{Option, none, some, some-injective, some-ne-none}
use mathlib.Core.List.{IsPrefix}
use native.Mathlib.Decide.{ℕ_discrete}
use prog.Atomic.{either}
use lib.ListN.{get_elem?}
use lib.Seq.{set-get_or}
use Rattle.std.specs.Prelude.{Option as Maybe, Some}
use Rattle.atomic_table.specs.Table.{State, Act, step, keeps, takes, gives, Valid, carried_after, stepped, Allows, Splits, Joins, Final, Seen, opening, put_back, rest}
use Rattle.atomic_table.proofs.Lists.{at_snoc, at_longer, set_else, exchanged}
use Rattle.hub_history.specs.Chronicles.{Covers}
use Rattle.hub_history.specs.declared.view.View.{View}
use Rattle.hub_history.specs.declared.view.Stage.{Stage}
use Rattle.hub_history.specs.declared.view.Stage.TheVariants.{Idle, Waits, Runs, Ends}
use Rattle.hub_history.specs.Turns.{FitsStage, HasTicket, FitsSeat, IsHome, IsOut, KeepsTurns, SeatState, drawn_by, with_stage, with_ticket, with_over, given_view, opening_view, new_view, shared_view, joined_view, spent_view}
use Rattle.hub_history.specs.Tells.{Draws, Learns, Finds, Takes, Arrives, Raises}
use Rattle.hub_history.proofs.DrawnFacts.{drawn_same, drawn_more, drawn_longer, drawn_joined, drawn_at_most, drawn_alone, sole_stays, sole_longer}
use Rattle.hub_history.proofs.Prefixes.{prefix_self, prefix_trans, prefix_shorter, longer_is, covers_self, covers_trans, covers_later}
use Rattle.hub_history.proofs.Stays.{set_there, seats_stay, has_next, held_moves, held_stays, stands_more, stands_next, ticket_of, is_running, place_stays, place_longer, unmoved}

not_over : (b : Bool) → ¬ (b ≡ true) → b ≡ false
not_over true n = absurd (n refl)
not_over false n = refl

-- the slot that was taken comes back
homes_back : {T : Type 0} (homes : List (Option (Maybe T))) (c : List (ℕ × Maybe T)) (x : T) → length homes ≡ 1 → c ≡ (0, Some x) ∷ [] → put_back homes c ≡ some (Some x) ∷ []
homes_back [] c x e has = absurd (omega arith)
homes_back (h ∷ []) c x e has = ap (λ z. put_back (h ∷ []) z) has
homes_back (h ∷ i ∷ hs) c x e has = absurd (omega arith)

one_item : {T : Type 0} (c : List (ℕ × Maybe T)) (x y : T) → c ≡ (0, Some x) ∷ [] → c ≡ (0, Some y) ∷ [] → x ≡ y
one_item {T} c x y e f = let p : Path (ℕ × Maybe T) (0, Some x) (0, Some y) = cc (e, f) in let q : Path (Maybe T) (Some x) (Some y) = ap (λ z. z.1) p in cc q

either_over : (a b : Bool) (P : Type 0) → (a ≡ true → P) → (b ≡ true → P) → (a || b) ≡ true → P
either_over true b P f g e = f refl
either_over false b P f g e = g e

-- of two seats one at most is the leader
not_both : (a b : Bool) (id other leader : ℕ) → ¬ (other ≡ id) → (a ≡ true → id ≡ leader) → (b ≡ true → other ≡ leader) → (a && b) ≡ false
not_both false b id other leader apart f g = refl
not_both true false id other leader apart f g = refl
not_both true true id other leader apart f g = absurd (apart (g refl ∙ sym (f refl)))

-- where two facts are not both so, and the first is, the second is not
pub second_not : (a b : Bool) → (a && b) ≡ false → a ≡ true → b ≡ false
second_not true b e first = e
second_not false b e first = absurd (true≢false (sym first))

only_zero : {A : Type 0} (j : ℕ) (a b : A) → get_elem? (a ∷ []) j ≡ some b → j ≡ 0
only_zero zero a b e = refl
only_zero (suc j) a b e = absurd (some-ne-none b (sym e))

lead_same : (i id other leader : ℕ) (b : Bool) → (b ≡ true → other ≡ leader) → i ≢ other → i ≡ leader → i ≡ cond b id leader
lead_same i id other leader true f far is = absurd (far (is ∙ sym (f refl)))
lead_same i id other leader false f far is = is

-- what was found when the seat waited was found by the seat that it was before
pub finds_before : {E : Type 0} (marked : E → Bool) (v w : View E) (t : ℕ) (found l : List E) → w ≡ with_ticket t v → found ≡ l → Finds marked w found → Finds marked v l
finds_before marked v w t found l is same f = let g : Finds marked (with_ticket t v) found = subst (λ u. Finds marked u found) is f in let h : Finds marked v found = g in subst (Finds marked v) same h

-- an idle seat has no ticket
idle_hand : {E : Type 0} (v : View E) (serving t : ℕ) (P : Type 0) → v.stage ≡ Idle → HasTicket serving t v.stage → P
idle_hand v serving t P e h = let none : ⊥ = subst (HasTicket serving t) e h in absurd none

module _ {T E : Type 0} (list : T → List E) (marked : E → Bool) where
  abbrev St : Type 0
  St = State (Maybe T) (View E)

  abbrev Rule : St → Type 0
  Rule = KeepsTurns list marked

  abbrev Goes : St → ℕ → ℕ → SeatState T E → (ℕ → SeatState T E → Type 0) → ℕ → Type 0
  Goes s i id me then n = (w : View E) × (a : Act (Maybe T)) × Valid s.homes me.1 a × Rule (stepped s i n id me.1 w a) × then (get_or s.words i 0) (w, carried_after me.1 a)

  abbrev FitsIn : (s : St) → Rule s → ℕ → View E → Type 0
  FitsIn s r = FitsSeat marked r.now r.serving r.tickets r.owner r.leader

  lead_both : (now xs ys both : List E) (id other leader : ℕ) (a b : Bool) → IsPrefix both now → (a ≡ true → (id ≡ leader) × Covers marked both now) → (b ≡ true → Covers marked both now)
      → (a || b) ≡ true → (id ≡ cond b id leader) × Covers marked both now
  lead_both now xs ys both id other leader a true p f g e = (refl, g refl)
  lead_both now xs ys both id other leader true false p f g e = f refl
  lead_both now xs ys both id other leader false false p f g e = absurd (true≢false (sym e))

  -- nothing changes
  stands : (s : St) (r : Rule s) (i id : ℕ) (me : SeatState T E) (then : ℕ → SeatState T E → Type 0) → get_elem? s.views id ≡ some me.0 → then (get_or s.words i 0) me → Goes s i id me then (get_or s.words i 0)
  stands s r i id me then at told = (me.0, keeps, tt, unmoved list marked s r i id me at, told)

  -- a view keeps what it knows where only its stage changes
  restaged : (now : List E) (serving tickets : ℕ) (owner : ℕ → ℕ) (leader id : ℕ) (v : View E) (st : Stage E) → FitsSeat marked now serving tickets owner leader id v → FitsStage now serving tickets owner id st
      → FitsSeat marked now serving tickets owner leader id (with_stage st v)
  restaged now serving tickets owner leader id v st k s = record { stands = s; seen = k.seen; first_old = k.first_old; second_old = k.second_old; longest = k.longest; leads = k.leads; one_led = k.one_led; over = k.over }

  -- a ticket is drawn
  drawn : (s : St) (r : Rule s) (id old : ℕ) (me : SeatState T E) → get_elem? s.views id ≡ some me.0 → me.0.stage ≡ Idle → r.tickets ≡ old → old < 2 ^ 62 → Rule (stepped s 1 (old + 1) id me.1 (with_ticket old me.0) keeps)
  drawn s r id old me at idle is small =
      let le : r.serving ≤ r.tickets = r.order in
      let owner : ℕ → ℕ = λ t. cond (eqb t old) id (r.owner t) in
      let same : (t : ℕ) → t < r.tickets → owner t ≡ r.owner t = λ t lt. let ne : ¬ (t ≡ old) = λ e. omega arith in ap (λ b. cond b id (r.owner t)) (ne_eqb t old ne) in
      let more : (j : ℕ) (v : View E) → FitsIn s r j v → (st : Stage E) → FitsStage r.now r.serving (old + 1) owner j st → FitsSeat marked r.now r.serving (old + 1) owner r.leader j (with_stage st v) =
      λ j v k st stands. record { stands = stands; seen = k.seen; first_old = k.first_old; second_old = k.second_old; longest = k.longest; leads = k.leads; one_led = k.one_led; over = λ o. let full = k.over o in absurd (omega arith) } in
      let drew : (v : View E) → FitsIn s r id v → FitsStage r.now r.serving (old + 1) owner id (Waits old) → FitsSeat marked r.now r.serving (old + 1) owner r.leader id (with_ticket old v) =
      λ v k stands. let m = more id v k (Waits old) stands in record { stands = m.stands; seen = m.seen; first_old = m.first_old; second_old = m.second_old; longest = m.longest; leads = m.leads; one_led = m.one_led; over = m.over } in
      record {
        serving = r.serving;
        tickets = old + 1;
        now = r.now;
        owner = owner;
        leader = r.leader;
        words_are = ap (λ ws. set ws 1 (old + 1)) r.words_are;
        order = omega arith;
        limit = omega arith;
        counted = let more : drawn_by s.views + 1 ≡ drawn_by (set s.views id (with_ticket old me.0)) = drawn_more s.views id me.0 (with_ticket old me.0) at refl in omega (arith, more, r.counted, is);
        alone = sole_stays s.views id me.0 (with_ticket old me.0) at (λ sole. sole) r.alone;
        place = place_stays list r.now s.homes s.views id me.0 _ at (λ e. let z : 0 ≡ is_running me.0.stage = ap is_running (sym idle) in omega arith) r.place;
        held = λ t lo hi. dite (ℕ_discrete t old)
            (λ e. (with_ticket old me.0, ap (get_elem? (set s.views id (with_ticket old me.0))) (ap (λ b. cond b id (r.owner t)) (eq-eqb t old e)) ∙ set_there s.views id me.0 (with_ticket old me.0) at, sym e))
            (λ ne. let h = held_stays r.serving r.tickets r.owner s.views id me.0 (with_ticket old me.0) at (λ u h. idle_hand me.0 r.serving u (old ≡ u) idle h) r.held t lo (omega arith) in
            (h.0, ap (get_elem? (set s.views id (with_ticket old me.0))) (same t (omega arith)) ∙ h.1, h.2));
        each_seat = seats_stay (FitsSeat marked r.now r.serving (old + 1) owner r.leader) s.views id (with_ticket old me.0)
            (drew me.0 (r.each_seat id me.0 at) (omega arith, omega arith, ap (λ b. cond b id (r.owner old)) (eq-eqb old old refl)))
            (λ j v _ e. let k = r.each_seat j v e in more j v k v.stage (stands_more r.now r.serving r.tickets (old + 1) r.owner owner j (omega arith) same v.stage k.stands));
      }

  -- all tickets were drawn, and the seat knows it
  filled : (s : St) (r : Rule s) (id : ℕ) (me : SeatState T E) → get_elem? s.views id ≡ some me.0 → me.0.stage ≡ Idle → r.tickets ≡ 2 ^ 62 → Rule record { words = s.words; homes = s.homes; views = set s.views id (with_over me.0) }
  filled s r id me at idle full = record {
    serving = r.serving;
    tickets = r.tickets;
    now = r.now;
    owner = r.owner;
    leader = r.leader;
    words_are = r.words_are;
    order = r.order;
    limit = r.limit;
    counted = r.counted ∙ drawn_same s.views id me.0 (with_over me.0) at refl;
    alone = sole_stays s.views id me.0 (with_over me.0) at (λ sole. sole) r.alone;
    place = place_stays list r.now s.homes s.views id me.0 _ at (λ e. let z : 0 ≡ is_running me.0.stage = ap is_running (sym idle) in omega arith) r.place;
    held = held_stays r.serving r.tickets r.owner s.views id me.0 (with_over me.0) at (λ t h. h) r.held;
    each_seat = seats_stay (FitsIn s r) s.views id (with_over me.0)
        (let k = r.each_seat id me.0 at in record { stands = k.stands; seen = k.seen; first_old = k.first_old; second_old = k.second_old; longest = k.longest; leads = k.leads; one_led = k.one_led; over = λ _. full })
        (λ j v _ e. r.each_seat j v e);
  }

  pub draws : (slots id old : ℕ) (me : SeatState T E) → old < 2 ^ 62 → me.0.stage ≡ Idle → Allows Rule slots id me 1 (λ n. either (eqb n old) (old + 1) n) (Draws (step slots 1 old (old + 1) none) me)
  draws slots id old me small idle s r _ at _ =
      let n : ℕ = get_or s.words 1 0 in let is : n ≡ r.tickets = ap (λ ws. get_or ws 1 0) r.words_are in let limit : r.tickets ≤ 2 ^ 62 = r.limit in
      let told = Draws (step slots 1 old (old + 1) none) me in
      let some_drawn : me.0.drawn ≤ r.tickets = let m = drawn_at_most s.views id me.0 at in omega (arith, m, r.counted) in
      exchanged n old (old + 1) (Goes s 1 id me told)
      (λ hit. let full : me.0.over ≡ true → n ≡ 2 ^ 62 = λ o. is ∙ (r.each_seat id me.0 at).over o in (
        with_ticket old me.0,
        keeps,
        tt,
        drawn s r id old me at idle (sym is ∙ hit) small,
        (refl, omega arith, (λ _. (ap (λ t. with_ticket t me.0) (sym hit), not_over me.0.over (λ o. let f = full o in omega arith), omega (arith, some_drawn, is, hit, small))), λ miss. absurd (miss hit)),
      ))
      (λ miss. dite (ℕ_discrete n (2 ^ 62))
      (λ full. (
        with_over me.0,
        keeps,
        tt,
        subst (λ (ws : List ℕ). Rule record { words = ws; homes = s.homes; views = set s.views id (with_over me.0) }) (sym (set-get_or s.words 1 0)) (filled s r id me at idle (sym is ∙ full)),
        (refl, omega arith, (λ hit. absurd (miss hit)), λ _. ((λ _. (refl, λ sole. drawn_alone s.views id me.0 at (r.alone id me.0 at sole) ∙ (sym r.counted ∙ (sym is ∙ full)))), λ more. absurd (more full))),
      ))
      (λ more. stands s r 1 id me told at (refl, omega arith, (λ hit. absurd (miss hit)), λ _. ((λ full. absurd (more full)), λ _. refl))))

  pub learns : (slots id : ℕ) (me : SeatState T E) → Allows Rule slots id me 0 (λ n. n) (Learns (step slots 0 0 0 none) me)
  learns slots id me s r _ at _ = let k = r.each_seat id me.0 at in
      stands s r 0 id me (Learns (step slots 0 0 0 none) me) at (refl, prefix_shorter me.0.first_old me.0.seen r.now k.first_old k.seen k.longest.0, prefix_shorter me.0.second_old me.0.seen r.now k.second_old k.seen k.longest.1, k.one_led)

  -- the seat whose ticket is served finds the value at home
  at_home : (s : St) (r : Rule s) (id : ℕ) (me : SeatState T E) → get_elem? s.views id ≡ some me.0 → me.0.stage ≡ Waits r.serving → IsHome list r.now s.homes
  at_home s r id me at waits = ⊎_elim (λ h. h)
      (λ o. let j : ℕ = o.0 in let v : View E = o.1 in
      let mine : FitsStage r.now r.serving r.tickets r.owner id (Waits r.serving) = subst (FitsStage r.now r.serving r.tickets r.owner id) waits (r.each_seat id me.0 at).stands in
      let its : FitsStage r.now r.serving r.tickets r.owner j (Runs r.now) = subst (FitsStage r.now r.serving r.tickets r.owner j) o.4 (r.each_seat j v o.3).stands in
      let same : me.0 ≡ v = some-injective me.0 v (sym at ∙ (ap (get_elem? s.views) (sym mine.2 ∙ its.1) ∙ o.3)) in
      let clash : 0 ≡ 1 = ap is_running (sym waits) ∙ (ap (λ (x : View E). is_running x.stage) same ∙ ap is_running o.4) in absurd (omega arith))
      r.place

  -- a seat in turn knows what it finds
  finds : (s : St) (r : Rule s) (id : ℕ) (v : View E) (found : List E) → get_elem? s.views id ≡ some v → found ≡ r.now → Finds marked v found
  finds s r id v found at is = let k = r.each_seat id v at in (subst (IsPrefix v.seen) (sym is) k.seen, λ l. subst (Covers marked v.seen) (sym is) (k.leads l).1)

  -- the view takes a stage in turn, and the slot is as it may be
  turned : (s : St) (r : Rule s) (id : ℕ) (me : SeatState T E) (homes : List (Option (Maybe T))) (st : Stage E) → get_elem? s.views id ≡ some me.0 → ((t : ℕ) → HasTicket r.serving t me.0.stage → HasTicket r.serving t st) → FitsStage r.now r.serving r.tickets r.owner id st
      → IsHome list r.now homes ⊎ IsOut r.now homes (set s.views id (with_stage st me.0)) → Rule record { words = s.words; homes = homes; views = set s.views id (with_stage st me.0) }
  turned s r id me homes st at hand may place = record {
    serving = r.serving;
    tickets = r.tickets;
    now = r.now;
    owner = r.owner;
    leader = r.leader;
    words_are = r.words_are;
    order = r.order;
    limit = r.limit;
    counted = r.counted ∙ drawn_same s.views id me.0 (with_stage st me.0) at refl;
    alone = sole_stays s.views id me.0 (with_stage st me.0) at (λ sole. sole) r.alone;
    place = place;
    held = held_stays r.serving r.tickets r.owner s.views id me.0 (with_stage st me.0) at hand r.held;
    each_seat = seats_stay (FitsIn s r) s.views id (with_stage st me.0) (restaged r.now r.serving r.tickets r.owner r.leader id me.0 st (r.each_seat id me.0 at) may) (λ j v _ e. r.each_seat j v e);
  }

  pub takes_turn : (slots id ticket : ℕ) (me : SeatState T E) → me.0.stage ≡ Waits ticket → Allows Rule slots id me 0 (λ n. n) (Takes list marked (step slots 0 0 0 none) me)
  takes_turn slots id ticket me waits s r _ at _ =
      let n : ℕ = get_or s.words 0 0 in let is : n ≡ r.serving = ap (λ ws. get_or ws 0 0) r.words_are in
      let told = Takes list marked (step slots 0 0 0 none) me in
      let one : (t : ℕ) → me.0.stage ≡ Waits t → t ≡ ticket = λ t e. let p : suc t ≡ suc ticket = ap ticket_of (sym e ∙ waits) in omega arith in
      dite (ℕ_discrete n ticket)
      (λ hit.
      let now : me.0.stage ≡ Waits r.serving = waits ∙ ap Waits (sym hit ∙ is) in
      let h = at_home s r id me at now in let x : T = h.0 in
      let may : FitsStage r.now r.serving r.tickets r.owner id (Waits r.serving) = subst (FitsStage r.now r.serving r.tickets r.owner id) now (r.each_seat id me.0 at).stands in
      let w : View E = with_stage (Runs (list x)) me.0 in (
        w,
        takes 0 (Some x),
        ap (λ hs. get_elem? hs 0) h.1,
        subst (λ (ws : List ℕ). Rule record { words = ws; homes = set s.homes 0 none; views = set s.views id w }) (sym (set-get_or s.words 0 0))
            (turned s r id me (set s.homes 0 none) (Runs (list x)) at (λ u h. let e : r.serving ≡ u = subst (HasTicket r.serving u) now h in sym e) (may.1, may.2, h.2)
            (inr (id, w, ap (λ hs. set hs 0 none) h.1, set_there s.views id me.0 w at, ap Runs h.2))),
        λ t e. ((λ _. (x, refl, refl, finds s r id me.0 (list x) at h.2)), λ miss. absurd (miss (hit ∙ sym (one t e)))),
      ))
      (λ miss. stands s r 0 id me told at (λ t e. ((λ hit. absurd (miss (hit ∙ one t e))), λ _. refl)))

  pub arrives : (slots id ticket : ℕ) (me : SeatState T E) → me.0.stage ≡ Waits ticket → Allows Rule slots id me 0 (λ n. n) (Arrives list marked (step slots 0 0 0 none) me)
  arrives slots id ticket me waits s r _ at _ =
      let n : ℕ = get_or s.words 0 0 in let is : n ≡ r.serving = ap (λ ws. get_or ws 0 0) r.words_are in
      let told = Arrives list marked (step slots 0 0 0 none) me in
      let one : (t : ℕ) → me.0.stage ≡ Waits t → t ≡ ticket = λ t e. let p : suc t ≡ suc ticket = ap ticket_of (sym e ∙ waits) in omega arith in
      dite (ℕ_discrete n ticket)
      (λ hit.
      let now : me.0.stage ≡ Waits r.serving = waits ∙ ap Waits (sym hit ∙ is) in
      let h = at_home s r id me at now in
      let may : FitsStage r.now r.serving r.tickets r.owner id (Waits r.serving) = subst (FitsStage r.now r.serving r.tickets r.owner id) now (r.each_seat id me.0 at).stands in
      let w : View E = with_stage (Ends r.now) me.0 in (
        w,
        keeps,
        tt,
        subst (λ (ws : List ℕ). Rule record { words = ws; homes = s.homes; views = set s.views id w }) (sym (set-get_or s.words 0 0))
            (turned s r id me s.homes (Ends r.now) at (λ u h. let e : r.serving ≡ u = subst (HasTicket r.serving u) now h in sym e) (may.1, may.2, refl) (inl h)),
        λ t e. ((λ _. (r.now, refl, refl, finds s r id me.0 r.now at refl)), λ miss. absurd (miss (hit ∙ sym (one t e)))),
      ))
      (λ miss. stands s r 0 id me told at (λ t e. ((λ hit. absurd (miss (hit ∙ one t e))), λ _. refl)))

  -- the seat that runs has the value, so the slot is empty
  slot_out : (s : St) (r : Rule s) (id : ℕ) (me : SeatState T E) {found : List E} → get_elem? s.views id ≡ some me.0 → me.0.stage ≡ Runs found → length s.homes ≡ 1
  slot_out s r id me at runs = ⊎_elim (λ h. ap length h.1) (λ o. ap length o.2) r.place

  pub raises : (slots id : ℕ) (me : SeatState T E) (found : List E) (x : T) → me.0.stage ≡ Runs found → me.1 ≡ (0, Some x) ∷ [] → IsPrefix found (list x) → (me.0.leads ≡ true) ⊎ Covers marked found (list x)
      → Allows Rule slots id me 0 (λ n. (n + 1) % 2 ^ 64) (Raises list marked (step slots 0 1 0 none) me)
  raises slots id me found x runs has grows marks s r _ at _ =
      let n : ℕ = get_or s.words 0 0 in let is : n ≡ r.serving = ap (λ ws. get_or ws 0 0) r.words_are in
      let k = r.each_seat id me.0 at in
      let may : FitsStage r.now r.serving r.tickets r.owner id (Runs found) = subst (FitsStage r.now r.serving r.tickets r.owner id) runs k.stands in
      let below : r.serving < r.tickets = may.0 in let limit : r.tickets ≤ 2 ^ 62 = r.limit in
      let fits : (n + 1) % 2 ^ 64 ≡ r.serving + 1 = mod-eq_of_lt (omega arith) ∙ ap (λ (z : ℕ). z + 1) is in
      let on : IsPrefix r.now (list x) = subst (λ l. IsPrefix l (list x)) may.2 grows in
      let w : View E = given_view (list x) me.0 in
      let later : (v : View E) → IsPrefix v.seen r.now → IsPrefix v.seen (list x) = λ v p. prefix_trans v.seen r.now (list x) p on in (
        w,
        gives,
        tt,
        record {
          serving = r.serving + 1;
          tickets = r.tickets;
          now = list x;
          owner = r.owner;
          leader = r.leader;
          words_are = ap (λ z. set s.words 0 z) fits ∙ ap (λ ws. set ws 0 (r.serving + 1)) r.words_are;
          order = omega arith;
          limit = r.limit;
          counted = r.counted ∙ drawn_same s.views id me.0 w at refl;
          alone = sole_stays s.views id me.0 w at (λ sole. sole) r.alone;
          place = inl (x, homes_back s.homes me.1 x (slot_out s r id me at runs) has, refl);
          held = held_moves r.serving (r.serving + 1) r.tickets r.owner s.views id me.0 w (omega arith) at
              (λ t lo h. let e : t ≡ r.serving = subst (HasTicket r.serving t) runs h in absurd (omega arith)) (λ t st lo h. has_next r.serving t st lo h) r.held;
          each_seat = seats_stay (FitsSeat marked (list x) (r.serving + 1) r.tickets r.owner r.leader) s.views id w
              record { stands = tt; seen = prefix_self (list x); first_old = (list x, refl); second_old = (list x, refl); longest = (zero-le, zero-le); leads = λ l. ((k.leads l).0, covers_self marked (list x)); one_led = refl; over = k.over }
              (λ j v other e. let q = r.each_seat j v e in record {
                stands = stands_next r.now (list x) r.serving r.tickets r.owner id j may.1 other v.stage q.stands;
                seen = later v q.seen;
                first_old = prefix_trans v.first_old r.now (list x) q.first_old on;
                second_old = prefix_trans v.second_old r.now (list x) q.second_old on;
                longest = q.longest;
                leads = λ l. (
                  (q.leads l).0,
                  ⊎_elim (λ mine. absurd (other ((q.leads l).0 ∙ sym (k.leads mine).0)))
                      (λ c. covers_trans marked v.seen r.now (list x) (q.leads l).1 (subst (λ z. Covers marked z (list x)) may.2 c)) marks,
                );
                one_led = q.one_led;
                over = q.over;
              });
        },
        λ y e. let same : x ≡ y = one_item me.1 x y has e in ((λ i. given_view (list (same i)) me.0), ap rest has),
      )

  -- a new seat with an idle view
  pub splits : (id : ℕ) (v : View E) → v.stage ≡ Idle → Splits Rule id v (shared_view v) (new_view v)
  splits id v idle s r at =
      let k = r.each_seat id v at in let left : View E = shared_view v in
      let mine : FitsIn s r id left = record { stands = k.stands; seen = k.seen; first_old = k.first_old; second_old = k.second_old; longest = k.longest; leads = k.leads; one_led = k.one_led; over = k.over } in
      let fresh : (j : ℕ) → FitsIn s r j (new_view v) =
      λ j. record { stands = tt; seen = k.seen; first_old = (r.now, refl); second_old = (r.now, refl); longest = (zero-le, zero-le); leads = λ l. absurd (true≢false (sym l)); one_led = refl; over = k.over } in
      let no_run : is_running v.stage ≢ 1 = λ z. let y : 0 ≡ is_running v.stage = ap is_running (sym idle) in omega arith in
      record {
        serving = r.serving;
        tickets = r.tickets;
        now = r.now;
        owner = r.owner;
        leader = r.leader;
        words_are = r.words_are;
        order = r.order;
        limit = r.limit;
        counted = r.counted ∙ (drawn_same s.views id v left at refl ∙ drawn_longer (set s.views id left) (new_view v) refl);
        alone = sole_longer (set s.views id left) id left (new_view v) (set_there s.views id v left at) refl refl (sole_stays s.views id v left at (λ sole. absurd (true≢false (sym sole))) r.alone);
        place = place_longer list r.now s.homes (set s.views id left) (new_view v) (place_stays list r.now s.homes s.views id v left at no_run r.place);
        held = λ t lo hi. let h = held_stays r.serving r.tickets r.owner s.views id v left at (λ u h. h) r.held t lo hi in (h.0, at_longer (set s.views id left) (new_view v ∷ []) (r.owner t) h.0 h.1, h.2);
        each_seat = λ j u e. ⊎_elim (seats_stay (FitsIn s r) s.views id left mine (λ i x _ ex. r.each_seat i x ex) j u) (λ (is : new_view v ≡ u). subst (FitsIn s r j) is (fresh j))
            (at_snoc (set s.views id left) (new_view v) u j e);
      }

  pub joins : (id : ℕ) (v : View E) (other : ℕ) (w : View E) → v.stage ≡ Idle → w.stage ≡ Idle → Joins Rule id v other w (joined_view v w) spent_view
  joins id v other w idle idle' s r at apart at' =
      let b : View E = joined_view v w in
      let at_other : get_elem? s.views other ≡ some w = sym (set_else s.views id other b apart) ∙ at' in
      let k = r.each_seat id v at in let q = r.each_seat other w at_other in
      let leader : ℕ = cond w.leads id r.leader in
      let longest : (length v.seen ≤ length b.seen) × (length w.seen ≤ length b.seen) × IsPrefix b.seen r.now =
      longer_is v.seen w.seen (λ l. (length v.seen ≤ length l) × (length w.seen ≤ length l) × IsPrefix l r.now) (λ lt. (omega arith, le_refl (length w.seen), q.seen)) (λ le. (le_refl (length v.seen), le, k.seen)) in
      let K = FitsSeat marked r.now r.serving r.tickets r.owner leader in
      let no_run : (u : View E) → u.stage ≡ Idle → is_running u.stage ≢ 1 = λ u e z. let y : 0 ≡ is_running u.stage = ap is_running (sym e) in omega arith in
      let mine : K id b = record {
        stands = subst (FitsStage r.now r.serving r.tickets r.owner id) (sym idle) tt;
        seen = longest.2;
        first_old = k.seen;
        second_old = q.seen;
        longest = (longest.0, longest.1);
        leads = lead_both r.now v.seen w.seen b.seen id other r.leader v.leads w.leads longest.2
            (λ l. ((k.leads l).0, covers_later marked v.seen b.seen r.now (k.leads l).1 (prefix_shorter v.seen b.seen r.now k.seen longest.2 longest.0) longest.2))
            (λ l. covers_later marked w.seen b.seen r.now (q.leads l).1 (prefix_shorter w.seen b.seen r.now q.seen longest.2 longest.1) longest.2);
        one_led = not_both v.leads w.leads id other r.leader apart (λ l. (k.leads l).0) (λ l. (q.leads l).0);
        over = either_over v.over w.over _ k.over q.over;
      } in
      record {
        serving = r.serving;
        tickets = r.tickets;
        now = r.now;
        owner = r.owner;
        leader = leader;
        words_are = r.words_are;
        order = r.order;
        limit = r.limit;
        counted = r.counted ∙ drawn_joined s.views id other v w b spent_view at at' refl refl;
        alone = sole_stays (set s.views id b) other w spent_view at' (λ sole. absurd (true≢false (sym sole))) (sole_stays s.views id v b at (λ sole. absurd (true≢false (sym sole))) r.alone);
        place = place_stays list r.now s.homes (set s.views id b) other w spent_view at' (no_run w idle') (place_stays list r.now s.homes s.views id v b at (no_run v idle) r.place);
        held = held_stays r.serving r.tickets r.owner (set s.views id b) other w spent_view at' (λ t h. idle_hand w r.serving t ⊥ idle' h)
            (held_stays r.serving r.tickets r.owner s.views id v b at (λ t h. h) r.held);
        each_seat = seats_stay K (set s.views id b) other spent_view
            record { stands = tt; seen = (r.now, refl); first_old = (r.now, refl); second_old = (r.now, refl); longest = (zero-le, zero-le); leads = λ l. absurd (true≢false (sym l)); one_led = refl; over = λ l. absurd (true≢false (sym l)) }
            (λ j u ne e. seats_stay (λ i x. i ≢ other → K i x) s.views id b (λ _. mine)
            (λ i x off ex far. let p = r.each_seat i x ex in record {
              stands = p.stands;
              seen = p.seen;
              first_old = p.first_old;
              second_old = p.second_old;
              longest = p.longest;
              one_led = p.one_led;
              over = p.over;
              leads = λ l. (lead_same i id other r.leader w.leads (λ c. (q.leads c).0) far (p.leads l).0, (p.leads l).1);
            }) j u e ne);
      }

  pub starts : (x : T) → Rule (opening (0 ∷ 0 ∷ []) (Some x ∷ []) (opening_view (list x)))
  starts x = record {
    serving = 0;
    tickets = 0;
    now = list x;
    owner = λ _. 0;
    leader = 0;
    words_are = refl;
    order = le_refl 0;
    limit = zero-le;
    counted = refl;
    alone = λ j v e sole. refl;
    place = inl (x, refl, refl);
    held = λ t lo hi. absurd (omega arith);
    each_seat = λ j v e. ⊎_elim (λ (none : get_elem? [] j ≡ some v). absurd (some-ne-none v (sym none)))
        (λ (is : opening_view (list x) ≡ v). subst (FitsSeat marked (list x) 0 0 (λ _. 0) 0 j) is
        record { stands = tt; seen = prefix_self (list x); first_old = (list x, refl); second_old = (list x, refl); longest = (zero-le, zero-le); leads = λ _. (only_zero j (opening_view (list x)) v e, covers_self marked (list x)); one_led = refl; over = λ l. absurd (true≢false (sym l)) })
        (at_snoc [] (opening_view (list x)) v j e);
  }

  -- a seat that leaves the value at home keeps it there
  pub closes : (ws : List ℕ) (xs : List (Maybe T)) (id : ℕ) (v : View E) (found : List E) → v.stage ≡ Ends found → Final (Seen Rule id v) ws xs → (x : T) × (get_elem? xs 0 ≡ some (Some x)) × (list x ≡ found)
  closes ws xs id v found arrives last =
      let s = last.0 in let r = last.1.0 in let at = last.1.1 in
      let mine : FitsStage r.now r.serving r.tickets r.owner id (Ends found) = subst (FitsStage r.now r.serving r.tickets r.owner id) arrives (r.each_seat id v at).stands in
      let home : IsHome list r.now s.homes = ⊎_elim (λ h. h)
      (λ o. let j : ℕ = o.0 in let u : View E = o.1 in
      let its : FitsStage r.now r.serving r.tickets r.owner j (Runs r.now) = subst (FitsStage r.now r.serving r.tickets r.owner j) o.4 (r.each_seat j u o.3).stands in
      let same : v ≡ u = some-injective v u (sym at ∙ (ap (get_elem? s.views) (sym mine.1 ∙ its.1) ∙ o.3)) in
      let clash : 2 ≡ 1 = ap is_running (sym arrives) ∙ (ap (λ (x : View E). is_running x.stage) same ∙ ap is_running o.4) in absurd (omega arith))
      r.place in
      (home.0, last.4 0 (Some home.0) (ap (λ hs. get_elem? hs 0) home.1), home.2 ∙ sym mine.2)

  -- what the last turn takes out is what the seat found
  pub last_finds : (ws : List ℕ) (xs : List (Maybe T)) (id t : ℕ) (v w u : View E) (found : List E) (y : T) → v.stage ≡ Ends found → Final (Seen Rule id v) ws xs → get_elem? xs 0 ≡ some (Some y)
      → w ≡ with_ticket t u → Finds marked w found → Finds marked u (list y)
  last_finds ws xs id t v w u found y ended last there waits finds =
      let x = closes ws xs id v found ended last in
      let same = some-injective _ _ (sym there ∙ x.1) in
      let is : x.0 ≡ y = cc same in
      finds_before marked u w t found (list y) waits (sym x.2 ∙ ap list is) finds
