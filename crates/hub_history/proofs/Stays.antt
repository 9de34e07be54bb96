-- What stays of the rule when one seat's view changes.
use Rattle.std.proofs.Common.{◌≡◌, ℕ, zero, suc, ◌+◌, ◌<◌, ◌≤◌, ◌≢◌, ◌⊎◌, Bool, List, [], ◌∷◌, ◌++◌, get_or, set, sym, refl, ap, ◌∙◌, subst, ⊎_elim, inl, inr, arith, le_refl}
use mathlib.Core.Option.{Option, some, some-injective, some-ne-none}
use mathlib.Core.Logic.{dite}
use native.Mathlib.Decide.{ℕ_discrete}
use lib.ListN.{get_elem?}
use lib.Seq.{set-get_or}
use Rattle.atomic_table.specs.Table.{State, keeps, stepped}
use Rattle.atomic_table.proofs.Lists.{at_set, set_else, set_again, at_longer}
use Rattle.hub_history.specs.declared.view.View.{View}
use Rattle.hub_history.specs.declared.view.Stage.{Stage}
use Rattle.hub_history.specs.declared.view.Stage.TheVariants.{Idle, Waits, Runs, Ends}
use Rattle.hub_history.specs.Turns.{FitsStage, HasTicket, AreOut, IsHome, IsOut, KeepsTurns, SeatState}

module _ {A : Type 0} where
  -- the new element stands where the old one did
  pub set_there : (l : List A) (i : ℕ) (a b : A) → get_elem? l i ≡ some a → get_elem? (set l i b) i ≡ some b
  set_there [] i a b e = absurd (some-ne-none a (sym e))
  set_there (x ∷ xs) zero a b e = refl
  set_there (x ∷ xs) (suc i) a b e = set_there xs i a b e

module _ {E : Type 0} where
  -- every seat knows what it should, where one seat changed its view
  pub seats_stay : (K : ℕ → View E → Type 0) (vs : List (View E)) (me : ℕ) (w : View E) → K me w → ((j : ℕ) (v : View E) → j ≢ me → get_elem? vs j ≡ some v → K j v)
      → (j : ℕ) (v : View E) → get_elem? (set vs me w) j ≡ some v → K j v
  seats_stay K vs me w mine others j v e = ⊎_elim (λ (t : (j ≡ me) × (w ≡ v)). subst (λ (x : ℕ × View E). K x.0 x.1) (λ i. (sym t.0 i, t.1 i)) mine)
      (λ (t : (j ≢ me) × (get_elem? vs j ≡ some v)). others j v t.0 t.1) (at_set vs me j w v e)

  -- more tickets are drawn
  pub stands_more : (now : List E) (serving tickets tickets' : ℕ) (owner owner' : ℕ → ℕ) (seat : ℕ) → tickets ≤ tickets' → ((t : ℕ) → t < tickets → owner' t ≡ owner t) → (st : Stage E)
      → FitsStage now serving tickets owner seat st → FitsStage now serving tickets' owner' seat st
  stands_more now serving tickets tickets' owner owner' seat more same Idle k = tt
  stands_more now serving tickets tickets' owner owner' seat more same (Waits t) k = let a = k.1 in (k.0, omega arith, same t a ∙ k.2)
  stands_more now serving tickets tickets' owner owner' seat more same (Runs found) k = let a = k.0 in (omega arith, same serving a ∙ k.1, k.2)
  stands_more now serving tickets tickets' owner owner' seat more same (Ends found) k = let a = k.0 in (omega arith, same serving a ∙ k.1, k.2)

  -- the next ticket is served
  pub stands_next : (now now' : List E) (serving tickets : ℕ) (owner : ℕ → ℕ) (id seat : ℕ) → owner serving ≡ id → seat ≢ id → (st : Stage E)
      → FitsStage now serving tickets owner seat st → FitsStage now' (serving + 1) tickets owner seat st
  stands_next now now' serving tickets owner id seat mine other Idle k = tt
  stands_next now now' serving tickets owner id seat mine other (Waits t) k = let a = k.0 in let b = k.1 in let ne : t ≢ serving = λ e. other (sym k.2 ∙ (ap owner e ∙ mine)) in (omega arith, b, k.2)
  stands_next now now' serving tickets owner id seat mine other (Runs found) k = absurd (other (sym k.1 ∙ mine))
  stands_next now now' serving tickets owner id seat mine other (Ends found) k = absurd (other (sym k.1 ∙ mine))

  -- a stage is known by its ticket
  abbrev pub ticket_of : Stage E → ℕ
  ticket_of Idle = 0
  ticket_of (Waits t) = suc t
  ticket_of (Runs found) = 0
  ticket_of (Ends found) = 0

  abbrev pub is_running : Stage E → ℕ
  is_running Idle = 0
  is_running (Waits t) = 0
  is_running (Runs found) = 1
  is_running (Ends found) = 2

module _ {E : Type 0} where
  pub has_next : (serving t : ℕ) (st : Stage E) → serving + 1 ≤ t → HasTicket serving t st → HasTicket (serving + 1) t st
  has_next serving t Idle le h = h
  has_next serving t (Waits u) le h = h
  has_next serving t (Runs found) le h = absurd (omega arith)
  has_next serving t (Ends found) le h = absurd (omega arith)

  -- the tickets are in the hands that they were in, where one seat changed its view
  pub held_moves : (serving serving' tickets : ℕ) (owner : ℕ → ℕ) (vs : List (View E)) (id : ℕ) (v w : View E) → serving ≤ serving' → get_elem? vs id ≡ some v
      → ((t : ℕ) → serving' ≤ t → HasTicket serving t v.stage → HasTicket serving' t w.stage) → ((t : ℕ) (st : Stage E) → serving' ≤ t → HasTicket serving t st → HasTicket serving' t st)
      → AreOut serving tickets owner vs → AreOut serving' tickets owner (set vs id w)
  held_moves serving serving' tickets owner vs id v w le at mine others held = λ t lo hi.
      let h = held t (omega arith) hi in
      dite (ℕ_discrete (owner t) id)
      (λ e. let same : h.0 ≡ v = some-injective h.0 v (sym h.1 ∙ (ap (get_elem? vs) e ∙ at)) in
      (w, ap (get_elem? (set vs id w)) e ∙ set_there vs id v w at, mine t lo (subst (λ (u : View E). HasTicket serving t u.stage) same h.2)))
      (λ ne. (h.0, set_else vs id (owner t) w ne ∙ h.1, others t h.0.stage lo h.2))

  -- the same where the same ticket is served
  pub held_stays : (serving tickets : ℕ) (owner : ℕ → ℕ) (vs : List (View E)) (id : ℕ) (v w : View E) → get_elem? vs id ≡ some v
      → ((t : ℕ) → HasTicket serving t v.stage → HasTicket serving t w.stage) → AreOut serving tickets owner vs → AreOut serving tickets owner (set vs id w)
  held_stays serving tickets owner vs id v w at mine held = held_moves serving serving tickets owner vs id v w (le_refl serving) at (λ t _. mine t) (λ t st _ h. h) held

module _ {T E : Type 0} where
  -- the seat that has the value has it still, where another changed its view
  pub out_stays : (now : List E) (homes : List (Option (Rattle.std.specs.Prelude.Option T))) (vs : List (View E)) (id : ℕ) (v w : View E) → get_elem? vs id ≡ some v → is_running v.stage ≢ 1
      → IsOut now homes vs → IsOut now homes (set vs id w)
  out_stays now homes vs id v w at idle out =
      let j = out.0 in let u = out.1 in
      let other : j ≢ id = λ e. idle (ap (λ (x : View E). is_running x.stage) (some-injective v u (sym at ∙ (ap (get_elem? vs) (sym e) ∙ out.3))) ∙ ap is_running out.4) in
      (j, u, out.2, set_else vs id j w other ∙ out.3, out.4)

  pub place_stays : (list : T → List E) (now : List E) (homes : List (Option (Rattle.std.specs.Prelude.Option T))) (vs : List (View E)) (id : ℕ) (v w : View E) → get_elem? vs id ≡ some v → is_running v.stage ≢ 1
      → IsHome list now homes ⊎ IsOut now homes vs → IsHome list now homes ⊎ IsOut now homes (set vs id w)
  place_stays list now homes vs id v w at idle place = ⊎_elim (λ h. inl h) (λ o. inr (out_stays now homes vs id v w at idle o)) place

  pub place_longer : (list : T → List E) (now : List E) (homes : List (Option (Rattle.std.specs.Prelude.Option T))) (vs : List (View E)) (w : View E)
      → IsHome list now homes ⊎ IsOut now homes vs → IsHome list now homes ⊎ IsOut now homes (vs ++ w ∷ [])
  place_longer list now homes vs w place = ⊎_elim (λ h. inl h) (λ o. inr (o.0, o.1, o.2, at_longer vs (w ∷ []) o.0 o.1 o.3, o.4)) place

module _ {T E : Type 0} (list : T → List E) (marked : E → Bool) where
  -- a step that changes nothing
  pub unmoved : (s : State (Rattle.std.specs.Prelude.Option T) (View E)) (r : KeepsTurns list marked s) (i id : ℕ) (me : SeatState T E) → get_elem? s.views id ≡ some me.0
      → KeepsTurns list marked (stepped s i (get_or s.words i 0) id me.1 me.0 keeps)
  unmoved s r i id me at = subst (λ (z : List ℕ × List (View E)). KeepsTurns list marked record { words = z.0; homes = s.homes; views = z.1 }) (λ k. (sym (set-get_or s.words i 0) k, sym (set_again s.views id me.0 at) k)) r
