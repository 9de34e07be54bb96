-- What the rule that decides an offer tells of the block.
use Rattle.std.proofs.Common.{arith, ◌≡◌, ◌≤◌, ◌<◌, ◌⊎◌, inl, inr, leb, List, [], ◌∷◌, ◌++◌, Option, Some, None, refl, ltb}
use Rattle.std.proofs.lemmas.Bool.{cases_Bool, leb-false, ltb-false}
use Rattle.block_record.specs.declared.blocks.Kind.{Kind}
use Rattle.block_record.specs.declared.blocks.Slip.{Slip}
use Rattle.chain_model.specs.Ancestry.{find_id}
use Rattle.chain_model.specs.Finality.{root_num}
use Rattle.relay_model.specs.declared.answers.Conflict.{Conflict as Clash}
use Rattle.relay_model.specs.Worlds.{World}
use Rattle.relay_model.specs.Offers.{tip_num, clash, judge_limit, judge_clash, judge_parent, judge_linked, judge_held, judge, intake, admitted, world_by}
use Rattle.relay_model.specs.Verdicts.{Verdict}
use Rattle.relay_model.specs.Verdicts as verdict

-- the id is held nowhere
pub record IsNew (w : World) (s : Slip) : Type 0 where
  pub held : find_id (w.waiting ++ w.history) s.id ≡ None
  pub late : w.first ≤ s.num

pub limit_takes : (w : World) (s : Slip) → judge_limit w s ≡ verdict.Waiting → ⊥
limit_takes w s e = grind (arith, e)

pub clash_waits : (w : World) (s : Slip) (o : Option Clash) → judge_clash w s o ≡ verdict.Waiting → ⊥
clash_waits w s None e = limit_takes w s e
clash_waits w s (Some c) e = cc

parent_waits : (w : World) (s : Slip) (o : Option Slip) → judge_parent w s o ≡ verdict.Waiting → (o ≡ None) × (tip_num w.history < s.num)
parent_waits w s None e =
    elim (cases_Bool (leb s.num (tip_num w.history))) [
      | inl low ↦ absurd (grind (arith, e, low))
      | inr high ↦ (refl, leb-false _ _ high)
    ]
parent_waits w s (Some p) e = absurd (clash_waits w s (clash w.history s) e)

linked_waits : (w : World) (s : Slip) (h : List Slip) → judge_linked w s h ≡ verdict.Waiting → (find_id w.history s.parent_id ≡ None) × (tip_num w.history < s.num)
linked_waits w s [] e = absurd (limit_takes w s e)
linked_waits w s (t ∷ older) e =
    elim (cases_Bool (leb s.num (root_num w.history))) [
      | inl low ↦ absurd (grind (arith, e, low))
      | inr high ↦ parent_waits w s (find_id w.history s.parent_id) (rw high at e)
    ]

pub record IsWaiting (w : World) (s : Slip) : Type 0 where
  pub new : IsNew w s
  pub orphan : find_id w.history s.parent_id ≡ None
  pub above : tip_num w.history < s.num

held_waits : (w : World) (s : Slip) (o : Option Slip) → find_id (w.waiting ++ w.history) s.id ≡ o → judge_held w s o ≡ verdict.Waiting → IsWaiting w s
held_waits w s (Some h) held e = absurd (grind (arith, e))
held_waits w s None held e =
    elim (cases_Bool (ltb s.num w.first)) [
      | inl low ↦ absurd (grind (arith, e, low))
      | inr high ↦
          let facts = linked_waits w s w.history (rw high at e) in
          record { new = record { held = held; late = ltb-false _ _ high }; orphan = facts.0; above = facts.1 }
    ]

pub judged_waits : (w : World) (s : Slip) → judge w s ≡ verdict.Waiting → IsWaiting w s
judged_waits w s e =
    elim (cases_Bool w.closed) [
      | inl shut ↦ absurd (grind (arith, e, shut))
      | inr open' ↦ held_waits w s (find_id (w.waiting ++ w.history) s.id) refl (rw open' at e)
    ]

-- the block links to the history
pub record IsLinked (w : World) (s p : Slip) : Type 0 where
  pub parent : find_id w.history s.parent_id ≡ Some p
  pub fits : clash w.history s ≡ None
  pub above : root_num w.history < s.num

abbrev pub IsTaker : World → Slip → Type 0
IsTaker w s = (w.history ≡ []) ⊎ ((p : Slip) × IsLinked w s p)

clash_takes : (w : World) (s : Slip) (o : Option Clash) → judge_clash w s o ≡ verdict.Admitted → o ≡ None
clash_takes w s None e = refl
clash_takes w s (Some c) e = absurd (cc)

parent_takes : (w : World) (s : Slip) (o : Option Slip) → judge_parent w s o ≡ verdict.Admitted → (p : Slip) × (o ≡ Some p) × (clash w.history s ≡ None)
parent_takes w s None e = absurd (grind (arith, e))
parent_takes w s (Some p) e = (p, refl, clash_takes w s (clash w.history s) e)

linked_takes : (w : World) (s : Slip) (h : List Slip) → w.history ≡ h → judge_linked w s h ≡ verdict.Admitted → IsTaker w s
linked_takes w s [] is e = inl is
linked_takes w s (t ∷ older) is e =
    elim (cases_Bool (leb s.num (root_num w.history))) [
      | inl low ↦ absurd (grind (arith, e, low))
      | inr high ↦
          let facts = parent_takes w s (find_id w.history s.parent_id) (rw high at e) in
          inr (facts.0, record { parent = facts.1; fits = facts.2; above = leb-false _ _ high })
    ]

pub record IsAdmitted (w : World) (s : Slip) : Type 0 where
  pub new : IsNew w s
  pub links : IsTaker w s

held_takes : (w : World) (s : Slip) (o : Option Slip) → find_id (w.waiting ++ w.history) s.id ≡ o → judge_held w s o ≡ verdict.Admitted → IsAdmitted w s
held_takes w s (Some h) held e = absurd (grind (arith, e))
held_takes w s None held e =
    elim (cases_Bool (ltb s.num w.first)) [
      | inl low ↦ absurd (grind (arith, e, low))
      | inr high ↦ record { new = record { held = held; late = ltb-false _ _ high }; links = linked_takes w s w.history refl (rw high at e) }
    ]

pub judged_takes : (w : World) (s : Slip) → judge w s ≡ verdict.Admitted → IsAdmitted w s
judged_takes w s e =
    elim (cases_Bool w.closed) [
      | inl shut ↦ absurd (grind (arith, e, shut))
      | inr open' ↦ held_takes w s (find_id (w.waiting ++ w.history) s.id) refl (rw open' at e)
    ]

-- what a world tells that neither its blocks nor its conflicts move, no offer moves: the first number that it takes, its size of bundles, whether it is closed, what is stored
pub stays_by : {A : Type 0} (f : World → A) (w : World) (s : Slip) (v : Verdict)
    → ((kind : Option Kind) (history waiting : List Slip) (conflicts : List Clash) → f (record w { kind = kind; history = history; waiting = waiting; conflicts = conflicts }) ≡ f w) → f (world_by w s v) ≡ f w
stays_by f w s verdict.Closed same = refl
stays_by f w s verdict.Duplicate same = refl
stays_by f w s (verdict.Conflict c) same = same w.kind w.history w.waiting (c ∷ w.conflicts)
stays_by f w s verdict.Early same = refl
stays_by f w s verdict.Stale same = refl
stays_by f w s verdict.WaitFull same = refl
stays_by f w s verdict.Waiting same = same w.kind w.history (s ∷ w.waiting) w.conflicts
stays_by f w s (verdict.HistoryFull need) same = refl
stays_by f w s verdict.Admitted same = same (admitted w (intake w s)).kind (admitted w (intake w s)).history (admitted w (intake w s)).waiting (admitted w (intake w s)).conflicts

pub first_by : (w : World) (s : Slip) (v : Verdict) → (world_by w s v).first ≡ w.first
first_by w s v = stays_by (λ x. x.first) w s v (λ k h ws cs. refl)

pub closed_by : (w : World) (s : Slip) (v : Verdict) → (world_by w s v).closed ≡ w.closed
closed_by w s v = stays_by (λ x. x.closed) w s v (λ k h ws cs. refl)

pub size_by : (w : World) (s : Slip) (v : Verdict) → (world_by w s v).size ≡ w.size
size_by w s v = stays_by (λ x. x.size) w s v (λ k h ws cs. refl)

pub stored_by : (w : World) (s : Slip) (v : Verdict) → (world_by w s v).stored ≡ w.stored
stored_by w s v = stays_by (λ x. x.stored) w s v (λ k h ws cs. refl)
