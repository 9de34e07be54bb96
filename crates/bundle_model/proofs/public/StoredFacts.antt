-- What is stored: blocks at places, and what plans add.
use Rattle.std.proofs.Common.{arith, ◌≡◌, ◌≤◌, ◌<◌, ◌⊎◌, inl, inr, ℕ, Bool, true, false, cond, List, [], ◌∷◌, ◌++◌, length, Option, Some, None, refl, sym, ◌∙◌, ap, subst, ◌||◌}
use Rattle.std.specs.List.{list_any}
use Rattle.std.proofs.lemmas.Bool.{both_ways, false_from_ne_true}
use Rattle.std.proofs.lemmas.Option.{same_Some}
use Rattle.std.proofs.Math.Dec.{eqb}
use Rattle.std.proofs.lemmas.Bool.{eqb-true, eq-eqb}
use Rattle.block_record.proofs.public.SlipFacts.{same_slip_is, same_slip_refl}
use Rattle.block_record.specs.declared.blocks.Slip.{Slip}
use Rattle.block_record.specs.Slips.{same_slip}
use Rattle.chain_model.specs.Ancestry.{find_id, has_id, IsHistory}
use Rattle.chain_model.specs.Finality.{final_ancestry}
use Rattle.chain_laws.proofs.public.Growth.{IsFound, all_found}
use Rattle.chain_laws.proofs.public.Lines.{id-find_id}
use Rattle.chain_laws.proofs.public.Meeting.{finals_line}
use Rattle.chain_laws.proofs.public.Reach.{line_found}
use Rattle.relay_model.proofs.public.Intakes.{find_of}
use Rattle.relay_model.specs.Worlds.{World}
use Rattle.bundle_model.specs.Members.{Among}
use Rattle.bundle_model.specs.Plans.{Plan, at_places, is_stored, stored_slips}
use Rattle.bundle_model.specs.Shedding.{place_in, stored_at, stored_after, shed}
use Rattle.bundle_model.proofs.public.MemberFacts.{among_all}
use Rattle.bundle_model.proofs.public.PlanFacts.{at_places_among}
use Rattle.bundle_model.proofs.public.DoneFacts.{find_is}
use Rattle.bundle_model.proofs.public.RetainedFacts.{id_there}

-- whether a place is one of some
abbrev pub is_one : List ℕ → ℕ → Bool
is_one places n = list_any (λ k. eqb k n) places

-- a block that is found and one that is among a history
pub found_is_among : (newest : List Slip) (x : Slip) → IsFound newest x → Among newest x
found_is_among newest x f = find_is _ newest x f

pub among_found : (newest : List Slip) → IsHistory newest → (x : Slip) → Among newest x → IsFound newest x
among_found newest history x h = among_all (IsFound newest) newest (all_found newest history) x h

pub final_found : (newest : List Slip) → IsHistory newest → (x : Slip) → Among (final_ancestry newest) x → IsFound newest x
final_found newest history x h = among_all (IsFound newest) (final_ancestry newest) (line_found newest history (final_ancestry newest) (finals_line newest history)) x h

-- one block has an id
pub one_of_id : (newest : List Slip) → IsHistory newest → (a b : Slip) → Among newest a → Among newest b → a.id ≡ b.id → a ≡ b
one_of_id newest history a b ha hb e =
    let fa = among_found newest history a ha in
    let fb = among_found newest history b hb in
    same_Some a b (sym fa ∙ ap (find_id newest) e ∙ fb)

-- a stored block of the id
pub stored_of : (w : World) (s : Slip) → is_stored w s ≡ true → (p : Slip) × Among (stored_slips w) p × (p.id ≡ s.id)
stored_of w s e =
    let p = find_of (stored_slips w) s.id e in
    let id = id-find_id (stored_slips w) s.id p.0 p.1 in
    (p.0, found_is_among (stored_slips w) p.0 (ap (find_id (stored_slips w)) id ∙ p.1), id)

pub among_any : (xs : List Slip) (s : Slip) → Among xs s → list_any (same_slip s) xs ≡ true
among_any [] s h = absurd h
among_any (x ∷ xs) s (inl e) = let same : same_slip s x ≡ true = subst (λ (y : Slip). same_slip s y ≡ true) (sym e) (same_slip_refl s) in rw same refl
among_any (x ∷ xs) s (inr h) =
    let rest = among_any xs s h in
    let P : Bool → Type 0 = λ b. (b || list_any (same_slip s) xs) ≡ true in
    elim (same_slip s x) as P [ true ↦ refl | false ↦ rest ]

-- with one more place the blocks at places are those, and perhaps the block at that place
pub at_more : (p : ℕ) (ps : List ℕ) (xs : List Slip) (s : Slip) → Among (at_places ps xs) s → Among (at_places (p ∷ ps) xs) s
at_more p ps [] s h = h
at_more p ps (x ∷ xs) s h = go (eqb p (length xs)) (is_one ps (length xs)) h (λ k. at_more p ps xs s k)
  where
    go : (a b : Bool) → Among (cond b (x ∷ at_places ps xs) (at_places ps xs)) s → (Among (at_places ps xs) s → Among (at_places (p ∷ ps) xs) s)
        → Among (cond (a || b) (x ∷ at_places (p ∷ ps) xs) (at_places (p ∷ ps) xs)) s
    go true true (inl e) ih = inl e
    go true true (inr k) ih = inr (ih k)
    go true false k ih = inr (ih k)
    go false true (inl e) ih = inl e
    go false true (inr k) ih = inr (ih k)
    go false false k ih = ih k

pub at_either : (p : ℕ) (ps : List ℕ) (xs : List Slip) (s : Slip) → Among (at_places (p ∷ ps) xs) s → Among (at_places (p ∷ []) xs) s ⊎ Among (at_places ps xs) s
at_either p ps [] s h = absurd h
at_either p ps (x ∷ xs) s h = go (eqb p (length xs)) (is_one ps (length xs)) h (λ k. at_either p ps xs s k)
  where
    go : (a b : Bool) → Among (cond (a || b) (x ∷ at_places (p ∷ ps) xs) (at_places (p ∷ ps) xs)) s
        → (Among (at_places (p ∷ ps) xs) s → Among (at_places (p ∷ []) xs) s ⊎ Among (at_places ps xs) s)
        → Among (cond (a || false) (x ∷ at_places (p ∷ []) xs) (at_places (p ∷ []) xs)) s ⊎ Among (cond b (x ∷ at_places ps xs) (at_places ps xs)) s
    go true b (inl e) ih = inl (inl e)
    go true true (inr k) ih = elim (ih k) [ inl l ↦ inl (inr l) | inr r ↦ inr (inr r) ]
    go true false (inr k) ih = elim (ih k) [ inl l ↦ inl (inr l) | inr r ↦ inr r ]
    go false true (inl e) ih = inr (inl e)
    go false true (inr k) ih = elim (ih k) [ inl l ↦ inl l | inr r ↦ inr (inr r) ]
    go false false k ih = elim (ih k) [ inl l ↦ inl l | inr r ↦ inr r ]

-- a place of a history is below its length
pub place_low : (xs : List Slip) (s : Slip) (p : ℕ) → place_in xs s ≡ Some p → p < length xs
place_low [] s p e = absurd (none e)
  where
    none : None ≡ Some p → ⊥
    none k = grind (arith, k)
place_low (x ∷ xs) s p e = go (same_slip x s) e (λ k. place_low xs s p k)
  where
    go : (b : Bool) → cond b (Some (length xs)) (place_in xs s) ≡ Some p → (place_in xs s ≡ Some p → p < length xs) → p < length (x ∷ xs)
    go true k ih = let same = same_Some (length xs) p k in omega (arith, same)
    go false k ih = let less = ih k in omega (arith, less)

pub place_there : (xs : List Slip) (s : Slip) → Among xs s → (p : ℕ) × (place_in xs s ≡ Some p)
place_there [] s h = absurd h
place_there (x ∷ xs) s h = go (same_slip x s) refl h (λ k. place_there xs s k)
  where
    go : (b : Bool) → same_slip x s ≡ b → Among (x ∷ xs) s → (Among xs s → (p : ℕ) × (place_in xs s ≡ Some p)) → (p : ℕ) × (cond b (Some (length xs)) (place_in xs s) ≡ Some p)
    go true e k ih = (length xs, refl)
    go false e (inl same) ih = absurd (both_ways _ e (subst (λ (y : Slip). same_slip x y ≡ true) same (same_slip_refl x)))
    go false e (inr k) ih = ih k

-- nothing of a shorter history is at the place of its length
past_end : (p : ℕ) (xs : List Slip) → length xs ≤ p → at_places (p ∷ []) xs ≡ []
past_end p [] le = refl
past_end p (x ∷ xs) le =
    let other : eqb p (length xs) ≡ false = false_from_ne_true _ (λ e. let same = eqb-true p (length xs) e in omega (arith, same, le)) in
    let rest = past_end p xs (omega (arith, le)) in
    rw (other, rest) refl

-- the block of a place is the one of which it is the place
pub at_place : (xs : List Slip) (s : Slip) (p : ℕ) → place_in xs s ≡ Some p → at_places (p ∷ []) xs ≡ s ∷ []
at_place [] s p e = absurd (none e)
  where
    none : None ≡ Some p → ⊥
    none k = grind (arith, k)
at_place (x ∷ xs) s p e = go (same_slip x s) refl e (λ k. at_place xs s p k)
  where
    go : (b : Bool) → same_slip x s ≡ b → cond b (Some (length xs)) (place_in xs s) ≡ Some p → (place_in xs s ≡ Some p → at_places (p ∷ []) xs ≡ s ∷ []) → at_places (p ∷ []) (x ∷ xs) ≡ s ∷ []
    go true is k ih =
        let same = same_Some (length xs) p k in
        let hit : eqb p (length xs) ≡ true = eq-eqb p (length xs) (sym same) in
        let rest = past_end p xs (omega (arith, same)) in
        let one = same_slip_is x s is in
        rw (hit, rest, one) refl
    go false is k ih =
        let low = place_low xs s p k in
        let miss : eqb p (length xs) ≡ false = false_from_ne_true _ (λ m. let same = eqb-true p (length xs) m in omega (arith, same, low)) in
        let rest = ih k in
        rw (miss, rest) refl

-- a place that is one of some has its block among theirs
pub one_at : (ps : List ℕ) (xs : List Slip) (s : Slip) (p : ℕ) → is_one ps p ≡ true → Among (at_places (p ∷ []) xs) s → Among (at_places ps xs) s
one_at ps [] s p e h = h
one_at ps (x ∷ xs) s p e h = go (eqb p (length xs)) (is_one ps (length xs)) refl refl h (λ k. one_at ps xs s p e k)
  where
    go : (a b : Bool) → eqb p (length xs) ≡ a → is_one ps (length xs) ≡ b → Among (cond (a || false) (x ∷ at_places (p ∷ []) xs) (at_places (p ∷ []) xs)) s
        → (Among (at_places (p ∷ []) xs) s → Among (at_places ps xs) s) → Among (cond b (x ∷ at_places ps xs) (at_places ps xs)) s
    go true true ea eb (inl k) ih = inl k
    go true true ea eb (inr k) ih = inr (ih k)
    go true false ea eb k ih = absurd (both_ways _ eb (ap (is_one ps) (sym (eqb-true p (length xs) ea)) ∙ e))
    go false true ea eb k ih = inr (ih k)
    go false false ea eb k ih = ih k

-- what a block of a plan adds
one_stays : (xs : List Slip) (ps : List ℕ) (o : Option ℕ) (s : Slip) → Among (at_places ps xs) s → Among (at_places (stored_at ps o) xs) s
one_stays xs ps None s h = h
one_stays xs ps (Some p) s h = go (is_one ps p)
  where
    go : (b : Bool) → Among (at_places (cond b ps (p ∷ ps)) xs) s
    go true = h
    go false = at_more p ps xs s h

at_first : (xs : List Slip) (p : ℕ) (ps : List ℕ) (s : Slip) → Among (at_places (p ∷ []) xs) s → Among (at_places (p ∷ ps) xs) s
at_first [] p ps s h = h
at_first (x ∷ xs) p ps s h = go (eqb p (length xs)) (is_one ps (length xs)) h (λ k. at_first xs p ps s k)
  where
    go : (a b : Bool) → Among (cond (a || false) (x ∷ at_places (p ∷ []) xs) (at_places (p ∷ []) xs)) s → (Among (at_places (p ∷ []) xs) s → Among (at_places (p ∷ ps) xs) s)
        → Among (cond (a || b) (x ∷ at_places (p ∷ ps) xs) (at_places (p ∷ ps) xs)) s
    go true b (inl e) ih = inl e
    go true b (inr k) ih = inr (ih k)
    go false true k ih = inr (ih k)
    go false false k ih = ih k

one_stored : (xs : List Slip) (ps : List ℕ) (s : Slip) → Among xs s → Among (at_places (stored_at ps (place_in xs s)) xs) s
one_stored xs ps s h =
    let p = place_there xs s h in
    let own : Among (at_places (p.0 ∷ []) xs) s = subst (λ (l : List Slip). Among l s) (sym (at_place xs s p.0 p.1)) (inl refl) in
    subst (λ (o : Option ℕ). Among (at_places (stored_at ps o) xs) s) (sym p.1) (go p.0 own (is_one ps p.0) refl)
  where
    go : (q : ℕ) → Among (at_places (q ∷ []) xs) s → (b : Bool) → is_one ps q ≡ b → Among (at_places (cond b ps (q ∷ ps)) xs) s
    go q own true e = one_at ps xs s q e own
    go q own false e = at_first xs q ps s own

one_only : (xs : List Slip) (ps : List ℕ) (t s : Slip) → Among (at_places (stored_at ps (place_in xs t)) xs) s → Among (at_places ps xs) s ⊎ (t ≡ s)
one_only xs ps t s h = go (place_in xs t) refl h
  where
    by : (q : ℕ) → place_in xs t ≡ Some q → (b : Bool) → Among (at_places (cond b ps (q ∷ ps)) xs) s → Among (at_places ps xs) s ⊎ (t ≡ s)
    by q e true k = inl k
    by q e false k =
        elim (at_either q ps xs s k) [
          | inl own ↦ elim (subst (λ (l : List Slip). Among l s) (at_place xs t q e) own) [ inl same ↦ inr same | inr none ↦ absurd none ]
          | inr before ↦ inl before
        ]

    go : (o : Option ℕ) → place_in xs t ≡ o → Among (at_places (stored_at ps o) xs) s → Among (at_places ps xs) s ⊎ (t ≡ s)
    go None e k = inl k
    go (Some q) e k = by q e (is_one ps q) k

pub after_stays : (xs : List Slip) (ps : List ℕ) (ts : List Slip) (s : Slip) → Among (at_places ps xs) s → Among (at_places (stored_after xs ps ts) xs) s
after_stays xs ps [] s h = h
after_stays xs ps (t ∷ ts) s h = after_stays xs (stored_at ps (place_in xs t)) ts s (one_stays xs ps (place_in xs t) s h)

pub after_stored : (xs : List Slip) (ps : List ℕ) (ts : List Slip) (s : Slip) → Among xs s → Among ts s → Among (at_places (stored_after xs ps ts) xs) s
after_stored xs ps [] s h k = absurd k
after_stored xs ps (t ∷ ts) s h (inl e) =
    after_stays xs (stored_at ps (place_in xs t)) ts s (subst (λ (x : Slip). Among (at_places (stored_at ps (place_in xs x)) xs) s) (sym e) (one_stored xs ps s h))
after_stored xs ps (t ∷ ts) s h (inr k) = after_stored xs (stored_at ps (place_in xs t)) ts s h k

pub after_only : (xs : List Slip) (ps : List ℕ) (ts : List Slip) (s : Slip) → Among (at_places (stored_after xs ps ts) xs) s → Among (at_places ps xs) s ⊎ Among ts s
after_only xs ps [] s h = inl h
after_only xs ps (t ∷ ts) s h =
    elim (after_only xs (stored_at ps (place_in xs t)) ts s h) [
      | inl before ↦ elim (one_only xs ps t s before) [ inl old ↦ inl old | inr same ↦ inr (inl same) ]
      | inr later ↦ inr (inr later)
    ]

-- what was stored is
pub stays_stored : (w : World) (plan : Plan) (s : Slip) → is_stored w s ≡ true → is_stored (shed w plan) s ≡ true
stays_stored w plan s e =
    let p = stored_of w s e in
    let there = id_there (stored_slips (shed w plan)) p.0 (after_stays w.history w.stored (plan.finals ++ plan.dead) p.0 p.1) in
    subst (λ (i : List ℕ). has_id (stored_slips (shed w plan)) i ≡ true) p.2 there

-- and a block of the plan is
pub planned_stored : (w : World) (plan : Plan) (s : Slip) → Among w.history s → Among (plan.finals ++ plan.dead) s → is_stored (shed w plan) s ≡ true
planned_stored w plan s h k = id_there (stored_slips (shed w plan)) s (after_stored w.history w.stored (plan.finals ++ plan.dead) s h k)

-- and nothing else is
pub only_planned : (w : World) (plan : Plan) (s : Slip) → IsHistory w.history → Among w.history s → is_stored (shed w plan) s ≡ true → (is_stored w s ≡ true) ⊎ Among (plan.finals ++ plan.dead) s
only_planned w plan s history h e =
    let p = stored_of (shed w plan) s e in
    let same : p.0 ≡ s = one_of_id w.history history p.0 s (at_places_among (shed w plan).stored w.history p.0 p.1) h p.2 in
    elim (after_only w.history w.stored (plan.finals ++ plan.dead) p.0 p.1) [
      | inl old ↦ inl (subst (λ (x : Slip). is_stored w x ≡ true) same (id_there (stored_slips w) p.0 old))
      | inr planned ↦ inr (subst (Among (plan.finals ++ plan.dead)) same planned)
    ]
