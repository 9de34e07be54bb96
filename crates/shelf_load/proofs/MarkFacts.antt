-- Which blocks are stored while blocks are taken, and once those that came late are.
use Rattle.std.proofs.Common.{arith, ◌≡◌, ◌<◌, ◌⊎◌, inl, inr, ℕ, Bool, true, false, cond, List, [], ◌∷◌, ◌++◌, length, reverse, Option, Some, None, refl, sym, ap, subst, ◌∙◌}
use Rattle.std.specs.List.{AllByRecursion, filter}
use Rattle.std.proofs.Math.Dec.{eqb}
use Rattle.std.proofs.lemmas.Bool.{both_ways, eqb-true, false_from_ne_true}
use Rattle.block_record.proofs.public.SlipFacts.{same_slip_is}
use Rattle.block_record.specs.declared.blocks.Slip.{Slip}
use Rattle.chain_model.specs.Ancestry.{find_id, IsHistory}
use Rattle.chain_laws.proofs.public.Lines.{IsHistory-rest, is_fresh}
use Rattle.relay_model.specs.Offers.{judge, offered}
use Rattle.relay_model.proofs.public.Judged.{stored_by}
use Rattle.relay_model.proofs.public.Sound.{offer_grows}
use Rattle.bundle_model.specs.Members.{Among}
use Rattle.bundle_model.specs.Plans.{at_places}
use Rattle.bundle_model.specs.Shedding.{place_in, stored_after, stored_at}
use Rattle.bundle_model.proofs.public.DoneFacts.{find_is}
use Rattle.bundle_model.proofs.public.MemberFacts.{among_reverse, reverse_among}
use Rattle.bundle_model.proofs.public.PlanFacts.{at_places_among}
use Rattle.bundle_model.proofs.public.RetainedFacts.{id_there}
use Rattle.bundle_model.proofs.public.StoredFacts.{after_only, after_stays, after_stored, is_one, place_low}
use Rattle.store_model.specs.Loads.{is_offered}
use Rattle.shelf_load.specs.declared.put_by.Origin.{Origin}
use Rattle.shelf_load.specs.declared.put_by.Origin.TheVariants.{OwnFile, StoredFile}
use Rattle.block_relay.specs.Held.{is_very}
use Rattle.shelf_load.specs.Taking.{Stage, Taken, after_block, after_offer, after_put_by, is_in_history, marked, marked_by, take_all, with_late}
use Rattle.shelf_load.specs.LoadLaws.{slips_by, stored_taken}

-- places below a length
abbrev pub AreBelow : ℕ → List ℕ → Type 0
AreBelow n ps = AllByRecursion (λ at. at < n) ps

below_later : (m n : ℕ) (ps : List ℕ) → (m < n ⊎ (m ≡ n)) → AreBelow m ps → AreBelow n ps
below_later m n [] le all = tt
below_later m n (p ∷ ps) (inl less) all = ((let low = all.0 in omega (arith, low, less)), below_later m n ps (inl less) all.1)
below_later m n (p ∷ ps) (inr same) all = ((let low = all.0 in omega (arith, low, same)), below_later m n ps (inr same) all.1)

not_there : (n : ℕ) (ps : List ℕ) → AreBelow n ps → is_one ps n ≡ false
not_there n [] all = refl
not_there n (p ∷ ps) all =
    let rest = not_there n ps all.1 in
    let low = all.0 in
    let other : eqb p n ≡ false = false_from_ne_true _ (λ e. let same = eqb-true p n e in omega (arith, same, low)) in
    rw (other, rest) refl

-- as a history grows, the same blocks are at places of its older part
grown_one : (ps : List ℕ) (x : Slip) (xs : List Slip) → AreBelow (length xs) ps → at_places ps (x ∷ xs) ≡ at_places ps xs
grown_one ps x xs low = let out = not_there (length xs) ps low in rw out refl

pub grown : (ps : List ℕ) (more xs : List Slip) → AreBelow (length xs) ps → at_places ps (more ++ xs) ≡ at_places ps xs
grown ps [] xs low = refl
grown ps (m ∷ more) xs low = grown_one ps m (more ++ xs) (below_grown ps more xs low) ∙ grown ps more xs low
  where
    below_grown : (qs : List ℕ) (front older : List Slip) → AreBelow (length older) qs → AreBelow (length (front ++ older)) qs
    below_grown qs [] older all = all
    below_grown qs (f ∷ front) older all = below_later (length (front ++ older)) (length (f ∷ (front ++ older))) qs (inl (omega arith)) (below_grown qs front older all)

-- what is stored: blocks of stored files that were taken, and each of these unless it came late
pub record Marks (ss : List Slip) (g : Stage) : Type 0 where
  pub low : AreBelow (length g.world.history) g.world.stored
  pub only : (s : Slip) → Among (at_places g.world.stored g.world.history) s → Among ss s
  pub each : (s : Slip) → Among ss s → Among (at_places g.world.stored g.world.history) s ⊎ Among g.aside.late s
  pub late : (s : Slip) → Among g.aside.late s → Among ss s

low_append : (ps : List ℕ) (more xs : List Slip) → AreBelow (length xs) ps → AreBelow (length (more ++ xs)) ps
low_append ps [] xs all = all
low_append ps (m ∷ more) xs all = below_later (length (more ++ xs)) (length (m ∷ (more ++ xs))) ps (inl (omega arith)) (low_append ps more xs all)

offer_marks : (ss : List Slip) (g : Stage) (s : Slip) → Marks ss g → Marks ss (after_offer g s)
offer_marks ss g s m =
    let grows = offer_grows g.world s in
    let stored : (offered g.world s).world.stored ≡ g.world.stored = stored_by g.world s (judge g.world s) in
    let same : at_places (offered g.world s).world.stored (offered g.world s).world.history ≡ at_places g.world.stored g.world.history =
    ap (λ (ps : List ℕ). at_places ps (offered g.world s).world.history) stored ∙ ap (at_places g.world.stored) (sym grows.1) ∙ grown g.world.stored grows.0 g.world.history m.low in
    record {
      low =
          subst (λ (ps : List ℕ). AreBelow (length (offered g.world s).world.history) ps) (sym stored)
          (subst (λ (h : List Slip). AreBelow (length h) g.world.stored) grows.1 (low_append g.world.stored grows.0 g.world.history m.low));
      only = λ x h. m.only x (subst (λ (l : List Slip). Among l x) same h);
      each = λ x h. elim (m.each x h) [ inl k ↦ inl (subst (λ (l : List Slip). Among l x) (sym same) k) | inr k ↦ inr k ];
      late = m.late;
    }

block_marks : (ss : List Slip) (g : Stage) (s : Slip) → Marks ss g → Marks ss (after_block g s)
block_marks ss g s m = go (is_offered g.world.history s)
  where
    go : (b : Bool) → Marks ss (cond b (after_offer g s) (after_put_by g s))
    go true = offer_marks ss g s m
    go false = record { low = m.low; only = m.only; each = m.each; late = m.late }

-- one more place is below the length where it is one of the history
stored_low : (newest : List Slip) (ps : List ℕ) (s : Slip) → AreBelow (length newest) ps → AreBelow (length newest) (stored_at ps (place_in newest s))
stored_low newest ps s low = go (place_in newest s) refl
  where
    by_test : (at : ℕ) → at < length newest → (b : Bool) → AreBelow (length newest) (cond b ps (at ∷ ps))
    by_test at less true = low
    by_test at less false = (less, low)

    go : (o : Option ℕ) → place_in newest s ≡ o → AreBelow (length newest) (stored_at ps o)
    go None e = low
    go (Some at) e = by_test at (place_low newest s at e) (is_one ps at)

in_history_among : (newest : List Slip) (s : Slip) → is_in_history newest s ≡ true → Among newest s
in_history_among newest s e = go (find_id newest s.id) refl e
  where
    go : (o : Option Slip) → find_id newest s.id ≡ o → is_very o s ≡ true → Among newest s
    go None f t = absurd (both_ways _ refl t)
    go (Some h) f t = subst (Among newest) (same_slip_is h s t) (find_is _ newest h f)

mark_marks : (ss : List Slip) (g : Stage) (s : Slip) → Marks ss g → Marks (s ∷ ss) (marked g s)
mark_marks ss g s m = record {
  low = stored_low g.world.history g.world.stored s m.low;
  only = λ x h. elim (after_only g.world.history g.world.stored (s ∷ []) x h) [
    | inl k ↦ inr (m.only x k)
    | inr (inl e) ↦ inl e
    | inr (inr k) ↦ absurd k
  ];
  each = λ x h. elim h [
    | inl e ↦ subst (λ (y : Slip). Among (at_places (stored_at g.world.stored (place_in g.world.history s)) g.world.history) y ⊎ Among (with_late (is_in_history g.world.history s) s g.aside.late) y) e (own (is_in_history g.world.history s) refl)
    | inr k ↦ elim (m.each x k) [
      | inl there ↦ inl (after_stays g.world.history g.world.stored (s ∷ []) x there)
      | inr later ↦ inr (kept (is_in_history g.world.history s) x later)
    ]
  ];
  late = λ x h. late_from (is_in_history g.world.history s) x h;
}
  where
    own : (b : Bool) → is_in_history g.world.history s ≡ b → Among (at_places (stored_at g.world.stored (place_in g.world.history s)) g.world.history) s ⊎ Among (with_late b s g.aside.late) s
    own true e = inl (after_stored g.world.history g.world.stored (s ∷ []) s (in_history_among g.world.history s e) (inl refl))
    own false e = inr (inl refl)

    kept : (b : Bool) (x : Slip) → Among g.aside.late x → Among (with_late b s g.aside.late) x
    kept true x k = k
    kept false x k = inr k

    late_from : (b : Bool) (x : Slip) → Among (with_late b s g.aside.late) x → Among (s ∷ ss) x
    late_from true x k = inr (m.late x k)
    late_from false x (inl e) = inl e
    late_from false x (inr k) = inr (m.late x k)

origin_marks : (o : Origin) (ss : List Slip) (g : Stage) (s : Slip) → Marks ss g → Marks (slips_by o s ss) (marked_by o g s)
origin_marks OwnFile ss g s m = m
origin_marks StoredFile ss g s m = mark_marks ss g s m

pub all_marks : (g : Stage) (ts : List Taken) → Marks [] g → Marks (stored_taken ts) (take_all g ts)
all_marks g [] m = m
all_marks g (t ∷ ts) m =
    let rest = all_marks g ts m in
    origin_marks t.origin (stored_taken ts) (after_block (take_all g ts) t.slip) t.slip (block_marks (stored_taken ts) (take_all g ts) t.slip rest)

-- once those that came late are stored: a block of a longer history is stored exactly where a stored file has it
pub record AreMarked (ss newest : List Slip) (stored : List ℕ) : Type 0 where
  pub only : (s : Slip) → Among (at_places stored newest) s → Among ss s
  pub each : (s : Slip) → Among newest s → Among ss s → Among (at_places stored newest) s

pub ends_marked : (ss : List Slip) (g : Stage) (newest more : List Slip) → more ++ g.world.history ≡ newest → Marks ss g → AreMarked ss newest (stored_after newest g.world.stored (reverse g.aside.late))
ends_marked ss g newest more e m =
    let same : at_places g.world.stored newest ≡ at_places g.world.stored g.world.history = ap (at_places g.world.stored) (sym e) ∙ grown g.world.stored more g.world.history m.low in
    record {
      only = λ s h. elim (after_only newest g.world.stored (reverse g.aside.late) s h) [
        | inl k ↦ m.only s (subst (λ (l : List Slip). Among l s) same k)
        | inr k ↦ m.late s (reverse_among g.aside.late s k)
      ];
      each = λ s there h. elim (m.each s h) [
        | inl k ↦ after_stays newest g.world.stored (reverse g.aside.late) s (subst (λ (l : List Slip). Among l s) (sym same) k)
        | inr k ↦ after_stored newest g.world.stored (reverse g.aside.late) s there (among_reverse g.aside.late s k)
      ];
    }

-- of a history the blocks at places are those that pass a test, where each that is at one passes it and each that passes it is at one
pub marked_filter : (p : Slip → Bool) (ps : List ℕ) (xs : List Slip) → IsHistory xs → ((s : Slip) → Among (at_places ps xs) s → p s ≡ true) → ((s : Slip) → Among xs s → p s ≡ true → Among (at_places ps xs) s) → at_places ps xs ≡ filter p xs
marked_filter p ps [] history only each = refl
marked_filter p ps (x ∷ xs) history only each =
    go (is_one ps (length xs)) (p x) refl only each
    (λ o e. marked_filter p ps xs (IsHistory-rest x xs history) o e)
  where
    fresh : Among xs x → ⊥
    fresh h = both_ways _ (is_fresh x xs history) (id_there xs x h)

    go : (a b : Bool) → p x ≡ b → ((s : Slip) → Among (cond a (x ∷ at_places ps xs) (at_places ps xs)) s → p s ≡ true)
        → ((s : Slip) → Among (x ∷ xs) s → p s ≡ true → Among (cond a (x ∷ at_places ps xs) (at_places ps xs)) s)
        → (((s : Slip) → Among (at_places ps xs) s → p s ≡ true) → ((s : Slip) → Among xs s → p s ≡ true → Among (at_places ps xs) s) → at_places ps xs ≡ filter p xs)
        → cond a (x ∷ at_places ps xs) (at_places ps xs) ≡ cond b (x ∷ filter p xs) (filter p xs)
    go true true e o h ih =
        ap (λ (l : List Slip). x ∷ l) (ih (λ s k. o s (inr k)) (λ s k t. elim (h s (inr k) t) [
          | inl same ↦ absurd (fresh (subst (Among xs) (sym same) k))
          | inr rest ↦ rest
        ]))
    go true false e o h ih = absurd (both_ways _ e (o x (inl refl)))
    go false true e o h ih = absurd (fresh (at_places_among ps xs x (h x (inl refl) e)))
    go false false e o h ih = ih o (λ s k t. h s (inr k) t)
