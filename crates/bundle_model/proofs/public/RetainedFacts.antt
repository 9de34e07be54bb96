-- How many blocks a relay retains.
use Rattle.std.proofs.Common.{arith, ◌≡◌, ◌≤◌, ◌<◌, ◌+◌, inl, inr, ℕ, Bool, true, false, not, cond, List, [], ◌∷◌, length, refl, sym, ◌∙◌, ap, subst, ltb, ◌&&◌, ◌||◌}
use Rattle.std.specs.List.{filter, list_any}
use Rattle.std.proofs.lemmas.Bool.{or_cases, and_parts, both_ways, ltb-true}
use Rattle.block_record.specs.declared.blocks.Slip.{Slip}
use Rattle.block_record.specs.Ids.{same_id, same_id_refl}
use Rattle.block_record.specs.Slips.{same_slip}
use Rattle.chain_model.specs.Ancestry.{has_id}
use Rattle.chain_model.specs.Finality.{final_ancestry}
use Rattle.relay_model.specs.Worlds.{World}
use Rattle.block_record.proofs.public.SlipFacts.{same_slip_is}
use Rattle.bundle_model.specs.Members.{Among}
use Rattle.bundle_model.specs.Bundles.{Bundle, bundles_of, blocks_of}
use Rattle.bundle_model.specs.Plans.{is_stored}
use Rattle.bundle_model.specs.Laws.{IsAllStored, IsOwnStored, NoPlanRetains, OwnPlansRetain}
use Rattle.bundle_model.specs.Retained.{last_end, is_bundled, is_passed_by, is_left}
use Rattle.bundle_model.proofs.public.PlanFacts.{BasesRise}
use Rattle.bundle_model.proofs.public.DoneFacts.{no_plan_is_all}

-- a filter that passes more keeps more
pub filter_more : (p q : Slip → Bool) (xs : List Slip) → ((x : Slip) → Among xs x → p x ≡ true → q x ≡ true) → length (filter p xs) ≤ length (filter q xs)
filter_more p q [] f = omega arith
filter_more p q (x ∷ xs) f = go (p x) (q x) refl refl (filter_more p q xs (λ y h. f y (inr h)))
  where
    go : (a b : Bool) → p x ≡ a → q x ≡ b → length (filter p xs) ≤ length (filter q xs) → length (cond a (x ∷ filter p xs) (filter p xs)) ≤ length (cond b (x ∷ filter q xs) (filter q xs))
    go true true ea eb ih = omega (arith, ih)
    go true false ea eb ih = absurd (both_ways _ eb (f x (inl refl) ea))
    go false true ea eb ih = omega (arith, ih)
    go false false ea eb ih = ih

-- and a filter that passes one more keeps more
pub filter_less : (p q : Slip → Bool) (xs : List Slip) → ((x : Slip) → Among xs x → p x ≡ true → q x ≡ true) → (y : Slip) → Among xs y → p y ≡ false → q y ≡ true → length (filter p xs) < length (filter q xs)
filter_less p q [] f y h no' yes' = absurd h
filter_less p q (x ∷ xs) f y (inl e) no' yes' =
    let n : p x ≡ false = ap p e ∙ no' in
    let k : q x ≡ true = ap q e ∙ yes' in
    let rest = filter_more p q xs (λ z m. f z (inr m)) in
    rw (n, k) (omega (arith, rest))
filter_less p q (x ∷ xs) f y (inr h) no' yes' = go (p x) (q x) refl refl (filter_less p q xs (λ z m. f z (inr m)) y h no' yes')
  where
    go : (a b : Bool) → p x ≡ a → q x ≡ b → length (filter p xs) < length (filter q xs) → length (cond a (x ∷ filter p xs) (filter p xs)) < length (cond b (x ∷ filter q xs) (filter q xs))
    go true true ea eb ih = omega (arith, ih)
    go true false ea eb ih = absurd (both_ways _ eb (f x (inl refl) ea))
    go false true ea eb ih = omega (arith, ih)
    go false false ea eb ih = ih

pub any_is : (xs : List Slip) (s : Slip) → list_any (same_slip s) xs ≡ true → Among xs s
any_is [] s e = absurd (both_ways _ refl e)
any_is (x ∷ xs) s e = elim (or_cases (same_slip s x) (list_any (same_slip s) xs) e) [ inl same ↦ inl (sym (same_slip_is s x same)) | inr rest ↦ inr (any_is xs s rest) ]

pub id_there : (xs : List Slip) (s : Slip) → Among xs s → has_id xs s.id ≡ true
id_there [] s h = absurd h
id_there (x ∷ xs) s (inl e) = let same : same_id x.id s.id ≡ true = subst (λ (y : Slip). same_id x.id y.id ≡ true) e (same_id_refl x.id) in rw same refl
id_there (x ∷ xs) s (inr h) =
    let rest = id_there xs s h in
    let P : Bool → Type 0 = λ b. (b || has_id xs s.id) ≡ true in
    elim (same_id x.id s.id) as P [ true ↦ refl | false ↦ rest ]

-- the last bundle
pub last_bundle : (size : ℕ) (bundles : List Bundle) (n : ℕ) → n < last_end size bundles → (b : Bundle) × Among bundles b × (n < b.base + size)
last_bundle size [] n less = absurd (omega (arith, less))
last_bundle size (b ∷ []) n less = (b, inl refl, less)
last_bundle size (b ∷ c ∷ rest) n less = let r = last_bundle size (c ∷ rest) n less in (r.0, inr r.1, r.2)

pub in_end : (size : ℕ) (bundles : List Bundle) → BasesRise bundles → (b : Bundle) → Among bundles b → b.base + size ≤ last_end size bundles
in_end size [] r b h = absurd h
in_end size (c ∷ []) r b (inl e) = omega (arith, ap (λ (x : Bundle). x.base) e)
in_end size (c ∷ []) r b (inr h) = absurd h
in_end size (c ∷ d ∷ rest) r b (inl e) =
    let next = in_end size (d ∷ rest) r.1 d (inl refl) in
    let less : c.base < d.base = r.0.0 in
    omega (arith, next, less, ap (λ (x : Bundle). x.base) e)
in_end size (c ∷ d ∷ rest) r b (inr h) = in_end size (d ∷ rest) r.1 b h

-- a block that is not stored is left
left_of : (w : World) → IsAllStored w → (s : Slip) → Among w.history s → not (is_stored w s) ≡ true → is_left w.size w.history s ≡ true
left_of w all s h open' = go (is_bundled w.size w.history s) (is_passed_by w.size w.history s) refl refl
  where
    stored_not : is_stored w s ≡ true → ⊥
    stored_not e = both_ways _ (ap not e) open'

    go : (a b : Bool) → is_bundled w.size w.history s ≡ a → is_passed_by w.size w.history s ≡ b → (not a && not b) ≡ true
    go true b ea eb = absurd (stored_not (all.bundled s (any_is (blocks_of (bundles_of w.size w.history)) s ea)))
    go false true ea eb =
        let p = and_parts (not (has_id (final_ancestry w.history) s.id)) (ltb s.num (last_end w.size (bundles_of w.size w.history))) eb in
        let l = last_bundle w.size (bundles_of w.size w.history) s.num (ltb-true _ _ p.1) in
        absurd (stored_not (all.dead l.0 s l.1 h (λ on. both_ways _ (ap not (id_there (final_ancestry w.history) s on)) p.0) l.2))
    go false false ea eb = refl

pub no_plan_retains : NoPlanRetains
no_plan_retains w some history f e =
    let all = no_plan_is_all w some history f e in
    filter_more (λ s. not (is_stored w s)) (is_left w.size w.history) w.history (left_of w all)

unstored_of : (w : World) → IsOwnStored w → (s : Slip) → Among w.history s → is_left w.size w.history s ≡ true → not (is_stored w s) ≡ true
unstored_of w own s h left = go (is_stored w s) refl
  where
    go : (b : Bool) → is_stored w s ≡ b → not b ≡ true
    go false e = refl
    go true e =
        let p = and_parts (not (is_bundled w.size w.history s)) (not (is_passed_by w.size w.history s)) left in
        elim (own s h e) [ inl a ↦ absurd (both_ways _ (ap not a) p.0) | inr b ↦ absurd (both_ways _ (ap not b) p.1) ]

pub own_plans_retain : OwnPlansRetain
own_plans_retain w some history f own e =
    let up = no_plan_retains w some history f e in
    let down = filter_more (is_left w.size w.history) (λ s. not (is_stored w s)) w.history (unstored_of w own) in
    omega (arith, up, down)
