-- What a plan is: its bundle and its dead blocks.
use Rattle.std.proofs.Common.{arith, ◌≡◌, ◌≤◌, ◌<◌, ◌+◌, ◌*◌, ◌/◌, ◌⊎◌, inl, inr, ℕ, zero, suc, Bool, true, false, not, cond, List, [], ◌∷◌, ◌++◌, Option, Some, None, refl, sym, ◌∙◌, ap, subst, leb, ◌&&◌}
use Rattle.std.specs.List.{AllByRecursion, filter, find, list_all}
use Rattle.std.proofs.lemmas.Bool.{cases_Bool, and_parts, leb-true}
use Rattle.std.proofs.lemmas.Option.{same_Some}
use Rattle.std.proofs.Math.Dec.{eqb}
use Rattle.std.proofs.Math.Nat.{suc-mul}
use Rattle.block_record.specs.declared.blocks.Slip.{Slip}
use Rattle.chain_model.specs.Ancestry.{IsHistory}
use Rattle.chain_model.specs.Finality.{final_ancestry}
use Rattle.chain_laws.proofs.public.Growth.{all_weaker, find_passes}
use Rattle.relay_model.specs.Worlds.{World}
use Rattle.relay_model.specs.Offers.{tip_num}
use Rattle.bundle_model.specs.Members.{Among}
use Rattle.bundle_model.specs.Bundles.{Bundle, base_of, is_within, bundle_with, bundle_at, bundles_below, bundles_of, finals_up}
use Rattle.bundle_model.specs.Plans.{Plan, is_stored, dead_below, plan_with, plan_at, plan_first, plan_dead, last_stored, first_unstored, next_plan, at_places}
use Rattle.bundle_model.specs.Laws.{IsInBundle}
use Rattle.bundle_model.proofs.public.MemberFacts.{all_append, all_among, among_all, among_right, reverse_among}
use Rattle.bundle_model.proofs.public.Climbs.{Climbs}
use Rattle.bundle_model.proofs.public.BundleFacts.{finals_are_bundled, finals_climb}

-- the first that passes a test in a climbing list: each lower one fails it
pub record IsFirst (p : Slip → Bool) (xs : List Slip) (s : Slip) : Type 0 where
  pub there : Among xs s
  pub passes : p s ≡ true
  pub below : (y : Slip) → Among xs y → y.num < s.num → p y ≡ false

pub find_first : (p : Slip → Bool) (xs : List Slip) → Climbs xs → (s : Slip) → find p xs ≡ Some s → IsFirst p xs s
find_first p [] c s e = absurd (none e)
  where
    none : None ≡ Some s → ⊥
    none k = grind (arith, k)
find_first p (x ∷ xs) c s e = go (p x) refl e (λ k. find_first p xs c.1 s k)
  where
    hit : p x ≡ true → x ≡ s → IsFirst p (x ∷ xs) s
    hit e' same = record {
      there = inl same;
      passes = ap p (sym same) ∙ e';
      below = λ y h less. elim h [
        | inl first ↦ absurd (omega (arith, less, ap (λ (z : Slip). z.num) first, ap (λ (z : Slip). z.num) same))
        | inr rest ↦ let more : x.num < y.num = among_all (λ t. x.num < t.num) xs c.0 y rest in absurd (omega (arith, less, more, ap (λ (z : Slip). z.num) same))
      ];
    }

    go : (b : Bool) → p x ≡ b → (cond b (Some x) (find p xs)) ≡ Some s → (find p xs ≡ Some s → IsFirst p xs s) → IsFirst p (x ∷ xs) s
    go true e' k ih = hit e' (same_Some x s k)
    go false e' k ih =
        let r = ih k in
        record {
          there = inr r.there;
          passes = r.passes;
          below = λ y h less. elim h [ inl first ↦ ap p (sym first) ∙ e' | inr rest ↦ r.below y rest less ];
        }

-- bases rise
abbrev pub BasesRise : List Bundle → Type 0
BasesRise [] = Unit {0}
BasesRise (b ∷ rest) = AllByRecursion (λ c. b.base < c.base) rest × BasesRise rest

rise_append : (xs ys : List Bundle) → BasesRise xs → BasesRise ys → ((x y : Bundle) → Among xs x → Among ys y → x.base < y.base) → BasesRise (xs ++ ys)
rise_append [] ys rx ry f = ry
rise_append (x ∷ xs) ys rx ry f =
    (all_append (λ c. x.base < c.base) xs ys rx.0 (all_among (λ c. x.base < c.base) ys (λ y h. f x y (inl refl) h)), rise_append xs ys rx.1 ry (λ a b h k. f a b (inr h) k))

-- what is known of each of the first bundles
pub record IsOf (size : ℕ) (path : List Slip) (end : ℕ) (b : Bundle) : Type 0 where
  pub low : b.base + size ≤ end
  pub blocks : b.blocks ≡ filter (is_within size b.base) path

with_is : (size : ℕ) (path : List Slip) (base end : ℕ) → base + size ≤ end → (l : List Slip) → l ≡ filter (is_within size base) path → AllByRecursion (IsOf size path end) (bundle_with base l)
with_is size path base end le [] e = tt
with_is size path base end le (s ∷ rest) e = (record { low = le; blocks = e }, tt)

pub below_are : (size : ℕ) (path : List Slip) (n : ℕ) → AllByRecursion (IsOf size path (n * size)) (bundles_below size path n)
below_are size path zero = tt
below_are size path (suc n) =
    let up = λ (b : Bundle) (h : IsOf size path (n * size) b). let low : b.base + size ≤ n * size = h.low in let r : IsOf size path (suc n * size) b = record { low = omega (arith, low, suc-mul n size); blocks = h.blocks } in r in
    all_append (IsOf size path (suc n * size)) (bundles_below size path n) (bundle_at size path (n * size))
    (all_weaker (IsOf size path (n * size)) (IsOf size path (suc n * size)) up (bundles_below size path n) (below_are size path n))
    (with_is size path (n * size) (suc n * size) (omega (arith, suc-mul n size)) (filter (is_within size (n * size)) path) refl)

with_base : (base : ℕ) (l : List Slip) (b : Bundle) → Among (bundle_with base l) b → b.base ≡ base
with_base base [] b h = absurd h
with_base base (s ∷ rest) b (inl e) = ap (λ (c : Bundle). c.base) (sym e)
with_base base (s ∷ rest) b (inr h) = absurd h

with_rises : (base : ℕ) (l : List Slip) → BasesRise (bundle_with base l)
with_rises base [] = tt
with_rises base (s ∷ rest) = (tt, tt)

pub below_rise : (size : ℕ) (path : List Slip) (n : ℕ) → 0 < size → BasesRise (bundles_below size path n)
below_rise size path zero some = tt
below_rise size path (suc n) some =
    rise_append (bundles_below size path n) (bundle_at size path (n * size)) (below_rise size path n some) (with_rises (n * size) (filter (is_within size (n * size)) path))
    (λ x y h k.
    let low : x.base + size ≤ n * size = (among_all (IsOf size path (n * size)) (bundles_below size path n) (below_are size path n) x h).low in
    let base = with_base (n * size) (filter (is_within size (n * size)) path) y k in
    omega (arith, low, base, some))

pub bundles_rise : (size : ℕ) (newest : List Slip) → 0 < size → BasesRise (bundles_of size newest)
bundles_rise size newest some = below_rise size (finals_up newest) (tip_num newest / size) some

pub rise_parts : (xs ys : List Bundle) → BasesRise (xs ++ ys) → (x y : Bundle) → Among xs x → Among ys y → x.base < y.base
rise_parts [] ys r x y h k = absurd h
rise_parts (z ∷ xs) ys r x y (inl e) k = let less : z.base < y.base = among_all (λ c. z.base < c.base) (xs ++ ys) r.0 y (among_right xs ys y k) in omega (arith, less, ap (λ (c : Bundle). c.base) e)
rise_parts (z ∷ xs) ys r x y (inr h) k = rise_parts xs ys r.1 x y h k

-- a plan with a bundle
pub record IsBundlePlan (w : World) (plan : Plan) : Type 0 where
  pub first : Slip
  pub first_is : first_unstored w ≡ Some first
  pub base : plan.base ≡ base_of w.size first.num
  pub finals : plan.finals ≡ filter (is_within w.size plan.base) (finals_up w.history)
  pub none : list_all (λ t. not (is_stored w t)) plan.finals ≡ true

-- what each plan is
pub record IsPlan (w : World) (plan : Plan) : Type 0 where
  pub sized : plan.size ≡ w.size
  pub reached : plan.below ≤ tip_num w.history
  pub end : plan.below ≡ plan.base + w.size
  pub dead : plan.dead ≡ dead_below w plan.below
  pub finals : (plan.finals ≡ []) ⊎ IsBundlePlan w plan
  -- its base is that of a final block
  pub under : (t : Slip) × Among (final_ancestry w.history) t × (plan.base ≡ base_of w.size t.num)
  pub filled : ((s : Slip) × (rest : List Slip) × (plan.dead ≡ s ∷ rest)) ⊎ IsBundlePlan w plan

dead_with : (base : ℕ) (w : World) (l : List Slip) (plan : Plan) → (t : Slip) × Among (final_ancestry w.history) t × (base ≡ base_of w.size t.num) → l ≡ dead_below w (base + w.size) → base + w.size ≤ tip_num w.history → plan_with w.size base l ≡ Some plan → IsPlan w plan
dead_with base w [] plan u is le e = absurd (none e)
  where
    none : None ≡ Some plan → ⊥
    none k = grind (arith, k)
dead_with base w (s ∷ rest) plan u is le e =
    let p : Plan = record { size = w.size; base = base; finals = []; dead = s ∷ rest; below = base + w.size } in
    let same : p ≡ plan = same_Some p plan e in
    subst (IsPlan w) same (record { sized = refl; reached = le; end = refl; dead = is; finals = inl refl; under = u; filled = inl (s, rest, refl) })

pub dead_plan : (w : World) (o : Option Slip) → last_stored w ≡ o → (plan : Plan) → plan_dead w o ≡ Some plan → IsPlan w plan
dead_plan w None is plan e = absurd (none e)
  where
    none : None ≡ Some plan → ⊥
    none k = grind (arith, k)
dead_plan w (Some s) is plan e =
    elim (cases_Bool (leb (base_of w.size s.num + w.size) (tip_num w.history))) [
      | inl le ↦ dead_with (base_of w.size s.num) w (dead_below w (base_of w.size s.num + w.size)) plan (s, find_passes (Among (final_ancestry w.history)) (is_stored w) (final_ancestry w.history) s (all_among (Among (final_ancestry w.history)) (final_ancestry w.history) (λ x h. h)) is, refl) refl (leb-true _ _ le) (rw le at e)
      | inr gt ↦ absurd (none (rw gt at e))
    ]
  where
    none : None ≡ Some plan → ⊥
    none k = grind (arith, k)

first_plan : (w : World) (o : Option Slip) → first_unstored w ≡ o → (plan : Plan) → plan_first w o ≡ Some plan → IsPlan w plan
first_plan w None is plan e = dead_plan w (last_stored w) refl plan e
first_plan w (Some s) is plan e = go (leb p.below (tip_num w.history) && list_all (λ t. not (is_stored w t)) p.finals) refl e
  where
    p : Plan
    p = plan_at w (base_of w.size s.num)

    go : (b : Bool) → (leb p.below (tip_num w.history) && list_all (λ t. not (is_stored w t)) p.finals) ≡ b → cond b (Some p) (plan_dead w (last_stored w)) ≡ Some plan → IsPlan w plan
    go true t k =
        let parts = and_parts (leb p.below (tip_num w.history)) (list_all (λ t. not (is_stored w t)) p.finals) t in
        let le = leb-true p.below (tip_num w.history) parts.0 in
        let own : IsBundlePlan w p = record { first = s; first_is = is; base = refl; finals = refl; none = parts.1 } in
        subst (IsPlan w) (same_Some p plan k) (record { sized = refl; reached = le; end = refl; dead = refl; finals = inr own; under = (s, reverse_among (final_ancestry w.history) s (find_passes (Among (finals_up w.history)) (λ t. not (is_stored w t)) (finals_up w.history) s (all_among (Among (finals_up w.history)) (finals_up w.history) (λ x h. h)) is), refl); filled = inr own })
    go false t k = dead_plan w (last_stored w) refl plan k

pub plan_is : (w : World) (plan : Plan) → next_plan w ≡ Some plan → IsPlan w plan
plan_is w plan e = first_plan w (first_unstored w) refl plan e

-- the bundle of a plan is one of the bundles
pub planned_there : (w : World) (plan : Plan) → 0 < w.size → IsHistory w.history → IsPlan w plan → IsBundlePlan w plan → Among (bundles_of w.size w.history) (record { base = plan.base; blocks = plan.finals })
planned_there w plan some history is b =
    let path = finals_up w.history in
    let f = find_first (λ s. not (is_stored w s)) path (finals_climb w.history history) b.first b.first_is in
    let k = tip_num w.history / w.size in
    let reached : base_of w.size b.first.num + w.size ≤ tip_num w.history = let r = is.reached in let e = is.end in let base = b.base in omega (arith, r, e, base) in
    let in' : IsInBundle w.size (bundles_of w.size w.history) b.first = finals_are_bundled w.size w.history b.first some history (reverse_among (final_ancestry w.history) b.first f.there) reached in
    let of = among_all (IsOf w.size path (k * w.size)) (bundles_of w.size w.history) (below_are w.size path k) in'.bundle in'.there in
    let base : in'.bundle.base ≡ plan.base = in'.based ∙ sym b.base in
    let blocks : in'.bundle.blocks ≡ plan.finals = of.blocks ∙ ap (λ n. filter (is_within w.size n) path) base ∙ sym b.finals in
    subst (Among (bundles_of w.size w.history)) (same in'.bundle base blocks) in'.there
  where
    same : (c : Bundle) → c.base ≡ plan.base → c.blocks ≡ plan.finals → c ≡ record { base = plan.base; blocks = plan.finals }
    same c e f = let y : record { base = c.base; blocks = c.blocks } ≡ record { base = plan.base; blocks = plan.finals } = rw (e, f) refl in y

-- blocks at places are blocks of the history
pub at_places_among : (places : List ℕ) (xs : List Slip) (s : Slip) → Among (at_places places xs) s → Among xs s
at_places_among places [] s h = absurd h
at_places_among places (x ∷ xs) s h = go (Rattle.std.specs.List.list_any (λ n. eqb n (Rattle.std.proofs.Common.length xs)) places) h (λ k. at_places_among places xs s k)
  where
    go : (b : Bool) → Among (cond b (x ∷ at_places places xs) (at_places places xs)) s → (Among (at_places places xs) s → Among xs s) → Among (x ∷ xs) s
    go true (inl e) ih = inl e
    go true (inr k) ih = inr (ih k)
    go false k ih = inr (ih k)
