-- Where there is no further plan, all that is to be stored is stored.
use Rattle.std.proofs.Common.{arith, ◌≡◌, ◌≤◌, ◌<◌, ◌+◌, ◌/◌, inl, inr, ℕ, Bool, true, false, not, cond, List, [], ◌∷◌, ◌++◌, reverse, Option, Some, None, refl, sym, ◌∙◌, ap, subst, leb, ◌&&◌}
use Rattle.std.specs.List.{AllByRecursion, filter, find, list_all}
use Rattle.std.proofs.lemmas.Bool.{cases_Bool, cases_lt, both_ways, le-leb, lt-ltb, false_from_ne_true}
use Rattle.std.proofs.lemmas.Option.{same_Some}
use Rattle.block_record.specs.declared.blocks.Slip.{Slip}
use Rattle.chain_model.specs.Ancestry.{has_id, IsHistory}
use Rattle.chain_model.specs.Finality.{final_ancestry}
use Rattle.chain_laws.proofs.public.Growth.{IsFound, all_found, find_passes}
use Rattle.chain_laws.proofs.public.Lines.{id-find_id}
use Rattle.chain_laws.proofs.public.Meeting.{finals_line}
use Rattle.chain_laws.proofs.public.Reach.{line_found}
use Rattle.relay_model.specs.Worlds.{World}
use Rattle.relay_model.specs.Offers.{tip_num}
use Rattle.relay_model.proofs.public.Intakes.{find_of}
use Rattle.bundle_model.specs.Members.{Among}
use Rattle.bundle_model.specs.Bundles.{Bundle, base_of, is_within, bundles_of, blocks_of, finals_up, IsDue}
use Rattle.bundle_model.specs.Plans.{Plan, is_stored, is_dead, dead_below, plan_with, plan_at, plan_first, plan_dead, last_stored, first_unstored, next_plan}
use Rattle.bundle_model.specs.Laws.{IsInBundle, IsFrontStored, NoPlanIsAll}
use Rattle.bundle_model.proofs.public.MemberFacts.{among_all, all_among, among_left, among_right, among_parts, among_filter, filter_among, among_prefix, among_reverse, reverse_among}
use Rattle.bundle_model.proofs.public.Climbs.{Falls, line_falls}
use Rattle.bundle_model.proofs.public.BundleFacts.{bundles_are_front, bundles_are_due, finals_are_bundled, finals_climb, base_is, div_mono, within_is}
use Rattle.bundle_model.proofs.public.PlanFacts.{IsFirst, find_first, BasesRise, bundles_rise, rise_parts}

-- a block of bundles is of one of them
pub of_bundle : (bundles : List Bundle) (s : Slip) → Among (blocks_of bundles) s → (b : Bundle) × Among bundles b × Among b.blocks s
of_bundle [] s h = absurd h
of_bundle (b ∷ rest) s h =
    elim (among_parts b.blocks (blocks_of rest) s h) [ inl own ↦ (b, inl refl, own) | inr more ↦ let r = of_bundle rest s more in (r.0, inr r.1, r.2) ]

pub blocks_has : (bundles : List Bundle) (b : Bundle) → Among bundles b → (s : Slip) → Among b.blocks s → Among (blocks_of bundles) s
blocks_has [] b h s k = absurd h
blocks_has (c ∷ rest) b (inl e) s k = among_left c.blocks (blocks_of rest) s (subst (λ (d : Bundle). Among d.blocks s) (sym e) k)
blocks_has (c ∷ rest) b (inr h) s k = among_right c.blocks (blocks_of rest) s (blocks_has rest b h s k)

base_mono : (size a b : ℕ) → 0 < size → a ≤ b → base_of size a ≤ base_of size b
base_mono size a b some le =
    let m = Rattle.std.proofs.Math.Nat.mul-le-mul_right {m = a / size} size (div_mono size a b some le) in
    omega (arith, m, base_is size a, base_is size b)

-- where a plan with a bundle would be, there is a plan
no_first : (w : World) (s : Slip) → first_unstored w ≡ Some s → base_of w.size s.num + w.size ≤ tip_num w.history
    → list_all (λ t. not (is_stored w t)) (filter (is_within w.size (base_of w.size s.num)) (finals_up w.history)) ≡ true → next_plan w ≡ None → ⊥
no_first w s first reached none e =
    let e1 = le-leb (base_of w.size s.num + w.size) (tip_num w.history) reached in
    let step : plan_first w (Some s) ≡ Some (plan_at w (base_of w.size s.num)) = rw (e1, none) refl in
    filled (sym step ∙ ap (plan_first w) (sym first) ∙ e)
  where
    filled : Some (plan_at w (base_of w.size s.num)) ≡ None → ⊥
    filled k = grind (arith, k)

-- in each case there is no plan of dead blocks alone
no_dead : (w : World) (o : Option Slip) → plan_first w o ≡ None → plan_dead w (last_stored w) ≡ None
no_dead w None e = e
no_dead w (Some s) e = go (leb p.below (tip_num w.history) && list_all (λ t. not (is_stored w t)) p.finals) e
  where
    p : Plan
    p = plan_at w (base_of w.size s.num)

    go : (b : Bool) → cond b (Some p) (plan_dead w (last_stored w)) ≡ None → plan_dead w (last_stored w) ≡ None
    go true k = absurd (filled k)
      where
        filled : Some p ≡ None → ⊥
        filled m = grind (arith, m)
    go false k = k

with_none : (size base : ℕ) (l : List Slip) → plan_with size base l ≡ None → l ≡ []
with_none size base [] e = refl
with_none size base (s ∷ rest) e = absurd (filled (record { size = size; base = base; finals = []; dead = s ∷ rest; below = base + size }) e)
  where
    filled : (x : Plan) → Some x ≡ None → ⊥
    filled x k = grind (arith, k)

dead_none : (w : World) (t : Slip) → base_of w.size t.num + w.size ≤ tip_num w.history → plan_dead w (Some t) ≡ None → dead_below w (base_of w.size t.num + w.size) ≡ []
dead_none w t reached e =
    let le = le-leb (base_of w.size t.num + w.size) (tip_num w.history) reached in
    with_none w.size (base_of w.size t.num) (dead_below w (base_of w.size t.num + w.size)) (rw le at e)

-- the first that is found on a falling line is the greatest
find_falls : (p : Slip → Bool) (xs : List Slip) → Falls xs → (t : Slip) → find p xs ≡ Some t → (s : Slip) → Among xs s → p s ≡ true → s.num ≤ t.num
find_falls p [] f t e s h k = absurd h
find_falls p (x ∷ xs) f t e s h k = go (p x) refl e h (λ e' h'. find_falls p xs f.1 t e' s h' k)
  where
    go : (b : Bool) → p x ≡ b → cond b (Some x) (find p xs) ≡ Some t → Among (x ∷ xs) s → (find p xs ≡ Some t → Among xs s → s.num ≤ t.num) → s.num ≤ t.num
    go true is e' (inl same) ih = omega (arith, ap (λ (y : Slip). y.num) same, ap (λ (y : Slip). y.num) (same_Some x t e'))
    go true is e' (inr rest) ih = let low : s.num < x.num = among_all (λ y. y.num < x.num) xs f.0 s rest in omega (arith, low, ap (λ (y : Slip). y.num) (same_Some x t e'))
    go false is e' (inl same) ih = absurd (both_ways _ (ap p (sym same) ∙ is) k)
    go false is e' (inr rest) ih = ih e' rest

find_there : (p : Slip → Bool) (xs : List Slip) (s : Slip) → Among xs s → p s ≡ true → find p xs ≡ None → ⊥
find_there p [] s h k e = h
find_there p (x ∷ xs) s h k e = go (p x) refl e h (λ e' h'. find_there p xs s h' k e')
  where
    go : (b : Bool) → p x ≡ b → cond b (Some x) (find p xs) ≡ None → Among (x ∷ xs) s → (find p xs ≡ None → Among xs s → ⊥) → ⊥
    go true is e' h' ih = grind (arith, e')
    go false is e' (inl same) ih = both_ways _ (ap p (sym same) ∙ is) k
    go false is e' (inr rest) ih = ih e' rest

pub find_hits : (p : Slip → Bool) (xs : List Slip) (t : Slip) → find p xs ≡ Some t → p t ≡ true
find_hits p [] t e = absurd (none e)
  where
    none : None ≡ Some t → ⊥
    none k = grind (arith, k)
find_hits p (y ∷ ys) t e = go (p y) refl e (λ k. find_hits p ys t k)
  where
    go : (b : Bool) → p y ≡ b → cond b (Some y) (find p ys) ≡ Some t → (find p ys ≡ Some t → p t ≡ true) → p t ≡ true
    go true is k ih = ap p (sym (same_Some y t k)) ∙ is
    go false is k ih = ih k

pub find_is : (p : Slip → Bool) (xs : List Slip) (t : Slip) → find p xs ≡ Some t → Among xs t
find_is p xs t e = find_passes (Among xs) p xs t (all_among (Among xs) xs (λ x h. h)) e

pub not_back : (t : Bool) → not t ≡ true → t ≡ false
not_back true h = absurd (both_ways _ refl h)
not_back false h = refl

-- a block of the history that is not on the final path has no id there
pub off_path : (newest : List Slip) → IsHistory newest → (s : Slip) → Among newest s → (Among (final_ancestry newest) s → ⊥) → has_id (final_ancestry newest) s.id ≡ false
off_path newest history s h off = false_from_ne_true _ (λ there.
    let p = find_of (final_ancestry newest) s.id there in
    let id = id-find_id (final_ancestry newest) s.id p.0 p.1 in
    let on = find_is (λ x. Rattle.block_record.specs.Ids.same_id x.id s.id) (final_ancestry newest) p.0 p.1 in
    let fp = among_all (IsFound newest) (final_ancestry newest) (line_found newest history (final_ancestry newest) (finals_line newest history)) p.0 on in
    let fs = among_all (IsFound newest) newest (all_found newest history) s h in
    let same : p.0 ≡ s = same_Some p.0 s (sym fp ∙ ap (Rattle.chain_model.specs.Ancestry.find_id newest) id ∙ fs) in
    off (subst (Among (final_ancestry newest)) same on))

all_not : (w : World) (xs : List Slip) → AllByRecursion (λ t. is_stored w t ≡ false) xs → list_all (λ t. not (is_stored w t)) xs ≡ true
all_not w [] all = refl
all_not w (x ∷ xs) all = let e = all.0 in rw (e, all_not w xs all.1) refl

module _ (w : World) (some : 0 < w.size) (history : IsHistory w.history) (f : IsFrontStored w) (e : next_plan w ≡ None) where
  abbrev more : List Bundle
  more = f.first.0

  whole : f.front ++ more ≡ bundles_of w.size w.history
  whole = f.first.1

  rises : BasesRise (f.front ++ more)
  rises = subst BasesRise (sym whole) (bundles_rise w.size w.history some)

  due : (b : Bundle) → Among (f.front ++ more) b → IsDue w.size w.history b
  due b h = among_all (IsDue w.size w.history) (bundles_of w.size w.history) (bundles_are_due w.size w.history some) b (subst (λ (l : List Bundle). Among l b) whole h)

  based : (b : Bundle) → Among (f.front ++ more) b → (s : Slip) → Among b.blocks s → base_of w.size s.num ≡ b.base
  based b h s k = among_all (λ t. base_of w.size t.num ≡ b.base) b.blocks (due b h).within s k

  -- a block of a later bundle is not stored
  later_not : (c : Bundle) → Among more c → (s : Slip) → base_of w.size s.num ≡ c.base → Among (final_ancestry w.history) s → is_stored w s ≡ false
  later_not c h s bs final = false_from_ne_true _ (λ stored.
      let d = of_bundle f.front s (f.only s final stored) in
      let bd = based d.0 (among_left f.front more d.0 d.1) s d.2 in
      let less = rise_parts f.front more rises d.0 c d.1 h in
      omega (arith, less, bd, bs))

  final_of : (b : Bundle) → Among (f.front ++ more) b → (s : Slip) → Among b.blocks s → Among (final_ancestry w.history) s
  final_of b h s k =
      reverse_among (final_ancestry w.history) s
      (among_prefix _ _ (bundles_are_front w.size w.history some history) s (blocks_has (bundles_of w.size w.history) b (subst (λ (l : List Bundle). Among l b) whole h) s k))

  -- so there is no later bundle
  none_later : (c : Bundle) (rest : List Bundle) → more ≡ c ∷ rest → ⊥
  none_later c rest cut = go (first_unstored w) refl
    where
      there : Among more c
      there = subst (λ (l : List Bundle). Among l c) (sym cut) (inl refl)

      at : Among (f.front ++ more) c
      at = among_right f.front more c there

      y : Slip
      y = (due c at).first

      own : Among c.blocks y
      own = subst (λ (l : List Slip). Among l y) (sym (due c at).some) (inl refl)

      final : Among (finals_up w.history) y
      final = among_reverse (final_ancestry w.history) y (final_of c at y own)

      open' : not (is_stored w y) ≡ true
      open' = ap not (later_not c there y (based c at y own) (final_of c at y own))

      go : (o : Option Slip) → first_unstored w ≡ o → ⊥
      go None is = find_there (λ s. not (is_stored w s)) (finals_up w.history) y final open' is
      go (Some s) is =
          let p = find_first (λ t. not (is_stored w t)) (finals_up w.history) (finals_climb w.history history) s is in
          let low : s.num ≤ y.num = low_of p in
          let mono = base_mono w.size s.num y.num some low in
          let reached : base_of w.size s.num + w.size ≤ tip_num w.history = let r = (due c at).reached in let b = based c at y own in omega (arith, mono, r, b) in
          let fs = reverse_among (final_ancestry w.history) s p.there in
          let in' = finals_are_bundled w.size w.history s some history fs reached in
          no_first w s is reached (all_not w (filter (is_within w.size (base_of w.size s.num)) (finals_up w.history)) (all_among (λ t. is_stored w t ≡ false) (filter (is_within w.size (base_of w.size s.num)) (finals_up w.history)) (λ t h. unstored in' p t (filter_among (is_within w.size (base_of w.size s.num)) (finals_up w.history) t h)))) e
        where
          low_of : IsFirst (λ t. not (is_stored w t)) (finals_up w.history) s → s.num ≤ y.num
          low_of p = elim (cases_lt y.num s.num) [ inl less ↦ absurd (both_ways _ (p.below y final less) open') | inr le ↦ le ]

          -- the bundle of the first block that is not stored is a later one, so none of its blocks is stored
          unstored : IsInBundle w.size (bundles_of w.size w.history) s → IsFirst (λ t. not (is_stored w t)) (finals_up w.history) s → (t : Slip)
              → Among (finals_up w.history) t × (is_within w.size (base_of w.size s.num) t ≡ true) → is_stored w t ≡ false
          unstored i p t h =
              elim (among_parts f.front more i.bundle (subst (λ (l : List Bundle). Among l i.bundle) (sym whole) i.there)) [
                | inl front ↦ absurd (both_ways _ (not_back (is_stored w s) p.passes) (f.stored s (blocks_has f.front i.bundle front s i.has)))
                | inr later ↦
                    let wi = within_is w.size (base_of w.size s.num) t h.1 in
                    let k = base_is w.size s.num in
                    let bt : base_of w.size t.num ≡ base_of w.size s.num = Rattle.bundle_model.proofs.public.BundleFacts.base_within w.size (s.num / w.size) t.num (omega (arith, wi.0, k)) (omega (arith, wi.1, k)) ∙ sym k in
                    later_not i.bundle later t (bt ∙ sym i.based) (reverse_among (final_ancestry w.history) t h.0)
              ]

  -- the first bundles are all
  all_front : (s : Slip) → Among (blocks_of (bundles_of w.size w.history)) s → Among (blocks_of f.front) s
  all_front s h = go more refl
    where
      go : (m : List Bundle) → more ≡ m → Among (blocks_of f.front) s
      go [] is = subst (λ (l : List Bundle). Among (blocks_of l) s) (sym whole ∙ ap (λ (m : List Bundle). f.front ++ m) is ∙ Rattle.std.proofs.lemmas.List.append-nil f.front) h
      go (c ∷ rest) is = absurd (none_later c rest is)

  bundled : (s : Slip) → Among (blocks_of (bundles_of w.size w.history)) s → is_stored w s ≡ true
  bundled s h = f.stored s (all_front s h)

  dead_stored : (b : Bundle) (s : Slip) → Among (bundles_of w.size w.history) b → Among w.history s → (Among (final_ancestry w.history) s → ⊥) → s.num < b.base + w.size → is_stored w s ≡ true
  dead_stored b s h there off low = go (last_stored w) refl
    where
      at : Among (f.front ++ more) b
      at = subst (λ (l : List Bundle). Among l b) (sym whole) h

      y : Slip
      y = (due b at).first

      own : Among b.blocks y
      own = subst (λ (l : List Slip). Among l y) (sym (due b at).some) (inl refl)

      final : Among (final_ancestry w.history) y
      final = final_of b at y own

      stored : is_stored w y ≡ true
      stored = bundled y (blocks_has (bundles_of w.size w.history) b h y own)

      go : (o : Option Slip) → last_stored w ≡ o → is_stored w s ≡ true
      go None is = absurd (find_there (is_stored w) (final_ancestry w.history) y final stored is)
      go (Some t) is =
          let ft = find_is (is_stored w) (final_ancestry w.history) t is in
          let st = find_hits (is_stored w) (final_ancestry w.history) t is in
          let d = of_bundle f.front t (f.only t ft st) in
          let ad = among_left f.front more d.0 d.1 in
          let bt = based d.0 ad t d.2 in
          let reached : base_of w.size t.num + w.size ≤ tip_num w.history = let r = (due d.0 ad).reached in omega (arith, r, bt) in
          let none = dead_none w t reached (ap (plan_dead w) (sym is) ∙ no_dead w (first_unstored w) e) in
          let above = find_falls (is_stored w) (final_ancestry w.history) (line_falls w.history history (final_ancestry w.history) (finals_line w.history history)) t is y final stored in
          let mono = base_mono w.size y.num t.num some above in
          let by = based b at y own in
          elim (cases_Bool (is_stored w s)) [
            | inl yes' ↦ yes'
            | inr no' ↦
                let less = lt-ltb s.num (base_of w.size t.num + w.size) (omega (arith, low, mono, by)) in
                let away = off_path w.history history s there off in
                let dead : is_dead w (base_of w.size t.num + w.size) s ≡ true = rw (away, less, no') refl in
                absurd (subst (λ (l : List Slip). Among l s) none (among_filter (is_dead w (base_of w.size t.num + w.size)) (reverse w.history) s (among_reverse w.history s there) dead))
          ]

pub no_plan_is_all : NoPlanIsAll
no_plan_is_all w some history f e = record { bundled = bundled w some history f e; dead = dead_stored w some history f e }
