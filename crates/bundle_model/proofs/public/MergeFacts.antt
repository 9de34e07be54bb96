-- How a merger comes to its end: what plans that are shed keep, and that each leaves fewer blocks retained.
use Rattle.std.proofs.Common.{arith, ◌≡◌, ◌≤◌, ◌<◌, ◌+◌, ◌/◌, ◌⊎◌, inl, inr, ℕ, Bool, true, false, not, List, [], ◌∷◌, ◌++◌, reverse, refl, sym, ◌∙◌, ap, subst, ltb, ◌&&◌}
use Rattle.std.proofs.lemmas.Bool.{cases_Bool, and_parts, both_ways, lt-ltb, ltb-true}
use Rattle.std.proofs.lemmas.List.{append_assoc, append-nil}
use Rattle.block_record.specs.declared.blocks.Slip.{Slip}
use Rattle.chain_model.specs.Ancestry.{has_id, IsHistory}
use Rattle.chain_model.specs.Finality.{final_ancestry}
use Rattle.relay_model.specs.Worlds.{World}
use Rattle.bundle_model.specs.Members.{Among}
use Rattle.bundle_model.specs.Bundles.{Bundle, bundles_of, blocks_of, finals_up, base_of, is_within, IsDue}
use Rattle.bundle_model.specs.Plans.{Plan, is_stored, is_dead}
use Rattle.bundle_model.specs.Shedding.{shed}
use Rattle.bundle_model.specs.Laws.{IsFrontStored, ShedKeepsFront, ShedKeepsOwn, ShedRetainsLess, PlansAreBundles}
use Rattle.bundle_model.specs.Retained.{last_end, is_bundled, is_passed_by, retained}
use Rattle.bundle_model.proofs.public.MemberFacts.{among_all, among_left, among_right, among_parts, among_filter, filter_among, among_prefix, reverse_among}
use Rattle.bundle_model.proofs.public.BundleFacts.{bundles_are_front, bundles_are_due, finals_are_bundled, finals_climb, blocks_append, base_is, div_mono}
use Rattle.bundle_model.proofs.public.PlanFacts.{IsFirst, find_first, BasesRise, bundles_rise, rise_parts, IsBundlePlan, IsPlan, plan_is, planned_there}
use Rattle.bundle_model.proofs.public.DoneFacts.{of_bundle, blocks_has, not_back}
use Rattle.bundle_model.proofs.public.RetainedFacts.{filter_less, id_there, in_end}
use Rattle.bundle_model.proofs.public.StoredFacts.{among_any, found_is_among, final_found, stays_stored, planned_stored, only_planned}

-- a number is below another where their bases would tell
nums_below : (size a b : ℕ) → 0 < size → ((b ≤ a) → base_of size b ≤ base_of size a → ⊥) → a < b
nums_below size a b some f =
    elim (Rattle.std.proofs.lemmas.Bool.cases_lt a b) [
      | inl less ↦ less
      | inr more ↦
          let m = Rattle.std.proofs.Math.Nat.mul-le-mul_right {m = b / size} {n = a / size} size (div_mono size b a some more) in
          absurd (f more (omega (arith, m, base_is size a, base_is size b)))
    ]

-- a dead block is off the final path
dead_off : (w : World) (plan : Plan) → IsPlan w plan → (s : Slip) → Among plan.dead s → Among (final_ancestry w.history) s → ⊥
dead_off w plan is s h final =
    let f = filter_among (is_dead w plan.below) (reverse w.history) s (subst (λ (l : List Slip). Among l s) is.dead h) in
    let parts = and_parts (not (has_id (final_ancestry w.history) s.id) && ltb s.num plan.below) (not (is_stored w s)) f.1 in
    let both = and_parts (not (has_id (final_ancestry w.history) s.id)) (ltb s.num plan.below) parts.0 in
    both_ways _ (ap not (id_there (final_ancestry w.history) s final)) both.0

-- the same front, where a plan has no bundle
front_dead : (w : World) (plan : Plan) → IsHistory w.history → IsFrontStored w → IsPlan w plan → plan.finals ≡ [] → IsFrontStored (shed w plan)
front_dead w plan history f is none = record {
  front = f.front;
  first = f.first;
  stored = λ s h. stays_stored w plan s (f.stored s h);
  only = λ s final e. elim (only_planned w plan s history (found_is_among w.history s (final_found w.history history s final)) e) [
    | inl before ↦ f.only s final before
    | inr planned ↦ elim (among_parts plan.finals plan.dead s planned) [
      | inl a ↦ absurd (subst (λ (l : List Slip). Among l s) none a)
      | inr b ↦ absurd (dead_off w plan is s b final)
    ]
  ];
}

module _ (w : World) (plan : Plan) (some : 0 < w.size) (history : IsHistory w.history) (f : IsFrontStored w) (is : IsPlan w plan) (p : IsBundlePlan w plan) where
  abbrev b : Bundle
  b = record { base = plan.base; blocks = plan.finals }

  abbrev more : List Bundle
  more = f.first.0

  whole : f.front ++ more ≡ bundles_of w.size w.history
  whole = f.first.1

  rises : BasesRise (f.front ++ more)
  rises = subst BasesRise (sym whole) (bundles_rise w.size w.history some)

  there : Among (f.front ++ more) b
  there = subst (λ (l : List Bundle). Among l b) (sym whole) (planned_there w plan some history is p)

  due : (c : Bundle) → Among (f.front ++ more) c → IsDue w.size w.history c
  due c h = among_all (IsDue w.size w.history) (bundles_of w.size w.history) (bundles_are_due w.size w.history some) c (subst (λ (l : List Bundle). Among l c) whole h)

  based : (c : Bundle) → Among (f.front ++ more) c → (s : Slip) → Among c.blocks s → base_of w.size s.num ≡ c.base
  based c h s k = among_all (λ t. base_of w.size t.num ≡ c.base) c.blocks (due c h).within s k

  final_of : (c : Bundle) → Among (f.front ++ more) c → (s : Slip) → Among c.blocks s → Among (finals_up w.history) s
  final_of c h s k = among_prefix _ _ (bundles_are_front w.size w.history some history) s (blocks_has (bundles_of w.size w.history) c (subst (λ (l : List Bundle). Among l c) whole h) s k)

  lead : IsFirst (λ t. not (is_stored w t)) (finals_up w.history) p.first
  lead = find_first (λ t. not (is_stored w t)) (finals_up w.history) (finals_climb w.history history) p.first p.first_is

  lead_in : Among plan.finals p.first
  lead_in =
      let n = Rattle.bundle_model.proofs.public.BundleFacts.num_within w.size p.first.num some in
      let k = Rattle.bundle_model.proofs.public.BundleFacts.base_is w.size p.first.num in
      let base = p.base in
      let hit : is_within w.size plan.base p.first ≡ true = rw (Rattle.std.proofs.lemmas.Bool.le-leb plan.base p.first.num (omega (arith, n.0, k, base)), Rattle.std.proofs.lemmas.Bool.lt-ltb p.first.num (plan.base + w.size) (omega (arith, n.1, k, base))) refl in
      subst (λ (l : List Slip). Among l p.first) (sym p.finals) (among_filter (is_within w.size plan.base) (finals_up w.history) p.first lead.there hit)

  -- the plan's bundle is the next one
  is_next : (m : List Bundle) → more ≡ m → (rest : List Bundle) × (more ≡ b ∷ rest)
  is_next [] e = absurd (elim (among_parts f.front more b there) [ inl front ↦ not_front front | inr later ↦ subst (λ (l : List Bundle). Among l b) e later ])
    where
      not_front : Among f.front b → ⊥
      not_front h = both_ways _ (not_back (is_stored w p.first) lead.passes) (f.stored p.first (blocks_has f.front b h p.first lead_in))
  is_next (c ∷ rest) e =
      elim (among_parts f.front more b there) [
        | inl front ↦ absurd (both_ways _ (not_back (is_stored w p.first) lead.passes) (f.stored p.first (blocks_has f.front b front p.first lead_in)))
        | inr later ↦ elim (subst (λ (l : List Bundle). Among l b) e later) [
          | inl same ↦ (rest, e ∙ ap (λ (d : Bundle). d ∷ rest) same)
          | inr after ↦ absurd (before c rest e after)
        ]
      ]
    where
      before : (d : Bundle) (ds : List Bundle) → more ≡ d ∷ ds → Among ds b → ⊥
      before d ds e' h =
          let at : Among (f.front ++ more) d = among_right f.front more d (subst (λ (l : List Bundle). Among l d) (sym e') (inl refl)) in
          let y = (due d at).first in
          let own : Among d.blocks y = subst (λ (l : List Slip). Among l y) (sym (due d at).some) (inl refl) in
          let by = based d at y own in
          let less : d.base < b.base = rise_parts (f.front ++ d ∷ []) ds (subst BasesRise (ap (λ l. f.front ++ l) e' ∙ sym (append_assoc f.front (d ∷ []) ds)) rises) d b (among_right f.front (d ∷ []) d (inl refl)) h in
          let pb = p.base in
          let low : y.num < p.first.num = nums_below w.size y.num p.first.num some (λ m le. omega (arith, le, by, less, pb)) in
          let up = final_of d at y own in
          let stored = hidden (is_stored w y) (lead.below y up low) in
          let g = of_bundle f.front y (f.only y (reverse_among (final_ancestry w.history) y up) stored) in
          let bg = based g.0 (among_left f.front more g.0 g.1) y g.2 in
          let apart = rise_parts f.front more rises g.0 d g.1 (subst (λ (l : List Bundle). Among l d) (sym e') (inl refl)) in
          omega (arith, apart, bg, by)
        where
          hidden : (t : Bool) → not t ≡ false → t ≡ true
          hidden true k = refl
          hidden false k = absurd (both_ways _ k refl)

  front_bundle : IsFrontStored (shed w plan)
  front_bundle =
      let n = is_next more refl in
      record {
        front = f.front ++ b ∷ [];
        first = (n.0, append_assoc f.front (b ∷ []) n.0 ∙ ap (λ l. f.front ++ l) (sym n.1) ∙ whole);
        stored = λ s h. elim (among_parts (blocks_of f.front) (blocks_of (b ∷ [])) s (subst (λ (l : List Slip). Among l s) (blocks_append f.front (b ∷ [])) h)) [
          | inl front ↦ stays_stored w plan s (f.stored s front)
          | inr own ↦ own_stored s (subst (λ (l : List Slip). Among l s) (append-nil plan.finals) own)
        ];
        only = λ s final e. elim (only_planned w plan s history (found_is_among w.history s (final_found w.history history s final)) e) [
          | inl before ↦ subst (λ (l : List Slip). Among l s) (sym (blocks_append f.front (b ∷ []))) (among_left (blocks_of f.front) (blocks_of (b ∷ [])) s (f.only s final before))
          | inr planned ↦ elim (among_parts plan.finals plan.dead s planned) [
            | inl a ↦ subst (λ (l : List Slip). Among l s) (sym (blocks_append f.front (b ∷ []))) (among_right (blocks_of f.front) (blocks_of (b ∷ [])) s (subst (λ (l : List Slip). Among l s) (sym (append-nil plan.finals)) a))
            | inr d ↦ absurd (dead_off w plan is s d final)
          ]
        ];
      }
    where
      own_stored : (s : Slip) → Among plan.finals s → is_stored (shed w plan) s ≡ true
      own_stored s h =
          let up = final_of b there s h in
          planned_stored w plan s (found_is_among w.history s (final_found w.history history s (reverse_among (final_ancestry w.history) s up))) (among_left plan.finals plan.dead s h)

pub shed_keeps_front : ShedKeepsFront
shed_keeps_front w plan some history f e =
    let is = plan_is w plan e in
    elim is.finals [ inl none ↦ front_dead w plan history f is none | inr p ↦ front_bundle w plan some history f is p ]

-- one of the blocks of a plan was not stored
record IsOpen (w : World) (plan : Plan) : Type 0 where
  block : Slip
  there : Among w.history block
  planned : Among (plan.finals ++ plan.dead) block
  open' : is_stored w block ≡ false

open_dead : (w : World) (plan : Plan) (s : Slip) (rest : List Slip) → IsPlan w plan → plan.dead ≡ s ∷ rest → IsOpen w plan
open_dead w plan s rest is e =
    let own : Among plan.dead s = subst (λ (l : List Slip). Among l s) (sym e) (inl refl) in
    let f = filter_among (is_dead w plan.below) (reverse w.history) s (subst (λ (l : List Slip). Among l s) is.dead own) in
    let parts = and_parts (not (has_id (final_ancestry w.history) s.id) && ltb s.num plan.below) (not (is_stored w s)) f.1 in
    record { block = s; there = reverse_among w.history s f.0; planned = among_right plan.finals plan.dead s own; open' = not_back (is_stored w s) parts.1 }

open_first : (w : World) (plan : Plan) → 0 < w.size → IsHistory w.history → IsBundlePlan w plan → IsOpen w plan
open_first w plan some history p =
    let lead = find_first (λ t. not (is_stored w t)) (finals_up w.history) (finals_climb w.history history) p.first p.first_is in
    let n = Rattle.bundle_model.proofs.public.BundleFacts.num_within w.size p.first.num some in
    let k = Rattle.bundle_model.proofs.public.BundleFacts.base_is w.size p.first.num in
    let base = p.base in
    let hit : is_within w.size plan.base p.first ≡ true = rw (Rattle.std.proofs.lemmas.Bool.le-leb plan.base p.first.num (omega (arith, n.0, k, base)), Rattle.std.proofs.lemmas.Bool.lt-ltb p.first.num (plan.base + w.size) (omega (arith, n.1, k, base))) refl in
    let own = subst (λ (l : List Slip). Among l p.first) (sym p.finals) (among_filter (is_within w.size plan.base) (finals_up w.history) p.first lead.there hit) in
    record {
      block = p.first;
      there = found_is_among w.history p.first (final_found w.history history p.first (reverse_among (final_ancestry w.history) p.first lead.there));
      planned = among_left plan.finals plan.dead p.first own;
      open' = not_back (is_stored w p.first) lead.passes;
    }

less_by : (w : World) (plan : Plan) → IsOpen w plan → retained (shed w plan) < retained w
less_by w plan o =
    let done = planned_stored w plan o.block o.there o.planned in
    filter_less (λ s. not (is_stored (shed w plan) s)) (λ s. not (is_stored w s)) w.history
    (λ s h e. kept s (cases_Bool (is_stored w s)) e) o.block o.there (ap not done) (ap not o.open')
  where
    kept : (s : Slip) → (is_stored w s ≡ true) ⊎ (is_stored w s ≡ false) → not (is_stored (shed w plan) s) ≡ true → not (is_stored w s) ≡ true
    kept s (inl before) e = absurd (both_ways _ (ap not (stays_stored w plan s before)) e)
    kept s (inr open') e = ap not open'

pub shed_retains_less : ShedRetainsLess
shed_retains_less w plan some history e =
    let is = plan_is w plan e in
    elim is.filled [ inl d ↦ less_by w plan (open_dead w plan d.0 d.1 is d.2) | inr p ↦ less_by w plan (open_first w plan some history p) ]

-- the blocks of a plan
planned_own : (w : World) (plan : Plan) → 0 < w.size → IsHistory w.history → IsPlan w plan → (x : Slip) → Among (plan.finals ++ plan.dead) x
    → (is_bundled w.size w.history x ≡ true) ⊎ (is_passed_by w.size w.history x ≡ true)
planned_own w plan some history is x h =
    elim (among_parts plan.finals plan.dead x h) [
      | inl a ↦ elim is.finals [
        | inl none ↦ absurd (subst (λ (l : List Slip). Among l x) none a)
        | inr p ↦ inl (among_any (blocks_of (bundles_of w.size w.history)) x (blocks_has (bundles_of w.size w.history) (record { base = plan.base; blocks = plan.finals }) (planned_there w plan some history is p) x a))
      ]
      | inr d ↦
          let f = filter_among (is_dead w plan.below) (reverse w.history) x (subst (λ (l : List Slip). Among l x) is.dead d) in
          let parts = and_parts (not (has_id (final_ancestry w.history) x.id) && ltb x.num plan.below) (not (is_stored w x)) f.1 in
          let both = and_parts (not (has_id (final_ancestry w.history) x.id)) (ltb x.num plan.below) parts.0 in
          let t = is.under in
          let end = is.end in
          let r = is.reached in
          let i = finals_are_bundled w.size w.history t.0 some history t.1 (omega (arith, t.2, end, r)) in
          let up = in_end w.size (bundles_of w.size w.history) (bundles_rise w.size w.history some) i.bundle i.there in
          let low = ltb-true x.num plan.below both.1 in
          let less = lt-ltb x.num (last_end w.size (bundles_of w.size w.history)) (omega (arith, low, end, t.2, i.based, up)) in
          let away = both.0 in
          inr (rw (away, less) refl)
    ]

pub shed_keeps_own : ShedKeepsOwn
shed_keeps_own w plan some history own e x h k =
    elim (only_planned w plan x history h k) [
      | inl before ↦ own x h before
      | inr planned ↦ planned_own w plan some history (plan_is w plan e) x planned
    ]

-- the bundle of a plan is one of the bundles
pub plans_are_bundles : PlansAreBundles
plans_are_bundles w plan some history e =
    let is = plan_is w plan e in
    elim is.finals [ inl none ↦ inl none | inr p ↦ inr (planned_there w plan some history is p) ]
