-- The head of a history, from the block before it and its rivals.
use Rattle.std.proofs.Common.{arith, ◌≡◌, ◌<◌, ◌≤◌, ◌==◌, ◌⊎◌, inl, inr, ℕ, Bool, true, false, cond, List, [], ◌∷◌, length, Option, Some, None, refl, sym, ◌∙◌, ap, subst, filter, ltb}
use Rattle.std.specs.List.{cons_option}
use Rattle.std.proofs.lemmas.Option.{same_Some}
use Rattle.std.proofs.lemmas.Bool.{both_ways, lt-ltb, le-ltb, eqb-true}
use mathlib.Core.List.{IsSuffix, IsSuffix-trans}
use Rattle.block_record.specs.declared.blocks.Slip.{Slip}
use Rattle.chain_model.specs.Ancestry.{find_id, has_id, ancestry, IsHistory}
use Rattle.chain_model.specs.Finality.{claim, claims, greater, greatest, on_path, final_tip, ancestry_of, ClaimsAgree}
use Rattle.chain_model.specs.Steps.{holds_tip}
use Rattle.chain_model.proofs.public.ScanFacts.{ancestry_past}
use Rattle.chain_laws.proofs.public.Lines.{IsHistory-rest, has_id-find_id, other_id, is_above}
use Rattle.chain_laws.proofs.public.Growth.{IsFound, find_passes, claim_found, claims_kept, tip_claimed, greater_cases, grows_by_one}
use Rattle.chain_laws.proofs.public.Reach.{has_id-suffix}
use Rattle.chain_laws.proofs.public.LineFacts.{same_number}
use Rattle.chain_laws.proofs.public.Meeting.{itself_on_path, all_in}
use Rattle.chain_laws.proofs.public.Roots.{has_tip}
use Rattle.block_tree.specs.Places.{slip_at, place_of}
use Rattle.block_tree.proofs.public.PlaceFacts.{slip_at_within, slip_at_past, slip_at_top}
use Rattle.block_tree.proofs.public.ParentFacts.{found_at}
use Rattle.block_tree.proofs.public.PathFacts.{place_at}
use Rattle.fork_db.specs.Heads.{IsBest, holds_final_tip}
use Rattle.fork_db.proofs.public.ClaimFacts.{on_path_past}

not_less : (a b place at : ℕ) → (b < a) ⊎ ((b ≡ a) × (place ≤ at)) → ltb a b ≡ false
not_less a b place at (inl h) = le-ltb a b (omega arith)
not_less a b place at (inr h) = let f : b ≡ a = h.0 in le-ltb a b (omega arith)

greater_new : (o : Option Slip) (s : Slip) → ((t : Slip) → o ≡ Some t → t.num < s.num) → greater o s ≡ Some s
greater_new None s h = refl
greater_new (Some t) s h = rw (lt-ltb t.num s.num (h t refl)) refl

greater_old : {place at : ℕ} (z s : Slip) → (s.num < z.num) ⊎ ((s.num ≡ z.num) × (place ≤ at)) → greater (Some z) s ≡ Some z
greater_old {place = place} {at = at} z s h = rw (not_less z.num s.num place at h) refl

no_slip : (place : ℕ) (z : Slip) → slip_at [] place ≡ Some z → ⊥
no_slip place z e = grind arith

strictly : (t z s place at n : ℕ) → z ≡ s → (place == n) ≡ true → at < n → (t < z) ⊎ ((t ≡ z) × (place ≤ at)) → t < s
strictly t z s place at n e top lt (inl h) = omega arith
strictly t z s place at n e top lt (inr h) = let f : place ≡ n = grind arith in let g : place ≤ at = h.1 in absurd (let k : ⊥ = omega arith in k)

-- what is greatest stands in the list
greatest_in : (p : Slip → Bool) (newest : List Slip) (t : Slip) → greatest (filter p newest) ≡ Some t → (at : ℕ) × (slip_at newest at ≡ Some t) × (p t ≡ true)
greatest_in p [] t e = absurd (grind arith)
greatest_in p (s ∷ older) t e =
    let P : Bool → Type 0 = λ b. p s ≡ b → greatest (cond b (s ∷ filter p older) (filter p older)) ≡ Some t → (at : ℕ) × (slip_at (s ∷ older) at ≡ Some t) × (p t ≡ true) in
    let later : greatest (filter p older) ≡ Some t → (at : ℕ) × (slip_at (s ∷ older) at ≡ Some t) × (p t ≡ true) = λ f.
    let r = greatest_in p older t f in (r.0, slip_at_past s older r.0 (slip_at_within older r.0 t r.1) ∙ r.1, r.2) in
    (elim (p s) as P [
      | true ↦ λ good f. elim (greater_cases (greatest (filter p older)) s t f) [
        | inl old ↦ later old
        | inr same ↦ (length older, slip_at_top s older ∙ ap Some same, subst (λ (x : Slip). p x ≡ true) same good)
      ]
      | false ↦ λ _ f. later f
    ]) refl e

-- the best of all is the greatest
pub best_greatest : (p : Slip → Bool) (newest : List Slip) (place : ℕ) (z : Slip) → IsBest p newest place z → greatest (filter p newest) ≡ Some z
best_greatest p [] place z h = absurd (no_slip place z h.here)
best_greatest p (s ∷ older) place z h =
    let P : Bool → Type 0 = λ b. (place == length older) ≡ b → cond b (Some s) (slip_at older place) ≡ Some z → greatest (filter p (s ∷ older)) ≡ Some z in
    (elim (place == length older) as P [
      | true ↦ λ top f.
          let same : s ≡ z = same_Some s z f in
          let good : p s ≡ true = subst (λ (x : Slip). p x ≡ true) (sym same) h.good in
          let below : (t : Slip) → greatest (filter p older) ≡ Some t → t.num < s.num = λ t g.
          let r = greatest_in p older t g in
          let lt = slip_at_within older r.0 t r.1 in
          strictly t.num z.num s.num place r.0 (length older) (ap (λ (x : Slip). x.num) (sym same)) top lt (h.most r.0 t (slip_at_past s older r.0 lt ∙ r.1) r.2) in
          rw good (greater_new (greatest (filter p older)) s below) ∙ ap Some same
      | false ↦ λ low f.
          let lt = slip_at_within older place z f in
          let rest : IsBest p older place z = record { here = f; good = h.good; most = λ at x g q. h.most at x (slip_at_past s older at (slip_at_within older at x g) ∙ g) q } in
          let before = best_greatest p older place z rest in
          let Q : Bool → Type 0 = λ b. p s ≡ b → greatest (cond b (s ∷ filter p older) (filter p older)) ≡ Some z in
          (elim (p s) as Q [
            | true ↦ λ good. ap (λ o. greater o s) before ∙ greater_old z s (h.most (length older) s (slip_at_top s older) good)
            | false ↦ λ _. before
          ]) refl
    ]) refl h.here

pub new_or_old : (s : Slip) (older : List Slip) (at : ℕ) (x : Slip) → slip_at (s ∷ older) at ≡ Some x → ((at ≡ length older) × (s ≡ x)) ⊎ (slip_at older at ≡ Some x)
new_or_old s older at x e =
    let P : Bool → Type 0 = λ b. (at == length older) ≡ b → cond b (Some s) (slip_at older at) ≡ Some x → ((at ≡ length older) × (s ≡ x)) ⊎ (slip_at older at ≡ Some x) in
    (elim (at == length older) as P [ true ↦ λ t f. inl (eqb-true at (length older) t, same_Some s x f) | false ↦ λ _ f. inr f ]) refl e

below_new : (x z s place at : ℕ) → z < s → (x < z) ⊎ ((x ≡ z) × (place ≤ at)) → x < s
below_new x z s place at lt (inl h) = omega arith
below_new x z s place at lt (inr h) = let f : x ≡ z = h.0 in omega arith

less_or_same : (x z : ℕ) → x ≤ z → (x < z) ⊎ (x ≡ z)
less_or_same x z le = grind arith

no_better : (x s z place at n : ℕ) → x ≡ s → at ≡ n → place < n → s ≤ z → (x < z) ⊎ ((x ≡ z) × (place ≤ at))
no_better x s z place at n e top lt le = elim (less_or_same x z (omega arith)) [ inl a ↦ inl a | inr b ↦ inr (b, omega arith) ]

-- one more block, which is better than the best before; of the blocks that passed no other holds_final_tip now
pub best_new : (p q : Slip → Bool) (s : Slip) (older : List Slip) (place : ℕ) (z : Slip) → ((at : ℕ) (x : Slip) → slip_at older at ≡ Some x → q x ≡ true → p x ≡ true) → q s ≡ true → z.num < s.num
    → IsBest p older place z → IsBest q (s ∷ older) (length older) s
best_new p q s older place z fewer good more h = record {
  here = slip_at_top s older;
  good = good;
  most = λ at x e f. elim (new_or_old s older at x e) [
    | inl top ↦ inr (ap (λ (y : Slip). y.num) (sym top.1), omega (arith, top.0))
    | inr old ↦ inl (below_new x.num z.num s.num place at more (h.most at x old (fewer at x old f)))
  ];
}

-- one more block, which is not better
pub best_kept : (p q : Slip → Bool) (s : Slip) (older : List Slip) (place : ℕ) (z : Slip) → ((at : ℕ) (x : Slip) → slip_at older at ≡ Some x → q x ≡ true → p x ≡ true) → q z ≡ true → (q s ≡ true → s.num ≤ z.num)
    → IsBest p older place z → IsBest q (s ∷ older) place z
best_kept p q s older place z fewer good less h =
    let lt = slip_at_within older place z h.here in
    record {
      here = slip_at_past s older place lt ∙ h.here;
      good = good;
      most = λ at x e f. elim (new_or_old s older at x e) [
        | inl top ↦ no_better x.num s.num z.num place at (length older) (ap (λ (y : Slip). y.num) (sym top.1)) top.0 lt (less (subst (λ (y : Slip). q y ≡ true) (sym top.1) f))
        | inr old ↦ h.most at x old (fewer at x old f)
      ];
    }

-- a path does not change with one more block
path_past : (s : Slip) (older : List Slip) (y : Slip) → IsHistory (s ∷ older) → find_id older y.id ≡ Some y → ancestry (s ∷ older) y.id ≡ ancestry older y.id
path_past s older y h f = ancestry_past s older y.id (other_id s older h y.id (has_id-find_id older y.id y f))

-- a path holds the paths of its blocks
pub on_path_through : (newest : List Slip) (x y z : Slip) → IsHistory newest → on_path newest x y ≡ true → on_path newest y z ≡ true → on_path newest x z ≡ true
on_path_through newest x y z h a b = has_id-suffix (ancestry newest y.id) (ancestry newest z.id) x.id (is_above newest h z.id y.id b).line a

-- where a path has the tip, so has each path that goes on from it
pub passes_through : (newest : List Slip) (x y : Slip) → IsHistory newest → holds_final_tip newest x ≡ true → on_path newest x y ≡ true → holds_final_tip newest y ≡ true
passes_through newest x y h good on = go (final_tip newest) good
  where
    go : (o : Option Slip) → holds_tip newest o x ≡ true → holds_tip newest o y ≡ true
    go None e = refl
    go (Some t) e = on_path_through newest t x y h e on

-- a block whose path has the tip had the tip before on it
pub passed_before : (s : Slip) (older : List Slip) → IsHistory (s ∷ older) → ClaimsAgree (s ∷ older) → (at : ℕ) (x : Slip) → slip_at older at ≡ Some x → holds_final_tip (s ∷ older) x ≡ true → holds_final_tip older x ≡ true
passed_before s older history agreed at x e good = go (final_tip older) refl
  where
    rest : IsHistory older
    rest = IsHistory-rest s older history

    under : (t u : Slip) → final_tip older ≡ Some t → final_tip (s ∷ older) ≡ Some u → IsSuffix (ancestry older t.id) (ancestry (s ∷ older) u.id)
    under t u et eu = subst (λ o. IsSuffix (ancestry older t.id) (ancestry_of (s ∷ older) o)) eu (grows_by_one s older history agreed (Some t) et)

    held : (t : Slip) → final_tip older ≡ Some t → (o : Option Slip) → final_tip (s ∷ older) ≡ o → holds_tip (s ∷ older) o x ≡ true → on_path older t x ≡ true
    held t et None eu h = absurd (has_tip s older history eu)
    held t et (Some u) eu h =
        let claimed = tip_claimed older rest t et in
        let ft = claim_found older rest claimed.by t claimed.claimed in
        let line = IsSuffix-trans (under t u et eu) (is_above (s ∷ older) history x.id u.id h).line in
        subst (λ l. has_id l t.id ≡ true) (path_past s older x history (found_at older at x rest e))
        (has_id-suffix (ancestry older t.id) (ancestry (s ∷ older) x.id) t.id line (itself_on_path older t ft))

    go : (o : Option Slip) → final_tip older ≡ o → holds_tip older o x ≡ true
    go None et = refl
    go (Some t) et = held t et (final_tip (s ∷ older)) refl good

-- a claim is on the path of its block
claim_on_path : (newest : List Slip) (s c : Slip) → claim newest s ≡ Some c → has_id (ancestry newest s.id) c.id ≡ true
claim_on_path newest s c e = find_passes (λ (x : Slip). has_id (ancestry newest s.id) x.id ≡ true) _ (ancestry newest s.id) c (all_in (ancestry newest s.id)) e

greater_stays : (o : Option Slip) (c : Slip) → (greater o c ≡ o) ⊎ (greater o c ≡ Some c)
greater_stays None c = inr refl
greater_stays (Some t) c =
    let P : Bool → Type 0 = λ b. (cond b (Some c) (Some t) ≡ Some t) ⊎ (cond b (Some c) (Some t) ≡ Some c) in
    elim (ltb t.num c.num) as P [ true ↦ inr refl | false ↦ inl refl ]

-- a block whose path has not the tip does not move it
pub tip_stays : (s : Slip) (older : List Slip) → IsHistory (s ∷ older) → holds_final_tip (s ∷ older) s ≡ false → final_tip (s ∷ older) ≡ final_tip older
tip_stays s older history miss = go (claim (s ∷ older) s) refl
  where
    go : (o : Option Slip) → claim (s ∷ older) s ≡ o → final_tip (s ∷ older) ≡ final_tip older
    go None e = ap greatest (claims_kept s older history ∙ ap (λ o. cons_option o (claims older)) e)
    go (Some c) e =
        let step : final_tip (s ∷ older) ≡ greater (final_tip older) c = ap greatest (claims_kept s older history ∙ ap (λ o. cons_option o (claims older)) e) in
        elim (greater_stays (final_tip older) c) [
          | inl stays ↦ step ∙ stays
          | inr moved ↦ absurd (both_ways _ miss (subst (λ o. holds_tip (s ∷ older) o s ≡ true) (sym (step ∙ moved)) (claim_on_path (s ∷ older) s c e)))
        ]

-- and each path that had the tip has it
pub passes_still : (s : Slip) (older : List Slip) → IsHistory (s ∷ older) → final_tip (s ∷ older) ≡ final_tip older → (x : Slip) → IsFound older x → holds_final_tip older x ≡ true → holds_final_tip (s ∷ older) x ≡ true
passes_still s older history e x f good = subst (λ o. holds_tip (s ∷ older) o x ≡ true) (sym e) (go (final_tip older) good)
  where
    go : (o : Option Slip) → holds_tip older o x ≡ true → holds_tip (s ∷ older) o x ≡ true
    go None h = refl
    go (Some t) h = on_path_past s older t x history f ∙ h

-- a block on a path is below its end, or is the end
pub under_num : (newest : List Slip) (at place : ℕ) (x y : Slip) → IsHistory newest → slip_at newest at ≡ Some x → slip_at newest place ≡ Some y → on_path newest x y ≡ true → (x.num < y.num) ⊎ ((x.num ≡ y.num) × (at ≡ place))
under_num newest at place x y h ex ey on =
    let fx = found_at newest at x h ex in
    let fy = found_at newest place y h ey in
    elim (less_or_same x.num y.num ((is_above newest h y.id x.id on).nums x y fx fy)) [
      | inl less ↦ inl less
      | inr same ↦
          let one : x ≡ y = same_number newest h x y fx fy on (omega (arith, same)) in
          inr (same, same_Some at place (sym (place_at newest at x h ex) ∙ ap (λ (s : Slip). place_of newest s.id) one ∙ place_at newest place y h ey))
    ]
