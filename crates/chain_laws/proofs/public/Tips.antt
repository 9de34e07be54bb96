-- The last final block: each claim is on its path.
use Rattle.std.proofs.Common.{arith, ◌≡◌, ◌≤◌, ◌⊎◌, inl, inr, ℕ, Bool, true, false, ltb, ◌||◌, List, [], ◌∷◌, ◌++◌, Option, Some, None, refl, sym, ◌∙◌, ap, subst}
use Rattle.std.specs.List.{AllByRecursion, filter_map, cons_option}
use Rattle.std.proofs.lemmas.Bool.{cases_Bool, or_cases, ltb-true, ltb-false}
use Rattle.std.proofs.lemmas.Option.{same_Some}
use mathlib.Core.List.{IsSuffix}
use Rattle.block_record.specs.declared.blocks.Slip.{Slip}
use Rattle.chain_model.specs.Ancestry.{has_id, ancestry, IsHistory}
use Rattle.chain_model.specs.Finality.{claim, claims, agrees, on_path, ClaimsAgree, greater, greatest, final_tip, ancestry_of, final_ancestry}
use Rattle.chain_model.proofs.public.ScanFacts.{ancestry_past}
use Rattle.chain_laws.proofs.public.Lines.{IsHistory-rest, is_above, other_id, has_id-find_id}
use Rattle.chain_laws.proofs.public.Growth.{IsFound, find_passes, found_past, found_cases, claim_found, claim_kept, tip_claimed}
use Rattle.chain_laws.proofs.public.Reach.{has_id-suffix}
use Rattle.chain_laws.proofs.public.Meeting.{greater_is_some, itself_on_path}
use Rattle.chain_laws.specs.Laws.{SameBlocks, FinalInAnyOrder, ClaimsGoOnToAgree}
use Rattle.chain_laws.proofs.public.Roots.{has_tip}
use Rattle.chain_laws.proofs.public.LineFacts.{same_number}
use Rattle.chain_laws.proofs.public.Orders.{same_lines, same_root, claims_agree_in_any_order}

-- the greatest has the greatest number
greatest_none : (xs : List Slip) → greatest xs ≡ None → xs ≡ []
greatest_none [] e = refl
greatest_none (x ∷ xs) e = absurd (greater_is_some (greatest xs) x e)

greater_most : (u x t : Slip) → greater (Some u) x ≡ Some t → (u.num ≤ t.num) × (x.num ≤ t.num)
greater_most u x t e =
    elim (cases_Bool (ltb u.num x.num)) [
      | inl less ↦
          let same : x ≡ t = same_Some x t (sym (pick_next u x less) ∙ e) in
          let lt = ltb-true u.num x.num less in
          let n : x.num ≡ t.num = ap (λ s. s.num) same in
          (omega (arith, lt, n), omega (arith, n))
      | inr more ↦
          let same : u ≡ t = same_Some u t (sym (pick_first u x more) ∙ e) in
          let ge = ltb-false u.num x.num more in
          let n : u.num ≡ t.num = ap (λ s. s.num) same in
          (omega (arith, n), omega (arith, ge, n))
    ]
  where
    pick_next : (a b : Slip) → ltb a.num b.num ≡ true → greater (Some a) b ≡ Some b
    pick_next a b less = rw less refl

    pick_first : (a b : Slip) → ltb a.num b.num ≡ false → greater (Some a) b ≡ Some a
    pick_first a b more = rw more refl

all_below : (t u : Slip) (xs : List Slip) → u.num ≤ t.num → AllByRecursion (λ x. x.num ≤ u.num) xs → AllByRecursion (λ x. x.num ≤ t.num) xs
all_below t u [] le all = tt
all_below t u (x ∷ xs) le all = (omega (arith, le, all.0), all_below t u xs le all.1)

-- no block of a list has a greater number than its greatest
pub greatest_most : (xs : List Slip) (t : Slip) → greatest xs ≡ Some t → AllByRecursion (λ x. x.num ≤ t.num) xs
greatest_most [] t e = tt
greatest_most (x ∷ xs) t e = go (λ u is. greatest_most xs u is) (greatest xs) refl e
  where
    go : ((u : Slip) → greatest xs ≡ Some u → AllByRecursion (λ y. y.num ≤ u.num) xs) → (o : Option Slip) → greatest xs ≡ o → greater o x ≡ Some t → AllByRecursion (λ y. y.num ≤ t.num) (x ∷ xs)
    go before None is f =
        let same : x ≡ t = same_Some x t f in
        (omega (arith, ap (λ s. s.num) same), subst (AllByRecursion (λ y. y.num ≤ t.num)) (sym (greatest_none xs is)) tt)
    go before (Some u) is f =
        let most = greater_most u x t f in
        (most.1, all_below t u xs most.0 (before u is))

none_is_not_some : (c : Slip) → None ≡ Some c → ⊥
none_is_not_some c e = cc

-- no claim has a greater number than the tip
claims_most : (g : Slip → Option Slip) (n : ℕ) (xs : List Slip) → AllByRecursion (λ x. x.num ≤ n) (filter_map g xs) → AllByRecursion (λ b. (c : Slip) → g b ≡ Some c → c.num ≤ n) xs
claims_most g n [] all = tt
claims_most g n (x ∷ xs) all = go (λ h. claims_most g n xs h) (g x) refl all
  where
    go : (AllByRecursion (λ y. y.num ≤ n) (filter_map g xs) → AllByRecursion (λ b. (c : Slip) → g b ≡ Some c → c.num ≤ n) xs) → (o : Option Slip) → g x ≡ o
        → AllByRecursion (λ y. y.num ≤ n) (cons_option o (filter_map g xs)) → AllByRecursion (λ b. (c : Slip) → g b ≡ Some c → c.num ≤ n) (x ∷ xs)
    go rest None is h = (λ c e. absurd (none_is_not_some c (sym is ∙ e)), rest h)
    go rest (Some y) is h = (λ c e. subst (λ (s : Slip). s.num ≤ n) (same_Some y c (sym is ∙ e)) h.0, rest h.1)

pub tip_most : (newest : List Slip) (t b c : Slip) → final_tip newest ≡ Some t → IsFound newest b → claim newest b ≡ Some c → c.num ≤ t.num
tip_most newest t b c is found claimed =
    find_passes (λ x. (y : Slip) → claim newest x ≡ Some y → y.num ≤ t.num) _ newest b (claims_most (claim newest) t.num newest (greatest_most (claims newest) t is)) found c claimed

-- each claim is on the path of the tip
pub claim_final : (newest : List Slip) → IsHistory newest → ClaimsAgree newest → (t b c : Slip) → final_tip newest ≡ Some t → IsFound newest b → claim newest b ≡ Some c → has_id (ancestry newest t.id) c.id ≡ true
claim_final newest history agreed t b c is found claimed =
    let tip_by = tip_claimed newest history t is in
    let ft = claim_found newest history tip_by.by t tip_by.claimed in
    let fc = claim_found newest history b c claimed in
    elim (or_cases _ _ (agreed b tip_by.by c t found tip_by.found claimed tip_by.claimed)) [
      | inl under ↦ under
      | inr over ↦
          let same : t ≡ c = same_number newest history t c ft fc over (tip_most newest t b c is found claimed) in
          subst (λ (x : Slip). has_id (ancestry newest t.id) x.id ≡ true) same (itself_on_path newest t ft)
    ]

-- of two blocks on one path, one is on the other's
suffix_total : (p q a b : List Slip) → p ++ a ≡ q ++ b → IsSuffix a b ⊎ IsSuffix b a
suffix_total [] q a b e = inr (q, sym e)
suffix_total (x ∷ p) [] a b e = inl (x ∷ p, e)
suffix_total (x ∷ p) (y ∷ q) a b e = let rest : p ++ a ≡ q ++ b = tails x y (p ++ a) (q ++ b) e in suffix_total p q a b rest
  where
    tails : (u v : Slip) (us vs : List Slip) → u ∷ us ≡ v ∷ vs → us ≡ vs
    tails u v us vs h = grind (arith, h)

agrees_left : (newest : List Slip) (x y : Slip) → has_id (ancestry newest y.id) x.id ≡ true → agrees newest x y ≡ true
agrees_left newest x y h = rw h refl

agrees_right : (newest : List Slip) (x y : Slip) → has_id (ancestry newest x.id) y.id ≡ true → agrees newest x y ≡ true
agrees_right newest x y h = either (on_path newest x y) (on_path newest y x) h
  where
    either : (p q : Bool) → q ≡ true → (p || q) ≡ true
    either p q e = grind (arith, e)

-- two blocks on one path agree
pub on_one_path : (newest : List Slip) → IsHistory newest → (id : List ℕ) (x y : Slip) → IsFound newest x → IsFound newest y → has_id (ancestry newest id) x.id ≡ true → has_id (ancestry newest id) y.id ≡ true → agrees newest x y ≡ true
on_one_path newest history id x y fx fy hx hy =
    let lx = (is_above newest history id x.id hx).line in
    let ly = (is_above newest history id y.id hy).line in
    elim (suffix_total lx.0 ly.0 _ _ (lx.1 ∙ sym ly.1)) [
      | inl under ↦ agrees_left newest x y (has_id-suffix _ _ x.id under (itself_on_path newest x fx))
      | inr over ↦ agrees_right newest x y (has_id-suffix _ _ y.id over (itself_on_path newest y fy))
    ]

agrees_turned : (newest : List Slip) (x y : Slip) → agrees newest x y ≡ true → agrees newest y x ≡ true
agrees_turned newest x y h = elim (or_cases _ _ h) [ inl a ↦ agrees_right newest y x a | inr b ↦ agrees_left newest y x b ]

-- the next claim agrees with one before
next_agrees : (s : Slip) (older : List Slip) → IsHistory (s ∷ older) → ClaimsAgree older → (c t b y : Slip) → IsFound (s ∷ older) c → final_tip older ≡ Some t → agrees (s ∷ older) c t ≡ true
    → IsFound older b → claim older b ≡ Some y → agrees (s ∷ older) c y ≡ true
next_agrees s older history agreed c t b y fc is says fb cy =
    let rest = IsHistory-rest s older history in
    let tip_by = tip_claimed older rest t is in
    let ft = claim_found older rest tip_by.by t tip_by.claimed in
    let fy = found_past s older history y (claim_found older rest b y cy) in
    let past : ancestry (s ∷ older) t.id ≡ ancestry older t.id = ancestry_past s older t.id (other_id s older history t.id (has_id-find_id older t.id t ft)) in
    let hy : has_id (ancestry (s ∷ older) t.id) y.id ≡ true = rw past (claim_final older rest agreed t b y is fb cy) in
    elim (or_cases _ _ says) [
      | inl under ↦ on_one_path (s ∷ older) history t.id c y fc fy under hy
      | inr over ↦ agrees_right (s ∷ older) c y (has_id-suffix _ _ y.id (is_above (s ∷ older) history c.id t.id over).line hy)
    ]

-- claims of blocks that were there
old_agree : (s : Slip) (older : List Slip) → IsHistory (s ∷ older) → ClaimsAgree older → (a b x y : Slip) → IsFound older a → IsFound older b → claim older a ≡ Some x → claim older b ≡ Some y → agrees (s ∷ older) x y ≡ true
old_agree s older history agreed a b x y fa fb cx cy =
    let rest = IsHistory-rest s older history in
    let past = λ (c : Slip) (f : IsFound older c). ancestry_past s older c.id (other_id s older history c.id (has_id-find_id older c.id c f)) in
    rw (past y (claim_found older rest b y cy), past x (claim_found older rest a x cx)) (agreed a b x y fa fb cx cy)

tip_of : (older : List Slip) (b : Slip) → IsHistory older → IsFound older b → (t : Slip) × (final_tip older ≡ Some t)
tip_of [] b history found = absurd (nothing b found)
  where
    nothing : (x : Slip) → IsFound [] x → ⊥
    nothing x f = grind arith
tip_of (x ∷ older) b history found = go (final_tip (x ∷ older)) refl
  where
    go : (o : Option Slip) → final_tip (x ∷ older) ≡ o → (t : Slip) × (final_tip (x ∷ older) ≡ Some t)
    go None e = absurd (has_tip x older history e)
    go (Some t) e = (t, e)

pub claims_go_on_to_agree : ClaimsGoOnToAgree
claims_go_on_to_agree s older history agreed test a b x y fa fb cx cy =
    let rest = IsHistory-rest s older history in
    let old = λ (d z : Slip) (f : IsFound older d) (e : claim (s ∷ older) d ≡ Some z). sym (claim_kept s older history d f) ∙ e in
    elim (found_cases s older a fa) [
      | inl same_a ↦ elim (found_cases s older b fb) [
        | inl same_b ↦
            let one : x ≡ y = same_Some x y (sym cx ∙ ap (claim (s ∷ older)) (sym same_a ∙ same_b) ∙ cy) in
            subst (λ (z : Slip). agrees (s ∷ older) x z ≡ true) one (agrees_left (s ∷ older) x x (itself_on_path (s ∷ older) x (claim_found (s ∷ older) history a x cx)))
        | inr old_b ↦
            let t = tip_of older b rest old_b in
            next_agrees s older history agreed x t.0 b y (claim_found (s ∷ older) history a x cx) t.1 (test t.0 x t.1 (ap (claim (s ∷ older)) same_a ∙ cx)) old_b (old b y old_b cy)
      ]
      | inr old_a ↦ elim (found_cases s older b fb) [
        | inl same_b ↦
            let t = tip_of older a rest old_a in
            agrees_turned (s ∷ older) y x
            (next_agrees s older history agreed y t.0 a x (claim_found (s ∷ older) history b y cy) t.1 (test t.0 y t.1 (ap (claim (s ∷ older)) same_b ∙ cy)) old_a (old a x old_a cx))
        | inr old_b ↦ old_agree s older history agreed a b x y old_a old_b (old a x old_a cx) (old b y old_b cy)
      ]
    ]

-- the tip in another order
claim_in : (a b : List Slip) → IsHistory a → IsHistory b → SameBlocks a b → (s : Slip) → IsFound b s → claim a s ≡ claim b s
claim_in a b ha hb same s f = rw (same_lines a b ha hb same s f, same_root a b ha hb same) refl

tip_in : (a b : List Slip) → IsHistory a → IsHistory b → SameBlocks a b → ClaimsAgree b → (t u : Slip) → final_tip a ≡ Some t → final_tip b ≡ Some u → t ≡ u
tip_in a b ha hb same agreed t u et eu =
    let x = tip_claimed a ha t et in
    let y = tip_claimed b hb u eu in
    let fx = same.there x.by x.found in
    let in_b : claim b x.by ≡ Some t = sym (claim_in a b ha hb same x.by fx) ∙ x.claimed in
    let in_a : claim a y.by ≡ Some u = claim_in a b ha hb same y.by y.found ∙ y.claimed in
    let low = tip_most a t y.by u et (same.back y.by y.found) in_a in
    let on = claim_final b hb agreed u x.by t eu fx in_b in
    same_number b hb t u (claim_found b hb x.by t in_b) (claim_found b hb y.by u y.claimed) on low

pub final_in_any_order : FinalInAnyOrder
final_in_any_order a b ha hb same agreed = go (final_tip a) (final_tip b) refl refl
  where
    agreed_b : ClaimsAgree b
    agreed_b = claims_agree_in_any_order a b ha hb same agreed

    go : (o p : Option Slip) → final_tip a ≡ o → final_tip b ≡ p → (final_tip a ≡ final_tip b) × (final_ancestry a ≡ final_ancestry b)
    go None None ea eb = (ea ∙ sym eb, ap (ancestry_of a) ea ∙ sym (ap (ancestry_of b) eb))
    go None (Some u) ea eb =
        let y = tip_claimed b hb u eb in
        let t = tip_of a y.by ha (same.back y.by y.found) in
        absurd (none_is_not_some t.0 (sym ea ∙ t.1))
    go (Some t) None ea eb =
        let x = tip_claimed a ha t ea in
        let u = tip_of b x.by hb (same.there x.by x.found) in
        absurd (none_is_not_some u.0 (sym eb ∙ u.1))
    go (Some t) (Some u) ea eb =
        let one = tip_in a b ha hb same agreed_b t u ea eb in
        let y = tip_claimed b hb u eb in
        let fu = claim_found b hb y.by u y.claimed in
        let line : ancestry a t.id ≡ ancestry b u.id = ap (λ s. ancestry a s.id) one ∙ same_lines a b ha hb same u fu in
        (ea ∙ ap (λ s. Some s) one ∙ sym eb, ap (ancestry_of a) ea ∙ line ∙ sym (ap (ancestry_of b) eb))
