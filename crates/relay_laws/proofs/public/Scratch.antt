-- What a run has of the order from scratch.
use Rattle.std.proofs.Common.{arith, ◌≡◌, ◌≤◌, ◌<◌, ◌⊎◌, inl, inr, ℕ, zero, suc, true, false, leb, List, [], ◌∷◌, ◌++◌, Option, Some, None, refl, sym, ◌∙◌, ap, subst, ◌||◌}
use Rattle.std.proofs.Math.Dec.{eqb}
use Rattle.std.specs.List.{AllByRecursion}
use Rattle.std.proofs.lemmas.Bool.{and_parts, cases_Bool, both_ways, or_cases, leb-true, eqb-true}
use Rattle.std.proofs.lemmas.Option.{same_Some}
use Rattle.block_record.specs.declared.blocks.Slip.{Slip}
use Rattle.block_record.specs.Ids.{same_id, same_id_refl, same_id-true}
use Rattle.block_record.proofs.public.SlipFacts.{same_slip_is, same_slip_refl}
use Rattle.chain_model.specs.Ancestry.{find_id, has_id, ancestry, IsHistory}
use Rattle.chain_model.specs.Finality.{root_num, ClaimsAgree, on_path, final_tip}
use Rattle.chain_laws.proofs.public.Lines.{IsHistory-rest, find_id_at, has_id-find_id, id-find_id, IsAbove, is_above}
use Rattle.chain_laws.proofs.public.Growth.{IsFound, find_passes, found_past, claim_found, tip_claimed}
use Rattle.chain_laws.proofs.public.LinkedLists.{Linked}
use Rattle.chain_laws.proofs.public.Reach.{head_is_found, ancestry_linked}
use Rattle.chain_laws.proofs.public.LineFacts.{parent_at}
use Rattle.chain_laws.proofs.public.Roots.{root_line, root_last, root_there, has_tip}
use Rattle.block_record.specs.Slips.{same_slip}
use Rattle.relay_model.specs.Worlds.{World}
use Rattle.relay_model.specs.Offers.{tip_num, num_of}
use Rattle.relay_model.specs.Orders.{root_or, root_of, link_time, position, linked_order, order_from}
use Rattle.relay_model.specs.Soundness.{IsDistinct}
use Rattle.relay_laws.specs.Laws.{MatchesTip, TipFromScratch}
use Rattle.relay_model.specs.Runs.{empty_world, run, taken, received}
use Rattle.relay_laws.proofs.public.RunSteps.{run_of, run_first, once_distinct}
use Rattle.chain_model.specs.Steps.{holds_tip}
use Rattle.relay_laws.proofs.public.RunFacts.{last_of, Where, IsRun, last_some}
use Rattle.relay_laws.proofs.Times.{IsParent, root_time, link_up, above_root, IsAboveRoot}
use Rattle.relay_laws.proofs.Keys.{slips}
use Rattle.relay_laws.proofs.public.OrderFacts.{IsPlaced, key_of, keyed, order_found, order_placed, order_is_history, order_root}
use Rattle.relay_laws.proofs.public.TwoHistories.{IsWithin, same_lines, same_tip}

last_line : (xs : List Slip) (r : Slip) → root_line xs ≡ r ∷ [] → last_of xs ≡ Some r
last_line [] r e = absurd (cc)
last_line (s ∷ []) r e = ap (λ x. Some x) (first s r e)
  where
    first : (a b : Slip) → a ∷ [] ≡ b ∷ [] → a ≡ b
    first a b h = grind (arith, h)
last_line (s ∷ t ∷ older) r e = last_line (t ∷ older) r e

pub last_num : (s : Slip) (older : List Slip) (r : Slip) → last_of (s ∷ older) ≡ Some r → root_num (s ∷ older) ≡ r.num
last_num s [] r e = ap (λ (x : Slip). x.num) (same_Some s r e)
last_num s (t ∷ older) r e = last_num t older r e

last_found : (newest : List Slip) → IsHistory newest → (r : Slip) → last_of newest ≡ Some r → IsFound newest r
last_found [] history r e = absurd (grind (arith, e))
last_found (s ∷ []) history r e = subst (λ (z : Slip). find_id (s ∷ []) z.id ≡ Some z) (same_Some s r e) (find_id_at s [] s.id (same_id_refl s.id))
last_found (s ∷ t ∷ older) history r e = found_past s (t ∷ older) history r (last_found (t ∷ older) (IsHistory-rest s (t ∷ older) history) r e)

-- a block alone on its line is the root
pub alone_last : (newest : List Slip) → IsHistory newest → (y : Slip) → ancestry newest y.id ≡ y ∷ [] → last_of newest ≡ Some y
alone_last [] history y e = absurd (cc)
alone_last (x ∷ older) history y e =
    let r = root_there x older in
    let last = root_last (x ∷ older) history y.id (y, [], e) in
    let ends : last.0 ++ r.root ∷ [] ≡ y ∷ [] = ap (λ l. last.0 ++ l) (sym r.is) ∙ last.1 ∙ e in
    last_line (x ∷ older) r.root r.is ∙ ap (λ z. Some z) (one last.0 r.root y ends)
  where
    one : (xs : List Slip) (a b : Slip) → xs ++ a ∷ [] ≡ b ∷ [] → a ≡ b
    one [] a b h = grind (arith, h)
    one (w ∷ []) a b h = absurd (grind (arith, h))
    one (w ∷ v ∷ xs) a b h = absurd (grind (arith, h))

-- the next block of a line is the parent, by id and number
pub line_parent : (newest : List Slip) → IsHistory newest → (s p : Slip) (ps : List Slip) → ancestry newest s.id ≡ s ∷ p ∷ ps → IsParent s p
line_parent newest history s p ps e =
    let x = parent_at newest history s p ps e in
    let linked : Linked (s ∷ p ∷ ps) = subst Linked e (ancestry_linked newest history s.id) in
    let child = and_parts (same_id s.parent_id p.id) (eqb s.parent_num p.num) linked.0 in
    record { id = sym (same_id-true s.parent_id p.id child.0); num = sym (eqb-true s.parent_num p.num child.1); less = x.less }

-- each block of a history of received blocks is linkable
pub chain_linked : (received : List Slip) → IsDistinct received → (newest : List Slip) → IsHistory newest → (root : Slip) → last_of newest ≡ Some root
    → ((x : Slip) → IsFound newest x → IsFound received x) → (n : ℕ) (y : Slip) → y.num < n → IsFound newest y → (time : ℕ) × (link_time received root y ≡ Some time)
chain_linked received d newest history root last there zero y less found = absurd (omega (arith, less))
chain_linked received d newest history root last there (suc n) y less found =
    let line = head_is_found newest y.id y found in
    elim (cases_Bool (same_slip y root)) [
      | inl same ↦ (position received root, ap (link_time received root) (same_slip_is y root same) ∙ root_time received root)
      | inr other ↦ go line.0 line.1 (λ is. both_ways _ other (ap (λ z. same_slip z root) is ∙ same_slip_refl root)) (λ p l f. chain_linked received d newest history root last there n p l f)
    ]
  where
    go : (line : List Slip) → ancestry newest y.id ≡ y ∷ line → (y ≡ root → ⊥) → ((p : Slip) → p.num < n → IsFound newest p → (time : ℕ) × (link_time received root p ≡ Some time))
        → (time : ℕ) × (link_time received root y ≡ Some time)
    go [] e apart ih = absurd (apart (same_Some y root (sym (alone_last newest history y e) ∙ last)))
    go (p ∷ ps) e apart ih =
        let x = parent_at newest history y p ps e in
        let before = ih p (small p.num y.num n x.less less) x.found in
        (_, link_up received d root y p before.0 (there p x.found) (line_parent newest history y p ps e) before.1 apart)
      where
        small : (a b c : ℕ) → a < b → b < suc c → a < c
        small a b c h k = omega (arith, h, k)

root_high : (first : ℕ) (received : List Slip) (r : Slip) → root_of first received ≡ Some r → first ≤ r.num
root_high first [] r e = absurd (grind (arith, e))
root_high first (s ∷ older) r e = go (root_of first older) refl e (λ h. root_high first older r h)
  where
    go : (o : Option Slip) → root_of first older ≡ o → root_or o first s ≡ Some r → (root_of first older ≡ Some r → first ≤ r.num) → first ≤ r.num
    go (Some q) is h ih = ih (is ∙ h)
    go None is h ih =
        elim (cases_Bool (leb first s.num)) [
          | inl fits ↦ let le = leb-true _ _ fits in let same : s ≡ r = grind (arith, h, fits) in omega (arith, le, ap (λ (z : Slip). z.num) same)
          | inr low ↦ absurd (grind (arith, h, low))
        ]

pub all_at : (P : Slip → Type 0) (xs : List Slip) (y : Slip) → AllByRecursion P xs → IsFound xs y → P y
all_at P xs y all found = find_passes P (λ x. same_id x.id y.id) xs y all found

-- a run whose history has begun
pub record IsBegun (w : World) (received : List Slip) (root : Slip) : Type 0 where
  pub run : IsRun w received
  pub distinct : IsDistinct received
  pub last : last_of w.history ≡ Some root

pub scratch_linked : (w : World) (received : List Slip) (root : Slip) → IsBegun w received root → (y : Slip) → IsFound w.history y → (time : ℕ) × (link_time received root y ≡ Some time)
scratch_linked w received root b y found = chain_linked received b.distinct w.history b.run.sound.history root b.last b.run.in_history (suc y.num) y (omega arith) found

abbrev pub order_of : List Slip → Slip → List Slip
order_of received root = slips (keyed received root)

-- each block of the history is in the order from scratch
pub scratch_within : (w : World) (received : List Slip) (root : Slip) → IsBegun w received root → IsWithin w.history (order_of received root)
scratch_within w received root b =
    let found : IsFound w.history root = last_found w.history b.run.sound.history root b.last in
    record {
      history = b.run.sound.history;
      whole = order_is_history received root b.distinct;
      there = λ s f. let t = scratch_linked w received root b s f in order_found received root b.distinct s t.0 (b.run.in_history s f) t.1;
      root = num w.history b.last ∙ sym (order_root received root b.distinct (b.run.in_history root found));
    }
  where
    num : (h : List Slip) → last_of h ≡ Some root → root_num h ≡ root.num
    num [] e = absurd (grind (arith, e))
    num (s ∷ older) e = last_num s older root e

-- and each block of the order whose path contains the tip is in the history
up_go : (w : World) (received : List Slip) (root : Slip) → IsBegun w received root → (t : Slip) → final_tip w.history ≡ Some t → IsFound w.history t
    → (n : ℕ) (y : Slip) → y.num < n → IsFound (order_of received root) y → on_path (order_of received root) t y ≡ true → IsFound w.history y
up_go w received root b t is ft zero y less found on = absurd (omega (arith, less))
up_go w received root b t is ft (suc n) y less found on =
    let whole = order_is_history received root b.distinct in
    let line = head_is_found (order_of received root) y.id y found in
    go line.0 line.1 (λ p l f o. up_go w received root b t is ft n p l f o)
  where
    O : List Slip
    O = order_of received root

    itself : same_id y.id t.id ≡ true → IsFound w.history y
    itself same =
        let there : IsFound O t = (scratch_within w received root b).there t ft in
        let one : t ≡ y = same_Some t y (sym there ∙ ap (find_id O) (sym (same_id-true y.id t.id same)) ∙ found) in
        subst (IsFound w.history) one ft

    placed : (q : Slip) → find_id O y.parent_id ≡ Some q → q.num < y.num → IsFound w.history q → t.num ≤ q.num → IsFound received y → (time : ℕ) × ((y ≡ root) ⊎ IsAboveRoot received root y time) → IsFound w.history y
    placed q named rises fq high fy root_or_above = by_where (b.run.rest y fy)
      where
        by_where : Where w y → IsFound w.history y
        by_where (inl early) =
            let lo = root_high w.first received root (b.run.root ∙ b.last) in
            let up = root_low root_or_above.1 in
            absurd (omega (arith, early, lo, up))
          where
            root_low : (y ≡ root) ⊎ IsAboveRoot received root y root_or_above.0 → root.num ≤ y.num
            root_low (inl same) = omega (arith, ap (λ (z : Slip). z.num) same)
            root_low (inr above) = let l = above.num in omega (arith, l)
        by_where (inr (inl h)) = h
        by_where (inr (inr (inl r))) =
            let lacks : has_id w.history y.parent_id ≡ false = all_at (λ x. has_id w.history x.parent_id ≡ false) w.waiting y b.run.sound.orphans r in
            let has : has_id w.history y.parent_id ≡ true = ap (has_id w.history) (sym (id-find_id O y.parent_id q named)) ∙ has_id-find_id w.history q.id q fq in
            absurd (both_ways _ lacks has)
        by_where (inr (inr (inr low))) =
            let same : tip_num w.history ≡ t.num = ap num_of is in
            absurd (omega (arith, low, same, high, rises))

    go : (line : List Slip) → ancestry (order_of received root) y.id ≡ y ∷ line
        → ((p : Slip) → p.num < n → IsFound (order_of received root) p → on_path (order_of received root) t p ≡ true → IsFound w.history p) → IsFound w.history y
    go [] e ih =
        let on' : (same_id y.id t.id || false) ≡ true = ap (λ l. has_id l t.id) (sym e) ∙ on in
        elim (or_cases (same_id y.id t.id) false on') [ inl same ↦ itself same | inr none ↦ absurd (both_ways _ refl none) ]
    go (q ∷ qs) e ih =
        let on' : (same_id y.id t.id || has_id (q ∷ qs) t.id) ≡ true = ap (λ l. has_id l t.id) (sym e) ∙ on in
        elim (or_cases (same_id y.id t.id) (has_id (q ∷ qs) t.id) on') [
          | inl same ↦ itself same
          | inr below ↦
              let whole = order_is_history received root b.distinct in
              let x = parent_at O whole y q qs e in
              let on_q : on_path O t q ≡ true = ap (λ l. has_id l t.id) x.line ∙ below in
              let k = key_of (IsPlaced received root) (keyed received root) (order_placed received root b.distinct) y found in
              placed q x.named x.less (ih q (small q.num y.num n x.less less) x.found on_q)
              (above_tip (is_above O whole q.id t.id on_q) x.found)
              (subst (IsFound received) k.is k.has.found)
              (k.key.time, subst (λ (z : Slip). (z ≡ root) ⊎ IsAboveRoot received root z k.key.time) k.is (above_root received b.distinct root k.key.slip k.key.time k.has.linked))
        ]
      where
        small : (a c m : ℕ) → a < c → c < suc m → a < m
        small a c m h k = omega (arith, h, k)

        above_tip : IsAbove O q.id t.id → IsFound O q → t.num ≤ q.num
        above_tip above fq = above.nums t q ((scratch_within w received root b).there t ft) fq

pub scratch_up : (w : World) (received : List Slip) (root : Slip) → IsBegun w received root → (t : Slip) → final_tip w.history ≡ Some t
    → (y : Slip) → IsFound (order_of received root) y → on_path (order_of received root) t y ≡ true → IsFound w.history y
scratch_up w received root b t is y found on =
    let x = tip_claimed w.history b.run.sound.history t is in
    up_go w received root b t is (claim_found w.history b.run.sound.history x.by t x.claimed) (suc y.num) y (omega arith) found on

-- the tips are one
pub scratch_tip : (w : World) (received : List Slip) (root : Slip) → IsBegun w received root → ClaimsAgree (order_of received root) → (t : Slip) → final_tip w.history ≡ Some t
    → final_tip (order_of received root) ≡ Some t
scratch_tip w received root b agreed t is = go (final_tip (order_of received root)) refl
  where
    begun : (xs : List Slip) → IsHistory xs → IsFound xs root → final_tip xs ≡ None → ⊥
    begun [] history f e = grind (arith, f)
    begun (x ∷ xs) history f e = has_tip x xs history e

    go : (o : Option Slip) → final_tip (order_of received root) ≡ o → final_tip (order_of received root) ≡ Some t
    go None e =
        let w' = scratch_within w received root b in
        absurd (begun (order_of received root) w'.whole (w'.there root (last_found w.history b.run.sound.history root b.last)) e)
    go (Some u) e = e ∙ ap (λ z. Some z) (sym (same_tip w.history (order_of received root) (scratch_within w received root b) agreed t is (scratch_up w received root b t is) u e))

-- an order with a root
pub order_with : (first : ℕ) (received : List Slip) (root : Slip) → root_of first received ≡ Some root → linked_order first received ≡ order_of received root
order_with first received root e = ap (order_from received) e

matches : (w : World) (received : List Slip) → IsRun w received → IsDistinct received → (o : Option Slip) → root_of w.first received ≡ o → ClaimsAgree (order_from received o) → MatchesTip w.history (order_from received o)
matches w received r d None e agreed = empty w.history (sym r.root ∙ e)
  where
    empty : (h : List Slip) → last_of h ≡ None → MatchesTip h []
    empty [] k = record { tips = refl; within = λ s f. f; paths = λ s f. refl; above = λ s f on. f }
    empty (x ∷ xs) k = let l = last_some x xs in absurd (none l.0 (sym l.1 ∙ k))
      where
        none : (y : Slip) → Some y ≡ None → ⊥
        none y h = cc
matches w received r d (Some root) e agreed =
    let b : IsBegun w received root = record { run = r; distinct = d; last = sym r.root ∙ e } in
    let within = scratch_within w received root b in
    go b within (final_tip w.history) refl
  where
    begun : (h : List Slip) → IsHistory h → last_of h ≡ Some root → final_tip h ≡ None → ⊥
    begun [] history l k = grind (arith, l)
    begun (x ∷ xs) history l k = has_tip x xs history k

    go : IsBegun w received root → IsWithin w.history (order_of received root) → (o : Option Slip) → final_tip w.history ≡ o → MatchesTip w.history (order_of received root)
    go b within None k = absurd (begun w.history r.sound.history b.last k)
    go b within (Some t) k =
        let same = scratch_tip w received root b agreed t k in
        record {
          tips = k ∙ sym same;
          within = within.there;
          paths = λ s f. same_lines w.history (order_of received root) within s f;
          above = λ s f on. scratch_up w received root b t k s f (ap (λ o'. holds_tip (order_of received root) o' s) (sym same) ∙ on);
        }

pub tip_from_scratch : TipFromScratch
tip_from_scratch first number limits offers o =
    let w0 = empty_world first number limits in
    let w = run w0 offers in
    let r = run_of first number limits offers o.blocks o.kept o.one_each in
    let e : root_of w.first (received first number limits offers) ≡ root_of first (received first number limits offers) = ap (λ n. root_of n (received first number limits offers)) (run_first w0 offers) in
    matches w (received first number limits offers) r (once_distinct (taken w0 offers) o.one_each) (root_of first (received first number limits offers)) e o.agreed
