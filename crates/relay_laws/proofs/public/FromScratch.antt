-- The blocks above the tip, in the order from scratch.
use Rattle.std.proofs.Common.{arith, ◌≡◌, ℕ, Bool, false, List, [], ◌∷◌, Option, Some, None, refl, sym, ◌∙◌, ap}
use Rattle.std.specs.List.{AllByRecursion, filter}
use Rattle.std.proofs.lemmas.Bool.{both_ways}
use Rattle.block_record.specs.declared.blocks.Slip.{Slip}
use Rattle.chain_model.specs.Ancestry.{has_id, IsHistory}
use Rattle.chain_model.specs.Finality.{greatest, final_tip}
use Rattle.chain_model.specs.Steps.{holds_tip}
use Rattle.chain_laws.proofs.public.Lines.{IsHistory-rest, is_fresh}
use Rattle.chain_laws.proofs.public.Growth.{IsFound, all_weaker, all_found}
use Rattle.relay_model.specs.Worlds.{World}
use Rattle.relay_model.specs.Orders.{Linked, position, link_time, linkable, order_from, root_of, comes_after}
use Rattle.relay_model.specs.Runs.{empty_world, run, taken, received}
use Rattle.relay_laws.specs.Laws.{Matches, FromScratch}
use Rattle.relay_model.specs.Soundness.{IsDistinct}
use Rattle.relay_laws.specs.Laws.{MatchesTip}
use Rattle.relay_model.proofs.public.Intakes.{all_filter, distinct_filter}
use Rattle.relay_laws.proofs.Moves.{filter_found, found_filter}
use Rattle.relay_laws.proofs.public.RunFacts.{last_of, IsRun, last_some}
use Rattle.relay_laws.proofs.public.RunSteps.{run_of, run_first, once_distinct}
use Rattle.relay_laws.proofs.Keys.{After, ByTime, ByNum, ByPlace, is_after, Falls, slips, sorted_falls}
use Rattle.relay_laws.proofs.public.OrderFacts.{IsPlaced, keyed, order_placed, order_distinct}
use Rattle.relay_laws.proofs.Drains.{Pairs, pairs_filter}
use Rattle.relay_laws.proofs.Growing.{key, Older, same_sorted}
use Rattle.relay_laws.proofs.public.Scratch.{IsBegun, scratch_linked, order_of, tip_from_scratch}
use Rattle.relay_laws.proofs.SortedRuns.{IsSorted, sorted_of}

history_distinct : (newest : List Slip) → IsHistory newest → IsDistinct newest
history_distinct [] history = tt
history_distinct (s ∷ older) history = (is_fresh s older history, history_distinct older (IsHistory-rest s older history))

-- sorted keys, by their blocks
older_pairs : (received : List Slip) (root : Slip) (xs : List Linked) → AllByRecursion (IsPlaced received root) xs → Falls xs → Pairs (Older received root) (slips xs)
older_pairs received root [] placed falls = tt
older_pairs received root (x ∷ xs) placed falls = (each xs placed.1 falls.0, older_pairs received root xs placed.1 falls.1)
  where
    each : (ys : List Linked) → AllByRecursion (IsPlaced received root) ys → AllByRecursion (λ y. comes_after y x ≡ false) ys → AllByRecursion (Older received root x.slip) (slips ys)
    each [] a b = tt
    each (y ∷ ys) a b = ((λ tx ty ex ey after. both_ways _ b.0 (is_after y x (keys tx ty ex ey after))), each ys a.1 b.1)
      where
        keys : (tx ty : ℕ) → link_time received root x.slip ≡ Some tx → link_time received root y.slip ≡ Some ty → After (key received y.slip ty) (key received x.slip tx) → After y x
        keys tx ty ex ey after = rekey (grind (arith, a.0.linked, ey)) (grind (arith, placed.0.linked, ex)) (sym a.0.place) (sym placed.0.place) after
          where
            rekey : ty ≡ y.time → tx ≡ x.time → position received y.slip ≡ y.at → position received x.slip ≡ x.at → After (key received y.slip ty) (key received x.slip tx) → After y x
            rekey e1 e2 e3 e4 (ByTime t) = ByTime (omega (arith, t, e1, e2))
            rekey e1 e2 e3 e4 (ByNum t n) = ByNum (sym e1 ∙ t ∙ e2) n
            rekey e1 e2 e3 e4 (ByPlace t n p) = ByPlace (sym e1 ∙ t ∙ e2) n (omega (arith, p, e3, e4))

filters : (w : World) (received : List Slip) (root : Slip) → IsBegun w received root → IsSorted w received → MatchesTip w.history (order_of received root)
    → filter (holds_tip w.history (final_tip w.history)) w.history ≡ filter (holds_tip (order_of received root) (final_tip (order_of received root))) (order_of received root)
filters w received root b sorted' m =
    same_sorted received root (filter f H) (filter g O) (distinct_filter f H dH) (distinct_filter g O dO)
    (all_filter (λ x. (time : ℕ) × (link_time received root x ≡ Some time)) f H
    (all_weaker (IsFound H) (λ x. (time : ℕ) × (link_time received root x ≡ Some time)) (λ x fx. scratch_linked w received root b x fx) H (all_found H b.run.sound.history)))
    (sorted'.order root b.last)
    (pairs_filter (Older received root) g O (older_pairs received root (keyed received root) (order_placed received root b.distinct) (sorted_falls (linkable received root received))))
    (λ s fs.
    let p = found_filter f H dH s fs in
    filter_found g O dO s (m.within s p.0) (sym (same_holds s p.0) ∙ p.1))
    (λ s fs.
    let p = found_filter g O dO s fs in
    let fh = m.above s p.0 p.1 in
    filter_found f H dH s fh (same_holds s fh ∙ p.1))
  where
    H : List Slip
    H = w.history

    O : List Slip
    O = order_of received root

    f : Slip → Bool
    f = holds_tip w.history (final_tip w.history)

    g : Slip → Bool
    g = holds_tip (order_of received root) (final_tip (order_of received root))

    dH : IsDistinct w.history
    dH = history_distinct w.history b.run.sound.history

    dO : IsDistinct (order_of received root)
    dO = order_distinct received root b.distinct

    same_holds : (s : Slip) → IsFound w.history s → f s ≡ g s
    same_holds s fs = ap (λ o. holds_tip w.history o s) m.tips ∙ go (final_tip (order_of received root))
      where
        go : (o : Option Slip) → holds_tip w.history o s ≡ holds_tip (order_of received root) o s
        go None = refl
        go (Some u) = ap (λ l. has_id l u.id) (m.paths s fs)

full : (w : World) (received : List Slip) → IsRun w received → IsDistinct received → IsSorted w received → (o : Option Slip) → root_of w.first received ≡ o → MatchesTip w.history (order_from received o) → Matches w.history (order_from received o)
full w received r d sorted' None e m = empty w.history (sym r.root ∙ e)
  where
    empty : (h : List Slip) → last_of h ≡ None → Matches h []
    empty [] k = record { heads = refl; tips = refl; within = λ s f. f; above = refl }
    empty (x ∷ xs) k = let l = last_some x xs in absurd (none l.0 (sym l.1 ∙ k))
      where
        none : (y : Slip) → Some y ≡ None → ⊥
        none y h = cc
full w received r d sorted' (Some root) e m =
    let b : IsBegun w received root = record { run = r; distinct = d; last = sym r.root ∙ e } in
    let above = filters w received root b sorted' m in
    record { heads = ap greatest above; tips = m.tips; within = m.within; above = above }

pub from_scratch : FromScratch
from_scratch first number limits offers o =
    let w0 = empty_world first number limits in
    let w = run w0 offers in
    let e : root_of w.first (received first number limits offers) ≡ root_of first (received first number limits offers) = ap (λ n. root_of n (received first number limits offers)) (run_first w0 offers) in
    full w (received first number limits offers) (run_of first number limits offers o.blocks o.kept o.one_each) (once_distinct (taken w0 offers) o.one_each) (sorted_of first number limits offers o.blocks o.kept o.one_each)
    (root_of first (received first number limits offers)) e (tip_from_scratch first number limits offers o)
