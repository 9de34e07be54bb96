-- What an offer keeps of where blocks come from, and the last round of loading.
use Rattle.std.proofs.Common.{◌≡◌, ℕ, zero, suc, Bool, true, false, not, cond, List, [], ◌∷◌, length, Option, Some, None, refl, ltb, ◌&&◌}
use Rattle.std.specs.List.{AllByRecursion, filter}
use mathlib.Core.List.{IsSuffix, IsSuffix-trans}
use Rattle.block_record.specs.declared.blocks.Slip.{Slip}
use Rattle.block_record.specs.Ids.{same_id}
use Rattle.chain_model.specs.Ancestry.{has_id}
use Rattle.relay_model.specs.declared.answers.Conflict.{Conflict as Clash}
use Rattle.relay_model.specs.Worlds.{World, next_waiting}
use Rattle.relay_model.specs.Offers.{Intake, take_one, take_judged, take_in, intake, clash, tip_num, judge, world_by, offered}
use Rattle.relay_model.specs.Verdicts.{Verdict}
use Rattle.relay_model.specs.Verdicts as verdict
use Rattle.relay_model.specs.Soundness.{IsSound, IsBlock}
use Rattle.relay_model.proofs.public.Intakes.{all_filter, least_is}
use Rattle.relay_model.proofs.public.Sound.{offer_keeps, offer_grows}
use Rattle.store_model.specs.Loads.{Round, is_wait_full, first_full, round_one, round_all}
use Rattle.store_model.proofs.OfferFacts.{not_full}

-- what holds of all blocks of a history and of a room holds while waiting blocks are taken
pub record Each (P : Slip → Type 0) (newest room : List Slip) : Type 0 where
  pub history : AllByRecursion P newest
  pub waiting : AllByRecursion P room

judged_each : (P : Slip → Type 0) (d : Intake) (s : Slip) → P s → Each P d.history d.waiting → (o : Option Clash) → Each P (take_judged d s o).history (take_judged d s o).waiting
judged_each P d s p e None = record { history = (p, e.history); waiting = all_filter P (λ t. not (same_id t.id s.id)) d.waiting e.waiting }
judged_each P d s p e (Some c) = record { history = e.history; waiting = all_filter P (λ t. not (same_id t.id s.id)) d.waiting e.waiting }

one_each : (P : Slip → Type 0) (d : Intake) → Each P d.history d.waiting → (o : Option Slip) → next_waiting d.history d.waiting ≡ o → Each P (take_one d o).history (take_one d o).waiting
one_each P d e None is = e
one_each P d e (Some s) is =
    judged_each P d s (least_is P (filter (λ t. has_id d.history t.parent_id) d.waiting) s (all_filter P (λ t. has_id d.history t.parent_id) d.waiting e.waiting) is) e (clash d.history s)

take_each : (P : Slip → Type 0) (n : ℕ) (d : Intake) → Each P d.history d.waiting → Each P (take_in n d).history (take_in n d).waiting
take_each P zero d e = e
take_each P (suc n) d e = take_each P n (take_one d (next_waiting d.history d.waiting)) (one_each P d e (next_waiting d.history d.waiting) refl)

each_by : (P : Slip → Type 0) (w : World) (s : Slip) → P s → Each P w.history w.waiting → (v : Verdict) → Each P (world_by w s v).history (world_by w s v).waiting
each_by P w s p e verdict.Closed = e
each_by P w s p e verdict.Duplicate = e
each_by P w s p e (verdict.Conflict c) = record { history = e.history; waiting = e.waiting }
each_by P w s p e verdict.Early = e
each_by P w s p e verdict.Stale = e
each_by P w s p e verdict.WaitFull = e
each_by P w s p e verdict.Waiting = record { history = e.history; waiting = (p, e.waiting) }
each_by P w s p e (verdict.HistoryFull need) = e
each_by P w s p e verdict.Admitted =
    let t = take_each P (length w.waiting) (record { history = s ∷ w.history; waiting = w.waiting; dropped = [] }) (record { history = (p, e.history); waiting = e.waiting }) in
    record { history = t.history; waiting = all_filter P (λ x. ltb (tip_num (intake w s).history) x.num) (intake w s).waiting t.waiting }

-- each block of the world after an offer is one of those before, or the offered one
pub offer_each : (P : Slip → Type 0) (w : World) (s : Slip) → P s → Each P w.history w.waiting → Each P (offered w s).world.history (offered w s).world.waiting
offer_each P w s p e = each_by P w s p e (judge w s)

-- what holds in the last round
pub record IsRound (P : Slip → Type 0) (before : List Slip) (r : Round) : Type 0 where
  pub sound : IsSound r.world
  pub grown : IsSuffix before r.world.history
  pub each : Each P r.world.history r.world.waiting

round_step : (P : Slip → Type 0) (before : List Slip) (r : Round) (s : Slip) → P s → IsBlock s → IsRound P before r → IsRound P before (round_one r s)
round_step P before r s p block i = go (not r.over && ltb (tip_num r.world.history) s.num)
  where
    go : (b : Bool) → IsRound P before (cond b (record { world = (offered r.world s).world; full = first_full r.full (offered r.world s).answer; over = is_wait_full (offered r.world s).answer }) r)
    go true = record { sound = offer_keeps r.world s i.sound block; grown = IsSuffix-trans i.grown (offer_grows r.world s); each = offer_each P r.world s p i.each }
    go false = i

pub round_goes : (P : Slip → Type 0) (before : List Slip) (r : Round) (blocks : List Slip) → AllByRecursion P blocks → AllByRecursion IsBlock blocks → IsRound P before r → IsRound P before (round_all r blocks)
round_goes P before r [] all are i = i
round_goes P before r (s ∷ earlier) all are i = round_step P before (round_all r earlier) s all.0 are.0 (round_goes P before r earlier all.1 are.1 i)

-- the answer that the history is full stays
full_one : (r : Round) (s : Slip) → (round_one r s).full ≡ None → r.full ≡ None
full_one r s e = go (not r.over && ltb (tip_num r.world.history) s.num) e
  where
    go : (b : Bool) → (cond b (record { world = (offered r.world s).world; full = first_full r.full (offered r.world s).answer; over = is_wait_full (offered r.world s).answer }) r).full ≡ None → r.full ≡ None
    go true f = (not_full r.full (offered r.world s).answer f).0
    go false f = f

pub full_round : (r : Round) (blocks : List Slip) → (round_all r blocks).full ≡ None → r.full ≡ None
full_round r [] e = e
full_round r (s ∷ earlier) e = full_round r earlier (full_one (round_all r earlier) s e)
