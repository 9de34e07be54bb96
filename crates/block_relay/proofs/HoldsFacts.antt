-- That an offer is a repeat exactly where its block is held.
use Rattle.std.proofs.Common.{◌≡◌, ◌++◌, ◌+◌, Bool, true, false, cond, List, [], ◌∷◌, length, Option, Some, None, refl, sym, ap, ◌∙◌, ltb, leb}
use Rattle.block_record.specs.declared.blocks.Slip.{Slip}
use Rattle.block_record.specs.Slips.{same_slip}
use Rattle.chain_model.specs.Ancestry.{find_id}
use Rattle.chain_model.specs.Finality.{root_num}
use Rattle.relay_model.specs.declared.answers.Conflict.{Conflict as Clash}
use Rattle.relay_model.specs.declared.answers.ConflictKind.TheVariants as kind
use Rattle.relay_model.specs.Worlds.{World, descendants, has_room}
use Rattle.relay_model.specs.Offers.{clash, conflict, judge, judge_clash, judge_held, judge_limit, judge_linked, judge_parent, tip_num}
use Rattle.relay_model.specs.Verdicts.{Verdict}
use Rattle.relay_model.specs.Verdicts as verdict
use Rattle.block_relay.specs.Held.{holds_block, is_very}

abbrev pub is_duplicate : Verdict → Bool
is_duplicate verdict.Closed = false
is_duplicate verdict.Duplicate = true
is_duplicate (verdict.Conflict c) = false
is_duplicate verdict.Early = false
is_duplicate verdict.Stale = false
is_duplicate verdict.WaitFull = false
is_duplicate verdict.Waiting = false
is_duplicate (verdict.HistoryFull need) = false
is_duplicate verdict.Admitted = false

both : (b : Bool) (v u : Verdict) → is_duplicate v ≡ false → is_duplicate u ≡ false → is_duplicate (cond b v u) ≡ false
both true v u e f = e
both false v u e f = f

limit_not : (w : World) (s : Slip) → is_duplicate (judge_limit w s) ≡ false
limit_not w s = both (leb (length w.history + (1 + descendants w.waiting s.id)) w.limits.history) verdict.Admitted (verdict.HistoryFull (1 + descendants w.waiting s.id)) refl refl

clash_not : (w : World) (s : Slip) (o : Option Clash) → is_duplicate (judge_clash w s o) ≡ false
clash_not w s None = limit_not w s
clash_not w s (Some c) = refl

parent_not : (w : World) (s : Slip) (o : Option Slip) → is_duplicate (judge_parent w s o) ≡ false
parent_not w s None =
    both (leb s.num (tip_num w.history)) verdict.Stale (cond (has_room w.limits w.waiting s) verdict.Waiting verdict.WaitFull) refl
    (both (has_room w.limits w.waiting s) verdict.Waiting verdict.WaitFull refl refl)
parent_not w s (Some p) = clash_not w s (clash w.history s)

linked_not : (w : World) (s : Slip) (h : List Slip) → is_duplicate (judge_linked w s h) ≡ false
linked_not w s [] = limit_not w s
linked_not w s (t ∷ older) = both (leb s.num (root_num w.history)) verdict.Stale (judge_parent w s (find_id w.history s.parent_id)) refl (parent_not w s (find_id w.history s.parent_id))

held_is : (w : World) (s : Slip) (o : Option Slip) → is_very o s ≡ is_duplicate (judge_held w s o)
held_is w s None = sym (both (ltb s.num w.first) verdict.Early (judge_linked w s w.history) refl (linked_not w s w.history))
held_is w s (Some h) = go (same_slip h s)
  where
    go : (b : Bool) → b ≡ is_duplicate (cond b verdict.Duplicate (verdict.Conflict (conflict kind.Id h s)))
    go true = refl
    go false = refl

open_judge : (w : World) (s : Slip) → w.closed ≡ false → judge w s ≡ judge_held w s (find_id (w.waiting ++ w.history) s.id)
open_judge w s e = rw e refl

-- of a world that has the same blocks
pub holds_is : (w t : World) (s : Slip) (v : Verdict) → w.history ≡ t.history → w.waiting ≡ t.waiting → t.closed ≡ false → v ≡ judge t s → is_duplicate v ≡ holds_block w s
holds_is w t s v history waiting opened e =
    ap is_duplicate (e ∙ open_judge t s opened) ∙ sym (held_is t s (find_id (t.waiting ++ t.history) s.id))
    ∙ ap (λ (l : List Slip). is_very (find_id (l ++ t.history) s.id) s) (sym waiting)
    ∙ ap (λ (l : List Slip). is_very (find_id (w.waiting ++ l) s.id) s) (sym history)
