-- What an offer is answered, and what it leaves.
use Rattle.std.specs.Prelude.{ℕ, zero, suc, ◌+◌, ◌-◌, Bool, true, ◌==◌, nat_le, nat_lt, List, [], ◌∷◌, ◌++◌, length, reverse, if◌then◌else◌, Option, None, Some, filter}
use Rattle.block_record.specs.declared.blocks.Slip.{Slip}
use Rattle.block_record.specs.declared.blocks.Kind.{Kind}
use Rattle.block_record.specs.declared.blocks.Version.TheVariants as version
use Rattle.chain_model.specs.Ancestry.{find_id}
use Rattle.chain_model.specs.Finality.{root_num, claim, agrees, final_tip}
use Rattle.relay_model.specs.declared.answers.Conflict.{Conflict as Clash}
use Rattle.relay_model.specs.declared.answers.ConflictKind.{ConflictKind}
use Rattle.relay_model.specs.declared.answers.ConflictKind.TheVariants as kind
use Rattle.block_record.specs.Slips.{same_slip}
use Rattle.relay_model.specs.Verdicts.{Verdict}
use Rattle.relay_model.specs.Verdicts as verdict
use Rattle.relay_model.specs.Worlds.{World, next_waiting, without, has_room, descendants, room_bytes}

-- the answer to an offer: `Closed` has the length of the history; `WaitFull` the blocks and bytes that wait; `HistoryFull` the length and the room that is needed; `Admitted` the place of the first admitted block, how many there are, and the conflicts of those dropped, in the order of dropping
pub data Answer : Type 0 where
  Closed : ℕ → Answer
  Duplicate : Answer
  Conflict : Clash → Answer
  Early : Answer
  Stale : Answer
  WaitFull : ℕ → ℕ → Answer
  Waiting : Answer
  HistoryFull : ℕ → ℕ → Answer
  Admitted : ℕ → ℕ → List Clash → Answer

-- the number of a block, or 0 where there is none
abbrev pub num_of : Option Slip → ℕ
num_of None = 0
num_of (Some s) = s.num

-- the number of the final tip
abbrev pub tip_num : List Slip → ℕ
tip_num newest = num_of (final_tip newest)

-- a conflict of a kind, of an offered block with one that is known
abbrev pub conflict : ConflictKind → Slip → Slip → Clash
conflict why held offered = record { kind = why; held = held; offered = offered }

-- whether the claim, where there is one, agrees with the tip
abbrev pub claim_agrees : List Slip → Option Slip → Option Slip → Bool
claim_agrees newest (Some c) (Some t) = agrees newest c t
claim_agrees newest c t = true

-- how a block contradicts the final tip: its claim does not agree with it
abbrev pub finality_clash : List Slip → Slip → Option Slip → Option Clash
finality_clash newest s None = None
finality_clash newest s (Some t) = if claim_agrees (s ∷ newest) (claim (s ∷ newest) s) (Some t) then None else Some (conflict kind.Finality t s)

-- how a block contradicts its parent, or else the final tip
abbrev pub parent_clash : List Slip → Slip → Option Slip → Option Clash
parent_clash newest s None = None
parent_clash newest s (Some p) = if p.num == s.parent_num then finality_clash newest s (final_tip newest) else Some (conflict kind.Parent p s)

-- how a block whose parent is known contradicts the history: its parent's number differs, or its claim and the tip disagree
abbrev pub clash : List Slip → Slip → Option Clash
clash newest s = parent_clash newest s (find_id newest s.parent_id)

-- a block that links: it is taken where the limit has room for it and the waiting blocks that descend from it
abbrev pub judge_limit : World → Slip → Verdict
judge_limit w s =
    let need = 1 + descendants w.waiting s.id in
    if nat_le (length w.history + need) w.limits.history then verdict.Admitted else verdict.HistoryFull need

-- a block whose parent is known, by how it contradicts the history
abbrev pub judge_clash : World → Slip → Option Clash → Verdict
judge_clash w s None = judge_limit w s
judge_clash w s (Some c) = verdict.Conflict c

-- a block above the root, by its parent, where that is known
abbrev pub judge_parent : World → Slip → Option Slip → Verdict
judge_parent w s None = if nat_le s.num (tip_num w.history) then verdict.Stale else if has_room w.limits w.waiting s then verdict.Waiting else verdict.WaitFull
judge_parent w s (Some p) = judge_clash w s (clash w.history s)

-- a block that is not known and not too low, by whether there is a history yet
abbrev pub judge_linked : World → Slip → List Slip → Verdict
judge_linked w s [] = judge_limit w s
judge_linked w s (t ∷ older) = if nat_le s.num (root_num w.history) then verdict.Stale else judge_parent w s (find_id w.history s.parent_id)

-- a block whose id is known, in the room or in the history, or not
abbrev pub judge_held : World → Slip → Option Slip → Verdict
judge_held w s (Some h) = if same_slip h s then verdict.Duplicate else verdict.Conflict (conflict kind.Id h s)
judge_held w s None = if nat_lt s.num w.first then verdict.Early else judge_linked w s w.history

-- the rule that decides an offer: the first that applies
abbrev pub judge : World → Slip → Verdict
judge w s = if w.closed then verdict.Closed else judge_held w s (find_id (w.waiting ++ w.history) s.id)

-- a history while waiting blocks are taken in, the blocks that still wait, and the conflicts of those dropped
pub record Intake : Type 0 where
  pub history : List Slip
  pub waiting : List Slip
  pub dropped : List Clash

-- a waiting block is admitted, or dropped with its conflict
abbrev pub take_judged : Intake → Slip → Option Clash → Intake
take_judged d s None = record { history = s ∷ d.history; waiting = without s d.waiting; dropped = d.dropped }
take_judged d s (Some c) = record { history = d.history; waiting = without s d.waiting; dropped = c ∷ d.dropped }

-- the next waiting block is taken, where there is one
abbrev pub take_one : Intake → Option Slip → Intake
take_one d None = d
take_one d (Some s) = take_judged d s (clash d.history s)

-- waiting blocks are taken one by one, at most n
abbrev pub take_in : ℕ → Intake → Intake
take_in zero d = d
take_in (suc n) d = take_in n (take_one d (next_waiting d.history d.waiting))

-- all that follows from the admission of a block
abbrev pub intake : World → Slip → Intake
intake w s = take_in (length w.waiting) (record { history = s ∷ w.history; waiting = w.waiting; dropped = [] })

-- without the blocks whose numbers are at most the tip's
abbrev pub purged : List Slip → List Slip → List Slip
purged newest room = filter (λ s. nat_lt (tip_num newest) s.num) room

-- the kind of nodes that tell none
abbrev pub plain_kind : Kind
plain_kind = record { version = version.V3; block_type = 45 ∷ [] }

-- a root where no kind is kept makes one
abbrev pub kind_after : Option Kind → List Slip → Option Kind
kind_after (Some k) history = Some k
kind_after None [] = Some plain_kind
kind_after None (s ∷ older) = None

-- the world after an admission
abbrev pub admitted : World → Intake → World
admitted w d = record w {
  kind = kind_after w.kind w.history;
  history = d.history;
  waiting = purged d.history d.waiting;
  conflicts = d.dropped ++ w.conflicts;
}

-- the world that a verdict leaves
abbrev pub world_by : World → Slip → Verdict → World
world_by w s verdict.Closed = w
world_by w s verdict.Duplicate = w
world_by w s (verdict.Conflict c) = record w { conflicts = c ∷ w.conflicts }
world_by w s verdict.Early = w
world_by w s verdict.Stale = w
world_by w s verdict.WaitFull = w
world_by w s verdict.Waiting = record w { waiting = s ∷ w.waiting }
world_by w s (verdict.HistoryFull need) = w
world_by w s verdict.Admitted = admitted w (intake w s)

-- the answer that a verdict gives
abbrev pub answer_by : World → Slip → Verdict → Answer
answer_by w s verdict.Closed = Closed (length w.history)
answer_by w s verdict.Duplicate = Duplicate
answer_by w s (verdict.Conflict c) = Conflict c
answer_by w s verdict.Early = Early
answer_by w s verdict.Stale = Stale
answer_by w s verdict.WaitFull = WaitFull (length w.waiting) (room_bytes w.waiting)
answer_by w s verdict.Waiting = Waiting
answer_by w s (verdict.HistoryFull need) = HistoryFull (length w.history) need
answer_by w s verdict.Admitted = Admitted (length w.history) (length (intake w s).history - length w.history) (reverse (intake w s).dropped)

-- an answer, and the world after it
pub record Offer : Type 0 where
  pub answer : Answer
  pub world : World

-- the answer to an offered block, and the world after it
abbrev pub offered : World → Slip → Offer
offered w s = record { answer = answer_by w s (judge w s); world = world_by w s (judge w s) }
