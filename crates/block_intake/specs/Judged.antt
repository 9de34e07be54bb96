-- The rule that decides an offer, as the code tells it.
use Rattle.std.specs.Prelude.{ℕ, ◌≡◌, List, Option, None, Some, Result, Ok, Err, ⊤}
use Rattle.block_tree.specs.Places.{slip_at}
use Rattle.block_record.specs.declared.blocks.Slip.{Slip}
use Rattle.relay_model.specs.declared.answers.Conflict.{Conflict as Clash}
use Rattle.relay_model.specs.declared.answers.ConflictKind.{ConflictKind}
use Rattle.relay_model.specs.Worlds.{World}
use Rattle.relay_model.specs.Offers.{conflict, judge_limit}
use Rattle.relay_model.specs.Verdicts.{Verdict}
use Rattle.relay_model.specs.Verdicts as verdict
use Rattle.fork_db.specs.declared.claims.Linked.{Linked}
use Rattle.fork_db.specs.Claims.{IsLinkOf}
use Rattle.fork_db.specs.Forks.{Forks}
use Rattle.wait_room.specs.Rooms.{Room}
use Rattle.block_intake.specs.declared.judged.Judged.{Judged}
use Rattle.block_intake.specs.declared.judged.Judged.TheVariants as judged

-- the verdict on an offered block that the code's answer stands for: of a block that links, the limit of the history decides
abbrev pub verdict_of_judged : World → Slip → Judged → Verdict
verdict_of_judged w s judged.Duplicate = verdict.Duplicate
verdict_of_judged w s (judged.Conflict kind held) = verdict.Conflict (conflict kind held.now s)
verdict_of_judged w s judged.Early = verdict.Early
verdict_of_judged w s judged.Stale = verdict.Stale
verdict_of_judged w s judged.WaitFull = verdict.WaitFull
verdict_of_judged w s judged.Waiting = verdict.Waiting
verdict_of_judged w s (judged.Links linked) = judge_limit w s

-- a block that links is linked where it is told
abbrev pub IsLinked : List Slip → Slip → Judged → Type 0
IsLinked newest s (judged.Links linked) = IsLinkOf newest s linked
IsLinked newest s other = ⊤

-- the conflict with a block of the history, where it was found
abbrev pub clash_at : Slip → ConflictKind → Option Slip → Option Clash
clash_at s kind None = None
clash_at s kind (Some held) = Some (conflict kind held s)

-- how a block contradicts the block at a place, unless it is linked
abbrev pub clash_of : List Slip → Slip → Result Linked (ConflictKind × ℕ) → Option Clash
clash_of newest s (Ok linked) = None
clash_of newest s (Err p) = clash_at s p.0 (slip_at newest p.1)

-- the world has this history, and these blocks wait in it
pub record HasParts (w : World) (db : Forks) (room : Room) : Type 0 where
  pub history : w.history ≡ db.history
  pub waiting : w.waiting ≡ room.waiting
  pub wait_blocks : w.limits.wait_blocks ≡ room.most_blocks
  pub wait_bytes : w.limits.wait_bytes ≡ room.most_bytes
