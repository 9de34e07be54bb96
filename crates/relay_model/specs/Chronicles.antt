-- What a relay took, in order, and the world that this stands for.
use Rattle.std.specs.Prelude.{ℕ, ◌-◌, Bool, true, false, not, ◌&&◌, nat_lt, List, [], ◌∷◌, ◌++◌, length, map, take, Option, None, Some, filter}
use Rattle.block_record.specs.declared.blocks.Slip.{Slip}
use Rattle.block_record.specs.declared.blocks.Kind.{Kind as NodeKind}
use Rattle.chain_model.specs.Ancestry.{has_id}
use Rattle.relay_model.specs.Worlds.{World, Limits}
use Rattle.relay_model.specs.Offers.{judge, intake, tip_num, plain_kind}
use Rattle.relay_model.specs.Verdicts.{Verdict}
use Rattle.relay_model.specs.Verdicts as verdict

-- an entry: what the relay was opened with, its first number, its run, its limits and the size of its bundles; the kept kind; a block of the history; one that was answered `Waiting`; the place of one that is stored; that the relay is closed
pub data Entry : Type 0 where
  Opened : ℕ → ℕ → Limits → ℕ → Entry
  Kind : NodeKind → Entry
  Admitted : Slip → Entry
  Waited : Slip → Entry
  Stored : ℕ → Entry
  Closed : Entry

-- the least number that is taken
abbrev pub first_of : List Entry → ℕ
first_of [] = 0
first_of (Opened first run limits size ∷ es) = first
first_of (e ∷ es) = first_of es

-- the run
abbrev pub run_of : List Entry → ℕ
run_of [] = 0
run_of (Opened first run limits size ∷ es) = run
run_of (e ∷ es) = run_of es

-- the limits
abbrev pub limits_of : List Entry → Limits
limits_of [] = record { history = 0; wait_blocks = 0; wait_bytes = 0 }
limits_of (Opened first run limits size ∷ es) = limits
limits_of (e ∷ es) = limits_of es

-- the size of a bundle
abbrev pub size_of : List Entry → ℕ
size_of [] = 0
size_of (Opened first run limits size ∷ es) = size
size_of (e ∷ es) = size_of es

-- the kept kind, where there is one
abbrev pub kind_of : List Entry → Option NodeKind
kind_of [] = None
kind_of (Kind k ∷ es) = Some k
kind_of (e ∷ es) = kind_of es

-- the history
abbrev pub history_of : List Entry → List Slip
history_of [] = []
history_of (Admitted s ∷ es) = s ∷ history_of es
history_of (e ∷ es) = history_of es

-- the blocks that were answered `Waiting`
abbrev pub waited_of : List Entry → List Slip
waited_of [] = []
waited_of (Waited s ∷ es) = s ∷ waited_of es
waited_of (e ∷ es) = waited_of es

-- the stored places
abbrev pub stored_of : List Entry → List ℕ
stored_of [] = []
stored_of (Stored at ∷ es) = at ∷ stored_of es
stored_of (e ∷ es) = stored_of es

-- whether the relay is closed
abbrev pub closed_of : List Entry → Bool
closed_of [] = false
closed_of (Closed ∷ es) = true
closed_of (e ∷ es) = closed_of es

-- whether a block that was answered `Waiting` still waits: its parent is not in the history, and its number is above the final tip's
abbrev pub still_waits : List Slip → Slip → Bool
still_waits newest s = not (has_id newest s.parent_id) && nat_lt (tip_num newest) s.num

-- the blocks that wait
abbrev pub waiting_of : List Entry → List Slip
waiting_of es = filter (still_waits (history_of es)) (waited_of es)

-- the world that the entries, the newest first, stand for; conflicts are not among them
abbrev pub world_of : List Entry → World
world_of es = record {
  first = first_of es;
  run = run_of es;
  limits = limits_of es;
  size = size_of es;
  kind = kind_of es;
  history = history_of es;
  waiting = waiting_of es;
  stored = stored_of es;
  conflicts = [];
  closed = closed_of es;
}

-- a root brings the kind of nodes that tell none before it, where no kind is kept
abbrev pub kind_added : Option NodeKind → List Slip → List Entry
kind_added None [] = Kind plain_kind ∷ []
kind_added None (s ∷ older) = []
kind_added (Some k) history = []

-- the entries that an offer adds, by the rule that decides it
abbrev pub added_by : World → Slip → Verdict → List Entry
added_by w s verdict.Closed = []
added_by w s verdict.Duplicate = []
added_by w s (verdict.Conflict c) = []
added_by w s verdict.Early = []
added_by w s verdict.Stale = []
added_by w s verdict.WaitFull = []
added_by w s verdict.Waiting = Waited s ∷ []
added_by w s (verdict.HistoryFull need) = []
added_by w s verdict.Admitted =
    let after = (intake w s).history in
    map Admitted (take (length after - length w.history) after) ++ kind_added w.kind w.history

-- the entries that an offer adds
abbrev pub added : World → Slip → List Entry
added w s = added_by w s (judge w s)
