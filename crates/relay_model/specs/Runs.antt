-- Offers one after another to a relay that began empty. What was offered last is first.
use Rattle.std.specs.Prelude.{ℕ, ◌≡◌, Bool, true, false, List, [], ◌∷◌, ◌++◌, if◌then◌else◌, None}
use Rattle.std.specs.List.{AllByRecursion}
use Rattle.block_record.specs.declared.blocks.Slip.{Slip}
use Rattle.relay_model.specs.declared.answers.Conflict.{Conflict as Clash}
use Rattle.relay_model.specs.Worlds.{World, Limits, usual_size}
use Rattle.relay_model.specs.Offers.{Answer, Closed, Duplicate, Conflict, Early, Stale, WaitFull, Waiting, HistoryFull, Admitted, offered}
use Rattle.relay_model.specs.Orders.{once}

-- a world in which nothing came yet, with bundles of the usual size
abbrev pub empty_world : ℕ → ℕ → Limits → World
empty_world first run limits = record {
  first = first;
  run = run;
  limits = limits;
  size = usual_size;
  kind = None;
  history = [];
  waiting = [];
  stored = [];
  conflicts = [];
  closed = false;
}

-- the world after the offers
abbrev pub run : World → List Slip → World
run w [] = w
run w (s ∷ earlier) = (offered (run w earlier) s).world

-- whether an answer is Ok
abbrev pub is_ok : Answer → Bool
is_ok (Closed len) = false
is_ok Duplicate = true
is_ok (Conflict c) = false
is_ok Early = true
is_ok Stale = true
is_ok (WaitFull blocks bytes) = false
is_ok Waiting = true
is_ok (HistoryFull len need) = false
is_ok (Admitted from count dropped) = true

-- the blocks whose offers were answered Ok, with each repeat
abbrev pub taken : World → List Slip → List Slip
taken w [] = []
taken w (s ∷ earlier) = if is_ok (offered (run w earlier) s).answer then s ∷ taken w earlier else taken w earlier

-- the conflicts of the waiting blocks that an answer says were dropped
abbrev pub dropped_by : Answer → List Clash
dropped_by (Closed len) = []
dropped_by Duplicate = []
dropped_by (Conflict c) = []
dropped_by Early = []
dropped_by Stale = []
dropped_by (WaitFull blocks bytes) = []
dropped_by Waiting = []
dropped_by (HistoryFull len need) = []
dropped_by (Admitted from count dropped) = dropped

-- the conflicts of all waiting blocks that were dropped in a run
abbrev pub dropped : World → List Slip → List Clash
dropped w [] = []
dropped w (s ∷ earlier) = dropped_by (offered (run w earlier) s).answer ++ dropped w earlier

-- each id is of one slip
abbrev pub OneEach : List Slip → Type 0
OneEach [] = Unit {0}
OneEach (s ∷ older) = AllByRecursion (λ t. t.id ≡ s.id → t ≡ s) older × OneEach older

-- the blocks that were answered Ok in a run from nothing, each once
abbrev pub received : ℕ → ℕ → Limits → List Slip → List Slip
received first run_number limits offers = once (taken (empty_world first run_number limits) offers)
