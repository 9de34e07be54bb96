-- The answers to an offer, as the code gives them and as the rules do.
use Rattle.std.specs.Prelude.{◌≡◌, Bool, true, false, Result, Ok, Err, ⊤}
use Rattle.relay_model.specs.Offers.{Answer, Closed, Duplicate, Conflict, Early, Stale, WaitFull, Waiting, HistoryFull, Admitted}
use Rattle.block_intake.specs.declared.answers.Offered.{Offered}
use Rattle.block_intake.specs.declared.answers.Offered.TheVariants as answer
use Rattle.block_intake.specs.declared.answers.OfferFault.{OfferFault}
use Rattle.block_intake.specs.declared.answers.OfferFault.TheVariants as fault

-- whether an answer needs memory: one that notes a conflict, lets a block wait, admits, or counts what would follow
abbrev pub TakesMemory : Answer → Type 0
TakesMemory (Conflict c) = ⊤
TakesMemory Waiting = ⊤
TakesMemory (HistoryFull len need) = ⊤
TakesMemory (Admitted from count dropped) = ⊤
TakesMemory (Closed len) = ⊥
TakesMemory Duplicate = ⊥
TakesMemory Early = ⊥
TakesMemory Stale = ⊥
TakesMemory (WaitFull blocks bytes) = ⊥

-- the answer is what the rules say; want of memory may come in place of one that needs memory
abbrev pub IsAnswer : Answer → Result Offered OfferFault → Type 0
IsAnswer said (Ok (answer.Admitted from count dropped)) = said ≡ Admitted from count dropped.items
IsAnswer said (Ok answer.Duplicate) = said ≡ Duplicate
IsAnswer said (Ok answer.Waiting) = said ≡ Waiting
IsAnswer said (Ok answer.Early) = said ≡ Early
IsAnswer said (Ok answer.Stale) = said ≡ Stale
IsAnswer said (Err (fault.Closed len)) = said ≡ Closed len
IsAnswer said (Err (fault.Conflict c)) = said ≡ Conflict c
IsAnswer said (Err (fault.HistoryFull len need)) = said ≡ HistoryFull len need
IsAnswer said (Err (fault.WaitFull blocks bytes)) = said ≡ WaitFull blocks bytes
IsAnswer said (Err fault.Mem) = TakesMemory said

-- whether there was no memory
abbrev pub is_mem : Result Offered OfferFault → Bool
is_mem (Ok a) = false
is_mem (Err (fault.Closed len)) = false
is_mem (Err (fault.Conflict c)) = false
is_mem (Err (fault.HistoryFull len need)) = false
is_mem (Err (fault.WaitFull blocks bytes)) = false
is_mem (Err fault.Mem) = true
