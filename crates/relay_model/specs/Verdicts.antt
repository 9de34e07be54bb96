-- What decides an offer.
use Rattle.std.specs.Prelude.{ℕ}
use Rattle.relay_model.specs.declared.answers.Conflict.{Conflict as Clash}

-- the rule that decides an offer, by the name of the answer that it gives; `HistoryFull` has the room that is needed in the history
pub data Verdict : Type 0 where
  Closed : Verdict
  Duplicate : Verdict
  Conflict : Clash → Verdict
  Early : Verdict
  Stale : Verdict
  WaitFull : Verdict
  Waiting : Verdict
  HistoryFull : ℕ → Verdict
  Admitted : Verdict
