use Rattle.std.proofs.Common.{ℕ, ◌+◌, inl, inr, sym, ap, ◌∙◌}
use Rattle.dbin_file.specs.Contents.{told}
use Rattle.file_source.proofs.SearchFacts.{bad_refused, end_is_bad, is_whole, next_is_bad, stands_next}
use Rattle.file_source.proofs.search.block_at.Goals as goal

pub returns-in-Some-fault-clause-answer : goal.returns-in-Some-fault-clause-answer
returns-in-Some-fault-clause-answer c = λ files front given h over.
    bad_refused files c.args.file.now.name given c.name.result.now c.fault_place.result c.bad_at.result c.bad_at.ensures c.name.ensures
    (inr (end_is_bad files c.args.file.now front given c.in-Some-fault.fault c.fault_place.result h (sym c.in_default.ensures) over (sym c.in-Some-fault.ensures) c.fault_place.ensures))

pub returns-in-None-clause-answer : goal.returns-in-None-clause-answer
returns-in-None-clause-answer c = λ files front given h over. is_whole files c.args.file.now front given h (sym c.in_default.ensures) over (sym c.in-None.ensures)

pub returns-in-Ok-clause-answer : goal.returns-in-Ok-clause-answer
returns-in-Ok-clause-answer c = λ files front given h over. stands_next files c.args.file.now front c.in-Some.message.now given c.in-Ok.block h (sym c.in-Some.ensures) (rw c.as_bytes.ensures at c.in-Ok.ensures)

pub returns-in-Err-BadRecord-clause-answer : goal.returns-in-Err-BadRecord-clause-answer
returns-in-Err-BadRecord-clause-answer c = λ files front given h over.
    bad_refused files c.args.file.now.name given c.name-in-Err-BadRecord.result.now c.saturating_add-place.result c.bad_at-in-Err-BadRecord.result c.bad_at-in-Err-BadRecord.ensures c.name-in-Err-BadRecord.ensures
    (inl (next_is_bad files c.args.file.now front c.in-Some.message.now given c.place.result c.in-Err-BadRecord.at c.saturating_add-place.result h (sym c.in-Some.ensures) (rw (c.as_bytes.ensures, c.in-Err-BadRecord.field-0-is) at c.in-Err-BadRecord.ensures)
    (λ block_type typed. c.place.ensures.message files front block_type given h typed)
    (c.saturating_add-place.ensures ∙ ap (λ (x : ℕ). told (x + c.in-Err-BadRecord.at)) c.saturating_add.ensures)))
