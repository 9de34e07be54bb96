-- Runs of the command, by how they end.
use Rattle.std.proofs.Common.{ℕ, List, inl, inr, arith}
use Rattle.outer_world.proofs.public.TakenFacts.{took_nothing}
use Rattle.command_io.specs.Streams.{ShelfState, SinkState, SourceState, ToldLine, streams_of}
use Rattle.check_command.specs.Check.{CheckAnswered, CheckRun}

-- a run that has an answer, whose error line was told
pub answered_run : (shelf shelf' : ShelfState) (line : List ℕ) (input : SourceState) (output output' errors errors' : SinkState) (status : ℕ) → CheckAnswered shelf.files output output' line status
    → ToldLine errors errors' line → CheckRun shelf shelf' (streams_of input output errors) (streams_of input output' errors') status
answered_run shelf shelf' line input output output' errors errors' status (inl (zero, reported)) told = record {
  known = inl zero;
  input = took_nothing input.left input.given;
  told = λ _. (line, reported, told);
  bad = λ s. absurd (omega (arith, zero, s));
  other = λ s. absurd (omega (arith, zero, s));
  ran_out = λ s. absurd (omega (arith, zero, s));
  write_failed = λ s. absurd (omega (arith, zero, s));
  shelf_failed = λ s. absurd (omega (arith, zero, s));
}
answered_run shelf shelf' line input output output' errors errors' status (inr (inl (eight, bad))) told = record {
  known = inr (inr (inr (inr (inl eight))));
  input = took_nothing input.left input.given;
  told = λ s. absurd (omega (arith, eight, s));
  bad = λ _. (line, bad, told);
  other = λ s. absurd (omega (arith, eight, s));
  ran_out = λ s. absurd (omega (arith, eight, s));
  write_failed = λ s. absurd (omega (arith, eight, s));
  shelf_failed = λ s. absurd (omega (arith, eight, s));
}
answered_run shelf shelf' line input output output' errors errors' status (inr (inr (fourteen, other))) told = record {
  known = inr (inr (inr (inr (inr fourteen))));
  input = took_nothing input.left input.given;
  told = λ s. absurd (omega (arith, fourteen, s));
  bad = λ s. absurd (omega (arith, fourteen, s));
  other = λ _. (line, other, told);
  ran_out = λ s. absurd (omega (arith, fourteen, s));
  write_failed = λ s. absurd (omega (arith, fourteen, s));
  shelf_failed = λ s. absurd (omega (arith, fourteen, s));
}
