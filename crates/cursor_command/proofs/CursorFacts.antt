-- Runs of the command `cursor`.
use Rattle.std.proofs.Common.{◌≡◌, ℕ, Bool, false, List, Result, Ok, Err, subst, inl, inr, arith}
use Rattle.std.specs.Result.{is_err, MatchResult}
use Rattle.std.specs.Str.{IsUtf8}
use Rattle.outer_world.proofs.public.TakenFacts.{took_nothing}
use Rattle.cursor_command.specs.CursorCommand.{CursorAnswered, CursorRun}
use Rattle.command_io.specs.Streams.{SinkState, SourceState, ToldLine, streams_of}

-- a text that was read as UTF-8 is UTF-8
pub utf8_read : {T E : Type 0} (text : List ℕ) (r : Result T E) (A : T → Type 0) (B : E → Type 0) (bad : Bool) → bad ≡ is_err r → bad ≡ false → MatchResult r (λ s. A s × IsUtf8 text) B → IsUtf8 text
utf8_read text (Ok s) A B bad same good cases = cases.1
utf8_read text (Err e) A B bad same good cases = absurd (cc (same, good))

-- a run that has an answer, whose error line was told
pub answered_run : (text line : List ℕ) (input : SourceState) (output output' errors errors' : SinkState) (status : ℕ) → IsUtf8 text → CursorAnswered text output output' line status
    → ToldLine errors errors' line → CursorRun text (streams_of input output errors) (streams_of input output' errors') status
answered_run text line input output output' errors errors' status utf8 (inl (zero, written)) told = record {
  known = inl zero;
  usage = (λ two. absurd (omega (arith, zero, two)), λ bad. absurd (bad utf8));
  input = took_nothing input.left input.given;
  told = λ _. (line, written, told);
  refused = λ s. absurd (omega (arith, zero, s));
  ran_out = λ s. absurd (omega (arith, zero, s));
  misused = λ s. absurd (omega (arith, zero, s));
  write_failed = λ s. absurd (omega (arith, zero, s));
}
answered_run text line input output output' errors errors' status utf8 (inr (sixteen, refused)) told = record {
  known = inr (inr (inr (inr sixteen)));
  usage = (λ two. absurd (omega (arith, sixteen, two)), λ bad. absurd (bad utf8));
  input = took_nothing input.left input.given;
  told = λ s. absurd (omega (arith, sixteen, s));
  refused = λ _. (line, refused, told);
  ran_out = λ s. absurd (omega (arith, sixteen, s));
  misused = λ s. absurd (omega (arith, sixteen, s));
  write_failed = λ s. absurd (omega (arith, sixteen, s));
}

-- the same of an error line under another name
pub answered_line : (text line sent : List ℕ) (input : SourceState) (output output' errors errors' : SinkState) (status : ℕ) → IsUtf8 text → sent ≡ line → CursorAnswered text output output' line status
    → ToldLine errors errors' sent → CursorRun text (streams_of input output errors) (streams_of input output' errors') status
answered_line text line sent input output output' errors errors' status utf8 same answered told =
    answered_run text line input output output' errors errors' status utf8 answered (subst (ToldLine errors errors') same told)
