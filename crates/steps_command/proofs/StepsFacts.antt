-- The loop of `steps`: what stands between two reads, and at each end.
use Rattle.std.proofs.Common.{◌≡◌, ◌≤◌, ◌<◌, ◌+◌, ◌^◌, inl, inr, ◌++◌, ℕ, List, [], length, take, Option, None, Some, Result, Ok, Err, MatchOption, MatchResult, IfOk, IfErr, refl, sym, ◌∙◌, ap, subst, append_assoc, arith}
use Rattle.std.proofs.lemmas.List.{append-nil, length-append}
use Rattle.std.specs.Io.KnownBytes.{Consumes, Keeps, IsAtEnd}
use Rattle.relay_model.specs.Worlds.{World}
use Rattle.chain_model.specs.declared.places.Place.{Place}
use Rattle.outer_world.specs.Causes.{Rose}
use Rattle.outer_world.specs.Told.{Gains, Grows, GrowsByFront, Took}
use Rattle.outer_world.proofs.public.Fronts.{grows_twice}
use Rattle.outer_world.proofs.public.TakenFacts.{gains_none, took_more}
use Rattle.fire_lines.specs.Reader.{ReaderState}
use Rattle.step_laws.proofs.public.ScratchFacts.{step_text_from_scratch}
use Rattle.steps_command.specs.declared.progress.RunEnd.{RunEnd}
use Rattle.command_io.specs.declared.Ended.{Ended}
use Rattle.steps_command.specs.declared.steps.StepsStop.{StepsStop}
use Rattle.steps_command.specs.declared.steps.StepsStop.TheVariants.{Mem, Read, Write, TooLong}
use Rattle.step_text.specs.Limits.{line_max, new_world}
use Rattle.step_text.specs.StepText.{StepText, whole, text_of, tell, step_text}
use Rattle.steps_command.specs.ErrorLines.{ending_line, ending_status, IsEndStatus}
use Rattle.steps_command.specs.Runs.{IsAnswer, EndsInPiece, Answered, RanOut, ReadFailed, TookTooMuch, Stopped}
use Rattle.command_io.specs.Streams.{Flow, SinkState, SourceState, TookInput}
use Rattle.steps_command.specs.Telling.{IsUnderWay, IsEnded, ending_seen}
use Rattle.steps_command.specs.Pieces.{PieceTaken}
use Rattle.fire_lines.specs.Text.{received}
use Rattle.chain_model.specs.Places.{no_place}

-- the step text of a run under way is what was told
pub text_under_way : (first : ℕ) (input told : List ℕ) (reader : ReaderState) (world : World) (place : Place) → IsUnderWay first input told reader world place
    → step_text first input ≡ record { text = told; ending = whole }
text_under_way first input told reader world place u =
    let slips = (received line_max input).slips in
    let all : tell slips (new_world first) no_place ≡ record { text = told ++ []; refusal = None } = ap (λ l. tell l (new_world first) no_place) (sym (append-nil slips)) ∙ u.goes_on [] in
    let nothing : tell slips (new_world first) no_place ≡ record { text = told; refusal = None } = all ∙ rw (append-nil told) refl in
    ap (λ x. text_of x (received line_max input).fault) nothing ∙ ap (text_of (record { text = told; refusal = None })) u.sound

-- whether it goes on or ended
pub text_after : (first : ℕ) (input told : List ℕ) (reader : ReaderState) (world : World) (place : Place) (end : Option RunEnd)
    → MatchOption end (IsUnderWay first input told reader world place) (λ e. IsEnded first input told (ending_seen e)) → (step_text first input).text ≡ told
text_after first input told reader world place None h = ap (λ x. x.text) (text_under_way first input told reader world place h)
text_after first input told reader world place (Some e) h = ap (λ x. x.text) h.text

-- the text of a piece was written
pub piece_written : (first : ℕ) (input told text : List ℕ) (start : Option (List ℕ)) (before after : SinkState) (reader : ReaderState) (world : World) (place : Place) (end : Option RunEnd)
    → MatchOption end (IsUnderWay first input (told ++ text) reader world place) (λ e. IsEnded first input (told ++ text) (ending_seen e))
    → Grows start before.written told → Grows before.written after.written text → PieceTaken first input start before after reader world place (Ok end)
piece_written first input told text start before after reader world place None h g k = (told ++ text, h, grows_twice start before.written after.written told text g k)
piece_written first input told text start before after reader world place (Some e) h g k = (told ++ text, h, grows_twice start before.written after.written told text g k)

-- a front of it was written
pub piece_begun : (first : ℕ) (input told text : List ℕ) (start between written : Option (List ℕ)) (reader : ReaderState) (world : World) (place : Place) (end : Option RunEnd)
    → MatchOption end (IsUnderWay first input (told ++ text) reader world place) (λ e. IsEnded first input (told ++ text) (ending_seen e))
    → Grows start between told → GrowsByFront between written text → GrowsByFront start written (step_text first input).text
piece_begun first input told text start between written reader world place end h g k =
    let whole_text = text_after first input (told ++ text) reader world place end h in
    (told ++ k.0, (k.1.0, append_assoc told k.0 k.1.0 ∙ (ap (λ l. told ++ l) k.1.1 ∙ sym whole_text)), grows_twice start between written told k.0 g k.2)

-- what stands between two reads: the bytes taken, and their steps written
pub record IsFlowing (first : ℕ) (before after : Flow) (reader : ReaderState) (world : World) (place : Place) (count : ℕ) : Type 0 where
  pub input : List ℕ
  pub told : List ℕ
  pub took : TookInput before after input
  pub under_way : IsUnderWay first input told reader world place
  pub wrote : Grows before.output.written after.output.written told
  pub counted : length input ≡ count
  pub reads : before.input.faults ≤ after.input.faults
  pub writes : before.output.faults ≤ after.output.faults

consumes_none : (a : Option (List ℕ)) → Consumes a a []
consumes_none None = tt
consumes_none (Some x) = refl

grows_none : (a : Option (List ℕ)) → Grows a a []
grows_none None = tt
grows_none (Some x) = sym (append-nil x)

-- at first nothing was taken
pub flows_first : (first : ℕ) (before : Flow) (reader : ReaderState) (world : World) (place : Place) → IsUnderWay first [] [] reader world place → IsFlowing first before before reader world place 0
flows_first first before reader world place u = record {
  input = [];
  told = [];
  took = record { first = consumes_none before.input.left; last = gains_none before.input.given };
  under_way = u;
  wrote = grows_none before.output.written;
  counted = refl;
  reads = omega arith;
  writes = omega arith;
}

-- no input ends no run
nothing_ends : (first : ℕ) → EndsInPiece first []
nothing_ends first = record { front = []; piece = []; input_is = refl; size = omega arith; goes_on = refl }

-- there was no memory to begin with
pub ran_out_first : (first : ℕ) (before : Flow) → RanOut first before before
ran_out_first first before = record {
  input = [];
  took = record { first = consumes_none before.input.left; last = gains_none before.input.given };
  last = nothing_ends first;
  text = ([], ((step_text first []).text, refl), grows_none before.output.written);
}

-- a run under way that takes a piece
pub ends_in : (first : ℕ) (input told piece : List ℕ) (reader : ReaderState) (world : World) (place : Place) → IsUnderWay first input told reader world place → length piece ≤ 65_536 → EndsInPiece first (input ++ piece)
ends_in first input told piece reader world place u size = record {
  front = input;
  piece = piece;
  input_is = refl;
  size = size;
  goes_on = ap (λ x. x.ending) (text_under_way first input told reader world place u);
}

-- a piece more
pub flows_on : (first : ℕ) (before mid after : Flow) (reader new : ReaderState) (world later : World) (place to : Place) (count n : ℕ) (piece : List ℕ)
    (i : IsFlowing first before mid reader world place count)
    → Consumes mid.input.left after.input.left piece → Gains mid.input.given after.input.given piece → mid.input.faults ≤ after.input.faults → mid.output.faults ≤ after.output.faults → length piece ≡ n
    → PieceTaken first (i.input ++ piece) before.output.written mid.output after.output new later to (Ok None)
    → IsFlowing first before after new later to (count + n)
flows_on first before mid after reader new world later place to count n piece i begun last reads writes size taken = record {
  input = i.input ++ piece;
  told = taken.0;
  took = took_more _ _ _ _ _ _ i.input piece i.took begun last;
  under_way = taken.1;
  wrote = taken.2;
  counted = omega (arith, length-append i.input piece, i.counted, size);
  reads = omega (arith, i.reads, reads);
  writes = omega (arith, i.writes, writes);
}

rose_later : (before mid last : ℕ) → before ≤ mid → Rose mid last → Rose before last
rose_later before mid last h r = omega (arith, h, r)

consumes_kept : (a b c : Option (List ℕ)) (xs : List ℕ) → Consumes a b xs → Keeps b c → Consumes a c xs
consumes_kept None b c xs h k = tt
consumes_kept (Some x) None c xs h k = absurd h
consumes_kept (Some x) (Some y) None xs h k = absurd k
consumes_kept (Some x) (Some y) (Some z) xs h k = h ∙ ap (λ l. xs ++ l) (sym k)

-- the input ended
pub ends_whole : (first : ℕ) (before mid : Flow) (input : SourceState) (reader : ReaderState) (world : World) (place : Place) (count : ℕ) (line : List ℕ)
    (buf : List ℕ) (n : ℕ) (i : IsFlowing first before mid reader world place count) → n ≡ 0 → Consumes mid.input.left input.left (take n buf) → (n ≡ 0 → 0 < length buf → IsAtEnd input.left) → 0 < length buf
    → Gains mid.input.given input.given (take n buf) → line ≡ []
    → Answered first before (record { input = input; output = mid.output }) line 0
ends_whole first before mid input reader world place count line buf n i is begun' end' room last' none =
    let begun : Consumes mid.input.left input.left [] = subst (λ (m : ℕ). Consumes mid.input.left input.left (take m buf)) is begun' in
    let last : Gains mid.input.given input.given [] = subst (λ (m : ℕ). Gains mid.input.given input.given (take m buf)) is last' in
    let end : IsAtEnd input.left = end' is room in
    let text = text_under_way first i.input i.told reader world place i.under_way in
    let took : Took before.input.left input.left before.input.given input.given (i.input ++ []) = took_more _ _ _ _ _ _ i.input [] i.took begun last in
    record {
      input = i.input;
      took = subst (λ (l : List ℕ). Took before.input.left input.left before.input.given input.given l) (append-nil i.input) took;
      text = subst (λ (x : StepText). Grows before.output.written mid.output.written x.text) (sym text) i.wrote;
      status_is = ap (λ x. ending_status x.ending) (sym text);
      line_is = none ∙ ap (λ x. ending_line x.ending) (sym text);
      at_end = λ _. end;
      ended = λ other. absurd (other refl);
      last = λ other. absurd (other refl);
      scratch = λ _. step_text_from_scratch first i.input (ap (λ x. x.ending) text);
    }

-- a read failed
pub ends_at_read : (first : ℕ) (before mid : Flow) (input : SourceState) (reader : ReaderState) (world : World) (place : Place) (count : ℕ)
    (i : IsFlowing first before mid reader world place count) → Keeps mid.input.left input.left → input.given ≡ mid.input.given → Rose mid.input.faults input.faults
    → ReadFailed first before (record { input = input; output = mid.output })
ends_at_read first before mid input reader world place count i begun last cause =
    let text = text_under_way first i.input i.told reader world place i.under_way in
    record {
      input = i.input;
      took = record { first = consumes_kept _ _ _ i.input i.took.first begun; last = subst (λ (x : Option (List ℕ)). Gains before.input.given x i.input) (sym last) i.took.last };
      cause = rose_later _ _ _ i.reads cause;
      goes_on = ap (λ x. x.ending) text;
      text = subst (λ (x : StepText). Grows before.output.written mid.output.written x.text) (sym text) i.wrote;
    }

-- no end was waited for
pub ends_too_long : (first : ℕ) (before after : Flow) (reader : ReaderState) (world : World) (place : Place) (count : ℕ) → IsFlowing first before after reader world place count → 2 ^ 40 ≤ count → TookTooMuch first before after
ends_too_long first before after reader world place count i long =
    let text = text_under_way first i.input i.told reader world place i.under_way in
    record {
      input = i.input;
      took = i.took;
      cause = omega (arith, i.counted, long);
      goes_on = ap (λ x. x.ending) text;
      text = subst (λ (x : StepText). Grows before.output.written after.output.written x.text) (sym text) i.wrote;
    }

-- the piece had no memory, or its text was not written
pub stops_in_piece : (first : ℕ) (before mid after : Flow) (reader new : ReaderState) (world later : World) (place to : Place) (count : ℕ) (piece : List ℕ) (stop : StepsStop)
    (i : IsFlowing first before mid reader world place count) → Consumes mid.input.left after.input.left piece → Gains mid.input.given after.input.given piece → length piece ≤ 65_536
    → PieceTaken first (i.input ++ piece) before.output.written mid.output after.output new later to (Err stop)
    → Stopped first stop before after
stops_in_piece first before mid after reader new world later place to count piece Mem i begun last size h = record {
  input = i.input ++ piece;
  took = took_more _ _ _ _ _ _ i.input piece i.took begun last;
  last = ends_in first i.input i.told piece reader world place i.under_way size;
  text = h;
}
stops_in_piece first before mid after reader new world later place to count piece Write i begun last size h = record {
  input = i.input ++ piece;
  took = took_more _ _ _ _ _ _ i.input piece i.took begun last;
  cause = rose_later _ _ _ i.writes h.0;
  last = ends_in first i.input i.told piece reader world place i.under_way size;
  text = h.1;
}
stops_in_piece first before mid after reader new world later place to count piece Read i begun last size h = absurd h
stops_in_piece first before mid after reader new world later place to count piece TooLong i begun last size h = absurd h

no_end_status : (status : ℕ) → IsEndStatus status → status ≡ 0 → ⊥
no_end_status status (inl five) zero_is = omega arith
no_end_status status (inr (inl six)) zero_is = omega arith
no_end_status status (inr (inr twelve)) zero_is = omega arith

-- the piece ended the run
pub ends_in_piece : (first : ℕ) (before mid after : Flow) (reader new : ReaderState) (world later : World) (place to : Place) (count : ℕ) (piece : List ℕ)
    (end : RunEnd) (line : List ℕ) (status : ℕ)
    (i : IsFlowing first before mid reader world place count) → Consumes mid.input.left after.input.left piece → Gains mid.input.given after.input.given piece → length piece ≤ 65_536
    → PieceTaken first (i.input ++ piece) before.output.written mid.output after.output new later to (Ok (Some end))
    → line ≡ ending_line (ending_seen end) → status ≡ ending_status (ending_seen end) → IsEndStatus status
    → Answered first before after line status
ends_in_piece first before mid after reader new world later place to count piece end line status i begun last size h line_is status_is known = record {
  input = i.input ++ piece;
  took = took_more _ _ _ _ _ _ i.input piece i.took begun last;
  text = subst (λ (x : StepText). Grows before.output.written after.output.written x.text) (sym h.1.text) h.2;
  status_is = status_is ∙ ap (λ x. ending_status x.ending) (sym h.1.text);
  line_is = line_is ∙ ap (λ x. ending_line x.ending) (sym h.1.text);
  at_end = λ zero_is. absurd (no_end_status status known zero_is);
  ended = λ _. h.1.stays;
  last = λ _. ends_in first i.input i.told piece reader world place i.under_way size;
  scratch = λ zero_is. absurd (no_end_status status known zero_is);
}

-- there was no memory for its line
pub ends_without_line : (first : ℕ) (before mid after : Flow) (reader new : ReaderState) (world later : World) (place to : Place) (count : ℕ) (piece : List ℕ) (end : RunEnd)
    (i : IsFlowing first before mid reader world place count) → Consumes mid.input.left after.input.left piece → Gains mid.input.given after.input.given piece → length piece ≤ 65_536
    → PieceTaken first (i.input ++ piece) before.output.written mid.output after.output new later to (Ok (Some end))
    → RanOut first before after
ends_without_line first before mid after reader new world later place to count piece end i begun last size h = record {
  input = i.input ++ piece;
  took = took_more _ _ _ _ _ _ i.input piece i.took begun last;
  last = ends_in first i.input i.told piece reader world place i.under_way size;
  text = (h.0, ([], append-nil h.0 ∙ ap (λ x. x.text) (sym h.1.text)), h.2);
}

-- a status of what ended a text is one of an answer
pub ends_known : (r : Result Ended StepsStop) → IfOk r (λ e. IsEndStatus e.status) → IfOk r (λ e. IsAnswer e.status)
ends_known (Ok e) h = inr h
ends_known (Err stop) h = tt

-- so it is with what the code answers
pub ends_by : (first : ℕ) (before mid after : Flow) (reader new : ReaderState) (world later : World) (place to : Place) (count : ℕ) (piece : List ℕ) (end : RunEnd)
    (r : Result Ended StepsStop) (i : IsFlowing first before mid reader world place count) → Consumes mid.input.left after.input.left piece → Gains mid.input.given after.input.given piece → length piece ≤ 65_536
    → PieceTaken first (i.input ++ piece) before.output.written mid.output after.output new later to (Ok (Some end))
    → IfOk r (λ e. e.line.items ≡ ending_line (ending_seen end)) → IfOk r (λ e. e.status ≡ ending_status (ending_seen end)) → IfOk r (λ e. IsEndStatus e.status) → IfErr r (λ stop. stop ≡ Mem)
    → MatchResult r (λ e. Answered first before after e.line.items e.status) (λ stop. Stopped first stop before after)
ends_by first before mid after reader new world later place to count piece end (Ok e) i begun last size h line_is status_is known none =
    ends_in_piece first before mid after reader new world later place to count piece end e.line.items e.status i begun last size h line_is status_is known
ends_by first before mid after reader new world later place to count piece end (Err stop) i begun last size h line_is status_is known is =
    subst (λ (s : StepsStop). Stopped first s before after) (sym is)
    (ends_without_line first before mid after reader new world later place to count piece end i begun last size h)
