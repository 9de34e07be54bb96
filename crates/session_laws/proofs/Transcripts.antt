-- What a session has written is a front of its transcript.
use Rattle.std.proofs.Common.{◌≡◌, ℕ, true, false, List, [], ◌∷◌, ◌++◌, take, drop, map, refl, sym, ◌∙◌, ap, subst, append_assoc}
use Rattle.std.proofs.lemmas.List.{append-nil, map-append, take-append-drop}
use mathlib.Core.List.{IsPrefix}
use Rattle.block_record.specs.declared.blocks.Slip.{Slip}
use Rattle.chain_model.specs.Places.{PlacedStep, steps_to}
use Rattle.chain_laws.specs.Oldest.{oldest}
use Rattle.step_cursor.specs.declared.cursor.Request.{Request}
use Rattle.relay_model.specs.Looks.{Start, At}
use Rattle.reply_text.specs.declared.errors.ErrorLine.{ErrorLine}
use Rattle.reply_text.specs.Lines.{error_line}
use Rattle.reply_text.specs.Replies.{Reply, Open, StepOf, Head, End, Error, reply_text}
use Rattle.session_model.specs.declared.over.SessionOver.TheVariants as over
use Rattle.session_model.specs.Told.{Told, Opens, Steps, Heads, Ends, Fails, told, Shows}
use Rattle.session_model.specs.Transcript.{first_place, last_block, steps_told, batches_told, body}
use Rattle.session_model.specs.Progress.{OpenBatch, Stage, Waits, Sends, IsOver, Progress}
use Rattle.session_model.specs.Standing.{HasLengths, IsWithin, StandsAt}
use Rattle.session_model.proofs.public.Batch.{whole_body_at}
use Rattle.session_laws.specs.Laws.{Transcribed, WrittenIsTranscript, WrittenHasLengths}

shows : (lines : List Told) (replies : List Reply) (text : List ℕ) → map told replies ≡ lines → text ≡ reply_text replies → Shows lines text
shows lines replies text says is = record { replies = replies; says = says; text_is = is }

no_lengths : (newest : List Slip) (r : Request) (run : ℕ) (lens : List ℕ) → lens ≡ [] → HasLengths newest r run lens
no_lengths newest r run lens e = subst (HasLengths newest r run) (sym e) (record { rises = tt; within = tt; began = tt })

-- the steps of a batch in two parts
steps_parted : (run seen k : ℕ) (xs : List PlacedStep) → steps_told run seen xs ≡ steps_told run seen (take k xs) ++ steps_told run seen (drop k xs)
steps_parted run seen k xs = ap (steps_told run seen) (sym (take-append-drop k xs)) ∙ map-append (λ y. Steps y run seen) (take k xs) (drop k xs)

regroup : (before a b : List Told) (h : List Told) → (before ++ a) ++ (b ++ h) ≡ (before ++ (a ++ b)) ++ h
regroup before a b h = simp append_assoc

-- what is sent within a batch is a front of the body
pub within_front : (newest : List Slip) (type : List ℕ) (r : Request) (run : ℕ) (lens : List ℕ) (b : OpenBatch) (lines : List Told) → IsWithin newest type r run lens b lines
    → IsPrefix lines (body newest run type r lens)
within_front newest type r run lens b lines w =
    let older = oldest b.seen newest in
    let xs = steps_to older b.place r.mode r.stop in
    let first = first_place newest r lens in
    let before = batches_told newest run r.mode r.stop first w.before in
    let head = Heads (last_block older r.mode r.stop) b.seen ∷ [] in
    let rest = steps_told run b.seen (drop b.given xs) ++ head in
    let whole : lines ++ rest ≡ body newest run type r lens =
    ap (λ l. l ++ rest) w.lines_are
    ∙ ap (λ l. Opens type run first ∷ l)
    (regroup before (steps_told run b.seen (take b.given xs)) (steps_told run b.seen (drop b.given xs)) head
    ∙ ap (λ l. (before ++ l) ++ head) (sym (steps_parted run b.seen b.given xs)))
    ∙ whole_body_at newest type r run lens w.before b.seen b.place older refl w.lens_are w.place_is in
    (rest, whole)

-- a line that tells an error is its error line
only_error : (replies : List Reply) (e : ErrorLine) → map told replies ≡ Fails e ∷ [] → reply_text replies ≡ error_line e
only_error [] e is = absurd (cc)
only_error (Open type run place ∷ more) e is = absurd (cc)
only_error (StepOf kind b place tail ∷ more) e is = absurd (cc)
only_error (Head h n ∷ more) e is = absurd (cc)
only_error (End done ∷ more) e is = absurd (cc)
only_error (Error f ∷ x ∷ more) e is = absurd (cc)
only_error (Error f ∷ []) e is = let same : f ≡ e = cc in append-nil (error_line f) ∙ ap error_line same

transcribed : (newest : List Slip) (type : List ℕ) (p : Progress) (stage : Stage) (replies : List Reply) (text : List ℕ)
    → StandsAt newest type p.request p.run_number p.lens stage (map told replies) → text ≡ reply_text replies → Transcribed newest type p stage text
transcribed newest type p (Waits Start) replies text h is =
    shows (body newest p.run_number type p.request p.lens) replies text (h.lines_are ∙ ap (body newest p.run_number type p.request) (sym h.lens_are)) is
transcribed newest type p (Waits (At place)) replies text h is = shows (body newest p.run_number type p.request p.lens) replies text h.lines_are is
transcribed newest type p (Sends b) replies text h is = record {
  sent = map told replies;
  front = within_front newest type p.request p.run_number p.lens b (map told replies) h;
  shown = shows (map told replies) replies text refl is;
}
transcribed newest type p (IsOver over.Done) replies text h is = shows (body newest p.run_number type p.request p.lens ++ Ends true ∷ []) replies text h.lines_are is
transcribed newest type p (IsOver over.Closing) replies text h is = shows (body newest p.run_number type p.request p.lens ++ Ends false ∷ []) replies text h.lines_are is
transcribed newest type p (IsOver over.Refused) replies text h is = record { error = h.error; transcript = (h.lens_are, is ∙ only_error replies h.error h.lines_are) }

pub written_is_transcript : WrittenIsTranscript
written_is_transcript newest type p text h = transcribed newest type p p.stage h.replies text h.stands h.text_is

lengths : (newest : List Slip) (type : List ℕ) (r : Request) (run : ℕ) (lens : List ℕ) (stage : Stage) (lines : List Told) → StandsAt newest type r run lens stage lines → HasLengths newest r run lens
lengths newest type r run lens (Waits Start) lines h = no_lengths newest r run lens h.lens_are
lengths newest type r run lens (Waits (At place)) lines h = h.lengths
lengths newest type r run lens (Sends b) lines h = h.lengths
lengths newest type r run lens (IsOver over.Done) lines h = h.lengths
lengths newest type r run lens (IsOver over.Closing) lines h = h.lengths
lengths newest type r run lens (IsOver over.Refused) lines h = no_lengths newest r run lens h.lens_are

pub written_has_lengths : WrittenHasLengths
written_has_lengths newest type p text h = lengths newest type p.request p.run_number p.lens p.stage (map told h.replies) h.stands
