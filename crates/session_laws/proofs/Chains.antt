-- What is read over a chain of sessions is what the laws of sessions speak of.
use Rattle.std.proofs.Common.{arith, ◌≡◌, ◌≤◌, ◌-◌, ℕ, List, [], ◌∷◌, ◌++◌, length, map, Option, None, Some, refl, sym, ◌∙◌, ap, subst}
use Rattle.std.specs.Prelude.{IsTrue}
use Rattle.std.specs.List.{AllByRecursion}
use Rattle.std.proofs.lemmas.List.{length-drop}
use Rattle.block_record.specs.declared.blocks.Slip.{Slip}
use Rattle.chain_model.specs.declared.places.Mode.{Mode}
use Rattle.chain_model.specs.declared.places.Place.{Place}
use Rattle.chain_model.specs.Places.{opening}
use Rattle.chain_laws.specs.Oldest.{oldest}
use Rattle.resume_laws.specs.Sessions.{Line, Session, IsSession, IsChain, FitsFirst, AreOnward, AreCut, BeginsAt, Rises, received, chain_lines, ends_in_step, line_len, place_of, seen_of, step_lens}
use Rattle.resume_laws.specs.Laws.{first_len, opens_at, lines_of, Resumption, NeverOlder}
use Rattle.step_cursor.specs.declared.cursor.Cursor.{Cursor}
use Rattle.step_cursor.specs.declared.cursor.Request.{Request}
use Rattle.reply_text.specs.Lines.{cursor_after}
use Rattle.reply_text.specs.Replies.{Reply, Open, StepOf, Head, End, Error}
use Rattle.reply_laws.specs.Laws.{ReadsFront}
use Rattle.session_model.specs.Told.{told}
use Rattle.session_model.specs.Transcript.{begins_at, first_place}
use Rattle.session_model.specs.Standing.{HasLengths}
use Rattle.session_laws.specs.Laws.{chain_lines_told, ReadIsReceived}
use Rattle.session_laws.specs.Chains.{Heard, IsHeard, AreHeard, IsChainHeard, AreOfRun, AreReadToStep, last_cursor, lines_read, lines_heard, begun_at, Resumes, ResumptionHeard, NeverOlderHeard}
use Rattle.session_laws.proofs.Runs.{IsReplyOf, read_of_run}
use Rattle.session_laws.proofs.Transcripts.{written_has_lengths}

-- ---- the cursor of the last step that was read

-- where a client stands after these lines, and what its cursor has seen: at a place and of a run before
record IsCursorAt (run seen : ℕ) (place : Place) (lines : List Line) (c : Cursor) : Type 0 where
  pub place_is : c.place ≡ place_of place lines
  pub tail_is : c.tail ≡ Some (record { run = run; seen = seen_of seen lines })

same_cursor : (a b : Cursor) → Some a ≡ Some b → a ≡ b
same_cursor a b e = cc

no_cursor : (c : Cursor) → None ≡ Some c → ⊥
no_cursor c e = cc

-- a cursor at a place stays the last, or is that of the last step
last_at : (m : Mode) (stop : Option ℕ) (run seen : ℕ) (place : Place) (c d : Cursor) (xs : List Reply) → AllByRecursion (IsReplyOf run) xs → IsCursorAt run seen place [] c
    → last_cursor (Some c) xs ≡ Some d → IsCursorAt run seen place (chain_lines_told m stop (map told xs)) d
last_at m stop run seen place c d [] all h e = subst (IsCursorAt run seen place []) (same_cursor c d e) h
last_at m stop run seen place c d (Open type n q ∷ xs) all h e = last_at m stop run seen place c d xs all.1 h e
last_at m stop run seen place c d (StepOf kind b q tail ∷ xs) all h e =
    let tail_is : Some tail ≡ Some (record { run = run; seen = tail.seen }) = λ i. Some (record { run = all.0 i; seen = tail.seen }) in
    let l = last_at m stop run tail.seen q (cursor_after kind b q tail) d xs all.1 (record { place_is = refl; tail_is = tail_is }) e in
    record { place_is = l.place_is; tail_is = l.tail_is }
last_at m stop run seen place c d (Head head n ∷ xs) all h e =
    let l = last_at m stop run seen place c d xs all.1 h e in
    record { place_is = l.place_is; tail_is = l.tail_is }
last_at m stop run seen place c d (End done ∷ xs) all h e = last_at m stop run seen place c d xs all.1 h e
last_at m stop run seen place c d (Error f ∷ xs) all h e = last_at m stop run seen place c d xs all.1 h e

-- so is the first one, where there was none before
first_at : (m : Mode) (stop : Option ℕ) (run seen : ℕ) (place : Place) (d : Cursor) (xs : List Reply) → AllByRecursion (IsReplyOf run) xs
    → last_cursor None xs ≡ Some d → IsCursorAt run seen place (chain_lines_told m stop (map told xs)) d
first_at m stop run seen place d [] all e = absurd (no_cursor d e)
first_at m stop run seen place d (Open type n q ∷ xs) all e = first_at m stop run seen place d xs all.1 e
first_at m stop run seen place d (StepOf kind b q tail ∷ xs) all e =
    let tail_is : Some tail ≡ Some (record { run = run; seen = tail.seen }) = λ i. Some (record { run = all.0 i; seen = tail.seen }) in
    let l = last_at m stop run tail.seen q (cursor_after kind b q tail) d xs all.1 (record { place_is = refl; tail_is = tail_is }) e in
    record { place_is = l.place_is; tail_is = l.tail_is }
first_at m stop run seen place d (Head head n ∷ xs) all e =
    let l = first_at m stop run seen place d xs all.1 e in
    record { place_is = l.place_is; tail_is = l.tail_is }
first_at m stop run seen place d (End done ∷ xs) all e = first_at m stop run seen place d xs all.1 e
first_at m stop run seen place d (Error f ∷ xs) all e = first_at m stop run seen place d xs all.1 e

-- ---- one session

-- what is known of a session that began at the place
record Began (newest : List Slip) (place : Place) (s : Session) : Type 0 where
  pub fits : FitsFirst newest place s.lens
  pub session : IsSession newest place s

begun : (newest : List Slip) (r : Request) (run : ℕ) (lens : List ℕ) (cut : ℕ) → (lens ≡ [] → ⊥) → HasLengths newest r run lens
    → Began newest (first_place newest r lens) (record { mode = r.mode; stop = r.stop; lens = lens; cut = cut })
begun newest r run [] cut some h = absurd (some refl)
begun newest r run (len ∷ lens) cut some h = record {
  fits = h.began.fits;
  session = record { rises = h.rises; within = h.within; ahead = h.began.ahead };
}

-- the session whose lines are read
record IsReadOf (newest : List Slip) (place : Place) (h : Heard) (s : Session) : Type 0 where
  pub lens_are : s.lens ≡ h.progress.lens
  pub began : Began newest place s
  pub lines_are : lines_read h ≡ received newest place s

read_of : ReadIsReceived → (newest : List Slip) (type : List ℕ) (h : Heard) (place : Place) → IsHeard newest type h → begun_at newest h ≡ place
    → (s : Session) × IsReadOf newest place h s
read_of law newest type h place is e =
    let p = h.progress in
    let r = law newest type p h.text h.replies h.rest is.written is.values is.front is.some in
    let s : Session = record { mode = p.request.mode; stop = p.request.stop; lens = p.lens; cut = r.cut } in (
      s,
      record {
        lens_are = refl;
        began = subst (λ (q : Place). Began newest q s) e (begun newest p.request p.run_number p.lens r.cut is.some (written_has_lengths newest type p h.text is.written));
        lines_are = r.lines ∙ ap (λ (q : Place). received newest q s) e;
      },
    )

-- a session begins at what its cursor saw of the run, or later
begins_onward : (newest : List Slip) (r : Request) (run seen : ℕ) (lens : List ℕ) (c : Cursor) → HasLengths newest r run lens
    → r.cursor ≡ Some c → c.tail ≡ Some (record { run = run; seen = seen }) → BeginsAt seen lens
begins_onward newest r run seen [] c h is tail = tt
begins_onward newest r run seen (len ∷ lens) c h is tail =
    let within : seen ≤ length (oldest len newest) = h.began.seen c (record { run = run; seen = seen }) is tail refl in
    omega (arith, within, length-drop (length newest - len) newest, h.within.0)

-- ---- sessions with cursors

record AreReadOf (newest : List Slip) (run seen : ℕ) (place : Place) (hs : List Heard) : Type 0 where
  pub sessions : List Session
  pub none : hs ≡ [] → sessions ≡ []
  pub chain : IsChain newest place sessions
  pub onward : AreOnward newest place seen sessions
  pub lines_are : lines_heard hs ≡ chain_lines newest place sessions
  pub cut : AreReadToStep hs → AreCut newest place sessions

-- one more session before others
more_cut : (newest : List Slip) (place : Place) (h : Heard) (s : Session) (later : List Heard) (sessions : List Session) → lines_read h ≡ received newest place s
    → (later ≡ [] → sessions ≡ []) → (AreReadToStep later → AreCut newest (place_of place (received newest place s)) sessions)
    → AreReadToStep (h ∷ later) → AreCut newest place (s ∷ sessions)
more_cut newest place h s later [] lines none cut all = tt
more_cut newest place h s [] (t ∷ sessions) lines none cut all = absurd (some (none refl))
  where
    some : t ∷ sessions ≡ [] → ⊥
    some e = cc
more_cut newest place h s (x ∷ later) (t ∷ sessions) lines none cut all = (subst (λ (l : List Line). IsTrue (ends_in_step l)) lines all.0, cut all.1)

-- where the last cursor stands, where there is one
abbrev IsLastAt : ℕ → ℕ → Place → Option Cursor → Type 0
IsLastAt run seen place o = (c : Cursor) → o ≡ Some c → IsCursorAt run seen place [] c

one_more : (newest : List Slip) (run seen : ℕ) (place : Place) (h : Heard) (later : List Heard) (s : Session) → IsReadOf newest place h s → BeginsAt seen h.progress.lens
    → AreReadOf newest run (seen_of seen (lines_read h)) (place_of place (lines_read h)) later → AreReadOf newest run seen place (h ∷ later)
one_more newest run seen place h later s r begins next =
    let moved = subst (λ (l : List Line). AreReadOf newest run (seen_of seen l) (place_of place l) later) r.lines_are next in
    record {
      sessions = s ∷ moved.sessions;
      none = λ e. absurd (some e);
      chain = (r.began.fits, r.began.session, moved.chain);
      onward = (subst (BeginsAt seen) (sym r.lens_are) begins, r.began.session.rises, moved.onward);
      lines_are = ap (λ x. x ++ lines_heard later) r.lines_are ∙ ap (λ x. received newest place s ++ x) moved.lines_are;
      cut = more_cut newest place h s later moved.sessions r.lines_are moved.none moved.cut;
    }
  where
    some : h ∷ later ≡ [] → ⊥
    some e = cc

later_read : ReadIsReceived → ReadsFront → (newest : List Slip) (type : List ℕ) (run seen : ℕ) (place : Place) (o : Option Cursor) (hs : List Heard) → AreOfRun run hs
    → IsLastAt run seen place o → AreHeard newest type o hs → AreReadOf newest run seen place hs
later_read law law2 newest type run seen place o [] runs at are = record { sessions = []; none = λ e. refl; chain = tt; onward = tt; lines_are = refl; cut = λ all. tt }
later_read law law2 newest type run seen place None (h ∷ later) runs at are = absurd are
later_read law law2 newest type run seen place (Some c) (h ∷ later) runs at are =
    let p = h.progress in
    let stands = at c refl in
    let here : begun_at newest h ≡ place = ap (begins_at (oldest (first_len p.lens) newest) p.request.start) are.1 ∙ stands.place_is in
    let r = read_of law newest type h place are.0 here in
    let lengths : HasLengths newest p.request run p.lens = subst (λ (n : ℕ). HasLengths newest p.request n p.lens) runs.0 (written_has_lengths newest type p h.text are.0.written) in
    let all : AllByRecursion (IsReplyOf run) h.replies = subst (λ (n : ℕ). AllByRecursion (IsReplyOf n) h.replies) runs.0 (read_of_run law2 newest type h are.0) in
    one_more newest run seen place h later r.0 r.1 (begins_onward newest p.request run seen p.lens c lengths are.1 stands.tail_is)
    (later_read law law2 newest type run (seen_of seen (lines_read h)) (place_of place (lines_read h)) (last_cursor (Some c) h.replies) later runs.1
    (λ d e. let l = last_at p.request.mode p.request.stop run seen place c d h.replies all stands e in record { place_is = l.place_is; tail_is = l.tail_is })
    are.2)

-- ---- the whole chain

-- the sessions after the first
after_first : ReadIsReceived → ReadsFront → (newest : List Slip) (type : List ℕ) (run : ℕ) (first : Heard) (later : List Heard) → IsChainHeard newest type run first later
    → AreReadOf newest run (seen_of 0 (lines_read first)) (place_of (begun_at newest first) (lines_read first)) later
after_first law law2 newest type run first later h =
    let p = first.progress in
    let place = begun_at newest first in
    let all : AllByRecursion (IsReplyOf run) first.replies = subst (λ (n : ℕ). AllByRecursion (IsReplyOf n) first.replies) h.runs.0 (read_of_run law2 newest type first h.heard) in
    later_read law law2 newest type run (seen_of 0 (lines_read first)) (place_of place (lines_read first)) (last_cursor None first.replies) later h.runs.1
    (λ d e. let l = first_at p.request.mode p.request.stop run 0 place d first.replies all e in record { place_is = l.place_is; tail_is = l.tail_is })
    h.resumed

from_zero : (lens : List ℕ) → BeginsAt 0 lens
from_zero [] = tt
from_zero (n ∷ lens) = omega arith

-- numbers that do not fall after another do not fall
fewer : (n : ℕ) (ns : List ℕ) → Rises (n ∷ ns) → Rises ns
fewer n [] h = tt
fewer n (m ∷ ns) h = h.1

pub never_older_heard : ReadIsReceived → ReadsFront → NeverOlder → NeverOlderHeard
never_older_heard law law2 never newest type run first later h =
    let place = begun_at newest first in
    let r0 = read_of law newest type first place h.heard refl in
    let r = one_more newest run 0 place first later r0.0 r0.1 (from_zero first.progress.lens) (after_first law law2 newest type run first later h) in
    let n = never newest place 0 r.sessions r.onward in
    record {
      steps = subst (λ (l : List Line). Rises (step_lens l)) (sym r.lines_are) (fewer 0 _ n.steps);
      lines = λ all. subst (λ (l : List Line). Rises (map line_len l)) (sym r.lines_are) (fewer 0 _ (n.lines (r.cut all)));
    }

pub resumption_heard : ReadIsReceived → ReadsFront → Resumption → ResumptionHeard
resumption_heard law law2 resumes newest type run first later h =
    let p = first.progress in
    let start = p.request.start in
    let r0 = read_of law newest type first (begun_at newest first) h.heard refl in
    let s = r0.0 in
    let place = opens_at newest start s in
    let opens : begun_at newest first ≡ place
    = ap (begins_at (oldest (first_len p.lens) newest) start) h.opened ∙ ap (λ l. opening (oldest (first_len l) newest) start) (sym r0.1.lens_are) in
    let began : Began newest place s = subst (λ (q : Place). Began newest q s) opens r0.1.began in
    let lines : lines_read first ≡ received newest place s = r0.1.lines_are ∙ ap (λ (q : Place). received newest q s) opens in
    let seen = seen_of 0 (lines_read first) in
    let next = subst (λ (l : List Line). AreReadOf newest run seen (place_of place l) later) lines
    (subst (λ (q : Place). AreReadOf newest run seen (place_of q (lines_read first)) later) opens (after_first law law2 newest type run first later h)) in
    let done = resumes newest start s next.sessions (record { history = h.history; agreed = h.agreed; begun = began.session; resumed = next.chain }) in
    let all : lines_of newest start s next.sessions ≡ lines_heard (first ∷ later)
    = sym (ap (λ x. x ++ lines_heard later) lines ∙ ap (λ x. received newest place s ++ x) next.lines_are) in
    subst (λ (q : Place). Resumes newest q (lines_heard (first ∷ later))) (sym opens)
    (subst (λ (l : List Line). Resumes newest place l) all (record { follow = done.follow; fold = done.fold; finals = done.finals; kept = done.kept }))
