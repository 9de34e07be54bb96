-- What a session has written, as its history grows and as it is given answers.
use Rattle.std.proofs.Common.{arith, ◌≡◌, ◌≤◌, ℕ, Bool, true, false, not, cond, ◌||◌, List, [], ◌∷◌, ◌++◌, length, take, map, Option, Some, None, refl, sym, ◌∙◌, ap, subst}
use Rattle.std.specs.List.{AllByRecursion}
use Rattle.std.proofs.lemmas.List.{append-nil, map-append}
use Rattle.std.proofs.lemmas.Grind.{flat_map-append}
use Rattle.std.proofs.lemmas.Bool.{ltb-true}
use Rattle.block_record.specs.declared.blocks.Slip.{Slip}
use Rattle.block_record.specs.declared.blocks.BlockRef.{BlockRef}
use Rattle.block_record.specs.Slips.{slip}
use Rattle.chain_model.specs.declared.places.Place.{Place}
use Rattle.chain_model.specs.Ancestry.{IsHistory}
use Rattle.chain_model.specs.Finality.{ClaimsAgree}
use Rattle.chain_model.specs.Steps.{block_step, steps_of}
use Rattle.chain_model.specs.Places.{PlaceFits, IsAhead, steps_to}
use Rattle.chain_laws.specs.Oldest.{oldest}
use Rattle.resume_laws.specs.Sessions.{place_through}
use Rattle.chain_laws.proofs.public.Later.{fits_later, oldest_stays}
use Rattle.step_cursor.specs.declared.cursor.Request.{Request}
use Rattle.relay_model.specs.Worlds.{World}
use Rattle.relay_model.specs.Soundness.{IsSound}
use Rattle.relay_model.proofs.public.Fitting.{batch_fits}
use Rattle.relay_model.specs.Looks.{Position, Start, At, Look, Batch, NotYet, Done, Closing, Unknown, Misfit, StopBelow, looked, look_idle, is_none, is_final_by, stops_below, end_num}
use Rattle.reply_text.specs.declared.errors.ErrorLine.{ErrorLine}
use Rattle.reply_text.specs.declared.errors.ErrorLine.TheVariants as fault
use Rattle.reply_text.specs.Replies.{Reply, reply_line, reply_text}
use Rattle.reply_text.specs.Values.{IsValue}
use Rattle.session_model.specs.declared.over.SessionOver.TheVariants as over
use Rattle.session_model.specs.Told.{Told, Opens, Ends, Fails, told}
use Rattle.session_model.specs.Transcript.{begins_at, first_place, batches_told, steps_told}
use Rattle.session_model.specs.Progress.{Stage, Waits, Sends, IsOver, Progress, batch_stage, opening_reply, idle_head, after_look, look_replies, after_step, step_replies}
use Rattle.session_model.specs.Standing.{BeganOver, HasLengths, IsBetween, HasEnded, WasRefused, HasNotBegun, StandsAt, Stands, HasWritten}
use Rattle.session_model.specs.Laws.{SessionBegins, SessionStays, LookGoesOn, StepGoesOn}
use Rattle.session_model.proofs.public.Batches.{oldest_all, through_stays, told_stays, first_stays, body_stays, body_some}
use Rattle.session_model.proofs.Lengths.{lengths_more, lengths_stay, first_same}
use Rattle.session_model.proofs.public.Batch.{batch_begins, step_follows}
use Rattle.session_model.proofs.Looks.{began_at_look}

pub session_begins : SessionBegins
session_begins newest type r run = record { replies = []; stands = record { lens_are = refl; lines_are = refl }; values = tt; text_is = refl }

-- the history grows

within_front : (k : ℕ) (lens before : List ℕ) (n : ℕ) → lens ≡ before ++ n ∷ [] → AllByRecursion (λ m. m ≤ k) lens → AllByRecursion (λ m. m ≤ k) before × (n ≤ k)
within_front k lens before n e within = go before (subst (λ (l : List ℕ). AllByRecursion (λ m. m ≤ k) l) e within)
  where
    go : (b : List ℕ) → AllByRecursion (λ m. m ≤ k) (b ++ n ∷ []) → AllByRecursion (λ m. m ≤ k) b × (n ≤ k)
    go [] h = (tt, h.0)
    go (x ∷ b) h = let more = go b h.1 in ((h.0, more.0), more.1)

ended_stays : (newest more : List Slip) (type : List ℕ) (r : Request) (run : ℕ) (lens : List ℕ) (last : Told) (lines : List Told) → HasEnded newest type r run lens last lines → HasEnded (more ++ newest) type r run lens last lines
ended_stays newest more type r run lens last lines h = record {
  lengths = lengths_stay newest more r run lens h.lengths;
  lines_are = h.lines_are ∙ ap (λ l. l ++ last ∷ []) (sym (body_stays newest more run type r lens h.lengths.within));
}

stands_stays : (newest more : List Slip) (type : List ℕ) (r : Request) (run : ℕ) (lens : List ℕ) (stage : Stage) (lines : List Told) → IsHistory (more ++ newest) → ClaimsAgree (more ++ newest)
    → StandsAt newest type r run lens stage lines → StandsAt (more ++ newest) type r run lens stage lines
stands_stays newest more type r run lens (Waits Start) lines history agreed h = h
stands_stays newest more type r run lens (Waits (At place)) lines history agreed h = record {
  lengths = lengths_stay newest more r run lens h.lengths;
  some = h.some;
  place_is =
      h.place_is ∙ sym (through_stays newest more r.mode r.stop (first_place newest r lens) lens h.lengths.within)
      ∙ ap (λ p. place_through (more ++ newest) r.mode r.stop p lens) (sym (first_stays newest more r lens h.lengths.within));
  fits = fits_later more newest history agreed place.end place.lib h.fits;
  ahead = h.ahead;
  lines_are = h.lines_are ∙ sym (body_stays newest more run type r lens h.lengths.within);
}
stands_stays newest more type r run lens (Sends b) lines history agreed h =
    let front = within_front (length newest) lens h.before b.seen h.lens_are h.lengths.within in
    let first = sym (first_stays newest more r lens h.lengths.within) in
    let same = sym (oldest_stays newest more b.seen front.1) in
    record {
      lengths = lengths_stay newest more r run lens h.lengths;
      before = h.before;
      lens_are = h.lens_are;
      place_is =
          h.place_is ∙ sym (through_stays newest more r.mode r.stop (first_place newest r lens) h.before front.0)
          ∙ ap (λ p. place_through (more ++ newest) r.mode r.stop p h.before) first;
      fits = subst (λ (o : List Slip). PlaceFits o b.place.end b.place.lib) same h.fits;
      ahead = h.ahead;
      total_is = h.total_is ∙ ap (λ o. length (steps_to o b.place r.mode r.stop)) same;
      more = h.more;
      lines_are =
          h.lines_are
          ∙ ap (λ l. Opens type run (first_place newest r lens) ∷ l ++ steps_told run b.seen (take b.given (steps_to (oldest b.seen newest) b.place r.mode r.stop)))
          (sym (told_stays newest more run r.mode r.stop (first_place newest r lens) h.before front.0))
          ∙ ap (λ p. Opens type run p ∷ batches_told (more ++ newest) run r.mode r.stop p h.before ++ steps_told run b.seen (take b.given (steps_to (oldest b.seen newest) b.place r.mode r.stop))) first
          ∙ ap (λ o. Opens type run (first_place (more ++ newest) r lens) ∷ batches_told (more ++ newest) run r.mode r.stop (first_place (more ++ newest) r lens) h.before
          ++ steps_told run b.seen (take b.given (steps_to o b.place r.mode r.stop))) same;
    }
stands_stays newest more type r run lens (IsOver over.Done) lines history agreed h = ended_stays newest more type r run lens (Ends true) lines h
stands_stays newest more type r run lens (IsOver over.Closing) lines history agreed h = ended_stays newest more type r run lens (Ends false) lines h
stands_stays newest more type r run lens (IsOver over.Refused) lines history agreed h = h

pub session_stays : SessionStays
session_stays newest more type p text history agreed h = record {
  replies = h.replies;
  stands = stands_stays newest more type p.request p.run_number p.lens p.stage (map told h.replies) history agreed h.stands;
  values = h.values;
  text_is = h.text_is;
}

-- lines that are added

-- values that are added to values
all_values : (xs ys : List Reply) → AllByRecursion IsValue xs → AllByRecursion IsValue ys → AllByRecursion IsValue (xs ++ ys)
all_values [] ys hx hy = hy
all_values (x ∷ xs) ys hx hy = (hx.0, all_values xs ys hx.1 hy)

-- a session that has told these lines and then those
add : (newest : List Slip) (type : List ℕ) (p : Progress) (text : List ℕ) (before added : List Reply) → text ≡ reply_text before
    → AllByRecursion IsValue before → AllByRecursion IsValue added → Stands newest type p (map told before ++ map told added) → HasWritten newest type p (text ++ reply_text added)
add newest type p text before added is old new stands = record {
  replies = before ++ added;
  values = all_values before added old new;
  stands = subst (Stands newest type p) (sym (map-append told before added)) stands;
  text_is = ap (λ t. t ++ reply_text added) is ∙ sym (flat_map-append reply_line before added);
}

-- a session that has nothing has no length
no_lengths : (newest : List Slip) (r : Request) (run : ℕ) → HasLengths newest r run []
no_lengths newest r run = record { rises = tt; within = tt; began = tt }

-- the first batch
first_batch : (w : World) (newest : List Slip) (type : List ℕ) (r : Request) (run : ℕ) (lens : List ℕ) (lines : List Told) (n : ℕ) (place : Place) (total : ℕ)
    → IsHistory newest → n ≡ length newest → (place ≡ begins_at newest r.start r.cursor) → BeganOver newest r run
    → total ≡ length (steps_of newest place r.mode r.stop) → HasNotBegun lens lines
    → StandsAt newest type r run (lens ++ n ∷ []) (batch_stage total n place) (lines ++ map told (opening_reply type run place lens ++ idle_head total n place))
first_batch w newest type r run lens lines n place total history n_is place_is began total_is h =
    subst (λ (l : List ℕ). StandsAt newest type r run (l ++ n ∷ []) (batch_stage total n place) (lines ++ map told (opening_reply type run place l ++ idle_head total n place))) (sym h.lens_are)
    (subst (λ (l : List Told). StandsAt newest type r run (n ∷ []) (batch_stage total n place) (l ++ map told (opening_reply type run place [] ++ idle_head total n place))) (sym h.lines_are) here)
  where
    whole : oldest n newest ≡ newest
    whole = oldest_all newest n n_is

    first : place ≡ first_place newest r (n ∷ [])
    first = place_is ∙ ap (λ o. begins_at o r.start r.cursor) (sym whole)

    here : StandsAt newest type r run (n ∷ []) (batch_stage total n place) (Opens type run place ∷ map told (idle_head total n place))
    here = batch_begins newest type r run [] (Opens type run place ∷ []) n place total history n_is
        (record { rises = tt; within = (omega arith, tt); began = subst (λ (o : List Slip). BeganOver o r run) (sym whole) began })
        first
        (subst (λ (p : Place). PlaceFits newest p.end p.lib) (sym place_is) began.fits)
        (subst (λ (p : Place). IsAhead r.stop p.end) (sym place_is) began.ahead)
        total_is
        (ap (λ p. Opens type run p ∷ []) first)

-- no open line once there was a batch
no_opening : (type : List ℕ) (run : ℕ) (place : Place) (lens : List ℕ) → (lens ≡ [] → ⊥) → opening_reply type run place lens ≡ []
no_opening type run place [] some = absurd (some refl)
no_opening type run place (n ∷ lens) some = refl

-- a later batch
later_batch : (newest : List Slip) (type : List ℕ) (r : Request) (run : ℕ) (lens : List ℕ) (lines : List Told) (n : ℕ) (place : Place) (total : ℕ)
    → IsHistory newest → n ≡ length newest → total ≡ length (steps_of newest place r.mode r.stop) → IsBetween newest type r run lens place lines
    → StandsAt newest type r run (lens ++ n ∷ []) (batch_stage total n place) (lines ++ map told (opening_reply type run place lens ++ idle_head total n place))
later_batch newest type r run lens lines n place total history n_is total_is h =
    subst (λ (l : List Reply). StandsAt newest type r run (lens ++ n ∷ []) (batch_stage total n place) (lines ++ map told (l ++ idle_head total n place))) (sym (no_opening type run place lens h.some))
    (batch_begins newest type r run lens lines n place total history n_is (lengths_more newest r run lens n h.some n_is h.lengths)
    (h.place_is ∙ ap (λ p. place_through newest r.mode r.stop p lens) same)
    h.fits h.ahead total_is
    (h.lines_are ∙ body_some newest run type r lens h.some ∙ ap (λ p. Opens type run p ∷ batches_told newest run r.mode r.stop p lens) same))
  where
    same : first_place newest r lens ≡ first_place newest r (lens ++ n ∷ [])
    same = sym (first_same newest r lens n h.some)

-- an end
ends_not_begun : (newest : List Slip) (type : List ℕ) (r : Request) (run : ℕ) (lens : List ℕ) (lines : List Told) (last : Told) → HasNotBegun lens lines → HasEnded newest type r run lens last (lines ++ last ∷ [])
ends_not_begun newest type r run lens lines last h =
    subst (λ (l : List ℕ). HasEnded newest type r run l last (lines ++ last ∷ [])) (sym h.lens_are)
    (record { lengths = no_lengths newest r run; lines_are = ap (λ l. l ++ last ∷ []) h.lines_are })

ends_between : (newest : List Slip) (type : List ℕ) (r : Request) (run : ℕ) (lens : List ℕ) (place : Place) (lines : List Told) (last : Told) → IsBetween newest type r run lens place lines → HasEnded newest type r run lens last (lines ++ last ∷ [])
ends_between newest type r run lens place lines last h = record { lengths = h.lengths; lines_are = ap (λ l. l ++ last ∷ []) h.lines_are }

refused_at_start : (lens : List ℕ) (lines : List Told) (e : ErrorLine) → HasNotBegun lens lines → WasRefused lens (lines ++ Fails e ∷ [])
refused_at_start lens lines e h = record { error = e; lens_are = h.lens_are; lines_are = ap (λ l. l ++ Fails e ∷ []) h.lines_are }

-- whether an answer is a refusal
abbrev is_refusal : Look → Bool
is_refusal (Batch seen place) = false
is_refusal (NotYet len) = false
is_refusal (Done len) = false
is_refusal (Closing len) = false
is_refusal (Unknown id) = true
is_refusal (Misfit field) = true
is_refusal (StopBelow end) = true

not_below : (stop : Option ℕ) (end : Option BlockRef) → IsAhead stop end → stops_below stop end ≡ true → ⊥
not_below None end ahead e = cc
not_below (Some n) None ahead e = cc
not_below (Some n) (Some r) ahead e = omega (arith, ltb-true n r.num e, ahead)

-- a place that a batch reached is not refused
never_refused : (w : World) (r : Request) (place : Place) → IsAhead r.stop place.end → is_refusal (looked w r (At place)) ≡ true → ⊥
never_refused w r place ahead = go (stops_below r.stop place.end) refl
  where
    third : (b : Bool) → is_refusal (cond b (Closing (length w.history)) (NotYet (length w.history))) ≡ true → ⊥
    third true e = cc
    third false e = cc

    second : (b : Bool) → is_refusal (cond b (Done (length w.history)) (look_idle w)) ≡ true → ⊥
    second true e = cc
    second false e = third w.closed e

    first : (b : Bool) → is_refusal (cond b (Batch (length w.history) place) (cond (is_final_by w.history r.stop) (Done (length w.history)) (look_idle w))) ≡ true → ⊥
    first true e = cc
    first false e = second (is_final_by w.history r.stop) e

    go : (b : Bool) → stops_below r.stop place.end ≡ b
        → is_refusal (cond b (StopBelow (end_num place.end)) (cond (false || not (is_none (steps_of w.history place r.mode r.stop))) (Batch (length w.history) place) (cond (is_final_by w.history r.stop) (Done (length w.history)) (look_idle w)))) ≡ true → ⊥
    go true k e = not_below r.stop place.end ahead k
    go false k e = first (false || not (is_none (steps_of w.history place r.mode r.stop))) e

-- a batch later is from the place, over the whole history
record IsLater (w : World) (place : Place) (n : ℕ) (q : Place) : Type 0 where
  whole : n ≡ length w.history
  place_is : q ≡ place

batch_later : (w : World) (r : Request) (place : Place) (n : ℕ) (q : Place) → looked w r (At place) ≡ Batch n q → IsLater w place n q
batch_later w r place n q = go (stops_below r.stop place.end)
  where
    third : (b : Bool) → cond b (Closing (length w.history)) (NotYet (length w.history)) ≡ Batch n q → IsLater w place n q
    third true e = absurd (grind (arith, e))
    third false e = absurd (grind (arith, e))

    second : (b : Bool) → cond b (Done (length w.history)) (look_idle w) ≡ Batch n q → IsLater w place n q
    second true e = absurd (grind (arith, e))
    second false e = third w.closed e

    first : (b : Bool) → cond b (Batch (length w.history) place) (cond (is_final_by w.history r.stop) (Done (length w.history)) (look_idle w)) ≡ Batch n q → IsLater w place n q
    first true e = record { whole = grind (arith, e); place_is = grind (arith, e) }
    first false e = second (is_final_by w.history r.stop) e

    go : (b : Bool)
        → cond b (StopBelow (end_num place.end)) (cond (false || not (is_none (steps_of w.history place r.mode r.stop))) (Batch (length w.history) place) (cond (is_final_by w.history r.stop) (Done (length w.history)) (look_idle w))) ≡ Batch n q → IsLater w place n q
    go true e = absurd (grind (arith, e))
    go false e = first (false || not (is_none (steps_of w.history place r.mode r.stop))) e

look_stands : (w : World) (type : List ℕ) (r : Request) (run : ℕ) (lens : List ℕ) (position : Position) (lines : List Told) (total : ℕ) (said : Look)
    → IsSound w → w.run ≡ run → looked w r position ≡ said
    → ((seen : ℕ) (place : Place) → said ≡ Batch seen place → total ≡ length (steps_of w.history place r.mode r.stop))
    → StandsAt w.history type r run lens (Waits position) lines
    → Stands w.history type (after_look total (record { request = r; run_number = run; lens = lens; stage = Waits position }) said)
    (lines ++ map told (look_replies total type (record { request = r; run_number = run; lens = lens; stage = Waits position }) said))
look_stands w type r run lens Start lines total (Batch n place) sound run_is e counted h =
    let began = began_at_look w r n place sound e in
    first_batch w w.history type r run lens lines n place total sound.history (batch_fits w r n place sound e).whole began.0
    (subst (λ (k : ℕ). BeganOver w.history r k) run_is began.1) (counted n place refl) h
look_stands w type r run lens Start lines total (NotYet len) sound run_is e counted h = subst (HasNotBegun lens) (sym (append-nil lines)) h
look_stands w type r run lens Start lines total (Done len) sound run_is e counted h = ends_not_begun w.history type r run lens lines (Ends true) h
look_stands w type r run lens Start lines total (Closing len) sound run_is e counted h = ends_not_begun w.history type r run lens lines (Ends false) h
look_stands w type r run lens Start lines total (Unknown id) sound run_is e counted h = refused_at_start lens lines (fault.Unknown id) h
look_stands w type r run lens Start lines total (Misfit f) sound run_is e counted h = refused_at_start lens lines (fault.Misfit f) h
look_stands w type r run lens Start lines total (StopBelow end) sound run_is e counted h = refused_at_start lens lines (fault.StopBelow end) h
look_stands w type r run lens (At q) lines total (Batch n place) sound run_is e counted h =
    let l = batch_later w r q n place e in
    let total_is : total ≡ length (steps_of w.history q r.mode r.stop) = subst (λ (p : Place). total ≡ length (steps_of w.history p r.mode r.stop)) l.place_is (counted n place refl) in
    subst (λ (p : Place). StandsAt w.history type r run (lens ++ n ∷ []) (batch_stage total n p) (lines ++ map told (opening_reply type run p lens ++ idle_head total n p))) (sym l.place_is)
    (later_batch w.history type r run lens lines n q total sound.history l.whole total_is h)
look_stands w type r run lens (At q) lines total (NotYet len) sound run_is e counted h = subst (IsBetween w.history type r run lens q) (sym (append-nil lines)) h
look_stands w type r run lens (At q) lines total (Done len) sound run_is e counted h = ends_between w.history type r run lens q lines (Ends true) h
look_stands w type r run lens (At q) lines total (Closing len) sound run_is e counted h = ends_between w.history type r run lens q lines (Ends false) h
look_stands w type r run lens (At q) lines total (Unknown id) sound run_is e counted h = absurd (never_refused w r q h.ahead (ap is_refusal e))
look_stands w type r run lens (At q) lines total (Misfit f) sound run_is e counted h = absurd (never_refused w r q h.ahead (ap is_refusal e))
look_stands w type r run lens (At q) lines total (StopBelow end) sound run_is e counted h = absurd (never_refused w r q h.ahead (ap is_refusal e))

pub look_goes_on : LookGoesOn
look_goes_on newest type p text total said h a values =
    add newest type (after_look total p said) text h.replies (look_replies total type p said) h.text_is h.values values
    (subst (λ (n : List Slip). Stands n type (after_look total p said) (map told h.replies ++ map told (look_replies total type p said))) a.history
    (subst (λ (s : Stage). Stands a.world.history type (after_look total (record p { stage = s }) said) (map told h.replies ++ map told (look_replies total type (record p { stage = s }) said))) (sym a.waits)
    (look_stands a.world type p.request p.run_number p.lens a.position (map told h.replies) total said a.sound a.run_is a.said_is
    (λ seen place is. a.counted seen place is ∙ ap (λ n. length (steps_of n place p.request.mode p.request.stop)) (sym a.history))
    (subst (λ (n : List Slip). StandsAt n type p.request p.run_number p.lens (Waits a.position) (map told h.replies)) (sym a.history)
    (subst (λ (s : Stage). StandsAt newest type p.request p.run_number p.lens s (map told h.replies)) a.waits h.stands)))))

pub step_goes_on : StepGoesOn
step_goes_on newest type p text b kind block place history agreed h n values =
    add newest type (after_step p b place) text h.replies (step_replies p.run_number b kind block place) h.text_is h.values values
    (step_follows newest type p.request p.run_number p.lens (map told h.replies) b (record { step = block_step kind (slip block); place = place }) history agreed
    (subst (λ (s : Stage). StandsAt newest type p.request p.run_number p.lens s (map told h.replies)) n.sends h.stands) n.next)
