-- The cursors that a session writes have its run.
use Rattle.std.proofs.Common.{◌≡◌, ℕ, zero, suc, List, [], ◌∷◌, ◌++◌, length, take, map, Option, refl, sym, ◌∙◌, subst}
use Rattle.std.specs.List.{AllByRecursion}
use Rattle.block_record.specs.declared.blocks.Slip.{Slip}
use Rattle.chain_model.specs.declared.places.Mode.{Mode}
use Rattle.chain_model.specs.declared.places.Place.{Place}
use Rattle.chain_model.specs.Places.{PlacedStep, steps_to, place_to}
use Rattle.chain_laws.specs.Oldest.{oldest}
use Rattle.step_cursor.specs.declared.cursor.Request.{Request}
use Rattle.relay_model.specs.Looks.{Start, At}
use Rattle.reply_text.specs.Replies.{Reply}
use Rattle.reply_laws.specs.Laws.{ReadsFront}
use Rattle.session_model.specs.declared.over.SessionOver.TheVariants as over
use Rattle.session_model.specs.Told.{Told, Opens, Steps, Heads, Ends, Fails, told}
use Rattle.session_model.specs.Transcript.{first_place, steps_told, batches_told, body}
use Rattle.session_model.specs.Progress.{Stage, Waits, Sends, IsOver}
use Rattle.session_model.specs.Standing.{StandsAt}
use Rattle.session_laws.specs.Chains.{Heard, IsHeard}

-- a step that is told is of the run
abbrev pub IsOf : ℕ → Told → Type 0
IsOf run (Opens type n place) = Unit {0}
IsOf run (Steps x n seen) = n ≡ run
IsOf run (Heads head seen) = Unit {0}
IsOf run (Ends done) = Unit {0}
IsOf run (Fails e) = Unit {0}

-- so is the cursor of a step line
abbrev pub IsReplyOf : ℕ → Reply → Type 0
IsReplyOf run r = IsOf run (told r)

pub both : {A : Type 0} (P : A → Type 0) (xs ys : List A) → AllByRecursion P xs → AllByRecursion P ys → AllByRecursion P (xs ++ ys)
both P [] ys hx hy = hy
both P (x ∷ xs) ys hx hy = (hx.0, both P xs ys hx.1 hy)

pub front : {A : Type 0} (P : A → Type 0) (k : ℕ) (xs : List A) → AllByRecursion P xs → AllByRecursion P (take k xs)
front P zero xs h = tt
front P (suc k) [] h = tt
front P (suc k) (x ∷ xs) h = (h.0, front P k xs h.1)

steps_of_run : (run seen : ℕ) (xs : List PlacedStep) → AllByRecursion (IsOf run) (steps_told run seen xs)
steps_of_run run seen [] = tt
steps_of_run run seen (x ∷ xs) = (refl, steps_of_run run seen xs)

batches_of_run : (newest : List Slip) (run : ℕ) (m : Mode) (stop : Option ℕ) (place : Place) (lens : List ℕ) → AllByRecursion (IsOf run) (batches_told newest run m stop place lens)
batches_of_run newest run m stop place [] = tt
batches_of_run newest run m stop place (len ∷ lens) =
    both (IsOf run) (steps_told run len (steps_to (oldest len newest) place m stop)) _ (steps_of_run run len (steps_to (oldest len newest) place m stop))
    (tt, batches_of_run newest run m stop (place_to (oldest len newest) place m stop) lens)

body_of_run : (newest : List Slip) (run : ℕ) (type : List ℕ) (r : Request) (lens : List ℕ) → AllByRecursion (IsOf run) (body newest run type r lens)
body_of_run newest run type r [] = tt
body_of_run newest run type r (len ∷ lens) = (tt, batches_of_run newest run r.mode r.stop (first_place newest r (len ∷ lens)) (len ∷ lens))

stands_of_run : (newest : List Slip) (type : List ℕ) (r : Request) (run : ℕ) (lens : List ℕ) (stage : Stage) (lines : List Told) → StandsAt newest type r run lens stage lines → AllByRecursion (IsOf run) lines
stands_of_run newest type r run lens (Waits Start) lines h = subst (AllByRecursion (IsOf run)) (sym h.lines_are) tt
stands_of_run newest type r run lens (Waits (At place)) lines h = subst (AllByRecursion (IsOf run)) (sym h.lines_are) (body_of_run newest run type r lens)
stands_of_run newest type r run lens (Sends b) lines h =
    let first = first_place newest r lens in
    subst (AllByRecursion (IsOf run)) (sym h.lines_are) (
      tt,
      both (IsOf run) (batches_told newest run r.mode r.stop first h.before) _ (batches_of_run newest run r.mode r.stop first h.before)
          (steps_of_run run b.seen (take b.given (steps_to (oldest b.seen newest) b.place r.mode r.stop))),
    )
stands_of_run newest type r run lens (IsOver over.Done) lines h =
    subst (AllByRecursion (IsOf run)) (sym h.lines_are) (both (IsOf run) (body newest run type r lens) (Ends _ ∷ []) (body_of_run newest run type r lens) (tt, tt))
stands_of_run newest type r run lens (IsOver over.Closing) lines h =
    subst (AllByRecursion (IsOf run)) (sym h.lines_are) (both (IsOf run) (body newest run type r lens) (Ends _ ∷ []) (body_of_run newest run type r lens) (tt, tt))
stands_of_run newest type r run lens (IsOver over.Refused) lines h = subst (AllByRecursion (IsOf run)) (sym h.lines_are) (tt, tt)

replies_of_run : (run : ℕ) (xs : List Reply) → AllByRecursion (IsOf run) (map told xs) → AllByRecursion (IsReplyOf run) xs
replies_of_run run [] h = tt
replies_of_run run (x ∷ xs) h = (h.0, replies_of_run run xs h.1)

-- the replies that are read of a session
pub read_of_run : ReadsFront → (newest : List Slip) (type : List ℕ) (h : Heard) → IsHeard newest type h → AllByRecursion (IsReplyOf h.progress.run_number) h.replies
read_of_run law newest type h is =
    let p = h.progress in
    let w = is.written in
    let same : h.replies ≡ take (length h.replies) w.replies = law h.replies w.replies h.rest is.values w.values (sym is.front ∙ w.text_is) in
    let all = replies_of_run p.run_number w.replies (stands_of_run newest type p.request p.run_number p.lens p.stage (map told w.replies) w.stands) in
    subst (AllByRecursion (IsReplyOf p.run_number)) (sym same) (front (IsReplyOf p.run_number) (length h.replies) w.replies all)
