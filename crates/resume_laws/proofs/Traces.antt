-- Sessions line by line: what holds of each line, and of a chain of them.
use Rattle.std.proofs.Common.{◌≡◌, ◌≤◌, ◌-◌, ℕ, zero, suc, false, List, [], ◌∷◌, ◌++◌, length, reverse, take, Option, Some, refl, sym, ◌∙◌, ap, subst, append_assoc}
use Rattle.std.specs.List.{AllByRecursion}
use Rattle.std.proofs.lemmas.List.{reverse-append}
use Rattle.block_record.specs.declared.blocks.Slip.{Slip}
use Rattle.block_record.specs.declared.blocks.BlockRef.{BlockRef}
use Rattle.chain_model.specs.declared.places.Place.{Place}
use Rattle.chain_model.specs.declared.places.Mode.{Mode}
use Rattle.chain_model.specs.declared.places.Step.{Step}
use Rattle.chain_model.specs.declared.places.Step.TheVariants as step
use Rattle.chain_model.specs.Ancestry.{has_id, IsHistory}
use Rattle.chain_model.specs.Finality.{ClaimsAgree}
use Rattle.chain_model.specs.Steps.{BlockStep, block_step, ancestry_at, place_after, steps_of, target}
use Rattle.chain_model.specs.Fold.{after_step, fold_steps}
use Rattle.chain_laws.specs.Oldest.{oldest}
use Rattle.chain_laws.specs.Marks.{mark, taken_back}
use Rattle.resume_laws.specs.Sessions.{Line, StepLine, HeadLine, Session, step_lines, batches, received, place_of, chain_lines, Rises, FitsFirst, IsSession, IsChain, Follow, told_final, only_steps}
use Rattle.chain_laws.proofs.public.Walks.{Walk, next, walk_fits}
use Rattle.chain_laws.proofs.public.Starts.{start}
use Rattle.chain_laws.proofs.public.Ends.{walk_end, walk_along, walk_under, place_reached}
use Rattle.chain_laws.proofs.public.Later.{history_older, fits_later, lines_later, stands_later, under_older, under_later, oldest_whole}
use Rattle.resume_laws.proofs.public.Fits.{fits_at_more}
use Rattle.chain_model.specs.Places.{PlacedStep, placed, place_along, place_to, steps_to, PlaceFits, IsAhead}
use Rattle.chain_laws.specs.Standing.{after_base, stands, has_all, IsUnder}

-- what holds of a step received at a place
pub record Goes (newest : List Slip) (base : Option BlockRef) (place : Place) (x : PlacedStep) : Type 0 where
  pub fold : after_step (stands newest base place) x.step ≡ Some (stands newest base x.place)
  pub marks : after_base base (ancestry_at newest x.place.lib) ≡ mark x.step ++ after_base base (ancestry_at newest place.lib)
  pub apart : AllByRecursion (λ s. has_id (after_base base (ancestry_at newest place.lib)) s.id ≡ false) (taken_back x.step)
  pub fits : PlaceFits newest x.place.end x.place.lib
  pub under : IsUnder newest base x.place.lib

-- what holds of lines received from a place on
abbrev pub Trace : List Slip → Option BlockRef → Place → List Line → Type 0
Trace newest base place [] = Unit {0}
Trace newest base place (StepLine len x ∷ lines) = Goes newest base place x × Trace newest base x.place lines
Trace newest base place (HeadLine mode stop len ∷ lines) = (stands newest base place ≡ has_all (oldest len newest) base (target (oldest len newest) mode stop)) × Trace newest base place lines

pub trace_take : (newest : List Slip) (base : Option BlockRef) (k : ℕ) (place : Place) (lines : List Line) → Trace newest base place lines → Trace newest base place (take k lines)
trace_take newest base zero place lines t = tt
trace_take newest base (suc k) place [] t = tt
trace_take newest base (suc k) place (StepLine len x ∷ lines) t = (t.0, trace_take newest base k x.place lines t.1)
trace_take newest base (suc k) place (HeadLine mode stop len ∷ lines) t = (t.0, trace_take newest base k place lines t.1)

pub trace_append : (newest : List Slip) (base : Option BlockRef) (place : Place) (xs ys : List Line) → Trace newest base place xs → Trace newest base (place_of place xs) ys → Trace newest base place (xs ++ ys)
trace_append newest base place [] ys t u = u
trace_append newest base place (StepLine len x ∷ xs) ys t u = (t.0, trace_append newest base x.place xs ys t.1 u)
trace_append newest base place (HeadLine mode stop len ∷ xs) ys t u = (t.0, trace_append newest base place xs ys t.1 u)

-- a place where a client stands
pub record Stood (newest : List Slip) (base : Option BlockRef) (place : Place) : Type 0 where
  pub fits : PlaceFits newest place.end place.lib
  pub under : IsUnder newest base place.lib

pub stood_after : (newest : List Slip) (base : Option BlockRef) (place : Place) (lines : List Line) → Stood newest base place → Trace newest base place lines → Stood newest base (place_of place lines)
stood_after newest base place [] s t = s
stood_after newest base place (StepLine len x ∷ lines) s t = stood_after newest base x.place lines (record { fits = t.0.fits; under = t.0.under }) t.1
stood_after newest base place (HeadLine mode stop len ∷ lines) s t = stood_after newest base place lines s t.1

-- what a trace tells
pub trace_follow : (newest : List Slip) (base : Option BlockRef) (place : Place) (lines : List Line) → Trace newest base place lines → Follow newest (stands newest base place) lines
trace_follow newest base place [] t = tt
trace_follow newest base place (StepLine len x ∷ lines) t = (t.0.fold, trace_follow newest base x.place lines t.1)
trace_follow newest base place (HeadLine mode stop len ∷ lines) t = (t.0, trace_follow newest base place lines t.1)

pub trace_fold : (newest : List Slip) (base : Option BlockRef) (place : Place) (lines : List Line) → Trace newest base place lines
    → fold_steps (stands newest base place) (only_steps lines) ≡ Some (stands newest base (place_of place lines))
trace_fold newest base place [] t = refl
trace_fold newest base place (StepLine len x ∷ lines) t = rw t.0.fold (trace_fold newest base x.place lines t.1)
trace_fold newest base place (HeadLine mode stop len ∷ lines) t = trace_fold newest base place lines t.1

pub mark_turned : (x : BlockStep) → reverse (mark x) ≡ mark x
mark_turned x = of x.step x.slip
  where
    of : (kind : Step) (s : Slip) → reverse (mark (block_step kind s)) ≡ mark (block_step kind s)
    of step.New s = refl
    of step.Undo s = refl
    of step.Final s = refl
    of step.NewFinal s = refl

pub trace_told : (newest : List Slip) (base : Option BlockRef) (place : Place) (lines : List Line) → Trace newest base place lines
    → after_base base (ancestry_at newest (place_of place lines).lib) ≡ reverse (told_final lines) ++ after_base base (ancestry_at newest place.lib)
trace_told newest base place [] t = refl
trace_told newest base place (StepLine len x ∷ lines) t =
    let low = after_base base (ancestry_at newest place.lib) in
    let told = reverse (told_final lines) in
    let turned : reverse (mark x.step ++ told_final lines) ≡ told ++ mark x.step = reverse-append (mark x.step) (told_final lines) ∙ ap (λ l. told ++ l) (mark_turned x.step) in
    trace_told newest base x.place lines t.1 ∙ ap (λ l. told ++ l) t.0.marks ∙ sym (append_assoc told (mark x.step) low) ∙ ap (λ l. l ++ low) (sym turned)
trace_told newest base place (HeadLine mode stop len ∷ lines) t = trace_told newest base place lines t.1

-- one batch
pub trace_steps : (len : ℕ) (more older goal : List Slip) (base : Option BlockRef) (xs : List BlockStep) (place : Place) (lines : List Line) → IsHistory (more ++ older) → ClaimsAgree (more ++ older)
    → Walk older goal base place xs → Trace (more ++ older) base (place_along place xs) lines → Trace (more ++ older) base place (step_lines len (placed place xs) ++ lines)
trace_steps len more older goal base [] place lines history agreed w t = t
trace_steps len more older goal base (x ∷ xs) place lines history agreed w t =
    let before = history_older more older history in
    let n = next older goal base place x xs before w in
    let after = place_after place x in
    let fits = walk_fits older goal base place (x ∷ xs) before w in
    let fits' = walk_fits older goal base after xs before n.walk in
    let here = stands_later more older history base place fits in
    let there = stands_later more older history base after fits' in
    let l = lines_later more older history place.end place.lib fits in
    let l' = lines_later more older history after.end after.lib fits' in
    let goes : Goes (more ++ older) base place (record { step = x; place = after }) = record {
      fold = rw (here, there) n.fold;
      marks = rw (l.1, l'.1) n.marks;
      apart = rw l.1 n.apart;
      fits = fits_later more older history agreed after.end after.lib fits';
      under = under_later more older history base after fits' (walk_under older goal base after xs before n.walk);
    } in
    (goes, trace_steps len more older goal base xs after lines history agreed n.walk t)

-- a batch at a shorter history
record Batch (newest older : List Slip) (base : Option BlockRef) (place : Place) (m : Mode) (stop : Option ℕ) : Type 0 where
  pub fits : PlaceFits older (place_to older place m stop).end (place_to older place m stop).lib
  ahead : IsAhead stop (place_to older place m stop).end
  pub under : IsUnder newest base (place_to older place m stop).lib
  has : stands newest base (place_to older place m stop) ≡ has_all older base (target older m stop)
  trace : (len : ℕ) (lines : List Line) → Trace newest base (place_to older place m stop) lines → Trace newest base place (step_lines len (steps_to older place m stop) ++ lines)

batch_go : (more older : List Slip) (base : Option BlockRef) (place : Place) (m : Mode) (stop : Option ℕ) → IsHistory (more ++ older) → ClaimsAgree (more ++ older)
    → PlaceFits older place.end place.lib → IsUnder (more ++ older) base place.lib → IsAhead stop place.end → Batch (more ++ older) older base place m stop
batch_go more older base place m stop history agreed fits under ahead =
    let before = history_older more older history in
    let goal = target older m stop in
    let w = start older base place m stop before fits (under_older more older history base place fits under) ahead in
    let after = place_to older place m stop in
    let done = walk_along older goal base (steps_of older place m stop) place before w in
    let settled = place_reached older place m stop before fits ahead in
    record {
      fits = settled.fits;
      ahead = settled.ahead;
      under = under_later more older history base after settled.fits (walk_under older goal base after [] before done);
      has = stands_later more older history base after settled.fits ∙ (walk_end older goal base after before done).has;
      trace = λ len lines t. trace_steps len more older goal base (steps_of older place m stop) place lines history agreed w t;
    }

batch_of : (newest : List Slip) (base : Option BlockRef) (place : Place) (m : Mode) (stop : Option ℕ) (len : ℕ) → IsHistory newest → ClaimsAgree newest
    → PlaceFits (oldest len newest) place.end place.lib → IsUnder newest base place.lib → IsAhead stop place.end → Batch newest (oldest len newest) base place m stop
batch_of newest base place m stop len history agreed fits under ahead =
    let older = oldest len newest in
    let more = take (length newest - len) newest in
    let whole : more ++ older ≡ newest = oldest_whole newest len in
    subst (λ (n : List Slip). Batch n older base place m stop) whole
    (batch_go more older base place m stop (subst IsHistory (sym whole) history) (subst ClaimsAgree (sym whole) agreed)
    fits (subst (λ (n : List Slip). IsUnder n base place.lib) (sym whole) under) ahead)

-- all batches of a session
pub trace_batches : (newest : List Slip) (base : Option BlockRef) (m : Mode) (stop : Option ℕ) (lens : List ℕ) (place : Place) → IsHistory newest → ClaimsAgree newest
    → FitsFirst newest place lens → Rises lens → AllByRecursion (λ len. len ≤ length newest) lens → IsUnder newest base place.lib → IsAhead stop place.end
    → Trace newest base place (batches newest m stop place lens)
trace_batches newest base m stop [] place history agreed fits rises within under ahead = tt
trace_batches newest base m stop (len ∷ []) place history agreed fits rises within under ahead =
    let b = batch_of newest base place m stop len history agreed fits under ahead in
    b.trace len _ (b.has, tt)
trace_batches newest base m stop (len ∷ len' ∷ lens) place history agreed fits rises within under ahead =
    let b = batch_of newest base place m stop len history agreed fits under ahead in
    let after = place_to (oldest len newest) place m stop in
    b.trace len _ (b.has, trace_batches newest base m stop (len' ∷ lens) after history agreed (fits_at_more newest len len' history agreed rises.0 within.1.0 after b.fits) rises.1 within.1 b.under b.ahead)

pub trace_received : (newest : List Slip) (base : Option BlockRef) (place : Place) (s : Session) → IsHistory newest → ClaimsAgree newest → FitsFirst newest place s.lens → IsSession newest place s → Stood newest base place
    → Trace newest base place (received newest place s)
trace_received newest base place s history agreed fits is stood =
    trace_take newest base s.cut place _ (trace_batches newest base s.mode s.stop s.lens place history agreed fits is.rises is.within stood.under is.ahead)

-- a chain of sessions
pub trace_chain : (newest : List Slip) (base : Option BlockRef) (sessions : List Session) (place : Place) → IsHistory newest → ClaimsAgree newest → IsChain newest place sessions → Stood newest base place
    → Trace newest base place (chain_lines newest place sessions)
trace_chain newest base [] place history agreed is stood = tt
trace_chain newest base (s ∷ later) place history agreed is stood =
    let first = trace_received newest base place s history agreed is.0 is.1 stood in
    trace_append newest base place _ _ first
    (trace_chain newest base later (place_of place (received newest place s)) history agreed is.2 (stood_after newest base place _ stood first))
