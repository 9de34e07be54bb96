-- The next steps of an open batch, and what is left of them as they are given.
use Rattle.std.proofs.Common.{arith, ◌≡◌, ◌≤◌, ◌+◌, ◌-◌, min, ℕ, zero, suc, add-one, Bool, true, false, cond, eqb, List, [], ◌∷◌, ◌++◌, length, map, take, drop, Option, Some, None, IsSome, refl, sym, ◌∙◌, ap, subst}
use Rattle.std.specs.Prelude.{slice_get}
use Rattle.std.specs.Arc.{arc_value}
use Rattle.std.proofs.lemmas.Bool.{eqb-true}
use Rattle.std.proofs.lemmas.List.{length-append, length-map, length-take, length-drop, take-append-drop}
use Rattle.std.proofs.lemmas.Option.{same_Some}
use Rattle.block_record.specs.declared.blocks.Slip.{Slip}
use Rattle.chain_model.specs.declared.places.Place.{Place}
use Rattle.chain_model.specs.Ancestry.{IsHistory}
use Rattle.chain_model.specs.Finality.{ClaimsAgree}
use Rattle.chain_model.specs.Places.{PlacedStep, steps_to}
use Rattle.chain_laws.specs.Oldest.{oldest}
use Rattle.fork_db.specs.declared.batches.Batch.{Batch}
use Rattle.fork_db.specs.declared.chunks.StepItem.{StepItem}
use Rattle.fork_db.specs.Batches.{IsGiven, item_seen}
use Rattle.outer_world.specs.Causes.{Rose}
use Rattle.outer_world.specs.Files.{Files}
use Rattle.one_block.specs.declared.faults.StoreFault.{StoreFault}
use Rattle.one_block.specs.declared.faults.StoreFault.TheVariants as fault
use Rattle.file_source.specs.Sources.{FetchRefused}
use Rattle.join_source.specs.declared.step.StepOut.{StepOut}
use Rattle.join_source.specs.Items.{Left, left_of}
use Rattle.join_source.specs.Answers.{Gives, IsRefused, sent_of}
use Rattle.relay_model.specs.Looks.{At}
use Rattle.reply_text.specs.Replies.{reply_text}
use Rattle.session_model.specs.Told.{told}
use Rattle.session_model.specs.Progress.{OpenBatch, Progress, Stage, Waits, Sends, IsOver, step_stage, after_step, step_replies}
use Rattle.session_model.specs.Standing.{StandsAt, IsWithin}
use Rattle.client_stream.specs.Sessions.{State, IsSendingOf, IsSendingAt}
use Rattle.client_stream.specs.Sent.{HasSent, IsBatchGiven}
use Rattle.client_stream.specs.Answers.{IsStepOf, batch_left}
use Rattle.relay_session.specs.Sending.{AreStepsOf, AreSteps, AreNext, placed_left, Gave, GaveSome, GaveUpTo, IsStopped}
use Rattle.relay_session.specs.Turns.{IsGivenBy, IsNextRefused, HasCause}
use Rattle.relay_session.proofs.ServedFacts.{adds_none, adds_more}

-- the open batch of a session that sends
record IsSending (stage : Stage) (g : Batch) (from : ℕ) : Type 0 where
  b : OpenBatch
  sends : stage ≡ Sends b
  of : IsSendingOf b g from

sending : (stage : Stage) (o : Option Batch) (g : Batch) (from : ℕ) → o ≡ Some g → IsSendingAt stage o from → IsSending stage g from
sending (Waits position) o g from e h = absurd h
sending (Sends b) None g from e h = absurd h
sending (Sends b) (Some x) g from e h = record { b = b; sends = refl; of = subst (λ (y : Batch). IsSendingOf b y from) (same_Some x g e) h }
sending (IsOver v) o g from e h = absurd h

-- such a session has an open batch
pub is_open : (stage : Stage) (o : Option Batch) (from : ℕ) → IsSendingAt stage o from → IsSome o
is_open (Waits position) o from h = absurd h
is_open (Sends b) None from h = absurd h
is_open (Sends b) (Some g) from h = refl
is_open (IsOver v) o from h = absurd h

pub given_now : (newest : List Slip) (p : Progress) (o : Option Batch) (g : Batch) → o ≡ Some g → IsBatchGiven newest p o → IsGiven newest (oldest g.seen newest) p.request.mode p.request.stop g
given_now newest p o g e h = subst (IsBatchGiven newest p) e h

placed_items : (items : List StepItem) → placed_left (map left_of items) ≡ map item_seen items
placed_items [] = refl
placed_items (x ∷ items) = ap (λ l. item_seen x ∷ l) (placed_items items)

steps_if_any : (newest : List Slip) (s : State) (xs : List PlacedStep) → AreStepsOf newest s xs → AreSteps newest s xs
steps_if_any newest s [] h = tt
steps_if_any newest s (x ∷ xs) h = h

-- the next items of a session, of which there are some, and at most so many
pub record AreNextItems (newest : List Slip) (s : State) (most : ℕ) (items : List StepItem) : Type 0 where
  pub next : AreNext newest s (map left_of items)
  pub some : 1 ≤ length items
  pub few : length items ≤ most

pub next_are : (newest : List Slip) (type : List ℕ) (s : State) (text : List ℕ) (g : Batch) (from most : ℕ) (bare items : List StepItem) → IsHistory newest → ClaimsAgree newest → HasSent newest type s text
    → s.batch ≡ Some g → IsSendingAt s.progress.stage s.batch from → bare ≡ []
    → map item_seen items ≡ map item_seen bare ++ take most (drop from (steps_to (oldest g.seen newest) g.place s.progress.request.mode s.progress.request.stop)) → 1 ≤ most
    → AreNextItems newest s most items
next_are newest type s text g from most bare items history agreed h is_batch at is_bare seen some = record {
  next = record {
    history = history;
    agreed = agreed;
    steps = steps_if_any newest s (placed_left (map left_of items)) (record {
      batch = subst IsSome (sym is_batch) refl;
      b = b;
      sends = is.sends;
      total_is = within.total_is;
      rest = drop most (drop b.given xs);
      next = sym (take-append-drop most (drop b.given xs)) ∙ ap (λ l. l ++ drop most (drop b.given xs)) (sym taken ∙ sym (placed_items items));
    });
  };
  some = omega (arith, long, within.more, within.total_is, some);
  few = omega (arith, long);
}
  where
    p : Progress
    p = s.progress

    is : IsSending p.stage g from
    is = sending p.stage s.batch g from is_batch at

    b : OpenBatch
    b = is.b

    xs : List PlacedStep
    xs = steps_to (oldest b.seen newest) b.place p.request.mode p.request.stop

    within : IsWithin newest type p.request p.run_number p.lens b (map told h.written.replies)
    within = subst (λ (v : Stage). StandsAt newest type p.request p.run_number p.lens v (map told h.written.replies)) is.sends h.written.stands

    same : drop b.given xs ≡ drop from (steps_to (oldest g.seen newest) g.place p.request.mode p.request.stop)
    same = λ i. drop (is.of.index i) (steps_to (oldest (is.of.seen i) newest) (is.of.place i) p.request.mode p.request.stop)

    taken : map item_seen items ≡ take most (drop b.given xs)
    taken = seen ∙ ap (λ (l : List StepItem). map item_seen l ++ take most (drop from (steps_to (oldest g.seen newest) g.place p.request.mode p.request.stop))) is_bare ∙ ap (take most) (sym same)

    long : length items ≡ min most (length xs - b.given)
    long = sym (length-map items item_seen) ∙ ap length taken ∙ length-take most (drop b.given xs) ∙ ap (min most) (length-drop b.given xs)

-- no step more
zero_given : (v : Stage) → IsGivenBy 0 v v
zero_given (Waits position) = (refl, refl)
zero_given (IsOver o) = (refl, refl)
zero_given (Sends b) = let same : b.given ≡ b.given + 0 = omega arith in λ i. record b { given = same i }

-- some, and then some more
pub given_more : (m n : ℕ) (r s t : Stage) → IsGivenBy m r s → IsGivenBy n s t → IsGivenBy (m + n) r t
given_more m n (Waits position) s t g h = let k = subst (λ (v : Stage). IsGivenBy n v t) g.1 h in (omega (arith, g.0, k.0), k.1)
given_more m n (IsOver o) s t g h = let k = subst (λ (v : Stage). IsGivenBy n v t) g.1 h in (omega (arith, g.0, k.0), k.1)
given_more m n (Sends b) (Waits position) t g h = subst (IsGivenBy (m + n) (Sends b)) (sym h.1) (let all : b.given + (m + n) ≡ b.total = omega (arith, g, h.0) in all)
given_more m n (Sends b) (IsOver o) t g h = absurd g
given_more m n (Sends b) (Sends c) t g h = from t (subst (λ (x : OpenBatch). IsGivenBy n (Sends x) t) g h)
  where
    from : (t : Stage) → IsGivenBy n (Sends (record b { given = b.given + m })) t → IsGivenBy (m + n) (Sends b) t
    from (Waits position) h = omega (arith, h)
    from (IsOver o) h = absurd h
    from (Sends d) h = let sum : b.given + m + n ≡ b.given + (m + n) = omega arith in h ∙ (λ i. record b { given = sum i })

pub gave_more : (newest : List Slip) (m n : ℕ) (s u v : State) (x y z : List ℕ) → Gave newest m s u x y → Gave newest n u v y z → Gave newest (m + n) s v x z
gave_more newest m n s u v x y z g h = record {
  steps = given_more m n s.progress.stage u.progress.stage v.progress.stage g.steps h.steps;
  kept = h.kept ∙ (λ i. record (g.kept i) { stage = v.progress.stage });
  adds = adds_more newest s u v x y z g.adds h.adds;
}

pub gave_none : (newest : List Slip) (s : State) (text : List ℕ) → Gave newest 0 s s text text
gave_none newest s text = record { steps = zero_given s.progress.stage; kept = refl; adds = adds_none newest s text }

pub gave_further : (newest : List Slip) (s u v : State) (items mid left : List Left) (x y z : List ℕ) → GaveUpTo newest s u items mid x y → GaveUpTo newest u v mid left y z → GaveUpTo newest s v items left x z
gave_further newest s u v items mid left x y z g h = record {
  given = g.given + h.given;
  count = omega (arith, g.count, h.count);
  next = h.next;
  gave = gave_more newest g.given h.given s u v x y z g.gave h.gave;
}

-- where no item is left none is given
pub none_given : (newest : List Slip) (s : State) (items left : List Left) (text : List ℕ) → items ≡ [] → left ≡ [] → AreNext newest s items → GaveUpTo newest s s items left text text
none_given newest s items left text e f next = record {
  given = 0;
  count = omega (arith, ap length e, ap length f);
  next = subst (AreNext newest s) (e ∙ sym f) next;
  gave = gave_none newest s text;
}

-- the step after the first is the next one then
drop_get : (xs : List PlacedStep) (k : ℕ) (y : PlacedStep) (more : List PlacedStep) → drop k xs ≡ y ∷ more → slice_get xs k ≡ Some y
drop_get [] zero y more e = absurd (cc)
drop_get [] (suc k) y more e = absurd (cc)
drop_get (x ∷ xs) zero y more e = let same : x ≡ y = cc in ap Some same
drop_get (x ∷ xs) (suc k) y more e = drop_get xs k y more e

drop_next : (xs : List PlacedStep) (k : ℕ) (y : PlacedStep) (more : List PlacedStep) → drop k xs ≡ y ∷ more → drop (k + 1) xs ≡ more
drop_next xs k y more e = ap (λ n. drop n xs) (add-one k) ∙ go xs k e
  where
    go : (xs : List PlacedStep) (k : ℕ) → drop k xs ≡ y ∷ more → drop (suc k) xs ≡ more
    go [] zero e = absurd (cc)
    go [] (suc k) e = absurd (cc)
    go (x ∷ xs) zero e = cc
    go (x ∷ xs) (suc k) e = go xs k e

-- a session after the step of its open batch
abbrev stepped : State → OpenBatch → Place → State
stepped s b place = record { progress = after_step s.progress b place; batch = batch_left b s.batch }

steps_left : (newest : List Slip) (s : State) (z : PlacedStep) (ys : List PlacedStep) (place : Place) → (h : AreStepsOf newest s (z ∷ ys)) → AreSteps newest (stepped s h.b place) ys
steps_left newest s z [] place h = tt
steps_left newest s z (y ∷ ys) place h = go (eqb (b.given + 1) b.total) refl
  where
    p : Progress
    p = s.progress

    b : OpenBatch
    b = h.b

    xs : List PlacedStep
    xs = steps_to (oldest b.seen newest) b.place p.request.mode p.request.stop

    long : length xs - b.given ≡ 2 + (length ys + length h.rest)
    long = omega (arith, length-drop b.given xs, ap length h.next, length-append ys h.rest)

    go : (c : Bool) → eqb (b.given + 1) b.total ≡ c → AreStepsOf newest (record { progress = record p { stage = cond c (Waits (At place)) (Sends (record b { given = b.given + 1 })) }; batch = cond c None s.batch }) (y ∷ ys)
    go true e = absurd (let last : b.given + 1 ≡ b.total = eqb-true _ _ e in let never : ⊥ = omega (arith, last, long, h.total_is) in never)
    go false e = record {
      batch = h.batch;
      b = record b { given = b.given + 1 };
      sends = refl;
      total_is = h.total_is;
      rest = h.rest;
      next = drop_next xs b.given z (y ∷ ys ++ h.rest) h.next;
    }

one_given : (b : OpenBatch) (place : Place) → IsGivenBy 1 (Sends b) (step_stage b place)
one_given b place = go (eqb (b.given + 1) b.total) refl
  where
    go : (c : Bool) → eqb (b.given + 1) b.total ≡ c → IsGivenBy 1 (Sends b) (cond c (Waits (At place)) (Sends (record b { given = b.given + 1 })))
    go true e = eqb-true _ _ e
    go false e = refl

-- the step with its block is the next one
step_is_next : (newest : List Slip) (s : State) (item : Left) (ys : List PlacedStep) (x : StepOut) → IsHistory newest → ClaimsAgree newest → AreStepsOf newest s (item.placed ∷ ys) → sent_of x ≡ item.placed
    → IsStepOf newest s.progress x
step_is_next newest s item ys x history agreed h sent = record {
  history = history;
  agreed = agreed;
  open_batch = h.b;
  next = record {
    sends = h.sends;
    next = drop_get (steps_to (oldest h.b.seen newest) h.b.place s.progress.request.mode s.progress.request.stop) h.b.given item.placed (ys ++ h.rest) h.next ∙ ap Some (sym sent);
  };
}

-- what a session that took the step was sent, where the step's bytes are these
abbrev TellsStep : List Slip → State → State → StepOut → List ℕ → Type 0
TellsStep newest s u x added = (type text : List ℕ) → HasSent newest type s text → IsStepOf newest s.progress x → HasSent newest type u (text ++ added)

-- the first item was given
pub first_given : (newest : List Slip) (s u : State) (items left : List Left) (x : StepOut) (before after : List ℕ) → AreNext newest s items → Gives items left x
    → ((b : OpenBatch) → s.progress.stage ≡ Sends b → u.progress ≡ after_step s.progress b x.place)
    → ((b : OpenBatch) → s.progress.stage ≡ Sends b → u.batch ≡ batch_left b s.batch)
    → ((b : OpenBatch) → s.progress.stage ≡ Sends b → after ≡ before ++ reply_text (step_replies s.progress.run_number b x.step (arc_value x.block) x.place))
    → ((b : OpenBatch) → s.progress.stage ≡ Sends b → TellsStep newest s u x (reply_text (step_replies s.progress.run_number b x.step (arc_value x.block) x.place)))
    → GaveUpTo newest s u items left before after
first_given newest s u items left x before after n g progress batch lines tells = record {
  given = 1;
  count = omega (arith, ap length g.first);
  next = record { history = n.history; agreed = n.agreed; steps = subst (λ (v : State). AreSteps newest v (placed_left left)) (sym after_is) (steps_left newest s g.item.placed (placed_left left) x.place h) };
  gave = record {
    steps = subst (λ (v : Stage). IsGivenBy 1 v u.progress.stage) (sym h.sends) (subst (λ (v : State). IsGivenBy 1 (Sends h.b) v.progress.stage) (sym after_is) (one_given h.b x.place));
    kept = subst (λ (q : Progress). q ≡ record s.progress { stage = q.stage }) (sym (progress h.b h.sends)) refl;
    adds = record {
      added = reply_text (step_replies s.progress.run_number h.b x.step (arc_value x.block) x.place);
      text_is = lines h.b h.sends;
      sent = λ type text k. tells h.b h.sends type text k (step_is_next newest s g.item (placed_left left) x n.history n.agreed h g.sent);
    };
  };
}
  where
    h : AreStepsOf newest s (g.item.placed ∷ placed_left left)
    h = subst (λ (l : List Left). AreSteps newest s (placed_left l)) g.first n.steps

    after_is : u ≡ stepped s h.b x.place
    after_is = λ i. record { progress = progress h.b h.sends i; batch = batch h.b h.sends i }

-- at most as many as there were
pub gave_some : (newest : List Slip) (s u : State) (items left : List Left) (x y : List ℕ) → GaveUpTo newest s u items left x y → GaveSome newest (length items) s u x y
gave_some newest s u items left x y g = record { given = g.given; few = omega (arith, g.count); gave = g.gave }

-- a count that rose since then had risen before
rose_since : (before mid now : ℕ) → before ≤ mid → Rose mid now → Rose before now
rose_since before mid now le h = omega (arith, le, h)

-- why an event was refused since then, was a cause since before
next_since : (newest : List Slip) (files : Option Files) (before mid now : ℕ) (q : Progress) (f : StoreFault) → IsNextRefused newest files mid now q f
    → ((slip : Slip) → FetchRefused files slip mid now f → FetchRefused files slip before now f) → IsNextRefused newest files before now q f
next_since newest files before mid now q f r since = record { b = r.b; sends = r.sends; step = r.step; next = r.next; cause = since r.step.step.slip r.cause }

pub cause_since : (newest : List Slip) (files : Option Files) (before mid now : ℕ) (q : Progress) (f : StoreFault) → before ≤ mid → HasCause newest files mid now q f → HasCause newest files before now q f
cause_since newest files before mid now q fault.ShelfFault le r = next_since newest files before mid now q fault.ShelfFault r (λ slip h. rose_since before mid now le h)
cause_since newest files before mid now q (fault.ShelfBad name at) le r = next_since newest files before mid now q (fault.ShelfBad name at) r (λ slip h. h)
cause_since newest files before mid now q (fault.Missing name) le r = next_since newest files before mid now q (fault.Missing name) r (λ slip h. h)
cause_since newest files before mid now q (fault.StoredOther kept read) le r = next_since newest files before mid now q (fault.StoredOther kept read) r (λ slip h. h)
cause_since newest files before mid now q (fault.NameClash held offered) le r = r
cause_since newest files before mid now q fault.Mem le r = tt

-- the first item was refused
first_refused : (newest : List Slip) (files : Option Files) (s : State) (items : List Left) (before now : ℕ) (f : StoreFault) → AreNext newest s items → IsRefused files items before now f → IsNextRefused newest files before now s.progress f
first_refused newest files s items before now f n r = record {
  b = h.b;
  sends = h.sends;
  step = r.item.placed;
  next = drop_get (steps_to (oldest h.b.seen newest) h.b.place s.progress.request.mode s.progress.request.stop) h.b.given r.item.placed (placed_left r.rest ++ h.rest) h.next;
  cause = r.cause;
}
  where
    h : AreStepsOf newest s (r.item.placed ∷ placed_left r.rest)
    h = subst (λ (l : List Left). AreSteps newest s (placed_left l)) r.first n.steps

pub stopped_by : (newest : List Slip) (files : Option Files) (s : State) (items : List Left) (before now : ℕ) (f : StoreFault) → AreNext newest s items → IsStopped files items before now f → HasCause newest files before now s.progress f
stopped_by newest files s items before now fault.ShelfFault n r = first_refused newest files s items before now fault.ShelfFault n r
stopped_by newest files s items before now (fault.ShelfBad name at) n r = first_refused newest files s items before now (fault.ShelfBad name at) n r
stopped_by newest files s items before now (fault.Missing name) n r = first_refused newest files s items before now (fault.Missing name) n r
stopped_by newest files s items before now (fault.StoredOther kept read) n r = first_refused newest files s items before now (fault.StoredOther kept read) n r
stopped_by newest files s items before now (fault.NameClash held offered) n r = absurd r
stopped_by newest files s items before now fault.Mem n r = tt

-- at the start none was given
pub none_yet : (newest : List Slip) (s : State) (items : List Left) (text : List ℕ) → AreNext newest s items → GaveUpTo newest s s items items text text
none_yet newest s items text next = record { given = 0; count = omega arith; next = next; gave = gave_none newest s text }

-- what was given over each history, and then more
pub gave_on : (s u v : State) (items mid left : List Left) (x y z : List ℕ) → ((newest : List Slip) → AreNext newest s items → GaveUpTo newest s u items mid x y)
    → ((newest : List Slip) → AreNext newest u mid → GaveUpTo newest u v mid left y z) → (newest : List Slip) → AreNext newest s items → GaveUpTo newest s v items left x z
gave_on s u v items mid left x y z g h newest next = let before = g newest next in gave_further newest s u v items mid left x y z before (h newest before.next)
