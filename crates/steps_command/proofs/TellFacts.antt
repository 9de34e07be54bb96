-- Following the head.
use Rattle.std.proofs.Common.{arith, ◌≡◌, ◌≤◌, ◌+◌, ◌++◌, ℕ, List, [], ◌∷◌, length, Option, Some, None, refl, sym, ◌∙◌, ap, subst, map, take, drop, append_assoc, option_and_then, suc, zero, Bool, true, false, is_some, Result, Ok, Err}
use Rattle.std.specs.List.{slice_get}
use Rattle.std.specs.Option.{option_map}
use Rattle.std.proofs.lemmas.List.{append-nil}
use Rattle.std.proofs.Math.Seq.{take-length}
use Rattle.std.proofs.lemmas.Option.{same_Some}
use mathlib.Core.List.{IsSuffix}
use Rattle.block_record.specs.declared.blocks.Slip.{Slip}
use Rattle.chain_model.specs.declared.places.Place.{Place}
use Rattle.chain_model.specs.declared.places.Mode.{Mode}
use Rattle.chain_model.specs.declared.places.Mode.TheVariants as mode
use Rattle.chain_model.specs.Ancestry.{IsHistory}
use Rattle.chain_model.specs.Finality.{ClaimsAgree}
use Rattle.chain_model.specs.Places.{PlaceFits, place_to, place_along}
use Rattle.chain_model.specs.Steps.{BlockStep, block_step, plain_of, steps_of}
use Rattle.chain_laws.proofs.public.Ends.{place_reached}
use Rattle.chain_laws.proofs.public.Later.{fits_later}
use Rattle.block_tree.specs.Places.{slip_at}
use Rattle.fork_db.specs.declared.batches.Batch.{Batch}
use Rattle.fork_db.specs.declared.chunks.StepAt.{StepAt}
use Rattle.fork_db.specs.Batches.{IsGiven, WasGiven, step_seen}
use Rattle.relay_model.specs.Worlds.{World}
use Rattle.relay_model.specs.Offers.{Answer, offered}
use Rattle.relay_model.specs.Soundness.{IsBlock, IsSound}
use Rattle.relay_model.proofs.public.Sound.{offer_keeps, offer_grows, same_sound}
use Rattle.block_intake.specs.declared.answers.Offered.{Offered}
use Rattle.block_intake.specs.declared.answers.Offered.TheVariants as answer
use Rattle.block_intake.specs.declared.answers.OfferFault.{OfferFault}
use Rattle.block_intake.specs.declared.answers.OfferFault.TheVariants as fault
use Rattle.block_intake.specs.Answers.{IsAnswer, is_mem}
use Rattle.block_intake.specs.Intakes.{IsAlike, IsUnchanged, TakenIn, unnoted, world_taken}
use Rattle.block_intake.proofs.public.AlikeFacts.{offered_alike}
use Rattle.block_intake.proofs.public.IntakeFacts.{unchanged_world}
use Rattle.step_text.specs.declared.refusals.Refusal.{Refusal}
use Rattle.step_text.specs.StepText.{Told, place_by, prepend, refusal_of, step_line, step_lines, steps_by, tell}
use Rattle.step_text.specs.Taken.{IsTaken, Tells}
use Rattle.step_text.proofs.public.RunFacts.{told_refusal, lines-append}
use Rattle.steps_command.specs.Following.{IsFollowed, admits}

-- a place goes on to fit as the history grows
fits_grown : (newest older : List Slip) (place : Place) → IsSuffix older newest → IsHistory newest → ClaimsAgree newest → PlaceFits older place.end place.lib → PlaceFits newest place.end place.lib
fits_grown newest older place (more, is) history agreed fits =
    subst (λ l. IsHistory l → ClaimsAgree l → PlaceFits l place.end place.lib) is (λ h a. fits_later more older h a place.end place.lib fits) history agreed

-- so they do after each offer
pub followed_on : (said : Result Offered OfferFault) (old new : TakenIn) (s : Slip) (place : Place) → IsFollowed old place → IsBlock s
    → (is_mem said ≡ false → world_taken new ≡ unnoted (offered (world_taken old) s).world) → (is_mem said ≡ true → IsUnchanged old new) → IsFollowed new place
followed_on said old new s place f block world mem = by (is_mem said) refl
  where
    by : (b : Bool) → is_mem said ≡ b → IsFollowed new place
    by true e =
        let same = unchanged_world old new (mem e) in
        record {
          sound = subst IsSound (sym same) f.sound;
          fits = subst (λ (v : World). PlaceFits v.history place.end place.lib) (sym same) f.fits;
        }
    by false e =
        let w = world_taken old in
        let sound : IsSound (offered w s).world = offer_keeps w s f.sound block in
        let fits : PlaceFits (offered w s).world.history place.end place.lib = fits_grown (offered w s).world.history w.history place (offer_grows w s) sound.history sound.agreed f.fits in
        record {
          sound = subst IsSound (sym (world e)) (same_sound (offered w s).world (unnoted (offered w s).world) refl refl (λ none. none) refl sound);
          fits = subst (λ (v : World). PlaceFits v.history place.end place.lib) (sym (world e)) fits;
        }

-- what is told of blocks from worlds that are alike
pub tell_alike : (slips : List Slip) (w v : World) (place : Place) → IsAlike w v → w.closed ≡ v.closed → tell slips w place ≡ tell slips v place
tell_alike [] w v place a closed = refl
tell_alike (s ∷ slips) w v place a closed =
    let o = offered_alike w v s a closed in
    rw (← tell_alike slips (offered w s).world (offered v s).world (place_by (offered v s).answer (offered v s).world.history place) o.world o.closed, o.answer, o.world.history) refl

-- the place that is reached fits
pub fits_reached : (newest : List Slip) (place to : Place) → IsHistory newest → PlaceFits newest place.end place.lib → to ≡ place_to newest place mode.Live None → PlaceFits newest to.end to.lib
fits_reached newest place to h fits e = subst (λ (p : Place). PlaceFits newest p.end p.lib) (sym e) (place_reached newest place mode.Live None h fits tt).fits

-- so a client follows on after its steps to the head
pub followed_told : (taken : TakenIn) (newest : List Slip) (from at to : Place) → IsFollowed taken from → newest ≡ taken.forks.history → at ≡ from → to ≡ place_to newest at mode.Live None → IsFollowed taken to
followed_told taken newest from at to f same begun reached = record {
  sound = f.sound;
  fits = fits_reached taken.forks.history from to f.sound.history f.fits
      (reached ∙ ap (λ l. place_to l at mode.Live None) same ∙ ap (λ (p : Place). place_to taken.forks.history p mode.Live None) begun);
}

-- the place that is reached, and the text that is told, by other names
pub reached_from : (newest same : List Slip) (from at to : Place) → newest ≡ same → at ≡ from → to ≡ place_to newest at mode.Live None → to ≡ place_to same from mode.Live None
reached_from newest same from at to is begun reached =
    reached ∙ ap (λ l. place_to l at mode.Live None) is ∙ ap (λ (p : Place). place_to same p mode.Live None) begun

pub text_from : (newest same : List Slip) (from at : Place) (before after : List ℕ) → newest ≡ same → at ≡ from → after ≡ before ++ step_lines (map plain_of (steps_of newest at mode.Live None))
    → after ≡ before ++ step_lines (map plain_of (steps_of same from mode.Live None))
text_from newest same from at before after is begun told =
    told ∙ ap (λ l. before ++ step_lines (map plain_of (steps_of l at mode.Live None))) is ∙ ap (λ (p : Place). before ++ step_lines (map plain_of (steps_of same p mode.Live None))) begun

-- a batch of the history was given by it
pub was_given : (newest : List Slip) (m : Mode) (stop : Option ℕ) (b : Batch) → IsGiven newest newest m stop b → WasGiven newest b
was_given newest m stop b g = record { older = newest; mode = m; stop = stop; given = g }

-- so many of a list are all of it
pub whole : {X : Type 0} (xs : List X) (n : ℕ) → n ≡ length xs → take n xs ≡ xs
whole xs n e = ap (λ k. take k xs) e ∙ take-length xs

one_at : {X : Type 0} (xs : List X) (i : ℕ) (x : X) → slice_get xs i ≡ Some x → take 1 (drop i xs) ≡ x ∷ []
one_at [] i x e = absurd (grind arith)
one_at (y ∷ xs) zero x e = ap (λ z. z ∷ []) (same_Some y x e)
one_at (y ∷ xs) (suc i) x e = one_at xs i x e

none_at : {X : Type 0} (xs : List X) (i : ℕ) → slice_get xs i ≡ None → take 1 (drop i xs) ≡ []
none_at [] zero e = refl
none_at [] (suc i) e = refl
none_at (y ∷ xs) zero e = absurd (grind arith)
none_at (y ∷ xs) (suc i) e = none_at xs i e

first_none : {X : Type 0} (y : X) (xs : List X) → y ∷ take 0 xs ≡ y ∷ []
first_none y [] = refl
first_none y (x ∷ xs) = refl

one_more : {X : Type 0} (xs : List X) (i j : ℕ) → j ≡ suc i → take j xs ≡ take i xs ++ take 1 (drop i xs)
one_more xs i zero e = absurd (let f : ⊥ = omega arith in f)
one_more [] zero (suc j) e = refl
one_more [] (suc i) (suc j) e = refl
one_more (y ∷ xs) zero (suc j) e = ap (λ n. y ∷ take n xs) (let f : j ≡ 0 = omega arith in f) ∙ (let g : y ∷ take 0 xs ≡ y ∷ [] = first_none y xs in g)
one_more (y ∷ xs) (suc i) (suc j) e = ap (λ l. y ∷ l) (one_more xs i j (omega arith))

-- the line of the step at an index
pub step_there : (newest : List Slip) (o : Option StepAt) (x : StepAt) (s : Slip) (steps : List BlockStep) (i : ℕ) → o ≡ Some x → slip_at newest x.at ≡ Some s
    → option_and_then (step_seen newest) o ≡ slice_get steps i → step_line (record { step = x.step; num = s.num; id = s.id }) ≡ step_lines (map plain_of (take 1 (drop i steps)))
step_there newest o x s steps i eo es e =
    let there : slice_get steps i ≡ Some (block_step x.step s) = sym e ∙ ap (option_and_then (step_seen newest)) eo ∙ ap (option_map (block_step x.step)) es in
    sym (ap (λ l. step_lines (map plain_of l)) (one_at steps i (block_step x.step s) there) ∙ append-nil (step_line (record { step = x.step; num = s.num; id = s.id })))

pub step_missing : (newest : List Slip) (o : Option StepAt) (steps : List BlockStep) (i : ℕ) (text : List ℕ) → o ≡ None → option_and_then (step_seen newest) o ≡ slice_get steps i
    → text ≡ text ++ step_lines (map plain_of (take 1 (drop i steps)))
step_missing newest o steps i text eo e =
    let none : slice_get steps i ≡ None = sym e ∙ ap (option_and_then (step_seen newest)) eo in
    sym (ap (λ l. text ++ step_lines (map plain_of l)) (none_at steps i none) ∙ append-nil text)

pub lines_more : (steps : List BlockStep) (start before after : List ℕ) (i : ℕ) → before ≡ start ++ step_lines (map plain_of (take i steps)) → after ≡ before ++ step_lines (map plain_of (take 1 (drop i steps)))
    → after ≡ start ++ step_lines (map plain_of (take (i + 1) steps))
lines_more steps start before after i e f =
    f ∙ ap (λ l. l ++ step_lines (map plain_of (take 1 (drop i steps)))) e ∙ append_assoc start (step_lines (map plain_of (take i steps))) (step_lines (map plain_of (take 1 (drop i steps))))
    ∙ ap (λ l. start ++ l) (sym (lines-append (take i steps) (take 1 (drop i steps))) ∙ ap (λ l. step_lines (map plain_of l)) (sym (one_more steps i (i + 1) (let f : i + 1 ≡ suc i = omega arith in f))))

pub lines_whole : (steps : List BlockStep) (start text : List ℕ) (n : ℕ) → n ≡ length steps → text ≡ start ++ step_lines (map plain_of (take n steps)) → text ≡ start ++ step_lines (map plain_of steps)
lines_whole steps start text n e f = f ∙ ap (λ l. start ++ step_lines (map plain_of l)) (whole steps n e)

-- where a client stands after an answer that admits a block, and what it was told
pub place_admitted : (a : Result Offered OfferFault) (said : Answer) (newest : List Slip) (from to : Place) → admits a ≡ true → IsAnswer said a → to ≡ place_to newest from mode.Live None → to ≡ place_by said newest from
place_admitted (Ok (answer.Admitted at count dropped)) said newest from to e is h = h ∙ sym (ap (λ x. place_by x newest from) is)
place_admitted (Ok answer.Duplicate) said newest from to e is h = absurd (grind arith)
place_admitted (Ok answer.Waiting) said newest from to e is h = absurd (grind arith)
place_admitted (Ok answer.Early) said newest from to e is h = absurd (grind arith)
place_admitted (Ok answer.Stale) said newest from to e is h = absurd (grind arith)
place_admitted (Err x) said newest from to e is h = absurd (grind arith)

pub text_admitted : (a : Result Offered OfferFault) (said : Answer) (newest : List Slip) (from : Place) (before after : List ℕ) → admits a ≡ true → IsAnswer said a
    → after ≡ before ++ step_lines (map plain_of (steps_of newest from mode.Live None)) → after ≡ before ++ step_lines (map plain_of (steps_by said newest from))
text_admitted (Ok (answer.Admitted at count dropped)) said newest from before after e is h = h ∙ sym (ap (λ x. before ++ step_lines (map plain_of (steps_by x newest from))) is)
text_admitted (Ok answer.Duplicate) said newest from before after e is h = absurd (grind arith)
text_admitted (Ok answer.Waiting) said newest from before after e is h = absurd (grind arith)
text_admitted (Ok answer.Early) said newest from before after e is h = absurd (grind arith)
text_admitted (Ok answer.Stale) said newest from before after e is h = absurd (grind arith)
text_admitted (Err x) said newest from before after e is h = absurd (grind arith)

-- an answer that admits no block tells nothing
TellsNothing : Answer → Type 0
TellsNothing said = ((newest : List Slip) (place : Place) → place_by said newest place ≡ place) × ((newest : List Slip) (place : Place) → steps_by said newest place ≡ [])

nothing_told : (a : Result Offered OfferFault) (said : Answer) → admits a ≡ false → is_mem a ≡ false → IsAnswer said a → TellsNothing said
unfolding TellsNothing
nothing_told (Ok (answer.Admitted at count dropped)) said e m is = absurd (grind arith)
nothing_told (Ok answer.Duplicate) said e m is = subst TellsNothing (sym is) (λ newest place. refl, λ newest place. refl)
nothing_told (Ok answer.Waiting) said e m is = subst TellsNothing (sym is) (λ newest place. refl, λ newest place. refl)
nothing_told (Ok answer.Early) said e m is = subst TellsNothing (sym is) (λ newest place. refl, λ newest place. refl)
nothing_told (Ok answer.Stale) said e m is = subst TellsNothing (sym is) (λ newest place. refl, λ newest place. refl)
nothing_told (Err (fault.Closed len)) said e m is = subst TellsNothing (sym is) (λ newest place. refl, λ newest place. refl)
nothing_told (Err (fault.Conflict c)) said e m is = subst TellsNothing (sym is) (λ newest place. refl, λ newest place. refl)
nothing_told (Err (fault.HistoryFull len need)) said e m is = subst TellsNothing (sym is) (λ newest place. refl, λ newest place. refl)
nothing_told (Err (fault.WaitFull blocks bytes)) said e m is = subst TellsNothing (sym is) (λ newest place. refl, λ newest place. refl)
nothing_told (Err fault.Mem) said e m is = absurd (grind arith)

pub place_kept : (a : Result Offered OfferFault) (said : Answer) (newest : List Slip) (place : Place) → admits a ≡ false → is_mem a ≡ false → IsAnswer said a → place ≡ place_by said newest place
unfolding TellsNothing
place_kept a said newest place e m is = sym ((nothing_told a said e m is).0 newest place)

pub text_kept : (a : Result Offered OfferFault) (said : Answer) (newest : List Slip) (place : Place) (text : List ℕ) → admits a ≡ false → is_mem a ≡ false → IsAnswer said a
    → text ≡ text ++ step_lines (map plain_of (steps_by said newest place))
unfolding TellsNothing
text_kept a said newest place text e m is = sym (ap (λ l. text ++ step_lines (map plain_of l)) ((nothing_told a said e m is).1 newest place) ∙ append-nil text)

-- a block that was offered, and whose answer was told
pub taken_answer : (a : Result Offered OfferFault) (s : Slip) (old mid : World) (from at to : Place) (before after : List ℕ) (r : Option Refusal) → is_mem a ≡ false
    → (is_mem a ≡ false → mid ≡ unnoted (offered old s).world) → at ≡ from
    → to ≡ place_by (offered old s).answer mid.history at → after ≡ before ++ step_lines (map plain_of (steps_by (offered old s).answer mid.history at))
    → r ≡ refusal_of (offered old s).answer → IsTaken s old (offered old s).world from to before after r
taken_answer a s old mid from at to before after r m world place reached text refused =
    let said = (offered old s).answer in
    record {
      world = refl;
      place = reached ∙ ap (λ (w : World). place_by said w.history at) (world m) ∙ ap (place_by said (offered old s).world.history) place;
      text = text ∙ ap (λ (w : World). before ++ step_lines (map plain_of (steps_by said w.history at))) (world m)
          ∙ ap (λ (p : Place). before ++ step_lines (map plain_of (steps_by said (offered old s).world.history p))) place;
      refusal = refused;
    }

pub told_place : (newest : List Slip) (from : Place) (b : Batch) (n : ℕ) (to : Place) → b.place ≡ from → n ≡ length (steps_of newest b.place mode.Live None)
    → to ≡ place_along b.place (take n (steps_of newest b.place mode.Live None)) → to ≡ place_to newest from mode.Live None
told_place newest from b n to e en et = et ∙ ap (place_along b.place) (whole (steps_of newest b.place mode.Live None) n en) ∙ ap (λ p. place_to newest p mode.Live None) e

pub told_text : (newest : List Slip) (from : Place) (b : Batch) (before after : List ℕ) → b.place ≡ from → after ≡ before ++ step_lines (map plain_of (steps_of newest b.place mode.Live None))
    → after ≡ before ++ step_lines (map plain_of (steps_of newest from mode.Live None))
told_text newest from b before after e ea = ea ∙ ap (λ p. before ++ step_lines (map plain_of (steps_of newest p mode.Live None))) e

pub at_end : (i n len : ℕ) → i ≤ n → n ≤ i → n ≡ len → i ≡ len
at_end i n len le ge e = (let f : i ≡ n = omega arith in f) ∙ e

pub none_of : (o : Option Refusal) (b : Bool) → b ≡ is_some o → b ≡ false → o ≡ None
none_of None b e f = refl
none_of (Some r) b e f = absurd (grind arith)

-- a refusal ends what is told
pub tells_refused : (o : Option Refusal) (b : Bool) (s : Slip) (slips more : List Slip) (old new left : World) (from to : Place) (before after : List ℕ) (all : Told) → b ≡ is_some o → b ≡ true
    → IsTaken s old new from to before after o → prepend before (tell (s ∷ slips) old from) ≡ all → Tells all more o after left to
tells_refused None b s slips more old new left from to before after all eb t taken h = absurd (grind arith)
tells_refused (Some r) b s slips more old new left from to before after all eb t taken h = told_refusal s slips old new from to before after all r taken h

pub nothing_left : {X : Type 0} (xs : List X) (n : ℕ) → n ≡ length xs → n ≡ 0 → xs ≡ []
nothing_left [] n e z = refl
nothing_left (x ∷ xs) n e z = absurd (let f : ⊥ = omega (arith, e, z) in f)
