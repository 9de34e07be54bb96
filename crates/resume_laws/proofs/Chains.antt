-- Resumption: what a client makes of a chain of sessions.
use Rattle.std.proofs.Common.{arith, ◌≡◌, ◌-◌, ℕ, false, List, [], ◌∷◌, ◌++◌, length, reverse, take, Option, Some, None, refl, sym, ◌∙◌, ap, subst, append_assoc}
use Rattle.std.proofs.lemmas.List.{nil_from_length, append-nil, reverse-append, reverse-reverse}
use mathlib.Core.List.{IsSuffix, IsPrefix}
use Rattle.block_record.specs.declared.blocks.Slip.{Slip}
use Rattle.block_record.specs.declared.blocks.BlockRef.{BlockRef}
use Rattle.chain_model.specs.declared.places.Place.{Place}
use Rattle.chain_model.specs.Ancestry.{has_id, IsHistory}
use Rattle.chain_model.specs.Finality.{ClaimsAgree, final_ancestry}
use Rattle.chain_model.specs.Steps.{ancestry_at}
use Rattle.chain_model.specs.Fold.{FoldState, fold_steps}
use Rattle.chain_laws.proofs.public.Growth.{all_weaker, prefix_from_suffix}
use Rattle.chain_laws.proofs.public.Reach.{line_under}
use Rattle.chain_laws.proofs.public.Meeting.{finals_line}
use Rattle.chain_laws.specs.Oldest.{oldest}
use Rattle.chain_laws.specs.Marks.{mark}
use Rattle.resume_laws.specs.Sessions.{Line, StepLine, HeadLine, Session, received, place_of, chain_lines, FitsFirst, Follow, told_final, only_steps, KeepsFinals}
use Rattle.resume_laws.specs.Laws.{ChainGoesOn, Resumption, opens_at, first_len, lines_of}
use Rattle.chain_laws.proofs.public.LineFacts.{line_distinct, after_base_of, Distinct}
use Rattle.chain_laws.proofs.public.Starts.{lib_parts}
use Rattle.chain_laws.proofs.public.Ends.{opening_fits, begins_there, under_itself}
use Rattle.chain_laws.proofs.public.Later.{fits_later, history_older, oldest_whole}
use Rattle.resume_laws.proofs.Traces.{Trace, Stood, trace_received, trace_chain, trace_append, stood_after, trace_follow, trace_fold, trace_told, mark_turned}
use Rattle.chain_model.specs.Places.{opening, PlaceFits}
use Rattle.chain_laws.specs.Standing.{after_base, stands, begins, IsUnder}

-- the path of the lib after the base is the first part of the final path after it
finals_suffix : (newest : List Slip) → IsHistory newest → (base end lib : Option BlockRef) → PlaceFits newest end lib → IsUnder newest base lib
    → IsSuffix (after_base base (ancestry_at newest lib)) (after_base base (final_ancestry newest))
finals_suffix newest history base end None fits under = (after_base base (final_ancestry newest), append-nil _)
finals_suffix newest history base None (Some l) fits under = absurd fits
finals_suffix newest history base (Some e) (Some l) fits under =
    let finals = finals_line newest history in
    let below = line_under newest history (final_ancestry newest) finals l.id fits.final in
    let b = lib_parts newest history base (Some l) under in
    let whole : (below.0 ++ b.counted) ++ b.lowest ≡ final_ancestry newest = append_assoc below.0 b.counted b.lowest ∙ ap (λ x. below.0 ++ x) (sym b.parts) ∙ below.1 in
    let apart : Distinct ((below.0 ++ b.counted) ++ b.lowest) = subst Distinct (sym whole) (line_distinct newest history (final_ancestry newest) finals) in
    let upper : after_base base (final_ancestry newest) ≡ below.0 ++ b.counted = ap (after_base base) (sym whole) ∙ after_base_of base (below.0 ++ b.counted) b.lowest b.base_is apart in
    let lower : after_base base (ancestry_at newest (Some l)) ≡ b.counted =
    ap (after_base base) b.parts ∙ after_base_of base b.counted b.lowest b.base_is (distinct_right below.0 (b.counted ++ b.lowest) (subst Distinct (append_assoc below.0 b.counted b.lowest) apart)) in
    (below.0, ap (λ x. below.0 ++ x) lower ∙ sym upper)
  where
    distinct_right : (xs ys : List Slip) → Distinct (xs ++ ys) → Distinct ys
    distinct_right [] ys d = d
    distinct_right (x ∷ xs) ys d = distinct_right xs ys d.1

has_id-push : (xs : List Slip) (y : Slip) (j : List ℕ) → has_id (xs ++ y ∷ []) j ≡ has_id (y ∷ xs) j
has_id-push [] y j = refl
has_id-push (x ∷ xs) y j = let e = has_id-push xs y j in grind (arith, e)

has_id-reverse : (xs : List Slip) (j : List ℕ) → has_id (reverse xs) j ≡ has_id xs j
has_id-reverse [] j = refl
has_id-reverse (x ∷ xs) j =
    let e = has_id-reverse xs j in
    let f = has_id-push (reverse xs) x j in
    let turned : reverse (x ∷ xs) ≡ reverse xs ++ x ∷ [] = reverse-append (x ∷ []) xs in
    rw (turned, f, e) refl

-- no block that was told as final is taken back
trace_kept : (newest : List Slip) (base : Option BlockRef) (told : List Slip) (place : Place) (lines : List Line) → Trace newest base place lines
    → told ≡ reverse (after_base base (ancestry_at newest place.lib)) → KeepsFinals told lines
trace_kept newest base told place [] t e = tt
trace_kept newest base told place (StepLine len x ∷ lines) t e =
    let low = after_base base (ancestry_at newest place.lib) in
    let apart = all_weaker (λ s. has_id low s.id ≡ false) (λ s. has_id told s.id ≡ false) (λ s h. ap (λ l. has_id l s.id) e ∙ has_id-reverse low s.id ∙ h) _ t.0.apart in
    let more : told ++ mark x.step ≡ reverse (after_base base (ancestry_at newest x.place.lib)) =
    ap (λ l. l ++ mark x.step) e ∙ ap (λ l. reverse low ++ l) (sym (mark_turned x.step)) ∙ sym (reverse-append (mark x.step) low) ∙ ap reverse (sym t.0.marks) in
    (apart, trace_kept newest base (told ++ mark x.step) x.place lines t.1 more)
trace_kept newest base told place (HeadLine mode stop len ∷ lines) t e = trace_kept newest base told place lines t.1 e

-- a first session opens at a place that fits
opens_fit : (newest : List Slip) (n : ℕ) (s : Session) → IsHistory newest → ClaimsAgree newest → PlaceFits newest (opens_at newest n s).end (opens_at newest n s).lib
opens_fit newest n s history agreed =
    let len = first_len s.lens in
    let whole = oldest_whole newest len in
    let h : IsHistory (take (length newest - len) newest ++ oldest len newest) = subst IsHistory (sym whole) history in
    let p = opens_at newest n s in
    subst (λ (x : List Slip). PlaceFits x p.end p.lib) whole
    (fits_later (take (length newest - len) newest) (oldest len newest) h (subst ClaimsAgree (sym whole) agreed) p.end p.lib (opening_fits (oldest len newest) n (older_history newest len history)))
  where
    older_history : (x : List Slip) (k : ℕ) → IsHistory x → IsHistory (oldest k x)
    older_history x k hx = history_older (take (length x - k) x) (oldest k x) (subst IsHistory (sym (oldest_whole x k)) hx)

opens_first : (newest : List Slip) (n : ℕ) (lens : List ℕ) → IsHistory newest → FitsFirst newest (opening (oldest (first_len lens) newest) n) lens
opens_first newest n [] history = tt
opens_first newest n (len ∷ lens) history =
    opening_fits (oldest len newest) n (history_older (take (length newest - len) newest) (oldest len newest) (subst IsHistory (sym (oldest_whole newest len)) history))

pub resumption : Resumption
resumption newest n one others is =
    let p = opens_at newest n one in
    let base = p.end in
    let lines = lines_of newest n one others in
    let fits = opens_fit newest n one is.history is.agreed in
    let stood : Stood newest base p = record { fits = fits; under = under_itself newest base fits } in
    let first = trace_received newest base p one is.history is.agreed (opens_first newest n one.lens is.history) is.begun stood in
    let rest = trace_chain newest base others (place_of p (received newest p one)) is.history is.agreed is.resumed (stood_after newest base p _ stood first) in
    let trace : Trace newest base p lines = trace_append newest base p _ _ first rest in
    let start : begins base ≡ stands newest base p = begins_there newest base fits in
    let none : after_base base (ancestry_at newest p.lib) ≡ [] = nil_from_length _ (sym (ap (λ (f : FoldState). f.finals) start)) in
    let last = stood_after newest base p lines stood trace in
    let told : after_base base (ancestry_at newest (place_of p lines).lib) ≡ reverse (told_final lines) =
    trace_told newest base p lines trace ∙ ap (λ l. reverse (told_final lines) ++ l) none ∙ append-nil _ in
    let prefix = prefix_from_suffix _ _ (finals_suffix newest is.history base (place_of p lines).end (place_of p lines).lib last.fits last.under) in
    record {
      follow = subst (λ (f : FoldState). Follow newest f lines) (sym start) (trace_follow newest base p lines trace);
      fold = ap (λ f. fold_steps f (only_steps lines)) start ∙ trace_fold newest base p lines trace;
      finals = subst (λ (l : List Slip). IsPrefix l (reverse (after_base base (final_ancestry newest)))) (ap reverse told ∙ reverse-reverse (told_final lines)) prefix;
      kept = trace_kept newest base [] p lines trace (sym (ap reverse none));
    }

pub chain_goes_on : ChainGoesOn
chain_goes_on newest base place sessions history agreed fits under is =
    let lines = chain_lines newest place sessions in
    let stood : Stood newest base place = record { fits = fits; under = under } in
    let trace = trace_chain newest base sessions place history agreed is stood in
    let last = stood_after newest base place lines stood trace in
    let low = after_base base (ancestry_at newest place.lib) in
    let told : reverse (after_base base (ancestry_at newest (place_of place lines).lib)) ≡ reverse low ++ told_final lines =
    ap reverse (trace_told newest base place lines trace) ∙ reverse-append (reverse (told_final lines)) low ∙ ap (λ l. reverse low ++ l) (reverse-reverse (told_final lines)) in
    let prefix = prefix_from_suffix _ _ (finals_suffix newest history base (place_of place lines).end (place_of place lines).lib last.fits last.under) in
    record {
      follow = trace_follow newest base place lines trace;
      fold = trace_fold newest base place lines trace;
      finals = subst (λ (l : List Slip). IsPrefix l (reverse (after_base base (final_ancestry newest)))) told prefix;
      kept = trace_kept newest base (reverse low) place lines trace refl;
    }
