-- Whole lines that a client reads from the front of a session's text.
use Rattle.std.proofs.Common.{arith, ◌≡◌, ◌≤◌, ◌⊎◌, inl, inr, ◌+◌, ℕ, zero, suc, Bool, true, false, List, [], ◌∷◌, ◌++◌, length, min, take, map, Option, refl, sym, ◌∙◌, ap, subst, add-one}
use Rattle.std.proofs.Math.Seq.{take-length}
use Rattle.std.proofs.lemmas.List.{length-append, length-take, length-map, take-map, take-append-le}
use mathlib.Core.List.{IsPrefix}
use Rattle.block_record.specs.declared.blocks.Slip.{Slip}
use Rattle.chain_model.specs.declared.places.Mode.{Mode}
use Rattle.resume_laws.specs.Sessions.{StepLine, HeadLine, received}
use Rattle.step_cursor.specs.declared.cursor.Request.{Request}
use Rattle.relay_model.specs.Looks.{Start, At}
use Rattle.reply_laws.specs.Laws.{ReadsFront}
use Rattle.session_model.specs.declared.over.SessionOver.TheVariants as over
use Rattle.session_model.specs.Told.{Told, Opens, Steps, Heads, Ends, Fails, told}
use Rattle.session_model.specs.Transcript.{first_place, body}
use Rattle.session_model.specs.Progress.{Stage, Waits, Sends, IsOver}
use Rattle.session_model.specs.Standing.{StandsAt}
use Rattle.session_laws.specs.Laws.{chain_lines_told, ReadIsReceived}
use Rattle.session_laws.proofs.Transcripts.{within_front}
use Rattle.session_laws.proofs.Received.{body_is_received}

-- lines that are those of a chain, cut after one
record IsCut (newest : List Slip) (r : Request) (lens : List ℕ) (lines : List Told) : Type 0 where
  pub cut : ℕ
  pub lines_are : chain_lines_told r.mode r.stop lines ≡ received newest (first_place newest r lens) (record { mode = r.mode; stop = r.stop; lens = lens; cut = cut })

-- the front of a body
front_cut : (newest : List Slip) (run : ℕ) (type : List ℕ) (r : Request) (lens : List ℕ) (m : ℕ) → (lens ≡ [] → ⊥) → IsCut newest r lens (take m (body newest run type r lens))
front_cut newest run type r lens zero some = record { cut = 0; lines_are = refl }
front_cut newest run type r lens (suc k) some = record {
  cut = k;
  lines_are = ap (λ n. chain_lines_told r.mode r.stop (take n (body newest run type r lens))) (sym (add-one k)) ∙ body_is_received newest run type r lens k some;
}

-- an end line is no line of a chain
end_dropped : (m : Mode) (stop : Option ℕ) (xs : List Told) (done : Bool) → chain_lines_told m stop (xs ++ Ends done ∷ []) ≡ chain_lines_told m stop xs
end_dropped m stop [] done = refl
end_dropped m stop (Opens type run place ∷ xs) done = end_dropped m stop xs done
end_dropped m stop (Steps x run seen ∷ xs) done = ap (λ l. StepLine seen x ∷ l) (end_dropped m stop xs done)
end_dropped m stop (Heads head seen ∷ xs) done = ap (λ l. HeadLine m stop seen ∷ l) (end_dropped m stop xs done)
end_dropped m stop (Ends d ∷ xs) done = end_dropped m stop xs done
end_dropped m stop (Fails e ∷ xs) done = end_dropped m stop xs done

-- a front of a front
prefix_cut : (newest : List Slip) (run : ℕ) (type : List ℕ) (r : Request) (lens : List ℕ) (n : ℕ) (lines : List Told) → (lens ≡ [] → ⊥) → n ≤ length lines → IsPrefix lines (body newest run type r lens)
    → IsCut newest r lens (take n lines)
prefix_cut newest run type r lens n lines some within front =
    let same : take n (body newest run type r lens) ≡ take n lines = ap (take n) (sym front.1) ∙ take-append-le n lines front.0 within in
    subst (IsCut newest r lens) same (front_cut newest run type r lens n some)

-- at most so many, or one more
at_most : (n k : ℕ) → n ≤ k + 1 → (n ≤ k) ⊎ (n ≡ k + 1)
at_most n k le = grind (arith, le)

-- a front of a body with an end line
ended_cut : (newest : List Slip) (run : ℕ) (type : List ℕ) (r : Request) (lens : List ℕ) (n : ℕ) (lines : List Told) (done : Bool) → (lens ≡ [] → ⊥) → n ≤ length lines
    → lines ≡ body newest run type r lens ++ Ends done ∷ [] → IsCut newest r lens (take n lines)
ended_cut newest run type r lens n lines done some within is = go (at_most n (length whole) (omega (arith, within, ap length is, length-append whole (Ends done ∷ []))))
  where
    whole : List Told
    whole = body newest run type r lens

    go : (n ≤ length whole) ⊎ (n ≡ length whole + 1) → IsCut newest r lens (take n lines)
    go (inl le) = subst (IsCut newest r lens) (sym (ap (take n) is ∙ take-append-le n whole (Ends done ∷ []) le)) (front_cut newest run type r lens n some)
    go (inr e) =
        let all : take n lines ≡ whole ++ Ends done ∷ [] = ap (λ k. take k lines) (e ∙ sym (length-append whole (Ends done ∷ [])) ∙ sym (ap length is)) ∙ take-length lines ∙ is in
        let cut = front_cut newest run type r lens (length whole) some in
        record {
          cut = cut.cut;
          lines_are = ap (chain_lines_told r.mode r.stop) all ∙ end_dropped r.mode r.stop whole done ∙ ap (chain_lines_told r.mode r.stop) (sym (take-length whole)) ∙ cut.lines_are;
        }

cut_by : (newest : List Slip) (type : List ℕ) (r : Request) (run : ℕ) (lens : List ℕ) (stage : Stage) (lines : List Told) (n : ℕ) → (lens ≡ [] → ⊥) → n ≤ length lines
    → StandsAt newest type r run lens stage lines → IsCut newest r lens (take n lines)
cut_by newest type r run lens (Waits Start) lines n some within h = absurd (some h.lens_are)
cut_by newest type r run lens (Waits (At place)) lines n some within h = subst (λ (l : List Told). IsCut newest r lens (take n l)) (sym h.lines_are) (front_cut newest run type r lens n some)
cut_by newest type r run lens (Sends b) lines n some within h = prefix_cut newest run type r lens n lines some within (within_front newest type r run lens b lines h)
cut_by newest type r run lens (IsOver over.Done) lines n some within h = ended_cut newest run type r lens n lines true some within h.lines_are
cut_by newest type r run lens (IsOver over.Closing) lines n some within h = ended_cut newest run type r lens n lines false some within h.lines_are
cut_by newest type r run lens (IsOver over.Refused) lines n some within h = absurd (some h.lens_are)

pub read_is_received : ReadsFront → ReadIsReceived
read_is_received law newest type p text xs rest h values is some =
    let front : xs ≡ take (length xs) h.replies = law xs h.replies rest values h.values (sym is ∙ h.text_is) in
    let short : length xs ≤ length h.replies = below (length xs) (length h.replies) (ap length front ∙ length-take (length xs) h.replies) in
    let lines : map told xs ≡ take (length xs) (map told h.replies) = ap (map told) front ∙ sym (take-map told (length xs) h.replies) in
    let cut = cut_by newest type p.request p.run_number p.lens p.stage (map told h.replies) (length xs) some (omega (arith, short, length-map h.replies told)) h.stands in
    record { cut = cut.cut; lines = ap (chain_lines_told p.request.mode p.request.stop) lines ∙ cut.lines_are }
  where
    below : (n k : ℕ) → n ≡ min n k → n ≤ k
    below n k e = omega arith
