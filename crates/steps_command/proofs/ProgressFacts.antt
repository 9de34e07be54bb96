-- A run that takes a further piece of its input.
use Rattle.std.proofs.Common.{◌≡◌, ◌++◌, ℕ, List, [], Option, None, Some, MatchOption, Result, Ok, Err, OnErr, refl, sym, ◌∙◌, ap, subst, append_assoc}
use Rattle.std.proofs.lemmas.List.{append-nil}
use mathlib.Core.List.{IsPrefix}
use Rattle.block_record.specs.declared.blocks.Slip.{Slip}
use Rattle.chain_model.specs.declared.places.Place.{Place}
use Rattle.chain_model.specs.Places.{no_place}
use Rattle.relay_model.specs.Worlds.{World}
use Rattle.fire_lines.specs.declared.faults.LineFault.{LineFault}
use Rattle.fire_lines.specs.Reader.{ReaderState}
use Rattle.fire_lines.specs.Text.{received}
use Rattle.fire_lines.specs.Laws.{TextGoesOn}
use Rattle.step_text.specs.declared.refusals.Refusal.{Refusal}
use Rattle.steps_command.specs.declared.progress.RunEnd.{RunEnd}
use Rattle.step_text.specs.Limits.{line_max, new_world}
use Rattle.step_text.specs.StepText.{Told, StepText, refusal, text_of, tell, prepend, step_text}
use Rattle.step_text.specs.Taken.{Tells}
use Rattle.step_text.proofs.public.RunFacts.{prepend_twice}
use Rattle.steps_command.specs.Telling.{IsUnderWay, IsEnded, ReadsPiece, end_for, ending_seen}

-- a fact that holds, at an error
pub at_err : {T E : Type 0} (r : Result T E) {P : Type 0} → P → OnErr r P
at_err (Ok x) h = tt
at_err (Err e) h = h

-- what is told of all blocks of an input
abbrev told_of : ℕ → List ℕ → Told
told_of first input = tell (received line_max input).slips (new_world first) no_place

-- what was told begins the text of every longer input
pub told_first : (law : TextGoesOn) (first : ℕ) (input told piece : List ℕ) (reader : ReaderState) (world : World) (place : Place) → IsUnderWay first input told reader world place
    → IsPrefix told (step_text first (input ++ piece)).text
told_first law first input told piece reader world place u =
    let g = law line_max input piece in
    let all : told_of first (input ++ piece) ≡ prepend told (tell g.more world place) = ap (λ l. tell l (new_world first) no_place) g.further ∙ u.goes_on g.more in
    ((tell g.more world place).text, sym (ap (λ t. t.text) all))

module _ (first : ℕ) (input told piece : List ℕ) (old new : ReaderState) (before after : World) (from to : Place) (blocks : List Slip) (text : List ℕ) where
  -- what is told of the input with the piece and further blocks
  told_with : (fault : Option LineFault) (more : List Slip) → ReadsPiece input piece [] blocks fault new → IsUnderWay first input told old before from
      → tell ((received line_max (input ++ piece)).slips ++ more) (new_world first) no_place ≡ prepend told (tell (blocks ++ more) before from)
  told_with fault more r u =
      let slips : (received line_max (input ++ piece)).slips ≡ (received line_max input).slips ++ blocks = r.further ∙ ap (λ l. (received line_max input).slips ++ l) (sym r.blocks) in
      ap (λ l. tell (l ++ more) (new_world first) no_place) slips ∙ (ap (λ l. tell l (new_world first) no_place) (append_assoc (received line_max input).slips blocks more) ∙ u.goes_on (blocks ++ more))

  -- nothing in the piece ends the run
  goes_on_further : (fault : Option LineFault) (more : List Slip) → ReadsPiece input piece [] blocks fault new → IsUnderWay first input told old before from
      → ((later : List Slip) → Tells (tell (blocks ++ later) before from) later None text after to)
      → tell ((received line_max (input ++ piece)).slips ++ more) (new_world first) no_place ≡ prepend (told ++ text) (tell more after to)
  goes_on_further fault more r u t = told_with fault more r u ∙ (ap (prepend told) (t more) ∙ prepend_twice told text (tell more after to))

  -- a block of the piece is refused
  refused_further : (fault : Option LineFault) (r : Refusal) (more : List Slip) → ReadsPiece input piece [] blocks fault new → IsUnderWay first input told old before from
      → ((later : List Slip) → Tells (tell (blocks ++ later) before from) later (Some r) text after to)
      → tell ((received line_max (input ++ piece)).slips ++ more) (new_world first) no_place ≡ record { text = told ++ text; refusal = Some r }
  refused_further fault r more reads u t = told_with fault more reads u ∙ ap (prepend told) (t more)

  taken : (law : TextGoesOn) (refused : Option Refusal) (fault : Option LineFault) → ReadsPiece input piece [] blocks fault new → IsUnderWay first input told old before from
      → ((later : List Slip) → Tells (tell (blocks ++ later) before from) later refused text after to)
      → MatchOption (end_for refused fault) (IsUnderWay first (input ++ piece) (told ++ text) new after to) (λ e. IsEnded first (input ++ piece) (told ++ text) (ending_seen e))
  taken law None None r u t = record {
    read = r.read;
    sound = r.fault_is;
    goes_on = λ more. goes_on_further None more r u t;
  }
  taken law None (Some f) r u t =
      let slips = (received line_max (input ++ piece)).slips in
      let all : told_of first (input ++ piece) ≡ record { text = (told ++ text) ++ []; refusal = None } =
      ap (λ l. tell l (new_world first) no_place) (sym (append-nil slips)) ∙ goes_on_further (Some f) [] r u t in
      let whole : told_of first (input ++ piece) ≡ record { text = told ++ text; refusal = None } = all ∙ rw (append-nil (told ++ text)) refl in
      record {
        text = ap (λ x. text_of x (received line_max (input ++ piece)).fault) whole ∙ ap (text_of (record { text = told ++ text; refusal = None })) r.fault_is;
        stays = λ rest. ap (λ x. text_of (tell x.slips (new_world first) no_place) x.fault) ((law line_max (input ++ piece) rest).stopped f r.fault_is);
      }
  taken law (Some x) fault r u t =
      let ended : StepText = record { text = told ++ text; ending = refusal x } in
      let so : (longer : List ℕ) (more : List Slip) → (received line_max longer).slips ≡ (received line_max (input ++ piece)).slips ++ more → step_text first longer ≡ ended =
      λ longer more is. ap (λ y. text_of y (received line_max longer).fault) (ap (λ l. tell l (new_world first) no_place) is ∙ refused_further fault x more r u t) in
      let here : step_text first (input ++ piece) ≡ ended = so (input ++ piece) [] (sym (append-nil (received line_max (input ++ piece)).slips)) in
      record {
        text = here;
        stays = λ rest. let g = law line_max (input ++ piece) rest in so ((input ++ piece) ++ rest) g.more g.further ∙ sym here;
      }

-- so it is with what the code has
pub piece_taken : (law : TextGoesOn) (first : ℕ) (input told piece : List ℕ) (old new : ReaderState) (before after : World) (from to : Place) (none blocks : List Slip) (start text : List ℕ)
    (refused : Option Refusal) (fault : Option LineFault) (end : Option RunEnd) → none ≡ [] → start ≡ [] → end ≡ end_for refused fault
    → ReadsPiece input piece none blocks fault new
    → ((later : List Slip) → Tells (prepend start (tell (blocks ++ later) before from)) later refused text after to)
    → IsUnderWay first input told old before from
    → MatchOption end (IsUnderWay first (input ++ piece) (told ++ text) new after to) (λ e. IsEnded first (input ++ piece) (told ++ text) (ending_seen e))
piece_taken law first input told piece old new before after from to none blocks start text refused fault end no_blocks no_text is reads tells u =
    let r : ReadsPiece input piece [] blocks fault new = subst (λ (l : List Slip). ReadsPiece input piece l blocks fault new) no_blocks reads in
    let t : (later : List Slip) → Tells (tell (blocks ++ later) before from) later refused text after to =
    subst (λ (l : List ℕ). (later : List Slip) → Tells (prepend l (tell (blocks ++ later) before from)) later refused text after to) no_text tells in
    subst (λ (e : Option RunEnd). MatchOption e (IsUnderWay first (input ++ piece) (told ++ text) new after to) (λ x. IsEnded first (input ++ piece) (told ++ text) (ending_seen x))) (sym is)
    (taken first input told piece old new before after from to blocks text law refused fault r u t)
