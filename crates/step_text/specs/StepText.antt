-- The text of the steps that the blocks of an input bring about.
use Rattle.std.specs.Prelude.{ℕ, List, [], ◌∷◌, ◌++◌, map, Option, None, Some, codes}
use Rattle.std.specs.List.{flat_map}
use Rattle.std.specs.Fmt.{decimal}
use Rattle.block_record.specs.declared.blocks.Slip.{Slip}
use Rattle.chain_model.specs.declared.places.Place.{Place}
use Rattle.chain_model.specs.declared.places.PlainStep.{PlainStep}
use Rattle.chain_model.specs.declared.places.Step.{Step}
use Rattle.chain_model.specs.declared.places.Step.TheVariants as step
use Rattle.chain_model.specs.declared.places.Mode.TheVariants as mode
use Rattle.chain_model.specs.Steps.{BlockStep, steps_of, plain_of}
use Rattle.chain_model.specs.Places.{no_place, place_to}
use Rattle.fire_lines.specs.declared.faults.LineFault.{LineFault}
use Rattle.fire_lines.specs.Text.{received}
use Rattle.relay_model.specs.declared.answers.Conflict.{Conflict as Clash}
use Rattle.relay_model.specs.Worlds.{World}
use Rattle.relay_model.specs.Offers.{Answer, Closed, Duplicate, Conflict, Early, Stale, WaitFull, Waiting, HistoryFull, Admitted, offered}
use Rattle.step_text.specs.declared.refusals.Refusal.{Refusal}
use Rattle.step_text.specs.declared.refusals.Refusal.TheVariants as refused
use Rattle.step_text.specs.Limits.{line_max, new_world}

-- the word of a step
abbrev pub word_of : Step → List ℕ
word_of step.New = codes "new"
word_of step.Undo = codes "undo"
word_of step.Final = codes "final"
word_of step.NewFinal = codes "newfinal"

-- the line of a step: its word, and the number and the id of its block
abbrev pub step_line : PlainStep → List ℕ
step_line p = word_of p.step ++ 32 ∷ decimal p.num ++ 32 ∷ p.id ++ 10 ∷ []

-- the lines of steps
abbrev pub step_lines : List PlainStep → List ℕ
step_lines steps = flat_map step_line steps

-- the first of the conflicts, as a refusal
abbrev pub first_clash : List Clash → Option Refusal
first_clash [] = None
first_clash (c ∷ cs) = Some (refused.Contradicts c)

-- what an answer refuses, if anything: of waiting blocks that were dropped, the first one. Nothing closes the relay of a run
abbrev pub refusal_of : Answer → Option Refusal
refusal_of (Closed len) = None
refusal_of Duplicate = None
refusal_of (Conflict c) = Some (refused.Contradicts c)
refusal_of Early = None
refusal_of Stale = None
refusal_of (WaitFull blocks bytes) = Some (refused.WaitFull blocks bytes)
refusal_of Waiting = None
refusal_of (HistoryFull len need) = Some (refused.HistoryFull len need)
refusal_of (Admitted from count dropped) = first_clash dropped

-- the steps that an answer brings to a client at a place, in the history after it: those to its head, where a block was admitted
abbrev pub steps_by : Answer → List Slip → Place → List BlockStep
steps_by (Closed len) newest place = []
steps_by Duplicate newest place = []
steps_by (Conflict c) newest place = []
steps_by Early newest place = []
steps_by Stale newest place = []
steps_by (WaitFull blocks bytes) newest place = []
steps_by Waiting newest place = []
steps_by (HistoryFull len need) newest place = []
steps_by (Admitted from count dropped) newest place = steps_of newest place mode.Live None

-- where the client then stands
abbrev pub place_by : Answer → List Slip → Place → Place
place_by (Closed len) newest place = place
place_by Duplicate newest place = place
place_by (Conflict c) newest place = place
place_by Early newest place = place
place_by Stale newest place = place
place_by (WaitFull blocks bytes) newest place = place
place_by Waiting newest place = place
place_by (HistoryFull len need) newest place = place
place_by (Admitted from count dropped) newest place = place_to newest place mode.Live None

-- a text, and the refusal that ended it, if one did
pub record Told : Type 0 where
  pub text : List ℕ
  pub refusal : Option Refusal

-- this text, and then what is told after it
abbrev pub prepend : List ℕ → Told → Told
prepend text t = record { text = text ++ t.text; refusal = t.refusal }

-- this text, and then the refusal, or what is told after it where there is none
abbrev pub goes_on : List ℕ → Option Refusal → Told → Told
goes_on text None more = prepend text more
goes_on text (Some r) more = record { text = text; refusal = Some r }

-- what is told of blocks in order, from a world and the place of a client that follows the head: of each the steps that its offer brings, up to the first refusal
abbrev pub tell : List Slip → World → Place → Told
tell [] w place = record { text = []; refusal = None }
tell (s ∷ slips) w place =
    let answer = (offered w s).answer in
    let after = (offered w s).world in
    goes_on (step_lines (map plain_of (steps_by answer after.history place))) (refusal_of answer)
    (tell slips after (place_by answer after.history place))

-- what ended a text: its end, a bad line, or a refusal
pub data Ending : Type 0 where
  whole : Ending
  bad_line : LineFault → Ending
  refusal : Refusal → Ending

-- a refusal comes before a bad line, which stands after the blocks
abbrev pub ending_of : Option Refusal → Option LineFault → Ending
ending_of (Some r) fault = refusal r
ending_of None (Some f) = bad_line f
ending_of None None = whole

-- the text of the steps of an input, and what ended it
pub record StepText : Type 0 where
  pub text : List ℕ
  pub ending : Ending

abbrev pub text_of : Told → Option LineFault → StepText
text_of t fault = record { text = t.text; ending = ending_of t.refusal fault }

-- the step text of an input, for blocks with numbers of at least `first`: of each of its blocks in order, up to the first refusal or bad line
abbrev pub step_text : ℕ → List ℕ → StepText
step_text first input = text_of (tell (received line_max input).slips (new_world first) no_place) (received line_max input).fault
