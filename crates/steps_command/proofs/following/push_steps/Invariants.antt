use Rattle.std.proofs.Common.{◌≡◌, ◌++◌, ℕ, List, Option, map, take}
use Rattle.block_record.specs.declared.blocks.Slip.{Slip}
use Rattle.chain_model.specs.declared.places.Mode.{Mode}
use Rattle.chain_model.specs.Steps.{steps_of, plain_of}
use Rattle.step_text.specs.StepText.{step_lines}
use Rattle.fork_db.specs.Batches.{IsGiven}
use Rattle.steps_command.proofs.following.push_steps.Given as goal

abbrev pub invariant-loop-index : goal.invariant-loop-index
invariant-loop-index l =
    (older : List Slip) (m : Mode) (stop : Option ℕ) → IsGiven l.db.history older m stop l.batch
    → l.text.items ≡ l.fn.text.items ++ step_lines (map plain_of (take l.index (steps_of older l.batch.place m stop)))
