-- How contracts see borrowed slips and steps.
use Rattle.std.specs.Prelude.{List, map}
use Rattle.std.specs.Borrow.{Bor}
use Rattle.block_record.specs.declared.blocks.Slip.{Slip}
use Rattle.chain_model.specs.Steps.{BlockStep, block_step}
use Rattle.chain_model.specs.declared.steps.SlipStep.{SlipStep}

-- the slips that are borrowed
abbrev pub seen : List (Bor Slip) → List Slip
seen slips = map (λ s. s.now) slips

-- a step with its block
abbrev pub step_seen : SlipStep → BlockStep
step_seen x = block_step x.step x.slip.now

-- steps with their blocks
abbrev pub steps_seen : List SlipStep → List BlockStep
steps_seen steps = map step_seen steps
