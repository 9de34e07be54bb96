-- What a step marks as final, and what it takes back.
use Rattle.std.specs.Prelude.{List, [], ◌∷◌}
use Rattle.block_record.specs.declared.blocks.Slip.{Slip}
use Rattle.chain_model.specs.declared.places.Step.TheVariants as step
use Rattle.chain_model.specs.Steps.{BlockStep}

-- the block that a step marks as final
abbrev pub mark : BlockStep → List Slip
mark x = elim x.step [
  | step.New ↦ []
  | step.Undo ↦ []
  | step.Final ↦ x.slip ∷ []
  | step.NewFinal ↦ x.slip ∷ []
]

-- the block that a step takes back
abbrev pub taken_back : BlockStep → List Slip
taken_back x = elim x.step [
  | step.New ↦ []
  | step.Undo ↦ x.slip ∷ []
  | step.Final ↦ []
  | step.NewFinal ↦ []
]
