-- The tables, by computing.
use Rattle.std.proofs.Common.{arith, ◌≡◌, ℕ, List, [], ◌∷◌, ◌++◌, map, codes, refl, sym, ◌∙◌, ap}
use Rattle.std.proofs.lemmas.Fmt.{decimal_digit, decimal_step}
use Rattle.block_record.specs.Ids.{same_id}
use Rattle.chain_model.specs.Steps.{BlockStep, block_step, plain_of}
use Rattle.chain_model.specs.declared.places.Step.TheVariants as step
use Rattle.fire_lines.specs.Text.{next_line}
use Rattle.relay_model.specs.Tables.{a1, b2, b3, c2, c3, c3_first, x3}
use Rattle.step_text.specs.StepText.{step_lines}
use Rattle.step_text.specs.Tables.{RunTable, EndingTable, LineTable, LimitTable, d3}
use Rattle.step_text.proofs.public.RunFacts.{lines-append}

-- the lines of each block's steps, one block after another
abbrev texts : List (List BlockStep) → List BlockStep → List ℕ
texts [] last = step_lines (map plain_of last)
texts (steps ∷ rest) last = step_lines (map plain_of steps) ++ texts rest last

-- the steps of all blocks
abbrev all : List (List BlockStep) → List BlockStep → List BlockStep
all [] last = last
all (steps ∷ rest) last = steps ++ all rest last

-- are the lines of all steps
joined : (parts : List (List BlockStep)) (last : List BlockStep) → texts parts last ≡ step_lines (map plain_of (all parts last))
joined [] last = refl
joined (steps ∷ rest) last = ap (λ l. step_lines (map plain_of steps) ++ l) (joined rest last) ∙ sym (lines-append steps (all rest last))

abbrev root : List BlockStep
root = block_step step.NewFinal a1 ∷ []

pub runs_by_table : RunTable
unfolding same_id
runs_by_table = record {
  waits = record { text = joined (root ∷ [] ∷ (block_step step.New b2 ∷ block_step step.New c3_first ∷ []) ∷ []) []; refusal = refl };
  forks = record {
    text = joined (root ∷ (block_step step.New b2 ∷ []) ∷ (block_step step.New b3 ∷ []) ∷ (block_step step.Undo b3 ∷ block_step step.Undo b2 ∷ block_step step.NewFinal c2 ∷ []) ∷ []) [];
    refusal = refl;
  };
  drops = record { text = joined (root ∷ [] ∷ [] ∷ [] ∷ []) (block_step step.NewFinal b2 ∷ block_step step.NewFinal x3 ∷ []); refusal = refl };
  stale = record { text = joined (root ∷ (block_step step.NewFinal c2 ∷ []) ∷ [] ∷ (block_step step.New d3 ∷ []) ∷ []) []; refusal = refl };
  early = record { text = joined ([] ∷ (block_step step.NewFinal b2 ∷ []) ∷ (block_step step.New c3 ∷ []) ∷ []) []; refusal = refl };
  repeated = record { text = joined (root ∷ (block_step step.New b2 ∷ []) ∷ [] ∷ []) []; refusal = refl };
  room = record { text = joined (root ∷ [] ∷ []) []; refusal = refl };
  full = record { text = joined (root ∷ (block_step step.New b2 ∷ []) ∷ []) []; refusal = refl };
  none = record { text = refl; refusal = refl };
}

pub endings_by_table : EndingTable
unfolding same_id next_line
endings_by_table = record {
  both = refl;
  bad = refl;
  end = refl;
  empty = refl;
  early = refl;
}

pub lines_by_table : LineTable
lines_by_table = record {
  new = ap (λ n. codes "new " ++ n ++ codes " a1" ++ 10 ∷ []) (decimal_digit 1 (omega arith));
  undo = ap (λ n. codes "undo " ++ n ++ codes " b7" ++ 10 ∷ []) (decimal_digit 7 (omega arith));
  final = ap (λ n. codes "final " ++ n ++ codes " g" ++ 10 ∷ []) (decimal_digit 0 (omega arith));
  newfinal = ap (λ n. codes "newfinal " ++ n ++ codes " c12" ++ 10 ∷ []) (decimal_step 12 (omega arith) (omega arith) ∙ ap (λ l. l ++ 50 ∷ []) (decimal_digit 1 (omega arith)));
}

pub limits_by_table : LimitTable
limits_by_table = record {
  line = refl;
  history = refl;
  wait_blocks = refl;
  wait_bytes = refl;
  first = refl;
}
