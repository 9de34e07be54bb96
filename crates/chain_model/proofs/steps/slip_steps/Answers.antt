use Rattle.chain_model.proofs.steps.slip_steps.Goals as goal

pub returns : goal.returns
returns c =
    rw (c.as_slice.ensures.value, c.as_slice-2.ensures.value, c.as_slice-3.ensures.value, c.in_ok-finals.ensures, c.in_ok-held.ensures, c.in_ok-wanted.ensures)
    at c.in_ok-steps.ensures
