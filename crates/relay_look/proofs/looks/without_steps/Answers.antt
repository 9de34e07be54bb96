use Rattle.relay_look.proofs.looks.without_steps.Goals as goal

pub returns-else-is_final_by-clause-given : goal.returns-else-is_final_by-clause-given
returns-else-is_final_by-clause-given c = λ r. c.idle.ensures.given c.args.db.now.history r
