use Rattle.std.proofs.Common.{arith, refl, length}
use Rattle.std.proofs.lemmas.List.{take_all}
use Rattle.chain_model.proofs.public.ScanFacts.{keep_while-all}
use Rattle.chain_model.proofs.steps.count_after.Goals as goal

pub returns-in_default-clause-front : goal.returns-in_default-clause-front
returns-in_default-clause-front c = rw (c.in_default.is, take_all (length c.args.path.now) c.args.path.now (omega arith), keep_while-all) refl
