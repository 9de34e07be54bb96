use Rattle.std.proofs.Common.{◌∙◌, ap}
use Rattle.chain_laws.specs.Standing.{first_of}
use Rattle.fork_db.proofs.BatchFacts.{first_whole}
use Rattle.fork_db.proofs.batches.path_lengths.Goals as goal

pub returns-clause-end : goal.returns-clause-end
returns-clause-end g c = first_whole _ c.path_len-wanted.ensures.sound _ ∙ ap first_of c.find_ref-end.ensures
