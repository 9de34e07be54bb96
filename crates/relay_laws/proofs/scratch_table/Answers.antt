use Rattle.relay_laws.proofs.TableFacts.{scratch_by_table}
use Rattle.relay_laws.proofs.scratch_table.Goals as goal

pub returns : goal.returns
returns c = scratch_by_table
