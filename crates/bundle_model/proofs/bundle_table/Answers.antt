use Rattle.bundle_model.proofs.TableFacts.{bundles_by_table}
use Rattle.bundle_model.proofs.bundle_table.Goals as goal

pub returns : goal.returns
returns c = bundles_by_table
