use Rattle.store_model.proofs.TableFacts.{shelf_by_table}
use Rattle.store_model.proofs.shelf_table.Goals as goal

pub returns : goal.returns
returns c = shelf_by_table
