use Rattle.block_tree.proofs.public.PlaceFacts.{path_of_id}
use Rattle.fork_db.proofs.batches.find_ref.Goals as goal

pub returns-in-Some : goal.returns-in-Some
returns-in-Some c = rw c.in-Some.is (path_of_id _ _ _ c.find.ensures)
