use Rattle.wait_room.proofs.ScanFacts.{slip_at_got}
use Rattle.wait_room.proofs.scans.slip_in.Goals as goal

pub returns : goal.returns
returns c = slip_at_got _ _ c.index-waiters-at.result c.requires
