use Rattle.block_record.specs.SlipRefs.{slip_seen}
use Rattle.block_relay.proofs.StoredFacts.{stored_told}
use Rattle.block_relay.proofs.relay.Relay.store.Goals as goal

pub returns-clause-world : goal.returns-clause-world
returns-clause-world c = stored_told c.args.self.now c.store_held.new.self (slip_seen c.args.slip) c.store_held.ensures.entries c.store_held.ensures.conflicts
