-- A relay that serves the clients of a replay.
use Rattle.std.specs.Prelude.{List, Option, None, Some}
use Rattle.std.specs.List.{AllByRecursion}
use Rattle.block_relay.specs.Chronicle.{Told}
use Rattle.client_stream.specs.Sessions.{State}
use Rattle.relay_session.specs.Growing.{IsInService}
use Rattle.script_clients.specs.declared.named.Named.{Named}

-- a relay serves a client, unless its request was refused
abbrev pub ServesIfAny : Told → Option State → Type 0
ServesIfAny t None = Unit {0}
ServesIfAny t (Some s) = IsInService t s

-- a relay serves all clients
abbrev pub AllServed : Told → List Named → Type 0
AllServed t clients = AllByRecursion (λ c. ServesIfAny t c.client) clients
