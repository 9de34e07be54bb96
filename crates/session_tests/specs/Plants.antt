-- A relay that serves a client while blocks come.
use Rattle.std.specs.Prelude.{IsSome}
use Rattle.block_relay.specs.Chronicle.{Told, world_told}
use Rattle.client_stream.specs.Sessions.{State}
use Rattle.relay_session.specs.Serving.{IsServed}

-- a relay that knows its kind serves a client
pub record IsServing (t : Told) (s : State) : Type 0 where
  pub served : IsServed t s
  pub kind : IsSome (world_told t).kind
