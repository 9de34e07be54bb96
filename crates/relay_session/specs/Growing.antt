-- A relay that goes on to serve a client as its history grows.
use Rattle.std.specs.Prelude.{◌≡◌, ◌++◌, List, [], None, Some}
use Rattle.block_record.specs.declared.blocks.Slip.{Slip}
use Rattle.block_record.specs.declared.blocks.Kind.{Kind}
use Rattle.relay_model.specs.Worlds.{World}
use Rattle.block_relay.specs.Chronicle.{Told, world_told}
use Rattle.client_stream.specs.Sessions.{State}
use Rattle.relay_session.specs.Serving.{IsServed}

-- a world has become another: the history has grown, the run is the same, and a kind that was kept is kept
pub record HasGrown (w v : World) : Type 0 where
  pub more : List Slip
  pub history : v.history ≡ more ++ w.history
  pub run_is : v.run ≡ w.run
  pub kind : (k : Kind) → w.kind ≡ Some k → v.kind ≡ Some k

-- a relay serves a client, which had no batch where the relay has no kind
pub record IsInService (t : Told) (s : State) : Type 0 where
  pub served : IsServed t s
  pub bare : (world_told t).kind ≡ None → s.progress.lens ≡ []
