-- The laws of the clients of a replay, as statements.
use Rattle.std.specs.Prelude.{ℕ, ◌≡◌, ◌≢◌, List, [], Option, None, Some}
use Rattle.block_relay.specs.Chronicle.{Told, world_told}
use Rattle.client_stream.specs.Sessions.{State}
use Rattle.relay_session.specs.Growing.{HasGrown}
use Rattle.script_clients.specs.declared.named.Named.{Named}
use Rattle.script_clients.specs.Clients.{client_of, with_client, without_client}
use Rattle.script_clients.specs.Serving.{AllServed}

-- the clients are a map: a name has the client that was put last under it, unless it was removed since
pub record AreMap : Type 0 where
  pub empty : (name : List ℕ) → client_of name [] ≡ None
  pub put : (name : List ℕ) (client : Option State) (clients : List Named) → client_of name (with_client name client clients) ≡ Some client
  pub put_other : (name other : List ℕ) (client : Option State) (clients : List Named) → other ≢ name → client_of other (with_client name client clients) ≡ client_of other clients
  pub removed : (name : List ℕ) (clients : List Named) → client_of name (without_client name clients) ≡ None
  pub removed_other : (name other : List ℕ) (clients : List Named) → other ≢ name → client_of other (without_client name clients) ≡ client_of other clients

-- a relay that serves all clients goes on to as its world grows
abbrev pub ServedStay : Type 0
ServedStay = (t u : Told) (clients : List Named) → HasGrown (world_told t) (world_told u) → AllServed t clients → AllServed u clients
