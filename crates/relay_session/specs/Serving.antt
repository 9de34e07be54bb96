-- A relay that serves a client.
use Rattle.std.specs.Prelude.{ℕ, ◌≡◌, ◌++◌, List, IfSome}
use Rattle.block_record.specs.declared.blocks.Slip.{Slip}
use Rattle.block_relay.specs.Chronicle.{Told, world_told}
use Rattle.client_stream.specs.Sessions.{State}
use Rattle.client_stream.specs.Sent.{HasSent}

-- a text is what the client was sent over the relay's history as it was, which has grown since; the client is of the relay's run, and the type is that of the relay's kind, where it has one
pub record Serves (t : Told) (older : List Slip) (type : List ℕ) (s : State) (text : List ℕ) : Type 0 where
  pub sent : HasSent older type s text
  pub more : List Slip
  pub grown : (world_told t).history ≡ more ++ older
  pub run_is : (world_told t).run ≡ s.progress.run_number
  pub type_is : IfSome (world_told t).kind (λ k. k.block_type ≡ type)

-- a relay serves a client
pub record IsServed (t : Told) (s : State) : Type 0 where
  pub older : List Slip
  pub type : List ℕ
  pub text : List ℕ
  pub serves : Serves t older type s text

-- bytes were appended: with them a text of the client goes on to be what it was sent, over the relay's history now
pub record GoesOn (t : Told) (old new : State) (before after : List ℕ) : Type 0 where
  pub added : List ℕ
  pub text_is : after ≡ before ++ added
  pub serves : (older : List Slip) (type text : List ℕ) → Serves t older type old text → Serves t (world_told t).history type new (text ++ added)
