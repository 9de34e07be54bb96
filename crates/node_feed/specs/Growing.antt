-- How what is told of a relay grows.
use Rattle.std.specs.Prelude.{◌≡◌, List, ◌++◌, Some, IfSome}
use Rattle.relay_model.specs.Chronicles.{Entry}
use Rattle.relay_model.specs.Worlds.{World}
use Rattle.block_relay.specs.Chronicle.{Told, world_told}

-- what rules a relay stays, and so does its kept kind, where there is one
pub record KeepsRules (old new : World) : Type 0 where
  pub first_is : new.first ≡ old.first
  pub run_is : new.run ≡ old.run
  pub limits_are : new.limits ≡ old.limits
  pub size_is : new.size ≡ old.size
  pub closed_is : new.closed ≡ old.closed
  pub kind_is : IfSome old.kind (λ k. new.kind ≡ Some k)

-- entries came before those that were there
pub record IsGrown (old new : Told) : Type 0 where
  pub more : List Entry
  pub entries_are : new.entries ≡ more ++ old.entries
  pub rules : KeepsRules (world_told old) (world_told new)
