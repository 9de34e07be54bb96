-- A plant whose relay or clients have changed is steady still.
use Rattle.std.proofs.Common.{◌∙◌, List, [], ◌∷◌, Option}
use Rattle.outer_world.specs.Files.{Files}
use Rattle.block_relay.specs.Chronicle.{Told, world_told}
use Rattle.bundle_merger.specs.Merging.{IsMerged}
use Rattle.bundle_merger.specs.declared.merging.Merged.{Merged}
use Rattle.own_laws.specs.Laws.{MergesStay}
use Rattle.relay_model.specs.Worlds.{World}
use Rattle.relay_session.specs.Growing.{HasGrown}
use Rattle.script_clients.specs.Laws.{ServedStay}
use Rattle.script_clients.specs.Serving.{AllServed}
use Rattle.script_clients.specs.declared.named.Named.{Named}
use Rattle.plant_core.specs.declared.readers.Reader.{Reader}
use Rattle.plant_core.specs.Moments.{AllOwn, IsSteady, PlantState}

-- the relay has grown
pub steady_relay : ServedStay → (p : PlantState) (t : Told) → HasGrown (world_told p.told) (world_told t) → IsSteady p → IsSteady (record p { told = t })
steady_relay law p t g s = record {
  run_is = g.run_is ∙ s.run_is;
  served = law p.told t p.clients g s.served;
  readers = s.readers;
  apart = s.apart;
}

-- other clients are served
pub steady_clients : (p : PlantState) (clients : List Named) → AllServed p.told clients → IsSteady p → IsSteady (record p { clients = clients })
steady_clients p clients served s = record { run_is = s.run_is; served = served; readers = s.readers; apart = s.apart }

-- a merge leaves the own files of all readers
pub own_merged : MergesStay → (w v : World) (old new : Option Files) (merged : Merged) (readers : List Reader) → IsMerged w v old new merged → AllOwn old readers → AllOwn new readers
own_merged law w v old new merged [] m h = tt
own_merged law w v old new merged (r ∷ readers) m h = (law w v old new merged r.own m h.0, own_merged law w v old new merged readers m h.1)
