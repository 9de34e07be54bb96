use Rattle.std.proofs.Common.{sym, subst}
use Rattle.block_relay.specs.Chronicle.{world_told}
use Rattle.relay_session.proofs.public.Growing.{grown_stored}
use Rattle.plant_core.specs.Moments.{AllOwn, IsSteady, PlantState}
use Rattle.plant_core.proofs.PlantFacts.{own_merged, steady_relay}
use Rattle.plant_core.proofs.plant.Plant.merge.Goals as goal

pub returns-clause-steady : goal.returns-clause-steady
returns-clause-steady g c =
    let stored = c.merge_owned.ensures.entries in
    steady_relay c.served_stay.ensures _ c.merge_owned.new.relay (grown_stored c.self.inside.relay c.merge_owned.new.relay stored.0 stored.1) (subst IsSteady (sym c.self.view_is) c.requires.steady)

pub returns-clause-own : goal.returns-clause-own
returns-clause-own g c =
    own_merged c.merges_stay.ensures (world_told c.self.inside.relay) (world_told c.merge_owned.new.relay) (g.S.Shelf.files c.args.shelf.now) (g.S.Shelf.files c.merge_owned.new.shelf) c.in_ok-merged.merged c.self.inside.readers.items c.in_ok-merged.ensures.merged
    (subst (λ (p : PlantState). AllOwn (g.S.Shelf.files c.args.shelf.now) p.readers) (sym c.self.view_is) c.requires.own)
