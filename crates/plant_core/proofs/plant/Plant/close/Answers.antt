use Rattle.std.proofs.Common.{sym, subst}
use Rattle.relay_session.proofs.public.Growing.{grown_closed}
use Rattle.plant_core.specs.Moments.{IsSteady}
use Rattle.plant_core.proofs.PlantFacts.{steady_relay}
use Rattle.plant_core.proofs.plant.Plant.close.Goals as goal

pub returns-clause-steady : goal.returns-clause-steady
returns-clause-steady c =
    steady_relay c.served_stay.ensures _ c.close.new.self (grown_closed c.self.inside.relay c.close.new.self c.close.ensures.entries) (subst IsSteady (sym c.self.view_is) c.requires.steady)
