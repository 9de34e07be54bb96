use Rattle.std.proofs.Common.{ap, sym, ◌∙◌}
use Rattle.std.specs.Option.{option_copied}
use Rattle.relay_model.proofs.public.Sound.{none_found}
use Rattle.history_tests.proofs.rooms.put.Goals as goal

pub put-requires-clause-fresh : goal.put-requires-clause-fresh
put-requires-clause-fresh g c = none_found _ _ (sym c.find.ensures ∙ ap option_copied c.in-None.is)
