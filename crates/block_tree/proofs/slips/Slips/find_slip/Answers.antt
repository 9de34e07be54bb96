use Rattle.std.proofs.Common.{sym, ◌∙◌}
use Rattle.block_tree.proofs.public.PlaceFacts.{find_none, place_range, find_some}
use Rattle.block_tree.proofs.slips.Slips.find_slip.Goals as goal

pub slip-requires : goal.slip-requires
slip-requires c = place_range _ _ _ (sym c.find.ensures ∙ c.in-Some.is)

pub returns-in-Some : goal.returns-in-Some
returns-in-Some c = find_some _ _ _ _ (sym c.find.ensures ∙ c.in-Some.is) c.slip.ensures

pub returns-in-None : goal.returns-in-None
returns-in-None c = sym (find_none _ _ (sym c.find.ensures ∙ c.in-None.is))
