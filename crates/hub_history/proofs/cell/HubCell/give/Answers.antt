use Rattle.std.proofs.Common.{rules, ap, ◌∙◌, ◌∷◌, Some, ⊎_elim, inl, inr}
use Rattle.atomic_table.specs.Table.{rest}
use Rattle.hub_history.proofs.Keeps.{raises}
use Rattle.hub_history.proofs.cell.HubCell.give.Goals as goal

pub fetch_add-served-requires : goal.fetch_add-served-requires
fetch_add-served-requires g c = let r = c.requires.runs in let now = c.exchange.ensures.3 in (
  search rules,
  search rules,
  raises g.V.Chronicle.entries_of g.V.Chronicle.marked _ _ c.exchange.new.seat.me r.0 c.args.value (ap (λ m. m.0.stage) now ∙ r.1)
      (ap (λ m. m.1) now ∙ ap (λ l. (0, Some c.args.value) ∷ rest l) r.2) r.3 (⊎_elim (λ a. inl (ap (λ m. m.0.leads) now ∙ a)) (λ b. inr b) r.4),
)
