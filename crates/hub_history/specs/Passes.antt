-- What a clause says of a cell and of its passes.
use Rattle.std.specs.Prelude.{◌≡◌, ℕ, ◌+◌, ◌^◌, Bool, true, false, List, ◌∷◌}
use Rattle.atomic_table.specs.Seated.{TableId}
use Rattle.hub_history.specs.declared.chronicle.Chronicle.{Ghosts}
use Rattle.hub_history.specs.declared.cell.HubCell.{HubCell}
use Rattle.hub_history.specs.declared.cell.Pass.{Pass}

-- a cell's identity as numbers, for a trait that does not know of cells
abbrev pub numbers_of : TableId → List ℕ
numbers_of z = z.words ∷ z.slots ∷ z.views_name ∷ z.atom ∷ z.block ∷ z.offset ∷ z.slot_names

-- which cell it is
abbrev pub id_of : {T E : Type 0} → HubCell T E → TableId
id_of cell = cell.table.shared.table_id

module _ {T E : Type 0} {g : Ghosts T E} where
  -- the list that the pass has seen
  abbrev pub seen_of : Pass T E g → List E
  seen_of pass = pass.seat.me.0.seen

  -- the pass is the one that may have marked entries added
  abbrev pub leads_of : Pass T E g → Bool
  leads_of pass = pass.seat.me.0.leads

  -- the pass knows that all tickets were drawn
  abbrev pub is_over : Pass T E g → Bool
  is_over pass = pass.seat.me.0.over

  -- how many tickets the pass drew, and the passes that it took in: one for each turn that was had
  abbrev pub drawn_of : Pass T E g → ℕ
  drawn_of pass = pass.seat.me.0.drawn

  -- no other pass of the cell was made
  abbrev pub is_sole : Pass T E g → Bool
  is_sole pass = pass.seat.me.0.sole

  -- it is a pass of this cell
  abbrev pub IsPassOf : HubCell T E → Pass T E g → Type 0
  IsPassOf cell pass = pass.seat.table_id ≡ cell.table.shared.table_id

  -- which cell it is a pass of
  abbrev pub cell_of : Pass T E g → TableId
  cell_of pass = pass.seat.table_id

-- the first pass of a cell
pub record IsFirst {T E : Type 0} {g : Ghosts T E} (pass : Pass T E g) : Type 0 where
  pub leads : leads_of pass ≡ true
  pub over : is_over pass ≡ false
  pub drawn : drawn_of pass ≡ 0
  pub sole : is_sole pass ≡ true

-- the pass drew one ticket
pub record DrewOne {T E : Type 0} {g : Ghosts T E} (old new : Pass T E g) : Type 0 where
  pub over : is_over new ≡ false
  pub drawn : drawn_of new ≡ drawn_of old + 1
  pub sole : is_sole new ≡ is_sole old

-- the pass found all tickets drawn: it knows that from then on, and else what it knew. Where it is sole, it drew them all
pub record FoundAllDrawn {T E : Type 0} {g : Ghosts T E} (old new : Pass T E g) : Type 0 where
  pub seen : seen_of new ≡ seen_of old
  pub leads : leads_of new ≡ leads_of old
  pub over : is_over new ≡ true
  pub drawn : drawn_of new ≡ drawn_of old
  pub sole : is_sole new ≡ is_sole old
  pub all : is_sole old ≡ true → drawn_of old ≡ 2 ^ 62

-- the pass knows what it knew
pub record IsUnchanged {T E : Type 0} {g : Ghosts T E} (old new : Pass T E g) : Type 0 where
  pub seen : seen_of new ≡ seen_of old
  pub leads : leads_of new ≡ leads_of old
  pub over : is_over new ≡ is_over old
  pub drawn : drawn_of new ≡ drawn_of old

-- a new pass knows what another one does, drew no ticket, and does not lead
pub record IsCopy {T E : Type 0} {g : Ghosts T E} (pass copy : Pass T E g) : Type 0 where
  pub seen : seen_of copy ≡ seen_of pass
  pub leads : leads_of copy ≡ false
  pub over : is_over copy ≡ is_over pass
  pub drawn : drawn_of copy ≡ 0
  pub sole : is_sole copy ≡ false
