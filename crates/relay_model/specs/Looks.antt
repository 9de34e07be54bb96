-- What a look is answered.
use Rattle.std.specs.Prelude.{ℕ, Bool, true, false, not, ◌||◌, ◌&&◌, ◌==◌, nat_le, nat_lt, List, [], ◌∷◌, ◌++◌, length, if◌then◌else◌, Option, None, Some}
use Rattle.std.specs.List.{find}
use Rattle.block_record.specs.declared.blocks.Slip.{Slip}
use Rattle.block_record.specs.declared.blocks.BlockRef.{BlockRef}
use Rattle.chain_model.specs.declared.places.Step.{Step}
use Rattle.chain_model.specs.declared.places.Step.TheVariants as step
use Rattle.chain_model.specs.declared.places.Place.{Place}
use Rattle.chain_model.specs.Ancestry.{find_id, has_id}
use Rattle.chain_model.specs.Finality.{final_ancestry}
use Rattle.chain_model.specs.Steps.{BlockStep, ancestry_at, parent_of, steps_of}
use Rattle.chain_model.specs.Fold.{same_ref}
use Rattle.chain_model.specs.Places.{opening}
use Rattle.step_cursor.specs.declared.cursor.Cursor.{Cursor}
use Rattle.step_cursor.specs.declared.cursor.Tail.{Tail}
use Rattle.step_cursor.specs.declared.cursor.Request.{Request}
use Rattle.step_cursor.specs.declared.cursor.MisfitField.{MisfitField}
use Rattle.step_cursor.specs.declared.cursor.MisfitField.TheVariants as field
use Rattle.relay_model.specs.Worlds.{World}
use Rattle.relay_model.specs.Offers.{tip_num}

-- where a client stands: at its start, or at the place that an earlier batch reached
pub data Position : Type 0 where
  Start : Position
  At : Place → Position

-- the answer to a look; a batch has the steps from its place over the history of its length, and each other length is the history's
pub data Look : Type 0 where
  Batch : ℕ → Place → Look
  NotYet : ℕ → Look
  Done : ℕ → Look
  Closing : ℕ → Look
  Unknown : List ℕ → Look
  Misfit : MisfitField → Look
  StopBelow : ℕ → Look

-- whether the block that was found has the number
abbrev pub has_num : Option Slip → ℕ → Bool
has_num None n = false
has_num (Some s) n = s.num == n

-- whether the block is in the history, with its number
abbrev pub is_held : List Slip → BlockRef → Bool
is_held newest r = has_num (find_id newest r.id) r.num

-- whether a reference is there and is this one
abbrev pub is_ref : BlockRef → Option BlockRef → Bool
is_ref wanted None = false
is_ref wanted (Some r) = same_ref r wanted

-- whether the tail is of this run, and the history had more blocks then
abbrev pub is_ahead : ℕ → List Slip → Option Tail → Bool
is_ahead run newest None = false
is_ahead run newest (Some t) = (t.run == run) && nat_lt (length newest) t.seen

-- the id of a block, where there is one
abbrev pub id_of : Option BlockRef → List (List ℕ)
id_of None = []
id_of (Some r) = r.id ∷ []

-- the first of block, end and lib that is not known
abbrev pub unknown : List Slip → Cursor → Option (List ℕ)
unknown newest c = find (λ id. not (has_id newest id)) (c.block.id ∷ (id_of c.place.end ++ id_of c.place.lib))

-- whether the end is there and known with its number
abbrev pub end_fits : List Slip → Option BlockRef → Bool
end_fits newest None = false
end_fits newest (Some end) = is_held newest end

-- whether the lib is there, known with its number, on the final path and on the path of the end
abbrev pub lib_fits : List Slip → Option BlockRef → Option BlockRef → Bool
lib_fits newest end None = false
lib_fits newest end (Some lib) = is_held newest lib && has_id (final_ancestry newest) lib.id && has_id (ancestry_at newest end) lib.id

-- whether the end is the parent of the block that was found, as that block itself names it
abbrev pub ends_at_parent : Option BlockRef → Option Slip → Bool
ends_at_parent end None = false
ends_at_parent end (Some s) = is_ref (parent_of s) end

-- whether the place may stand after a step of the kind with the block: a new block is the end; the end is the parent of one that was undone; a final block is the lib; one that is new and final is both
abbrev pub shape_holds : List Slip → Step → BlockRef → Place → Bool
shape_holds newest kind block place = elim kind [
  | step.New ↦ is_ref block place.end
  | step.Undo ↦ ends_at_parent place.end (find_id newest block.id)
  | step.Final ↦ is_ref block place.lib
  | step.NewFinal ↦ is_ref block place.end && is_ref block place.lib
]

-- the first field that is wrong
abbrev pub misfit : ℕ → List Slip → Cursor → Option MisfitField
misfit run newest c =
    if not (is_held newest c.block) then Some field.Block
    else if not (end_fits newest c.place.end) then Some field.End
    else if not (lib_fits newest c.place.end c.place.lib) then Some field.Lib
    else if not (shape_holds newest c.step c.block c.place) then Some field.Step
    else if is_ahead run newest c.tail then Some field.Seen
    else None

-- whether the stop is below the number of the end
abbrev pub stops_below : Option ℕ → Option BlockRef → Bool
stops_below (Some stop) (Some end) = nat_lt stop end.num
stops_below stop end = false

-- the number of the end, or 0 where there is none
abbrev pub end_num : Option BlockRef → ℕ
end_num None = 0
end_num (Some r) = r.num

-- whether there is a stop that the final tip has reached
abbrev pub is_final_by : List Slip → Option ℕ → Bool
is_final_by newest None = false
is_final_by newest (Some stop) = nat_le stop (tip_num newest)

-- whether there are no steps
abbrev pub is_none : List BlockStep → Bool
is_none [] = true
is_none (x ∷ xs) = false

-- nothing can be sent: for good where the relay is closed, else for now
abbrev pub look_idle : World → Look
look_idle w = if w.closed then Closing (length w.history) else NotYet (length w.history)

-- the answer from a place that fits; at the start a batch may have no steps
abbrev pub look_from : Bool → World → Request → Place → Look
look_from first w r place =
    if stops_below r.stop place.end then StopBelow (end_num place.end)
    else if first || not (is_none (steps_of w.history place r.mode r.stop)) then Batch (length w.history) place
    else if is_final_by w.history r.stop then Done (length w.history)
    else look_idle w

-- the answer at the start without a cursor
abbrev pub look_open : World → Request → List Slip → Look
look_open w r [] = look_idle w
look_open w r (s ∷ older) = look_from true w r (opening w.history r.start)

-- the answer to a cursor whose blocks are known, by the first of its fields that is wrong
abbrev pub look_fitted : World → Request → Cursor → Option MisfitField → Look
look_fitted w r c (Some f) = Misfit f
look_fitted w r c None = look_from true w r c.place

-- the answer to a cursor, by the first of its blocks that is not known
abbrev pub look_known : World → Request → Cursor → Option (List ℕ) → Look
look_known w r c (Some id) = Unknown id
look_known w r c None = look_fitted w r c (misfit w.run w.history c)

-- the answer to a cursor: one that saw more of this run than there is waits, while the relay is open
abbrev pub look_cursor : World → Request → Cursor → Look
look_cursor w r c = if is_ahead w.run w.history c.tail && not w.closed then NotYet (length w.history) else look_known w r c (unknown w.history c)

-- the answer at the start
abbrev pub look_start : World → Request → Option Cursor → Look
look_start w r None = look_open w r w.history
look_start w r (Some c) = look_cursor w r c

-- the answer to a look
abbrev pub looked : World → Request → Position → Look
looked w r Start = look_start w r r.cursor
looked w r (At place) = look_from false w r place
