-- What a node's text brings to a relay: what is told of the relay then, the lines, and whether the reader is over.
use Rattle.std.specs.Prelude.{ℕ, Bool, true, false, List, [], ◌∷◌, ◌++◌, length, drop, if◌then◌else◌, Option, None, Some, Result, Ok, Err}
use Rattle.block_record.specs.declared.blocks.Kind.{Kind}
use Rattle.block_record.specs.declared.blocks.Slip.{Slip}
use Rattle.block_intake.specs.declared.answers.Offered.{Offered}
use Rattle.block_intake.specs.declared.answers.OfferFault.TheVariants as fault
use Rattle.block_reader.specs.declared.faults.TakeFault.{TakeFault}
use Rattle.block_reader.specs.declared.faults.TakeFault.TheVariants.{Offer, Store}
use Rattle.block_relay.specs.Chronicle.{Told, world_told, greeted, may_greet}
use Rattle.block_relay.specs.declared.answers.KindFault.TheVariants.{KindClash}
use Rattle.fire_lines.specs.declared.faults.LineFault.{LineFault}
use Rattle.fire_lines.specs.Text.{received}
use Rattle.one_block.specs.declared.faults.StoreFault.{StoreFault}
use Rattle.one_block.specs.declared.faults.StoreFault.TheVariants as store
use Rattle.relay_model.specs.Chronicles.{added}
use Rattle.relay_model.specs.Offers.{Answer, Closed, Duplicate, Conflict, Early, Stale, WaitFull, Waiting, HistoryFull, Admitted, offered}
use Rattle.replay_text.specs.Lines.{answer_lines, bad_line, kind_fault_line}

-- what is told of the relay, the lines, and whether the reader is over
pub record Brought : Type 0 where
  pub told : Told
  pub lines : List ℕ
  pub over : Bool

abbrev pub brought : Told → List ℕ → Bool → Brought
brought t lines over = record { told = t; lines = lines; over = over }

-- what is told of a relay after an offer
unfoldable pub told_after : Told → Slip → Told
told_after t s = record {
  entries = added (world_told t) s ++ t.entries;
  conflicts = (offered (world_told t) s).world.conflicts;
}

-- whether an answer refuses the block, so that its reader is over
abbrev pub refuses : Answer → Bool
refuses (Closed len) = true
refuses Duplicate = false
refuses (Conflict c) = true
refuses Early = false
refuses Stale = false
refuses (WaitFull blocks bytes) = true
refuses Waiting = false
refuses (HistoryFull len need) = true
refuses (Admitted from count dropped) = false

-- whether an offer is refused
unfoldable pub is_refused : Told → Slip → Bool
is_refused t s = refuses (offered (world_told t) s).answer

-- the lines of what an offer is answered
unfoldable pub slip_lines : List ℕ → Told → Slip → List ℕ
slip_lines name t s = answer_lines name s.num s.id (offered (world_told t) s).answer

-- more is brought after these lines
abbrev pub after_lines : List ℕ → Brought → Brought
after_lines lines b = brought b.told (lines ++ b.lines) b.over

-- what blocks bring one after another, up to the first that is refused
abbrev pub feed_slips : List ℕ → Told → List Slip → Brought
feed_slips name t [] = brought t [] false
feed_slips name t (s ∷ slips) =
    if is_refused t s then brought (told_after t s) (slip_lines name t s) true
    else after_lines (slip_lines name t s) (feed_slips name (told_after t s) slips)

-- what is told of a relay after nodes of a kind said so
unfoldable pub told_greeted : Kind → Told → Told
told_greeted k t = record { entries = greeted (world_told t).kind k t.entries; conflicts = t.conflicts }

-- whether nodes of a kind may feed a relay
unfoldable pub greets : Kind → Told → Bool
greets k t = may_greet (world_told t).kind k

-- the line of a node whose blocks have another type than those of a kept kind
abbrev pub kind_clash_line : List ℕ → Option Kind → Kind → List ℕ
kind_clash_line name None k = []
kind_clash_line name (Some held) k = kind_fault_line name (KindClash held.block_type k.block_type)

-- the line of a node that may not feed a relay
unfoldable pub clash_line : List ℕ → Kind → Told → List ℕ
clash_line name k t = kind_clash_line name (world_told t).kind k

-- what blocks of a run bring: the relay is told its kind first. Where none is known there is no block
abbrev pub feed_kind : List ℕ → Told → Option Kind → List Slip → Brought
feed_kind name t None slips = brought t [] false
feed_kind name t (Some k) slips =
    if greets k t then feed_slips name (told_greeted k t) slips else brought t (clash_line name k t) true

-- the line of a bad line, after what stands before it, unless the reader is over there
abbrev pub with_bad_line : List ℕ → Option LineFault → Brought → Brought
with_bad_line name None b = b
with_bad_line name (Some f) b = if b.over then b else brought b.told (b.lines ++ bad_line name f) true

-- the slips of the blocks that a text gives with a further piece, beyond those that it gives without
unfoldable pub further : ℕ → List ℕ → List ℕ → List Slip
further max text piece = drop (length (received max text).slips) (received max (text ++ piece)).slips

-- what a piece of a run brings after this text of it, to a reader that is not over
abbrev pub fed_by : List ℕ → ℕ → List ℕ → List ℕ → Told → Brought
fed_by name max text piece t =
    with_bad_line name (received max (text ++ piece)).fault (feed_kind name t (received max (text ++ piece)).kind (further max text piece))

-- whether the answer to a block ends its reader; a refusal of the shelf, and want of memory, end more than that
abbrev pub ends_reader : Result Offered TakeFault → Result Bool StoreFault
ends_reader (Ok o) = Ok false
ends_reader (Err (Offer (fault.Closed len))) = Ok true
ends_reader (Err (Offer (fault.Conflict c))) = Ok true
ends_reader (Err (Offer (fault.HistoryFull len need))) = Ok true
ends_reader (Err (Offer (fault.WaitFull blocks bytes))) = Ok true
ends_reader (Err (Offer fault.Mem)) = Err store.Mem
ends_reader (Err (Store store.ShelfFault)) = Err store.ShelfFault
ends_reader (Err (Store (store.ShelfBad name at))) = Err (store.ShelfBad name at)
ends_reader (Err (Store (store.Missing name))) = Err (store.Missing name)
ends_reader (Err (Store (store.StoredOther kept read))) = Err (store.StoredOther kept read)
ends_reader (Err (Store (store.NameClash held other))) = Ok true
ends_reader (Err (Store store.Mem)) = Err store.Mem
