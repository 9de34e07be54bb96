-- The lines of a replay, each with an LF at its end.
use Rattle.std.specs.Prelude.{ℕ, List, [], ◌∷◌, ◌++◌, codes, Result, Ok, Err}
use Rattle.std.specs.Fmt.{decimal}
use Rattle.std.specs.List.{flat_map}
use Rattle.fire_lines.specs.declared.faults.LineFault.{LineFault}
use Rattle.relay_model.specs.declared.answers.Conflict.{Conflict as Clash}
use Rattle.relay_model.specs.Offers.{Answer, Closed, Duplicate, Conflict, Early, Stale, WaitFull, Waiting, HistoryFull, Admitted}
use Rattle.one_block.specs.declared.faults.StoreFault.{StoreFault}
use Rattle.one_block.specs.declared.faults.StoreFault.TheVariants as store
use Rattle.block_intake.specs.declared.answers.Offered.{Offered}
use Rattle.block_intake.specs.declared.answers.Offered.TheVariants as answer
use Rattle.block_intake.specs.declared.answers.OfferFault.{OfferFault}
use Rattle.block_intake.specs.declared.answers.OfferFault.TheVariants as fault
use Rattle.block_relay.specs.declared.answers.KindFault.{KindFault}
use Rattle.block_relay.specs.declared.answers.KindFault.TheVariants as kinds
use Rattle.block_reader.specs.declared.faults.TakeFault.{TakeFault}
use Rattle.block_reader.specs.declared.faults.TakeFault.TheVariants as take
use Rattle.bundle_merger.specs.declared.merging.Merged.{Merged}
use Rattle.shelf_check.specs.declared.faults.LoadFault.{LoadFault}
use Rattle.shelf_check.specs.declared.faults.LoadFault.TheVariants as load
use Rattle.shelf_load.specs.declared.loads.Loaded.{Loaded}
use Rattle.steps_command.specs.ErrorLines.{kind_word}
use Rattle.replay_text.specs.Texts.{line_of, bad_line_parts, conflict_parts, history_full_parts, wait_full_parts, kind_clash_parts, name_clash_parts, closed_parts}

-- what a shelf gave the relay
abbrev pub loaded_line : Loaded → List ℕ
loaded_line l =
    line_of (codes "load " ∷ decimal l.admitted ∷ codes " " ∷ decimal l.waiting ∷ codes " " ∷ decimal l.passed ∷ codes " " ∷ decimal l.conflicts ∷ [])

-- why a shelf was not loaded; a refusal of the shelf itself has no line
abbrev pub load_fault_line : LoadFault → List ℕ
load_fault_line (load.Store f) = []
load_fault_line (load.KindClash held offered) = line_of (codes "load fault " ∷ kind_clash_parts held offered)
load_fault_line (load.HistoryFull len need) = line_of (codes "load fault " ∷ history_full_parts len need)

-- a refusal of a reader
abbrev pub refused_line : List ℕ → List (List ℕ) → List ℕ
refused_line r parts = line_of (r ∷ codes " fault " ∷ parts)

-- a block of a reader, with what became of it
abbrev pub block_line : List ℕ → List ℕ → ℕ → List ℕ → List ℕ
block_line r word num id = line_of (r ∷ word ∷ decimal num ∷ codes " " ∷ id ∷ [])

-- so many blocks that came into the history, from this place on
abbrev pub admitted_line : List ℕ → ℕ → ℕ → List ℕ
admitted_line r from count = line_of (r ∷ codes " admitted " ∷ decimal from ∷ codes " " ∷ decimal count ∷ [])

-- a waiting block that was dropped
abbrev pub dropped_line : List ℕ → Clash → List ℕ
dropped_line r c =
    line_of (
    r ∷ codes " dropped " ∷ kind_word c.kind ∷ codes " " ∷ decimal c.held.num ∷ codes " " ∷ c.held.id
    ∷ codes " " ∷ decimal c.offered.num ∷ codes " " ∷ c.offered.id ∷ []
    )

-- the waiting blocks that were dropped, in their order
abbrev pub dropped_lines : List ℕ → List Clash → List ℕ
dropped_lines r dropped = flat_map (dropped_line r) dropped

-- the lines of an answer to a block of a reader
abbrev pub answer_lines : List ℕ → ℕ → List ℕ → Answer → List ℕ
answer_lines r num id (Admitted from count dropped) = admitted_line r from count ++ dropped_lines r dropped
answer_lines r num id Duplicate = block_line r (codes " duplicate ") num id
answer_lines r num id Waiting = block_line r (codes " waiting ") num id
answer_lines r num id Early = block_line r (codes " early ") num id
answer_lines r num id Stale = block_line r (codes " stale ") num id
answer_lines r num id (Closed len) = refused_line r (closed_parts len)
answer_lines r num id (Conflict c) = refused_line r (conflict_parts c)
answer_lines r num id (HistoryFull len need) = refused_line r (history_full_parts len need)
answer_lines r num id (WaitFull blocks bytes) = refused_line r (wait_full_parts blocks bytes)

-- the lines of what became of an offered block
abbrev pub offered_lines : List ℕ → ℕ → List ℕ → Offered → List ℕ
offered_lines r num id (answer.Admitted from count dropped) = answer_lines r num id (Admitted from count dropped.items)
offered_lines r num id answer.Duplicate = answer_lines r num id Duplicate
offered_lines r num id answer.Waiting = answer_lines r num id Waiting
offered_lines r num id answer.Early = answer_lines r num id Early
offered_lines r num id answer.Stale = answer_lines r num id Stale

-- the line of a refused offer; want of memory has none
abbrev pub offer_fault_line : List ℕ → OfferFault → List ℕ
offer_fault_line r (fault.Closed len) = refused_line r (closed_parts len)
offer_fault_line r (fault.Conflict c) = refused_line r (conflict_parts c)
offer_fault_line r (fault.HistoryFull len need) = refused_line r (history_full_parts len need)
offer_fault_line r (fault.WaitFull blocks bytes) = refused_line r (wait_full_parts blocks bytes)
offer_fault_line r fault.Mem = []

-- the line of a file that was not put; a refusal of the shelf itself, and want of memory, have none
abbrev pub store_fault_line : List ℕ → StoreFault → List ℕ
store_fault_line r store.ShelfFault = []
store_fault_line r (store.ShelfBad name at) = []
store_fault_line r (store.Missing name) = []
store_fault_line r (store.StoredOther kept read) = []
store_fault_line r (store.NameClash held offered) = refused_line r (name_clash_parts held offered)
store_fault_line r store.Mem = []

-- the lines of what an offer is answered
abbrev pub offer_lines : List ℕ → ℕ → List ℕ → Result Offered OfferFault → List ℕ
offer_lines r num id (Ok offered) = offered_lines r num id offered
offer_lines r num id (Err f) = offer_fault_line r f

-- the lines of what a block of a reader is answered
abbrev pub taken_lines : List ℕ → ℕ → List ℕ → Result Offered TakeFault → List ℕ
taken_lines r num id (Ok offered) = offer_lines r num id (Ok offered)
taken_lines r num id (Err (take.Offer f)) = offer_lines r num id (Err f)
taken_lines r num id (Err (take.Store f)) = store_fault_line r f

-- a bad line of a reader's node
abbrev pub bad_line : List ℕ → LineFault → List ℕ
bad_line r f = refused_line r (bad_line_parts f)

-- a reader whose node has another type of blocks; want of memory has no line
abbrev pub kind_fault_line : List ℕ → KindFault → List ℕ
kind_fault_line r (kinds.KindClash held offered) = refused_line r (kind_clash_parts held offered)
kind_fault_line r kinds.Mem = []

-- a reader, or a client, that is over
abbrev pub over_line : List ℕ → List ℕ
over_line name = line_of (name ∷ codes " over" ∷ [])

-- a client for which a history of so many blocks has nothing yet
abbrev pub not_yet_line : List ℕ → ℕ → List ℕ
not_yet_line c len = line_of (c ∷ codes " notyet " ∷ decimal len ∷ [])

-- what a merge did
abbrev pub merged_line : Merged → List ℕ
merged_line m = line_of (codes "merge " ∷ decimal m.bundles ∷ codes " " ∷ decimal m.stored ∷ [])
