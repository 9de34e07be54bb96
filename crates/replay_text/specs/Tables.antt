-- Small tables: what the definitions give.
use Rattle.std.specs.Prelude.{◌≡◌, [], ◌∷◌, codes, Err}
use Rattle.block_record.specs.declared.blocks.Slip.{Slip}
use Rattle.block_reader.specs.declared.faults.TakeFault.TheVariants as take
use Rattle.block_relay.specs.declared.answers.KindFault.TheVariants as kinds
use Rattle.fire_lines.specs.declared.faults.LineFault.TheVariants as bad
use Rattle.one_block.specs.declared.faults.StoreFault.TheVariants as store
use Rattle.relay_model.specs.declared.answers.ConflictKind.TheVariants as kind
use Rattle.relay_model.specs.Offers.{Closed, Duplicate, Conflict, WaitFull, Waiting, HistoryFull, Admitted, conflict}
use Rattle.relay_model.specs.Tables.{block}
use Rattle.shelf_check.specs.declared.faults.LoadFault.TheVariants as load
use Rattle.replay_text.specs.Lines.{answer_lines, bad_line, kind_fault_line, load_fault_line, loaded_line, merged_line, not_yet_line, over_line, taken_lines}
use Rattle.replay_text.specs.Replies.{client_lines}

-- 2/c2(a1, 2)
abbrev pub c2 : Slip
c2 = block 2 (codes "c2") 1 (codes "a1") 2

-- 5/b5(b4, 3)
abbrev pub b5 : Slip
b5 = block 5 (codes "b5") 4 (codes "b4") 3

-- the lines of a reader and a client, of a first block and a merge
pub record ReplayTable : Type 0 where
  pub loaded : loaded_line (record { admitted = 0; waiting = 0; passed = 0; conflicts = 0 }) ≡ codes "load 0 0 0 0\n"
  pub admitted : answer_lines (codes "r") 1 (codes "a1") (Admitted 0 1 []) ≡ codes "r admitted 0 1\n"
  pub duplicate : answer_lines (codes "r") 1 (codes "a1") Duplicate ≡ codes "r duplicate 1 a1\n"
  pub waiting : answer_lines (codes "r") 4 (codes "x4") Waiting ≡ codes "r waiting 4 x4\n"
  pub replies : client_lines (codes "c") (codes "{\"open\":\"test.Block\",\"run\":700,\"end\":null,\"lib\":null}\n{\"head\":{\"num\":1,\"id\":\"a1\"},\"seen\":1}\n")
      ≡ codes "c {\"open\":\"test.Block\",\"run\":700,\"end\":null,\"lib\":null}\nc {\"head\":{\"num\":1,\"id\":\"a1\"},\"seen\":1}\n"
  pub not_yet : not_yet_line (codes "c") 1 ≡ codes "c notyet 1\n"
  pub over : over_line (codes "c") ≡ codes "c over\n"
  pub merged : merged_line (record { bundles = 1; stored = 99 }) ≡ codes "merge 1 99\n"
  -- a text without a line has none, and a line without an LF stays without one
  pub none : client_lines (codes "c") [] ≡ []
  pub tail : client_lines (codes "c") (codes "\nab") ≡ codes "c \nc ab"

-- the lines of refusals
pub record RefusalTable : Type 0 where
  -- a waiting block that is dropped, beside one that is admitted
  pub dropped : answer_lines (codes "r") 2 (codes "c2") (Admitted 1 2 (conflict kind.Finality c2 b5 ∷ [])) ≡ codes "r admitted 1 2\nr dropped finality 2 c2 5 b5\n"
  pub conflicts : answer_lines (codes "r") 5 (codes "b5") (Conflict (conflict kind.Finality c2 b5)) ≡ codes "r fault conflict finality held 2 c2 offered 5 b5\n"
  pub history_full : answer_lines (codes "r") 5 (codes "b5") (HistoryFull 2 1) ≡ codes "r fault history full 2 1\n"
  pub wait_full : answer_lines (codes "r") 5 (codes "y5") (WaitFull 1 1) ≡ codes "r fault wait full 1 1\n"
  pub closed : answer_lines (codes "r") 5 (codes "b5") (Closed 4) ≡ codes "r fault closed 4\n"
  pub name_clash : taken_lines (codes "r") 5 (codes "b5") (Err (take.Store (store.NameClash c2 b5))) ≡ codes "r fault name clash 2 c2 5 b5\n"
  pub kind_clash : kind_fault_line (codes "r") (kinds.KindClash (codes "a") (codes "b")) ≡ codes "r fault kind clash a b\n"
  pub bad_field : bad_line (codes "r") (bad.BadField 2 1) ≡ codes "r fault line 2: bad field 1\n"
  pub no_init : bad_line (codes "r") (bad.NoInit 1) ≡ codes "r fault line 1: no init\n"
  -- a shelf with two types, one that a history has no room for, and one that failed
  pub load_clash : load_fault_line (load.KindClash (codes "a") (codes "b")) ≡ codes "load fault kind clash a b\n"
  pub load_full : load_fault_line (load.HistoryFull 2 1) ≡ codes "load fault history full 2 1\n"
  pub load_failed : load_fault_line (load.Store store.ShelfFault) ≡ []
