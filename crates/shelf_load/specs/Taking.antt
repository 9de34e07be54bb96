-- What is kept while a shelf is loaded, and what each block that is taken does to it.
use Rattle.std.specs.Prelude.{ℕ, ◌≡◌, ◌+◌, IsTrue, Bool, false, nat_lt, List, [], ◌∷◌, if◌then◌else◌, None, Result, Ok, Err, ⊤}
use Rattle.block_record.specs.declared.blocks.Slip.{Slip}
use Rattle.chain_model.specs.Ancestry.{find_id}
use Rattle.dbin_file.specs.Contents.{told}
use Rattle.relay_model.specs.Worlds.{World}
use Rattle.relay_model.specs.Offers.{Answer, Closed, Duplicate, Conflict, Early, Stale, WaitFull, Waiting, HistoryFull, Admitted, offered, tip_num}
use Rattle.block_relay.specs.Held.{is_very}
use Rattle.bundle_model.specs.Shedding.{place_in, stored_at}
use Rattle.one_block.specs.declared.faults.StoreFault.TheVariants as store
use Rattle.shelf_check.specs.declared.faults.LoadFault.{LoadFault}
use Rattle.shelf_check.specs.declared.faults.LoadFault.TheVariants as fault
use Rattle.store_model.specs.Loads.{is_offered, if_full}
use Rattle.shelf_load.specs.Asides.{Aside, put}
use Rattle.shelf_load.specs.declared.put_by.Origin.{Origin}
use Rattle.shelf_load.specs.declared.put_by.Origin.TheVariants.{OwnFile, StoredFile}

-- the world and what is kept beside it
pub record Stage : Type 0 where
  pub world : World
  pub aside : Aside

-- a block that was taken, and where it was read
pub record Taken : Type 0 where
  pub slip : Slip
  pub origin : Origin

-- how many an answer counts as too early or too late
abbrev pub passed_by : Answer → ℕ
passed_by (Closed len) = 0
passed_by Duplicate = 0
passed_by (Conflict c) = 0
passed_by Early = 1
passed_by Stale = 1
passed_by (WaitFull blocks bytes) = 0
passed_by Waiting = 0
passed_by (HistoryFull len need) = 0
passed_by (Admitted from count dropped) = 0

-- after a block was offered
abbrev pub after_offer : Stage → Slip → Stage
after_offer g s = record {
  world = (offered g.world s).world;
  aside = record g.aside { passed = told (g.aside.passed + passed_by (offered g.world s).answer) };
}

-- after a block was put by: its payload is kept where its number is above the final tip's
abbrev pub after_put_by : Stage → Slip → Stage
after_put_by g s = record { world = g.world; aside = record g.aside { put_by = put s (nat_lt (tip_num g.world.history) s.num) ∷ g.aside.put_by } }

-- after a block was offered, where the history is empty or has its parent, or put by
abbrev pub after_block : Stage → Slip → Stage
after_block g s = if is_offered g.world.history s then after_offer g s else after_put_by g s

-- whether a block is in a history
abbrev pub is_in_history : List Slip → Slip → Bool
is_in_history newest s = is_very (find_id newest s.id) s

-- the blocks that were not in the history, with one more where it is not
abbrev pub with_late : Bool → Slip → List Slip → List Slip
with_late there s late = if there then late else s ∷ late

-- a block of a stored file counts as stored, where it is in the history
abbrev pub marked : Stage → Slip → Stage
marked g s = record {
  world = record g.world { stored = stored_at g.world.stored (place_in g.world.history s) };
  aside = record g.aside { late = with_late (is_in_history g.world.history s) s g.aside.late };
}

-- after a block was taken
abbrev pub marked_by : Origin → Stage → Slip → Stage
marked_by OwnFile g s = g
marked_by StoredFile g s = marked g s

abbrev pub take_one : Stage → Taken → Stage
take_one g t = marked_by t.origin (after_block g t.slip) t.slip

-- after blocks were taken one after another; the last is first
abbrev pub take_all : Stage → List Taken → Stage
take_all g [] = g
take_all g (t ∷ earlier) = take_one (take_all g earlier) t

-- a stage of these
abbrev pub stage : World → Aside → Stage
stage w a = record { world = w; aside = a }

-- a block, and where it was read
abbrev pub taken : Slip → Origin → Taken
taken s origin = record { slip = s; origin = origin }

-- why what was said to an offer is a refusal of loading: the history is full, or there was no memory
abbrev pub SaidRefused : Answer → LoadFault → Type 0
SaidRefused said (fault.Store store.ShelfFault) = ⊥
SaidRefused said (fault.Store (store.ShelfBad name at)) = ⊥
SaidRefused said (fault.Store (store.Missing name)) = ⊥
SaidRefused said (fault.Store (store.StoredOther kept read)) = ⊥
SaidRefused said (fault.Store (store.NameClash held other)) = ⊥
SaidRefused said (fault.Store store.Mem) = ⊤
SaidRefused said (fault.KindClash held other) = ⊥
SaidRefused said (fault.HistoryFull len need) = said ≡ HistoryFull len need

-- what was said to an offer goes on, and counts so many as too early or too late
pub record GoesOn (said : Answer) (passed : ℕ) : Type 0 where
  pub counted : passed ≡ passed_by said
  pub room : if_full said ≡ None

-- what is made of an answer to an offer
abbrev pub CountAnswers : Answer → Bool → Result ℕ LoadFault → Type 0
CountAnswers said mem (Ok passed) = (mem ≡ false) × GoesOn said passed
CountAnswers said mem (Err refused) = SaidRefused said refused

-- a block was offered
pub record IsOffered (old new : World) (s : Slip) (passed : ℕ) : Type 0 where
  pub world : new ≡ (offered old s).world
  pub goes_on : GoesOn (offered old s).answer passed

abbrev pub OfferAnswers : World → World → Slip → Result ℕ LoadFault → Type 0
OfferAnswers old new s (Ok passed) = IsOffered old new s passed
OfferAnswers old new s (Err refused) = SaidRefused (offered old s).answer refused

-- a block was taken: where it was offered, the history was not full
pub record IsTaken (old new : Stage) (t : Taken) : Type 0 where
  pub stage : new ≡ take_one old t
  pub room : IsTrue (is_offered old.world.history t.slip) → if_full (offered old.world t.slip).answer ≡ None

-- why a block was not taken
abbrev pub TakeRefused : Stage → Taken → LoadFault → Type 0
TakeRefused old t (fault.Store store.ShelfFault) = ⊥
TakeRefused old t (fault.Store (store.ShelfBad name at)) = ⊥
TakeRefused old t (fault.Store (store.Missing name)) = ⊥
TakeRefused old t (fault.Store (store.StoredOther kept read)) = ⊥
TakeRefused old t (fault.Store (store.NameClash held other)) = ⊥
TakeRefused old t (fault.Store store.Mem) = ⊤
TakeRefused old t (fault.KindClash held other) = ⊥
TakeRefused old t (fault.HistoryFull len need) = IsTrue (is_offered old.world.history t.slip) × ((offered old.world t.slip).answer ≡ HistoryFull len need)

abbrev pub TakeAnswers : Stage → Stage → Taken → Result Unit LoadFault → Type 0
TakeAnswers old new t (Ok u) = IsTaken old new t
TakeAnswers old new t (Err refused) = TakeRefused old t refused
