-- What is done once all blocks of a shelf were taken.
use Rattle.std.specs.Prelude.{ℕ, ◌≡◌, ◌+◌, Bool, true, false, not, ◌&&◌, ◌||◌, nat_lt, List, [], ◌∷◌, if◌then◌else◌, None, Some, Result, Ok, Err, ⊤}
use Rattle.std.specs.List.{list_any}
use Rattle.block_record.specs.declared.blocks.Slip.{Slip}
use Rattle.block_record.specs.Slips.{same_slip}
use Rattle.relay_model.specs.declared.answers.Conflict.{Conflict as Clash}
use Rattle.relay_model.specs.Worlds.{World}
use Rattle.relay_model.specs.Offers.{Answer, HistoryFull, offered, tip_num}
use Rattle.block_relay.specs.Held.{holds_block}
use Rattle.one_block.specs.declared.faults.StoreFault.TheVariants as store
use Rattle.shelf_check.specs.declared.faults.LoadFault.{LoadFault}
use Rattle.shelf_check.specs.declared.faults.LoadFault.TheVariants as fault
use Rattle.store_model.specs.Loads.{Round, first_full, if_full, is_wait_full}
use Rattle.shelf_load.specs.Asides.{Put}
use Rattle.shelf_load.specs.Taking.{SaidRefused}

-- whether a block that was put by is offered in the last round
abbrev pub is_again : World → Put → Bool
is_again w p = nat_lt (tip_num w.history) p.slip.num && p.kept

-- the round after a block was offered
abbrev pub offer_round : Round → Slip → Round
offer_round r s = record { world = (offered r.world s).world; full = first_full r.full (offered r.world s).answer; over = is_wait_full (offered r.world s).answer }

-- a block that was put by is offered where its payload is kept, its number is above the tip's and the round is not over
abbrev pub put_one : Round → Put → Round
put_one r p = if not r.over && is_again r.world p then offer_round r p.slip else r

-- the blocks that were put by, one after another; the last is first
abbrev pub put_all : Round → List Put → Round
put_all r [] = r
put_all r (p ∷ earlier) = put_one (put_all r earlier) p

-- the round as it begins
abbrev pub round_at : World → Round
round_at w = record { world = w; full = None; over = false }

-- what is made of an answer: whether the waiting room is full
pub record SaysFull (said : Answer) (full : Bool) : Type 0 where
  pub full_is : full ≡ is_wait_full said
  pub room : if_full said ≡ None

abbrev pub FullAnswers : Answer → Bool → Result Bool LoadFault → Type 0
FullAnswers said mem (Ok full) = (mem ≡ false) × SaysFull said full
FullAnswers said mem (Err refused) = SaidRefused said refused

-- a block was offered again, unless it is too low or its payload is not kept
abbrev pub AgainAnswers : World → Put → World → Result Bool LoadFault → Type 0
AgainAnswers old p new (Ok over) = put_one (round_at old) p ≡ record { world = new; full = None; over = over }
AgainAnswers old p new (Err refused) = (is_again old p ≡ true) × SaidRefused (offered old p.slip).answer refused

-- the history is full for a block of the round, or there was no memory
abbrev pub RoundRefused : World → List Put → LoadFault → Type 0
RoundRefused old puts (fault.Store store.ShelfFault) = ⊥
RoundRefused old puts (fault.Store (store.ShelfBad name at)) = ⊥
RoundRefused old puts (fault.Store (store.Missing name)) = ⊥
RoundRefused old puts (fault.Store (store.StoredOther kept read)) = ⊥
RoundRefused old puts (fault.Store (store.NameClash held other)) = ⊥
RoundRefused old puts (fault.Store store.Mem) = ⊤
RoundRefused old puts (fault.KindClash held other) = ⊥
RoundRefused old puts (fault.HistoryFull len need) = (put_all (round_at old) puts).full ≡ Some (HistoryFull len need)

-- the last round ended, and the history was not full
pub record IsRounded (old : World) (puts : List Put) (new : World) : Type 0 where
  pub world : (put_all (round_at old) puts).world ≡ new
  pub room : (put_all (round_at old) puts).full ≡ None

abbrev pub RoundAnswers : World → List Put → World → Result Unit LoadFault → Type 0
RoundAnswers old puts new (Ok u) = IsRounded old puts new
RoundAnswers old puts new (Err refused) = RoundRefused old puts refused

-- whether a conflict has this offered block
abbrev pub is_noted : List Clash → Slip → Bool
is_noted conflicts s = list_any (λ c. same_slip c.offered s) conflicts

-- a block that is neither held nor noted counts for one
abbrev pub lost_by : World → Slip → ℕ
lost_by w s = if holds_block w s || is_noted w.conflicts s then 0 else 1

-- how many of the blocks that were put by are neither held nor noted
abbrev pub lost_count : World → List Put → ℕ
lost_count w [] = 0
lost_count w (p ∷ puts) = lost_by w p.slip + lost_count w puts
