-- What loading a shelf gives: the blocks in their order, those that are offered at once, those that are put by, and the last round.
use Rattle.std.specs.Prelude.{ℕ, Bool, true, false, not, ◌&&◌, ◌||◌, ◌==◌, nat_lt, List, [], ◌∷◌, ◌++◌, length, reverse, if◌then◌else◌, Option, None, Some}
use Rattle.std.specs.List.{list_any}
use Rattle.block_record.specs.declared.blocks.Slip.{Slip}
use Rattle.block_record.specs.Slips.{same_slip}
use Rattle.outer_world.specs.Files.{comes_before}
use Rattle.chain_model.specs.Ancestry.{has_id}
use Rattle.relay_model.specs.Worlds.{World}
use Rattle.relay_model.specs.Offers.{Answer, Closed, Duplicate, Conflict, Early, Stale, WaitFull, Waiting, HistoryFull, Admitted, offered, tip_num}
use Rattle.bundle_model.specs.Bundles.{blocks_of}
use Rattle.store_model.specs.Shown.{Single, Shown, slips}

-- whether a file of one block is taken after another: by number, then by the bytes of the whole name
abbrev pub is_after : Single → Single → Bool
is_after a b = nat_lt b.slip.num a.slip.num || ((a.slip.num == b.slip.num) && comes_before b.name a.name)

-- a file in its place among others, of which the last is first
abbrev pub insert : Single → List Single → List Single
insert x [] = x ∷ []
insert x (y ∷ ys) = if is_after x y then x ∷ y ∷ ys else y ∷ insert x ys

-- files in the order in which they are taken, the last first
abbrev pub in_order : List Single → List Single
in_order [] = []
in_order (x ∷ xs) = insert x (in_order xs)

-- all blocks that are taken, the last first: those of merged files by rising base, then those of `one/` and `forked/` together
abbrev pub taken : Shown → List Slip
taken shown = slips (in_order (shown.one ++ shown.forked)) ++ reverse (blocks_of shown.merged)

-- a world while blocks are taken, the blocks that are put by, the last first, and the first answer that the history is full
pub record Loading : Type 0 where
  pub world : World
  pub put_by : List Slip
  pub full : Option Answer

-- the answer itself, where it is that the history is full
abbrev pub if_full : Answer → Option Answer
if_full (Closed len) = None
if_full Duplicate = None
if_full (Conflict c) = None
if_full Early = None
if_full Stale = None
if_full (WaitFull blocks bytes) = None
if_full Waiting = None
if_full (HistoryFull len need) = Some (HistoryFull len need)
if_full (Admitted from count dropped) = None

-- the first answer that the history is full
abbrev pub first_full : Option Answer → Answer → Option Answer
first_full (Some a) b = Some a
first_full None b = if_full b

-- whether a block is offered at once: the history is empty, or has its parent
abbrev pub is_offered : List Slip → Slip → Bool
is_offered [] s = true
is_offered (t ∷ older) s = has_id (t ∷ older) s.parent_id

-- a block is offered
abbrev pub offer_one : Loading → Slip → Loading
offer_one l s = record { world = (offered l.world s).world; put_by = l.put_by; full = first_full l.full (offered l.world s).answer }

-- a block is offered, or put by
abbrev pub load_one : Loading → Slip → Loading
load_one l s = if is_offered l.world.history s then offer_one l s else record { world = l.world; put_by = s ∷ l.put_by; full = l.full }

-- blocks are taken one after another; the last is first
abbrev pub load_all : Loading → List Slip → Loading
load_all l [] = l
load_all l (s ∷ earlier) = load_one (load_all l earlier) s

-- a world in the last round, the first answer that the history is full, and whether the round is over
pub record Round : Type 0 where
  pub world : World
  pub full : Option Answer
  pub over : Bool

-- whether an answer is that the waiting room is full
abbrev pub is_wait_full : Answer → Bool
is_wait_full (Closed len) = false
is_wait_full Duplicate = false
is_wait_full (Conflict c) = false
is_wait_full Early = false
is_wait_full Stale = false
is_wait_full (WaitFull blocks bytes) = true
is_wait_full Waiting = false
is_wait_full (HistoryFull len need) = false
is_wait_full (Admitted from count dropped) = false

-- a block that was put by is offered where its number is above the tip's and the round is not over
abbrev pub round_one : Round → Slip → Round
round_one r s =
    if not r.over && nat_lt (tip_num r.world.history) s.num
    then record { world = (offered r.world s).world; full = first_full r.full (offered r.world s).answer; over = is_wait_full (offered r.world s).answer }
    else r

-- the blocks that were put by, one after another; the last is first
abbrev pub round_all : Round → List Slip → Round
round_all r [] = r
round_all r (s ∷ earlier) = round_one (round_all r earlier) s

-- the places of the blocks that pass a test
abbrev pub places_of : (Slip → Bool) → List Slip → List ℕ
places_of p [] = []
places_of p (s ∷ older) = if p s then length older ∷ places_of p older else places_of p older

-- whether a block counts as stored: it is shown in a merged file or in `forked/`
abbrev pub counts_as_stored : Shown → Slip → Bool
counts_as_stored shown s = list_any (same_slip s) (blocks_of shown.merged ++ slips shown.forked)

-- a relay's world after loading, or the answer that the history was full
pub record Loaded : Type 0 where
  pub world : World
  pub full : Option Answer

-- after all blocks were taken; the bundles are of the shelf's size from then on
abbrev pub loading_of : Shown → World → Loading
loading_of shown w = load_all (record { world = record w { size = shown.size }; put_by = []; full = None }) (taken shown)

-- after the last round
abbrev pub round_of : Shown → World → Round
round_of shown w =
    let l = loading_of shown w in
    round_all (record { world = l.world; full = l.full; over = false }) l.put_by

-- what loading gives a world that is empty
abbrev pub loaded : Shown → World → Loaded
loaded shown w =
    let r = round_of shown w in
    record { world = record r.world { stored = places_of (counts_as_stored shown) r.world.history }; full = r.full }
