-- Small tables: what the definitions give.
use Rattle.std.specs.Prelude.{ℕ, ◌≡◌, true, List, [], ◌∷◌, Option, None, Some}
use Rattle.block_record.specs.declared.blocks.Slip.{Slip}
use Rattle.block_record.specs.declared.blocks.BlockRef.{BlockRef}
use Rattle.chain_model.specs.declared.places.Step.{Step}
use Rattle.chain_model.specs.declared.places.Step.TheVariants as step
use Rattle.chain_model.specs.declared.places.Mode.TheVariants as mode
use Rattle.chain_model.specs.declared.places.Place.{Place}
use Rattle.relay_model.specs.declared.answers.ConflictKind.TheVariants as kind
use Rattle.step_cursor.specs.declared.cursor.Cursor.{Cursor}
use Rattle.step_cursor.specs.declared.cursor.Request.{Request}
use Rattle.step_cursor.specs.declared.cursor.MisfitField.TheVariants as field
use Rattle.relay_model.specs.Worlds.{World, Limits}
use Rattle.relay_model.specs.Offers.{Answer, Closed, Duplicate, Conflict, Early, Stale, WaitFull, Waiting, HistoryFull, Admitted, offered, conflict, plain_kind}
use Rattle.relay_model.specs.Looks.{Batch, NotYet, Done, Closing, Unknown, Misfit, StopBelow, Start, At, looked}
use Rattle.relay_model.specs.Orders.{linked_order, once}
use Rattle.relay_model.specs.Runs.{empty_world}
use Rattle.relay_model.specs.Chronicles.{world_of, added}
use Rattle.block_record.specs.declared.blocks.Version.TheVariants as version
use Rattle.relay_model.specs.Chronicles as entry

-- an id of a letter and a number
abbrev pub id : ℕ → ℕ → List ℕ
id letter n = letter ∷ n ∷ []

-- the block NUM/letter(parent, lib), whose parent has the number before where none is said
abbrev pub block : ℕ → List ℕ → ℕ → List ℕ → ℕ → Slip
block num own parent_num parent lib = record {
  num = num;
  id = own;
  parent_num = parent_num;
  parent_id = parent;
  lib_num = lib;
  time = 0;
  length = 1;
  digest = 1 ∷ [];
}

-- limits that no table reaches
abbrev pub wide : Limits
wide = record { history = 100; wait_blocks = 100; wait_bytes = 100 }

-- limits of two blocks, and of one that waits
abbrev pub narrow : Limits
narrow = record { history = 2; wait_blocks = 1; wait_bytes = 100 }

-- a limit of three blocks
abbrev pub three : Limits
three = record { history = 3; wait_blocks = 9; wait_bytes = 9 }

-- the answers to offers, one after another
abbrev pub answers_to : World → List Slip → List Answer
answers_to w [] = []
answers_to w (s ∷ rest) = (offered w s).answer ∷ answers_to (offered w s).world rest

-- the world after them
abbrev pub after : World → List Slip → World
after w [] = w
after w (s ∷ rest) = after (offered w s).world rest

-- a relay that takes blocks from 0 on, in the run 700
abbrev pub start_world : World
start_world = empty_world 0 700 wide

-- 1/a1(a0, 0)
abbrev pub a1 : Slip
a1 = block 1 (id 97 1) 0 (id 97 0) 0

-- 2/b2(a1, 1)
abbrev pub b2 : Slip
b2 = block 2 (id 98 2) 1 (id 97 1) 1

-- 3/b3(b2, 1)
abbrev pub b3 : Slip
b3 = block 3 (id 98 3) 2 (id 98 2) 1

-- 4/b4(b3, 1)
abbrev pub b4 : Slip
b4 = block 4 (id 98 4) 3 (id 98 3) 1

-- 5/b5(b4, 3)
abbrev pub b5 : Slip
b5 = block 5 (id 98 5) 4 (id 98 4) 3

-- 2/c2(a1, 2), which claims itself
abbrev pub c2 : Slip
c2 = block 2 (id 99 2) 1 (id 97 1) 2

-- 3/c3(b2, 2)
abbrev pub c3 : Slip
c3 = block 3 (id 99 3) 2 (id 98 2) 2

-- 3/c3(b2, 1)
abbrev pub c3_first : Slip
c3_first = block 3 (id 99 3) 2 (id 98 2) 1

-- 5/e5(b2, 4), whose parent has the number 2
abbrev pub e5 : Slip
e5 = block 5 (id 101 5) 2 (id 98 2) 4

-- b2 with another payload
abbrev pub other_b2 : Slip
other_b2 = record b2 { digest = 2 ∷ [] }

-- 3/x3(b2, 3)
abbrev pub x3 : Slip
x3 = block 3 (id 120 3) 2 (id 98 2) 3

-- 3/y3(b2, 3)
abbrev pub y3 : Slip
y3 = block 3 (id 121 3) 2 (id 98 2) 3

-- a1, b2, c3
abbrev pub one_branch : World
one_branch = after start_world (a1 ∷ b2 ∷ c3 ∷ [])

-- a1, b2, b3, b4, and c2 beside b2, which is the final tip
abbrev pub two_branches : World
two_branches = after start_world (a1 ∷ b2 ∷ b3 ∷ b4 ∷ c2 ∷ [])

-- 3/q3(q2, 1)
abbrev pub q3 : Slip
q3 = block 3 (id 113 3) 2 (id 113 2) 1

-- 2/q2(q1, 1)
abbrev pub q2 : Slip
q2 = block 2 (id 113 2) 1 (id 113 1) 1

-- 4/x4(x3, 1)
abbrev pub x4 : Slip
x4 = block 4 (id 120 4) 3 (id 120 3) 1

-- 5/p5(b4, 1), which names 3 as the number of its parent
abbrev pub p5 : Slip
p5 = block 5 (id 112 5) 3 (id 98 4) 1

-- 5/y5(y4, 1)
abbrev pub y5 : Slip
y5 = block 5 (id 121 5) 4 (id 121 4) 1

-- 4/z4(b2, 1), which names 1 as the number of its parent
abbrev pub z4 : Slip
z4 = block 4 (id 122 4) 1 (id 98 2) 1

-- 9/z9(y3, 1)
abbrev pub z9 : Slip
z9 = block 9 (id 122 9) 3 (id 121 3) 1

-- one of two blocks of which each has the id of the other's parent
abbrev pub circle_x : Slip
circle_x = block 5 (id 120 5) 4 (id 121 5) 1

-- the other
abbrev pub circle_y : Slip
circle_y = block 5 (id 121 5) 4 (id 120 5) 1

-- 3/w3(b2, 3)
abbrev pub w3 : Slip
w3 = block 3 (id 119 3) 2 (id 98 2) 3

-- 1/f1(a1, 0), which names 0 as the number of its parent
abbrev pub f1 : Slip
f1 = block 1 (id 102 1) 0 (id 97 1) 0

-- what offers are answered
pub record OfferTable : Type 0 where
  -- a branch that is final first, then a block on the ruled-out branch
  pub finality : answers_to two_branches (b5 ∷ []) ≡ Conflict (conflict kind.Finality c2 b5) ∷ []
  -- the parent by id has another number than the block names
  pub parent : answers_to two_branches (p5 ∷ []) ≡ Conflict (conflict kind.Parent b4 p5) ∷ []
  pub repeated : answers_to (after start_world (a1 ∷ b2 ∷ [])) (b2 ∷ other_b2 ∷ []) ≡ Duplicate ∷ Conflict (conflict kind.Id b2 other_b2) ∷ []
  pub waits : answers_to start_world (a1 ∷ c3_first ∷ b2 ∷ []) ≡ Admitted 0 1 [] ∷ Waiting ∷ Admitted 1 2 [] ∷ []
  pub waited : (after start_world (a1 ∷ c3_first ∷ b2 ∷ [])).history ≡ c3_first ∷ b2 ∷ a1 ∷ []
  pub skipped : answers_to start_world (a1 ∷ b2 ∷ e5 ∷ []) ≡ Admitted 0 1 [] ∷ Admitted 1 1 [] ∷ Admitted 2 1 [] ∷ []
  pub room : answers_to (record start_world { limits = narrow }) (a1 ∷ x4 ∷ y5 ∷ []) ≡ Admitted 0 1 [] ∷ Waiting ∷ WaitFull 1 1 ∷ []
  pub full : answers_to (record start_world { limits = narrow }) (a1 ∷ b2 ∷ c3 ∷ []) ≡ Admitted 0 1 [] ∷ Admitted 1 1 [] ∷ HistoryFull 2 1 ∷ []
  pub early : answers_to (record start_world { first = 2 }) (a1 ∷ b2 ∷ c3 ∷ []) ≡ Early ∷ Admitted 0 1 [] ∷ Admitted 1 1 [] ∷ []
  pub drops : answers_to start_world (a1 ∷ x3 ∷ y3 ∷ b2 ∷ []) ≡ Admitted 0 1 [] ∷ Waiting ∷ Waiting ∷ Admitted 1 2 (conflict kind.Finality x3 y3 ∷ []) ∷ []
  pub above : answers_to two_branches (q3 ∷ q2 ∷ []) ≡ Waiting ∷ Stale ∷ []
  -- ids that go in a circle wait
  pub cycle : answers_to two_branches (circle_x ∷ circle_y ∷ []) ≡ Waiting ∷ Waiting ∷ []
  -- a block that would be dropped counts
  pub over : answers_to (record start_world { limits = three }) (a1 ∷ c3_first ∷ z4 ∷ b2 ∷ []) ≡ Admitted 0 1 [] ∷ Waiting ∷ Waiting ∷ HistoryFull 1 3 ∷ []
  -- one that waits for another block does not
  pub others : answers_to (record start_world { limits = three }) (a1 ∷ x4 ∷ b2 ∷ c3_first ∷ b3 ∷ [])
      ≡ Admitted 0 1 [] ∷ Waiting ∷ Admitted 1 1 [] ∷ Admitted 2 1 [] ∷ HistoryFull 3 1 ∷ []
  -- a block whose waiting parent was dropped stays
  pub stays : (after start_world (a1 ∷ x3 ∷ y3 ∷ z9 ∷ b2 ∷ [])).waiting ≡ z9 ∷ []
  pub shut : answers_to (record one_branch { closed = true }) (b5 ∷ []) ≡ Closed 3 ∷ []
  -- a limit of bytes that the waiting block just meets
  pub bytes : answers_to (record start_world { limits = record { history = 9; wait_blocks = 2; wait_bytes = 1 } }) (a1 ∷ x4 ∷ y5 ∷ []) ≡ Admitted 0 1 [] ∷ Waiting ∷ WaitFull 1 1 ∷ []
  -- in the order of dropping
  pub drops_two : answers_to start_world (a1 ∷ x3 ∷ y3 ∷ w3 ∷ b2 ∷ []) ≡ Admitted 0 1 [] ∷ Waiting ∷ Waiting ∷ Waiting ∷ Admitted 1 2 (conflict kind.Finality x3 y3 ∷ conflict kind.Finality x3 w3 ∷ []) ∷ []
  -- a root brings the plain kind, and the entry of it
  pub root_kind : (after start_world (a1 ∷ [])).kind ≡ Some (record { version = version.V3; block_type = 45 ∷ [] })
  -- a child of the root with the number of the root
  pub beside_root : answers_to start_world (a1 ∷ f1 ∷ []) ≡ Admitted 0 1 [] ∷ Stale ∷ []
  pub entries : added start_world a1 ≡ entry.Admitted a1 ∷ entry.Kind (record { version = version.V3; block_type = 45 ∷ [] }) ∷ []

-- a block by number and id
abbrev pub ref : Slip → BlockRef
ref s = record { num = s.num; id = s.id }

-- the place of an end and a lib
abbrev pub at : Slip → Slip → Place
at end lib = record { end = Some (ref end); lib = Some (ref lib) }

-- a request with a stop and a cursor
abbrev pub asks : Option ℕ → Option Cursor → Request
asks stop cursor = record { start = 0; stop = stop; mode = mode.Live; cursor = cursor }

-- a cursor without a tail
abbrev pub cursor : Step → BlockRef → BlockRef → BlockRef → Option Cursor
cursor kind own end lib = Some (record { step = kind; block = own; place = record { end = Some end; lib = Some lib }; tail = None })

-- a cursor of this run, of new b4, from a history of so many blocks
abbrev pub tailed : ℕ → Option Cursor
tailed seen = Some (record { step = step.New; block = ref b4; place = at b4 a1; tail = Some (record { run = 700; seen = seen }) })

-- a block that is not known
abbrev pub zz : BlockRef
zz = record { num = 9; id = id 122 122 }

-- what looks are answered
pub record LookTable : Type 0 where
  pub unknown : looked one_branch (asks None (cursor step.New zz zz (ref a1))) Start ≡ Unknown (id 122 122)
  pub unknown_block : looked one_branch (asks None (cursor step.New (ref b4) (ref b4) (ref c2))) Start ≡ Unknown (id 98 4)
  pub lib : looked two_branches (asks None (cursor step.New (ref b4) (ref b4) (ref c2))) Start ≡ Misfit field.Lib
  pub shape : looked two_branches (asks None (cursor step.New (ref b4) (ref b3) (ref a1))) Start ≡ Misfit field.Step
  pub block_number : looked two_branches (asks None (cursor step.New (record { num = 5; id = b4.id }) (ref b4) (ref a1))) Start ≡ Misfit field.Block
  pub end_number : looked two_branches (asks None (cursor step.New (ref b4) (record { num = 5; id = b4.id }) (ref a1))) Start ≡ Misfit field.End
  -- an undo ends at the parent
  pub undo : looked two_branches (asks None (cursor step.Undo (ref b4) (ref b3) (ref a1))) Start ≡ Batch 5 (at b3 a1)
  pub undo_apart : looked two_branches (asks None (cursor step.Undo (ref b4) (ref b2) (ref a1))) Start ≡ Misfit field.Step
  -- more was seen of this run than there is
  pub ahead : looked two_branches (asks None (tailed 6)) Start ≡ NotYet 5
  pub ahead_closed : looked (record two_branches { closed = true }) (asks None (tailed 6)) Start ≡ Misfit field.Seen
  pub seen : looked two_branches (asks None (tailed 5)) Start ≡ Batch 5 (at b4 a1)
  pub goes_on : looked two_branches (asks None (cursor step.New (ref b4) (ref b4) (ref a1))) Start ≡ Batch 5 (at b4 a1)
  pub stop_below : looked one_branch (asks (Some 1) (cursor step.New (ref c3) (ref c3) (ref a1))) Start ≡ StopBelow 3
  pub opens : looked one_branch (asks (Some 2) None) Start ≡ Batch 3 (record { end = None; lib = None })
  pub done : looked one_branch (asks (Some 2) None) (At (at b2 b2)) ≡ Done 3
  pub idle : looked one_branch (asks None None) (At (at c3 b2)) ≡ NotYet 3
  pub closing : looked (record one_branch { closed = true }) (asks None None) (At (at c3 b2)) ≡ Closing 3
  pub empty : looked start_world (asks None None) Start ≡ NotYet 0
  pub empty_closed : looked (record start_world { closed = true }) (asks None None) Start ≡ Closing 0
  pub unknown_end : looked one_branch (asks None (cursor step.New (ref a1) zz (record { num = 8; id = id 121 121 }))) Start ≡ Unknown (id 122 122)
  -- of two fields that are wrong the first is told
  pub block_before_end : looked two_branches (asks None (cursor step.New (record { num = 5; id = b4.id }) (record { num = 5; id = b4.id }) (ref a1))) Start ≡ Misfit field.Block
  pub end_before_lib : looked two_branches (asks None (cursor step.New (ref b4) (record { num = 5; id = b4.id }) (ref c2))) Start ≡ Misfit field.End
  pub lib_before_step : looked two_branches (asks None (cursor step.New (ref b4) (ref b3) (ref c2))) Start ≡ Misfit field.Lib
  pub step_before_seen : looked (record two_branches { closed = true }) (asks None (Some (record { step = step.New; block = ref b4; place = at b3 a1; tail = Some (record { run = 700; seen = 6 }) }))) Start ≡ Misfit field.Step

-- orders from scratch, and worlds of chronicles; what comes last is first
pub record OrderTable : Type 0 where
  pub waits : linked_order 0 (b2 ∷ c3_first ∷ a1 ∷ []) ≡ c3_first ∷ b2 ∷ a1 ∷ []
  pub first : linked_order 2 (c3 ∷ b2 ∷ a1 ∷ []) ≡ c3 ∷ b2 ∷ []
  pub alone : linked_order 0 (e5 ∷ x4 ∷ b2 ∷ a1 ∷ []) ≡ e5 ∷ b2 ∷ a1 ∷ []
  pub by_number : linked_order 0 (b2 ∷ b3 ∷ x3 ∷ b4 ∷ a1 ∷ []) ≡ b4 ∷ b3 ∷ x3 ∷ b2 ∷ a1 ∷ []
  -- the parent by id has another number than p5 names, so p5 has no link time
  pub numbers : linked_order 0 (p5 ∷ b4 ∷ b3 ∷ b2 ∷ a1 ∷ []) ≡ b4 ∷ b3 ∷ b2 ∷ a1 ∷ []
  pub repeats : linked_order 0 (once (b2 ∷ b3 ∷ b2 ∷ a1 ∷ [])) ≡ b3 ∷ b2 ∷ a1 ∷ []
  pub branches : linked_order 0 (c2 ∷ b4 ∷ b3 ∷ b2 ∷ a1 ∷ []) ≡ two_branches.history
  -- of two blocks that waited, one was admitted
  pub waits_on : (world_of (entry.Admitted c3_first ∷ entry.Admitted b2 ∷ entry.Waited c3_first ∷ entry.Waited x4 ∷ entry.Admitted a1 ∷ [])).waiting ≡ x4 ∷ []
  -- one whose number the final tip has reached waits no more
  pub waits_above : (world_of (entry.Admitted c3 ∷ entry.Admitted b2 ∷ entry.Waited q3 ∷ entry.Waited q2 ∷ entry.Admitted a1 ∷ [])).waiting ≡ q3 ∷ []
  -- each entry is told of once, and the size of the opening is kept
  pub opened : world_of (entry.Closed ∷ entry.Stored 0 ∷ entry.Admitted a1 ∷ entry.Kind plain_kind ∷ entry.Opened 1 700 narrow 50 ∷ [])
      ≡ record (empty_world 1 700 narrow) { size = 50; kind = Some plain_kind; history = a1 ∷ []; stored = 0 ∷ []; closed = true }
