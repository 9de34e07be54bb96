-- The order of received blocks from scratch. What was received last is first.
use Rattle.std.specs.Prelude.{ℕ, zero, suc, max, Bool, ◌||◌, ◌&&◌, ◌==◌, nat_le, nat_lt, List, [], ◌∷◌, ◌++◌, length, map, if◌then◌else◌, Option, None, Some}
use Rattle.std.specs.List.{find, list_any}
use Rattle.block_record.specs.declared.blocks.Slip.{Slip}
use Rattle.block_record.specs.Ids.{same_id}
use Rattle.block_record.specs.Slips.{same_slip}

-- repeats left out
abbrev pub once : List Slip → List Slip
once [] = []
once (s ∷ older) = if list_any (same_slip s) older then once older else s ∷ once older

-- the root so far, or the next block where its number is at least the first
abbrev pub root_or : Option Slip → ℕ → Slip → Option Slip
root_or (Some r) first s = Some r
root_or None first s = if nat_le first s.num then Some s else None

-- the root of what was received
abbrev pub root_of : ℕ → List Slip → Option Slip
root_of first [] = None
root_of first (s ∷ older) = root_or (root_of first older) first s

-- where in the list the slip stands, counted from what was received first
abbrev pub position : List Slip → Slip → ℕ
position [] s = 0
position (t ∷ older) s = if same_slip t s then length older else position older s

-- whether p is the parent of s by id and number, with a lower number
abbrev pub is_parent : Slip → Slip → Bool
is_parent s p = same_id p.id s.parent_id && (p.num == s.parent_num) && nat_lt p.num s.num

-- a link time that is not before a position
abbrev pub later : ℕ → Option ℕ → Option ℕ
later at None = None
later at (Some n) = Some (max at n)

-- the link time of a block, where there is one
abbrev pub time_by : (Slip → Option ℕ) → Option Slip → Option ℕ
time_by f None = None
time_by f (Some p) = f p

-- the greatest position of a block on the chain of parents from the block to the root, in at most n links, where the chain leads there
abbrev pub link_time_in : ℕ → List Slip → Slip → Slip → Option ℕ
link_time_in zero received root s = None
link_time_in (suc n) received root s =
    if same_slip s root then Some (position received s)
    else later (position received s) (time_by (link_time_in n received root) (find (is_parent s) received))

-- the link time of a block: its chain has at most as many links as its number, since numbers fall
abbrev pub link_time : List Slip → Slip → Slip → Option ℕ
link_time received root s = link_time_in (suc s.num) received root s

-- a linkable block with its link time and its position
pub record Linked : Type 0 where
  pub slip : Slip
  pub time : ℕ
  pub at : ℕ

-- a block with its link time and its position, where it has a link time
abbrev pub linked_at : List Slip → Slip → Option ℕ → List Linked
linked_at received s None = []
linked_at received s (Some time) = record { slip = s; time = time; at = position received s } ∷ []

-- the linkable ones among the blocks
abbrev pub linkable : List Slip → Slip → List Slip → List Linked
linkable received root [] = []
linkable received root (s ∷ rest) = linked_at received s (link_time received root s) ++ linkable received root rest

-- whether one comes after another: by link time, then number, then position
abbrev pub comes_after : Linked → Linked → Bool
comes_after a b =
    nat_lt b.time a.time || ((a.time == b.time) && (nat_lt b.slip.num a.slip.num || ((a.slip.num == b.slip.num) && nat_lt b.at a.at)))

-- a linkable block in its place among others
abbrev pub put : Linked → List Linked → List Linked
put x [] = x ∷ []
put x (y ∷ ys) = if comes_after x y then x ∷ y ∷ ys else y ∷ put x ys

-- linkable blocks, the last of them first
abbrev pub sorted : List Linked → List Linked
sorted [] = []
sorted (x ∷ xs) = put x (sorted xs)

-- the order from a root, where there is one
abbrev pub order_from : List Slip → Option Slip → List Slip
order_from received None = []
order_from received (Some root) = map (λ x. x.slip) (sorted (linkable received root received))

-- the linkable blocks by link time, then number, then position; the last of them is first
abbrev pub linked_order : ℕ → List Slip → List Slip
linked_order first received = order_from received (root_of first received)
