-- How many blocks wait with each number.
use Rattle.std.specs.Prelude.{ℕ, Bool, List, length, filter, Option, None, Some}
use Rattle.std.specs.BTreeMap.{BTreeMap, get}
use Rattle.std.specs.Ordering.{is_eq, nat_cmp}
use Rattle.block_record.specs.declared.blocks.Slip.{Slip}

-- a count, and 0 where there is none
abbrev pub count_or_zero : Option ℕ → ℕ
count_or_zero None = 0
count_or_zero (Some n) = n

-- how many blocks are counted with the number
abbrev pub number_at : BTreeMap ℕ ℕ → ℕ → ℕ
number_at numbers num = count_or_zero (get nat_cmp numbers num)

-- whether two numbers are one
abbrev pub same_num : ℕ → ℕ → Bool
same_num a b = is_eq (nat_cmp a b)

-- how many blocks wait with the number
abbrev pub numbered_in : List Slip → ℕ → ℕ
numbered_in waiting num = length (filter (λ s. same_num s.num num) waiting)
