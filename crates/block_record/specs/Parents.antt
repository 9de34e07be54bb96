-- Which number a block's parent may have.
use Rattle.std.specs.Prelude.{ℕ, Bool, ◌==◌, ◌||◌, ◌&&◌, nat_lt}

-- whether a parent may have the number p where the block has the number n: it is less, or both are 0
abbrev pub is_parent_num : ℕ → ℕ → Bool
is_parent_num p n = nat_lt p n || (n == 0 && p == 0)
