-- What a link costs a counter.
use Rattle.std.specs.Prelude.{◌≤◌}
use Rattle.std.proofs.Common.{lit≤}

-- a link that is counted costs one at most
pub one_is_cheap : 1 ≤ 1
one_is_cheap = lit≤ tt

-- and so does one that is not
pub none_is_cheap : 0 ≤ 1
none_is_cheap = lit≤ tt
