-- Of two tests, one is enough.
use Rattle.std.proofs.Common.{arith, ◌≡◌, Bool, true, refl, ◌||◌}

pub or_left : (a b : Bool) → a ≡ true → (a || b) ≡ true
or_left a b h = rw h refl

pub or_right : (a b : Bool) → b ≡ true → (a || b) ≡ true
or_right a b h = grind (arith, h)
