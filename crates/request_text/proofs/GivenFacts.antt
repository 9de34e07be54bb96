-- Parts that are given or not.
use Rattle.std.proofs.Common.{◌≡◌, ℕ, Bool, true, false, not, List, Option, None, Some, refl, sym, ap}
use Rattle.std.specs.Borrow.{Bor}
use Rattle.std.specs.Option.{is_some, is_none, option_map}

pub none_is : {T : Type 0} (o : Option T) (b : Bool) → is_some o ≡ not b → b ≡ is_none o
none_is o true e = sym (ap not e)
none_is o false e = sym (ap not e)

pub none_seen : (o : Option (Bor (List ℕ))) → is_none o ≡ is_none (option_map (λ t. t.now) o)
none_seen None = refl
none_seen (Some t) = refl
