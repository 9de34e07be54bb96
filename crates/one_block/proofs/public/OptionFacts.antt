-- Options, taken apart.
use Rattle.std.proofs.Common.{◌≡◌, false, Option, Some, None, refl}
use Rattle.std.specs.Option.{is_some}

pub some_is : {A : Type 0} (x y : A) → (let a : Option A = Some x in a) ≡ Some y → x ≡ y
some_is x y e = cc e

pub none_of : {A : Type 0} (o : Option A) → is_some o ≡ false → o ≡ None
none_of None e = refl
none_of (Some x) e = absurd (cc e)
