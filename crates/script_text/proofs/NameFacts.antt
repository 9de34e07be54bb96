-- A name's new role, written at its place.
use Rattle.std.proofs.Common.{◌≡◌, ℕ, zero, suc, List, [], ◌∷◌, get_or, refl, ap}
use Rattle.std.proofs.Math.ListN.{set}
use Rattle.script_text.specs.declared.names.Used.{Used}
use Rattle.script_text.specs.declared.names.Role.{Role}
use Rattle.script_text.specs.Names.{turned}

-- the name stays, and the role is this one
pub set_role : (used : List Used) (place : ℕ) (r : Role) (d : Used) → set used place (record { name = (get_or used place d).name; role = r }) ≡ turned place r used
set_role [] place r d = refl
set_role (u ∷ used) zero r d = refl
set_role (u ∷ used) (suc place) r d = ap (λ (l : List Used). u ∷ l) (set_role used place r d)
