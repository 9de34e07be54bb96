-- Objects round another one, of which some calls fail.
use Rattle.std.specs.Prelude.{ℕ, ◌≡◌, ◌+◌, Bool, IsTrue, IsFalse, Result, Err, refl}
use Rattle.std.specs.Coded.{Coded, code_by, coded×}
use Rattle.outer_world.specs.Shelves.{HasShelfCause}
use Rattle.outer_world.specs.declared.shelves.ShelfFail.{ShelfFail}
use Rattle.outer_world.specs.declared.shelves.ShelfFail.TheVariants.{Failed}

-- an object round another one, and the guard that says which calls fail
pub record Guarded (A G : Type 0) : Type 0 where
  pub inner : A
  pub guard : G

-- such an object is stored as its fields
abbrev pub guarded_code : {A G : Type 0} → Coded A → Coded G → Coded (Guarded A G)
guarded_code {A} {G} inner guard =
    code_by (A × G) (coded× inner guard) (λ s. (s.inner, s.guard)) (λ p. record { inner = p.0; guard = p.1 }) (λ _. refl)

module _ {A G : Type 0} where
  -- the two together
  abbrev pub guarded : A → G → Guarded A G
  guarded inner guard = record { inner = inner; guard = guard }

  -- the next call is to fail
  abbrev pub FailsNext : (G → Bool) → Guarded A G → Type 0
  FailsNext fails object = IsTrue (fails object.guard)

  -- the next call is passed on
  abbrev pub PassesNext : (G → Bool) → Guarded A G → Type 0
  PassesNext fails object = IsFalse (fails object.guard)

  -- how often a call has failed: those that the object inside counts, and those that failed by the guard
  abbrev pub all_faults : (A → ℕ) → (G → ℕ) → Guarded A G → ℕ
  all_faults inner guard object = inner object.inner + guard object.guard

-- a call of a shelf: one that the guard makes fail leaves the shelf inside as it is, and any other has that shelf's own cause
pub record IsGuarded {A G T : Type 0} (fails : G → Bool) (later : G → G) (faults : A → ℕ) (old new : Guarded A G) (result : Result T ShelfFail) : Type 0 where
  pub after : new.guard ≡ later old.guard
  pub listed : FailsNext fails old → result ≡ Err Failed
  pub untouched : FailsNext fails old → new.inner ≡ old.inner
  pub passed : PassesNext fails old → HasShelfCause (faults old.inner) (faults new.inner) result
