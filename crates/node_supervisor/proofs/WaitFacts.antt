-- The wait's length, as the code takes it.
use Rattle.std.proofs.Common.{◌≡◌, ℕ, zero, suc, ◌-◌, ◌*◌, ◌%◌, ◌^◌, ◌<◌, ◌≤◌, refl, arith}
use Rattle.std.proofs.Math.Pow.{pow_mono}
use Rattle.node_supervisor.specs.Table.{wait_units}

-- few deaths: the shift has all its bits
pub short_wait : (deaths : ℕ) → 0 < deaths → deaths < 5 → 1 * 2 ^ (deaths - 1) % 4294967296 ≡ wait_units deaths
short_wait zero some few = absurd (omega arith)
short_wait (suc zero) some few = refl
short_wait (suc (suc zero)) some few = refl
short_wait (suc (suc (suc zero))) some few = refl
short_wait (suc (suc (suc (suc zero)))) some few = refl
short_wait (suc (suc (suc (suc (suc deaths))))) some few = absurd (omega arith)

-- many deaths: the longest wait
pub long_wait : (deaths : ℕ) → 5 ≤ deaths → 16 ≡ wait_units deaths
long_wait deaths many =
    let more : 4 ≤ deaths - 1 = omega arith in
    let far : 2 ^ 4 ≤ 2 ^ (deaths - 1) = pow_mono more in
    omega arith
