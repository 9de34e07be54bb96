-- Facts of the numbers of waiting blocks.
use Rattle.std.proofs.Common.{arith, ◌≡◌, ◌<◌, ◌≤◌, ◌+◌, ℕ, true, false, ltb, Some, None, List, [], ◌∷◌, refl, sym, ap, filter, is_some, cond, Option}
use Rattle.std.specs.declared.cmp.Ordering.{Ordering}
use Rattle.std.specs.declared.cmp.Ordering.TheVariants.{Less, Equal, Greater}
use Rattle.std.specs.Ordering.{MatchOrdering, is_eq, is_gt, nat_cmp}
use Rattle.std.specs.Cmp.{nat_cmp_is, ranks}
use Rattle.std.specs.List.{AllByRecursion}
use Rattle.std.specs.BTreeMap.{BTreeMap, get, IsLowerBound}
use Rattle.std.proofs.lemmas.Bool.{lt-ltb}
use Rattle.wait_room.specs.declared.waiters.Waiter.{Waiter}
use Rattle.wait_room.specs.Numbers.{count_or_zero, number_at, numbered_in, same_num}
use Rattle.wait_room.specs.Rooms.{slips_of}
use Rattle.wait_room.proofs.CountFacts.{count_first}
use Rattle.wait_room.proofs.TurnedFacts.{filter_all}

-- a number is itself
pub same_num-self : (n : ℕ) → same_num n n ≡ true
same_num-self n = sym (ap is_eq (nat_cmp_is n n Equal refl))

tells : (a b : ℕ) (r : Ordering) → MatchOrdering r (a < b) (a ≡ b) (b < a) → is_eq r ≡ true → a ≡ b
tells a b Less m e = absurd (grind (arith, e))
tells a b Equal m e = m
tells a b Greater m e = absurd (grind (arith, e))

-- two numbers that are found to be one are equal
pub same_num-true : (a b : ℕ) → same_num a b ≡ true → a ≡ b
same_num-true a b e = tells a b (nat_cmp a b) (ranks a b) e

not_above : (a b : ℕ) (r : Ordering) → MatchOrdering r (a < b) (a ≡ b) (b < a) → is_gt r ≡ false → a ≤ b
not_above a b Less m e = omega arith
not_above a b Equal m e = omega (arith, m)
not_above a b Greater m e = absurd (grind (arith, e))

counted_some : (o : Option ℕ) → 0 < count_or_zero o → is_some o ≡ true
counted_some None h = absurd (omega arith)
counted_some (Some n) h = refl

-- each number that is counted is above one that is below the first
pub above_first : (numbers : BTreeMap ℕ ℕ) (first num : ℕ) → IsLowerBound nat_cmp numbers first → num < first → (n : ℕ) → 0 < number_at numbers n → num < n
above_first numbers first num least less n counts =
    omega (arith, not_above first n (nat_cmp first n) (ranks first n) (least n (counted_some (get nat_cmp numbers n) counts)))

-- none is counted in an empty map
pub none_counted : (numbers : BTreeMap ℕ ℕ) (n : ℕ) → numbers.entries ≡ [] → number_at numbers n ≡ 0
none_counted numbers n e = rw e refl

-- where each number that waits is above another, each block stays
pub all_stay : (num : ℕ) (xs : List Waiter) → ((n : ℕ) → 0 < numbered_in (slips_of xs) n → num < n) → filter (λ w. ltb num w.slip.num) xs ≡ xs
all_stay num xs above = filter_all (λ w. ltb num w.slip.num) xs (each xs above)
  where
    first : (y : Waiter) (ys : List Waiter) → 0 < numbered_in (slips_of (y ∷ ys)) y.slip.num
    first y ys =
        let one : cond (same_num y.slip.num y.slip.num) 1 0 + 0 ≡ 0 + 1 = rw (same_num-self y.slip.num) refl in
        omega (arith, one, count_first (λ s. same_num s.num y.slip.num) y.slip (slips_of ys))

    each : (ys : List Waiter) → ((n : ℕ) → 0 < numbered_in (slips_of ys) n → num < n) → AllByRecursion (λ w. ltb num w.slip.num ≡ true) ys
    each [] h = tt
    each (y ∷ ys) h = (
      lt-ltb num y.slip.num (h y.slip.num (first y ys)),
      each ys (λ n more. h n (omega (arith, more, count_first (λ s. same_num s.num n) y.slip (slips_of ys)))),
    )
