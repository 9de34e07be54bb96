-- The readers of a plant, by their names and places.
use Rattle.std.proofs.Common.{arith, cond, ◌≡◌, ◌<◌, ◌≤◌, ◌++◌, ℕ, zero, suc, Bool, true, false, List, [], ◌∷◌, length, Option, None, Some, ltb, get_or, refl, sym, ◌∙◌, ap, subst}
use Rattle.std.specs.List.{AllByRecursion, position_or_len}
use Rattle.std.specs.Str.{bytes_eq}
use Rattle.std.proofs.Math.ListN.{set}
use Rattle.std.proofs.lemmas.Bool.{ltb-false, false_from_ne_true}
use Rattle.std.proofs.lemmas.List.Quantifiers.{position-Some}
use Rattle.std.proofs.lemmas.List.Sums.{fails_before_first}
use Rattle.std.proofs.lemmas.Slice.Eq.{bytes_eq-Decides}
use Rattle.outer_world.specs.Files.{Files}
use Rattle.block_reader.specs.Kept.{AreOwn}
use Rattle.own_laws.specs.Away.{KeepsAway}
use Rattle.own_laws.proofs.public.AwayFacts.{others_stay}
use Rattle.plant_core.specs.declared.readers.Reader.{Reader}
use Rattle.plant_core.specs.Moments.{AllOwn, AreApart, IsReader, StandsAt, is_named, new_reader, place_of, reader_of, with_reader}

-- ---- names

pub same_name : (name : List ℕ) → bytes_eq name name ≡ true
same_name name = (bytes_eq-Decides name name).1 refl

name_is : (name : List ℕ) (r : Reader) → is_named name r ≡ true → r.node.name ≡ name
name_is name r e = (bytes_eq-Decides r.node.name name).0 e

name_isnt : (name : List ℕ) (r : Reader) → (r.node.name ≡ name → ⊥) → is_named name r ≡ false
name_isnt name r apart = false_from_ne_true (is_named name r) (λ e. apart (name_is name r e))

-- where one of two readers does not have the other's name, the other doesn't have its name
other_way : (name : List ℕ) (r : Reader) → is_named name r ≡ false → (x : Reader) → x.node.name ≡ name → is_named r.node.name x ≡ false
other_way name r isnt x is = name_isnt r.node.name x (λ e. let same : bytes_eq r.node.name name ≡ true = (bytes_eq-Decides r.node.name name).1 (sym e ∙ is) in absurd (cc))

-- the name of the reader that is found
pub named_found : (max : ℕ) (name : List ℕ) (readers : List Reader) → (reader_of max name readers).node.name ≡ name
named_found max name [] = refl
named_found max name (r ∷ readers) = go (named_found max name readers) (is_named name r) refl
  where
    go : (reader_of max name readers).node.name ≡ name → (b : Bool) → is_named name r ≡ b → (cond b r (reader_of max name readers)).node.name ≡ name
    go rest true e = name_is name r e
    go rest false e = rest

-- ---- a reader at a place

-- among readers that are apart, the one at a place is the one of its name
pub at_place : (max : ℕ) (readers : List Reader) (place : ℕ) (one now : Reader) → AreApart readers → place < length readers → one ≡ get_or readers place one → now.node.name ≡ one.node.name
    → (reader_of max one.node.name readers ≡ one) × (set readers place now ≡ with_reader now readers)
at_place max [] place one now apart within is same = absurd (omega arith)
at_place max (r ∷ readers) zero one now apart within is same =
    let here : is_named one.node.name r ≡ true = subst (λ (x : Reader). is_named x.node.name r ≡ true) (sym is) (same_name r.node.name) in
    let there : is_named now.node.name r ≡ true = subst (λ (n : List ℕ). is_named n r ≡ true) (sym same) here in
    (rw here (sym is), rw there refl)
at_place max (r ∷ readers) (suc place) one now apart within is same =
    let not_here : is_named one.node.name r ≡ false = not_first readers place one apart.0 (omega arith) is in
    let nor_there : is_named now.node.name r ≡ false = subst (λ (n : List ℕ). is_named n r ≡ false) (sym same) not_here in
    let rest = at_place max readers place one now apart.1 (omega arith) is same in
    (rw not_here rest.0, rw nor_there (ap (λ (l : List Reader). r ∷ l) rest.1))
  where
    not_first : (xs : List Reader) (k : ℕ) (x : Reader) → AllByRecursion (λ y. is_named r.node.name y ≡ false) xs → k < length xs → x ≡ get_or xs k x → is_named x.node.name r ≡ false
    not_first [] k x all in_range e = absurd (omega arith)
    not_first (y ∷ ys) zero x all in_range e = subst (λ (z : Reader). is_named z.node.name r ≡ false) (sym e) (other_way r.node.name y all.0 r refl)
    not_first (y ∷ ys) (suc k) x all in_range e = not_first ys k x all.1 (omega arith) e

pub set_same : (readers : List Reader) (place : ℕ) (one : Reader) → one ≡ get_or readers place one → set readers place one ≡ readers
set_same [] place one is = refl
set_same (r ∷ readers) zero one is = ap (λ (x : Reader). x ∷ readers) is
set_same (r ∷ readers) (suc place) one is = ap (λ (l : List Reader). r ∷ l) (set_same readers place one is)

pub get_same : (readers : List Reader) (place : ℕ) (a b : Reader) → place < length readers → get_or readers place a ≡ get_or readers place b
get_same [] place a b within = absurd (omega arith)
get_same (r ∷ readers) zero a b within = refl
get_same (r ∷ readers) (suc place) a b within = get_same readers place a b (omega arith)

-- the reader of a name stands where one was found, and putting it there changes nothing
pub found_at : (max : ℕ) (name : List ℕ) (readers : List Reader) (place : ℕ) → place_of name readers ≡ Some place → place < length readers → AreApart readers
    → StandsAt readers place (reader_of max name readers) × (readers ≡ with_reader (reader_of max name readers) readers)
found_at max name readers place e within apart =
    let one : Reader = get_or readers place (new_reader max name) in
    let is : one ≡ get_or readers place one = get_same readers place (new_reader max name) one within in
    let named : one.node.name ≡ name = name_is name one (position-Some (is_named name) readers place (new_reader max name) e).1 in
    let at = at_place max readers place one one apart within is refl in
    let found : reader_of max name readers ≡ one = subst (λ (n : List ℕ). reader_of max n readers ≡ one) named at.0 in (
      subst (λ (r : Reader). StandsAt readers place r) (sym found) (record { within = within; is = is }),
      subst (λ (r : Reader). readers ≡ with_reader r readers) (sym found) (sym (set_same readers place one is) ∙ at.1),
    )

-- ---- a name that stands nowhere

-- no reader has the name
abbrev pub HasNone : List ℕ → List Reader → Type 0
HasNone name readers = AllByRecursion (λ r. is_named name r ≡ false) readers

pub has_none : (max : ℕ) (name : List ℕ) (readers : List Reader) → place_of name readers ≡ None → HasNone name readers
has_none max name readers e = each readers (λ k h. before k h)
  where
    nobody : Reader
    nobody = new_reader max name

    before : (k : ℕ) → k < length readers → is_named name (get_or readers k nobody) ≡ false
    before k h = go (ltb (position_or_len (is_named name) readers) (length readers)) refl e
      where
        go : (b : Bool) → ltb (position_or_len (is_named name) readers) (length readers) ≡ b → cond b (Some (position_or_len (is_named name) readers)) None ≡ None → is_named name (get_or readers k nobody) ≡ false
        go true t none = absurd (cc)
        go false t none =
            let all : length readers ≤ position_or_len (is_named name) readers = ltb-false _ _ t in
            fails_before_first (is_named name) readers k nobody (omega arith)

    each : (xs : List Reader) → ((k : ℕ) → k < length xs → is_named name (get_or xs k nobody) ≡ false) → HasNone name xs
    each [] none = tt
    each (x ∷ xs) none = (none 0 (omega arith), each xs (λ k h. none (suc k) (omega arith)))

-- then the reader of the name is new, and is appended
pub put_last : (max : ℕ) (name : List ℕ) (readers : List Reader) → HasNone name readers
    → (reader_of max name readers ≡ new_reader max name) × (readers ++ new_reader max name ∷ [] ≡ with_reader (new_reader max name) readers)
put_last max name [] none = (refl, refl)
put_last max name (r ∷ readers) none =
    let first = none.0 in
    let rest = put_last max name readers none.1 in
    (rw first rest.0, rw first (ap (λ (l : List Reader). r ∷ l) rest.1))

pub apart_last : (now : Reader) (readers : List Reader) → HasNone now.node.name readers → AreApart readers → AreApart (readers ++ now ∷ [])
apart_last now [] none apart = (tt, tt)
apart_last now (r ∷ readers) none apart = (one_more readers apart.0, apart_last now readers none.1 apart.1)
  where
    one_more : (xs : List Reader) → AllByRecursion (λ x. is_named r.node.name x ≡ false) xs → AllByRecursion (λ x. is_named r.node.name x ≡ false) (xs ++ now ∷ [])
    one_more [] all = (other_way now.node.name r none.0 now refl, tt)
    one_more (x ∷ xs) all = (all.0, one_more xs all.1)

-- ---- what holds of each reader

pub each_last : (P : Reader → Type 0) (now : Reader) (readers : List Reader) → AllByRecursion P readers → P now → AllByRecursion P (readers ++ now ∷ [])
each_last P now [] all here = (here, tt)
each_last P now (r ∷ readers) all here = (all.0, each_last P now readers all.1 here)

pub each_set : (P : Reader → Type 0) (readers : List Reader) (place : ℕ) (now : Reader) → AllByRecursion P readers → P now → AllByRecursion P (set readers place now)
each_set P [] place now all here = tt
each_set P (r ∷ readers) zero now all here = (here, all.1)
each_set P (r ∷ readers) (suc place) now all here = (all.0, each_set P readers place now all.1 here)

pub each_at : (P : Reader → Type 0) (readers : List Reader) (place : ℕ) (one : Reader) → AllByRecursion P readers → place < length readers → one ≡ get_or readers place one → P one
each_at P [] place one all within is = absurd (omega arith)
each_at P (r ∷ readers) zero one all within is = subst P (sym is) all.0
each_at P (r ∷ readers) (suc place) one all within is = each_at P readers place one all.1 (omega arith) is

-- a reader under the same name leaves them apart
pub apart_set : (readers : List Reader) (place : ℕ) (one now : Reader) → place < length readers → one ≡ get_or readers place one → now.node.name ≡ one.node.name → AreApart readers → AreApart (set readers place now)
apart_set [] place one now within is same apart = tt
apart_set (r ∷ readers) zero one now within is same apart =
    (subst (λ (n : List ℕ). AllByRecursion (λ x. is_named n x ≡ false) readers) (sym (same ∙ ap (λ (x : Reader). x.node.name) is)) apart.0, apart.1)
apart_set (r ∷ readers) (suc place) one now within is same apart = (
  each_set (λ x. is_named r.node.name x ≡ false) readers place now apart.0
      (subst (λ (n : List ℕ). bytes_eq n r.node.name ≡ false) (sym same) (each_at (λ x. is_named r.node.name x ≡ false) readers place one apart.0 (omega arith) is)),
  apart_set readers place one now (omega arith) is same apart.1,
)

-- the own files of the others are there as before, where only files of one reader changed
pub own_set : (readers : List Reader) (place : ℕ) (one now : Reader) (files after : Option Files) → AreApart readers → AllByRecursion IsReader readers → place < length readers → one ≡ get_or readers place one
    → KeepsAway one.node.name one.own files after → AreOwn after now.own → AllOwn files readers → AllOwn after (set readers place now)
own_set readers place one now files after apart each within is kept own all = go readers place apart each within is all
  where
    it : IsReader one
    it = each_at IsReader readers place one each within is

    -- the other readers
    rest : (xs : List Reader) → AllByRecursion (λ x. is_named one.node.name x ≡ false) xs → AllByRecursion IsReader xs → AllOwn files xs → AllOwn after xs
    rest [] others readers_are there = tt
    rest (x ∷ xs) others readers_are there = (
      others_stay one.node.name x.node.name one.own x.own files after it.name readers_are.0.name (λ e. let same : is_named one.node.name x ≡ true = (bytes_eq-Decides x.node.name one.node.name).1 (sym e) in absurd (cc))
          it.own readers_are.0.own kept there.0,
      rest xs others.1 readers_are.1 there.1,
    )

    go : (xs : List Reader) (k : ℕ) → AreApart xs → AllByRecursion IsReader xs → k < length xs → one ≡ get_or xs k one → AllOwn files xs → AllOwn after (set xs k now)
    go [] k a e w i t = tt
    go (x ∷ xs) zero a e w i t = (own, rest xs (subst (λ (y : Reader). AllByRecursion (λ z. is_named y.node.name z ≡ false) xs) (sym i) a.0) e.1 t.1)
    go (x ∷ xs) (suc k) a e w i t =
        let apart_one : is_named x.node.name one ≡ false = each_at (λ z. is_named x.node.name z ≡ false) xs k one a.0 (omega arith) i in
        let other : is_named one.node.name x ≡ false = other_way x.node.name one apart_one x refl in
        ((rest (x ∷ []) (other, tt) (e.0, tt) (t.0, tt)).0, go xs k a.1 e.1 (omega arith) i t.1)

-- ---- a reader who is new

pub stands_last : (now : Reader) (readers : List Reader) → StandsAt (readers ++ now ∷ []) (length readers) now
stands_last now [] = record { within = omega arith; is = refl }
stands_last now (r ∷ readers) = let rest = stands_last now readers in record { within = omega (arith, rest.within); is = rest.is }
