-- Slips that a set keeps in order of arrival.
use Rattle.std.proofs.Common.{arith, ◌≡◌, ◌+◌, ℕ, Bool, true, false, cond, List, [], ◌∷◌, ◌++◌, length, map, reverse, Option, Some, None, refl, sym, ◌∙◌, ap, subst, ◌||◌, position, if◌then◌else◌, Result, Ok, Err}
use Rattle.std.specs.Result.{IsOk, IfOk}
use Rattle.std.specs.List.{slice_get, list_any, position_from}
use Rattle.std.proofs.lemmas.List.{length-reverse, length-map, reverse-append, reverse-reverse, map-append}
use Rattle.std.proofs.lemmas.List.Folds.{list_any-append}
use Rattle.std.proofs.lemmas.Iterator.Adapters.{position_from-zero}
use Rattle.indexmap.specs.IndexSet.{insert_key}
use Rattle.block_record.proofs.public.ListFacts.{map_reverse}
use Rattle.block_record.specs.Ids.{same_id, same_id_equiv, same_id-true}
use Rattle.block_record.specs.declared.blocks.Slip.{Slip}
use Rattle.chain_model.specs.Ancestry.{has_id}
use Rattle.block_tree.specs.declared.slips.SlipById.{SlipById}
use Rattle.block_tree.specs.Keys.{same_key}
use Rattle.block_tree.specs.Places.{place_of, slip_at, history_of, HasIdsOnce}
use Rattle.block_tree.proofs.public.PlaceFacts.{slip_at-reverse}

abbrev by_id : Slip → SlipById
by_id s = record { slip = s }

abbrev or_else : Option ℕ → Option ℕ → Option ℕ
or_else None o = o
or_else (Some n) o = Some n

from_push : (t : SlipById → Bool) (i : ℕ) (ys : List SlipById) (x : SlipById) → position_from t i (ys ++ x ∷ []) ≡ or_else (position_from t i ys) (cond (t x) (Some (i + length ys)) None)
from_push t i [] x = grind arith
from_push t i (y ∷ ys) x =
    let P : Bool → Type 0 = λ b. cond b (Some i) (position_from t (i + 1) (ys ++ x ∷ [])) ≡ or_else (cond b (Some i) (position_from t (i + 1) ys)) (cond (t x) (Some (i + length (y ∷ ys))) None) in
    elim (t y) as P [
      | true ↦ refl
      | false ↦ from_push t (i + 1) ys x ∙ ap (λ n. or_else (position_from t (i + 1) ys) (cond (t x) (Some n) None)) (let f : (i + 1) + length ys ≡ i + length (y ∷ ys) = omega arith in f)
    ]

turned_over : (s : Slip) (older : List Slip) → reverse (map by_id (s ∷ older)) ≡ reverse (map by_id older) ++ by_id s ∷ []
turned_over s older = reverse-append (by_id s ∷ []) (map by_id older)

length_kept : (older : List Slip) → length (reverse (map by_id older)) ≡ length older
length_kept older = length-reverse (map by_id older) ∙ length-map older by_id

-- an id that no block has is at no place
place_missing : (newest : List Slip) (id : List ℕ) → has_id newest id ≡ false → place_of newest id ≡ None
place_missing [] id e = refl
place_missing (s ∷ older) id e = grind (arith, place_missing older id)

one_place : (o : Option ℕ) (n : ℕ) → o ≡ None → or_else o (Some n) ≡ Some n
one_place o n e = ap (λ p. or_else p (Some n)) e

no_more : (o : Option ℕ) → or_else o None ≡ o
no_more None = refl
no_more (Some n) = refl

place_from : (newest : List Slip) (id : List ℕ) → HasIdsOnce newest → position_from (λ (x : SlipById). same_id id x.slip.id) 0 (reverse (map by_id newest)) ≡ place_of newest id
place_from [] id once = refl
place_from (s ∷ older) id once =
    let t = λ (x : SlipById). same_id id x.slip.id in
    let step = ap (position_from t 0) (turned_over s older) ∙ from_push t 0 (reverse (map by_id older)) (by_id s)
    ∙ ap (λ n. or_else (position_from t 0 (reverse (map by_id older))) (cond (same_id id s.id) (Some n) None)) (let f : 0 + length (reverse (map by_id older)) ≡ length older = omega (arith, length_kept older) in f)
    ∙ ap (λ o. or_else o (cond (same_id id s.id) (Some (length older)) None)) (place_from older id once.1)
    ∙ ap (λ b. or_else (place_of older id) (cond b (Some (length older)) None)) (same_id_equiv.symm id s.id) in
    let P : Bool → Type 0 = λ b. same_id s.id id ≡ b → or_else (place_of older id) (cond b (Some (length older)) None) ≡ cond b (Some (length older)) (place_of older id) in
    step ∙ (elim (same_id s.id id) as P [
      | true ↦ λ same. one_place (place_of older id) (length older) (place_missing older id (subst (λ i. has_id older i ≡ false) (same_id-true s.id id same) once.0))
      | false ↦ λ _. no_more (place_of older id)
    ]) refl

all_by_id : (xs : List SlipById) → map by_id (map (λ (s : SlipById). s.slip) xs) ≡ xs
all_by_id [] = refl
all_by_id (x ∷ xs) = ap (λ l. x ∷ l) (all_by_id xs)

keys_back : (keys : List SlipById) → reverse (map by_id (history_of keys)) ≡ keys
keys_back keys =
    ap reverse (map_reverse by_id (map (λ (s : SlipById). s.slip) keys)) ∙ reverse-reverse (map by_id (map (λ (s : SlipById). s.slip) keys)) ∙ all_by_id keys

-- where the set finds an id is where the history has it
pub found_place : (keys : List SlipById) (id : List ℕ) → HasIdsOnce (history_of keys) → position (λ (x : SlipById). same_id id x.slip.id) keys ≡ place_of (history_of keys) id
found_place keys id once =
    let t = λ (x : SlipById). same_id id x.slip.id in
    position_from-zero t keys ∙ ap (position_from t 0) (sym (keys_back keys)) ∙ place_from (history_of keys) id once

any_has : (newest : List Slip) (id : List ℕ) → list_any (λ (x : SlipById). same_id id x.slip.id) (reverse (map by_id newest)) ≡ has_id newest id
any_has [] id = refl
any_has (s ∷ older) id =
    let t = λ (x : SlipById). same_id id x.slip.id in
    ap (list_any t) (turned_over s older) ∙ list_any-append t (reverse (map by_id older)) (by_id s ∷ []) ∙ ap (λ b. b || list_any t (by_id s ∷ [])) (any_has older id)
    ∙ last_first (has_id older id) (same_id id s.id) (same_id s.id id) (same_id_equiv.symm id s.id)
  where
    last_first : (a b c : Bool) → b ≡ c → (a || (b || false)) ≡ (c || a)
    last_first true true c e = rw (← e) refl
    last_first true false c e = rw (← e) refl
    last_first false true c e = rw (← e) refl
    last_first false false c e = rw (← e) refl

-- a slip with a new id goes last
pub pushed : (keys after : List SlipById) (s : Slip) → after ≡ insert_key same_key keys (by_id s) → has_id (history_of keys) s.id ≡ false → history_of after ≡ s ∷ history_of keys
pushed keys after s e fresh =
    let new : list_any (same_key (by_id s)) keys ≡ false = ap (list_any (same_key (by_id s))) (sym (keys_back keys)) ∙ any_has (history_of keys) s.id ∙ fresh in
    ap history_of e ∙ ap (λ b. history_of (if b then keys else keys ++ by_id s ∷ [])) new
    ∙ ap reverse (map-append (λ (x : SlipById). x.slip) keys (by_id s ∷ [])) ∙ reverse-append (map (λ (x : SlipById). x.slip) keys) (s ∷ [])

pub slip_of_keys : (keys : List SlipById) (at : ℕ) (s : Slip) → slice_get (map (λ (x : SlipById). x.slip) keys) at ≡ Some s → slip_at (history_of keys) at ≡ Some s
slip_of_keys keys at s e = slip_at-reverse (history_of keys) at ∙ ap (λ l. slice_get l at) (reverse-reverse (map (λ (x : SlipById). x.slip) keys)) ∙ e

pub history_length : (keys : List SlipById) → length (history_of keys) ≡ length keys
history_length keys = length-reverse (map (λ (x : SlipById). x.slip) keys) ∙ length-map keys (λ (x : SlipById). x.slip)

pub pushed_length : (keys after : List SlipById) (s : Slip) → after ≡ insert_key same_key keys (by_id s) → has_id (history_of keys) s.id ≡ false → length after ≡ length keys + 1
pushed_length keys after s e fresh = omega (arith, history_length after, history_length keys, ap length (pushed keys after s e fresh))

pub on_ok_value : {T E Y : Type 0} (r : Result T E) (x y : Y) → IsOk r → IfOk r (λ _. x ≡ y) → x ≡ y
on_ok_value (Ok v) x y h p = p
on_ok_value (Err e) x y h p = absurd (grind arith)
