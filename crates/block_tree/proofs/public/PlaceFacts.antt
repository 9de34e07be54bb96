-- Blocks by place.
use Rattle.std.proofs.Common.{arith, ◌≡◌, ◌<◌, ◌≤◌, ◌==◌, ℕ, Bool, true, false, cond, suc, zero, List, [], ◌∷◌, ◌++◌, length, map, reverse, Option, Some, None, refl, sym, ◌∙◌, ap, subst, IsTrue, Result, Ok, Err, get_or, is_some, ◌||◌}
use Rattle.std.proofs.lemmas.List.{length-reverse, reverse-append, reverse-reverse}
use Rattle.std.proofs.lemmas.Option.{same_Some, slice_get-get_or, slice_get_past}
use Rattle.std.specs.List.{slice_get}
use Rattle.std.specs.Result.{IsOk, OnOk}
use Rattle.link_rows.proofs.public.TreeFacts.{ancestors_within}
use Rattle.block_record.specs.Ids.{same_id, same_id-true, same_id_refl}
use Rattle.block_record.specs.declared.blocks.Slip.{Slip}
use Rattle.chain_model.specs.Ancestry.{find_id, has_id, ancestry, IsHistory}
use Rattle.chain_model.specs.Finality.{ancestry_of}
use Rattle.link_rows.specs.Tree.{ancestors, line_of}
use Rattle.block_tree.specs.Places.{place_of, slip_at, slip_of, parent_places}

-- an element of a list with one more at its end
pub slice_get_before : {A : Type 0} (xs : List A) (x : A) (at : ℕ) → (at == length xs) ≡ false → slice_get (xs ++ x ∷ []) at ≡ slice_get xs at
slice_get_before [] x zero ne = absurd (grind arith)
slice_get_before [] x (suc at) ne = refl
slice_get_before (y ∷ xs) x zero ne = refl
slice_get_before (y ∷ xs) x (suc at) ne = slice_get_before xs x at (grind arith)

pub slice_get_last : {A : Type 0} (xs : List A) (x : A) (at : ℕ) → (at == length xs) ≡ true → slice_get (xs ++ x ∷ []) at ≡ Some x
slice_get_last [] x zero e = refl
slice_get_last [] x (suc at) e = absurd (grind arith)
slice_get_last (y ∷ xs) x zero e = absurd (grind arith)
slice_get_last (y ∷ xs) x (suc at) e = slice_get_last xs x at (grind arith)

-- blocks by place stand in order
pub slip_at-reverse : (newest : List Slip) (at : ℕ) → slip_at newest at ≡ slice_get (reverse newest) at
slip_at-reverse [] at = refl
slip_at-reverse (s ∷ older) at =
    let turned : reverse (s ∷ older) ≡ reverse older ++ s ∷ [] = reverse-append (s ∷ []) older in
    let P : Bool → Type 0 = λ b. (at == length older) ≡ b → cond b (Some s) (slip_at older at) ≡ slice_get (reverse older ++ s ∷ []) at in
    rw turned ((elim (at == length older) as P [
      | true ↦ λ e. sym (slice_get_last (reverse older) s at (rw (length-reverse older) e))
      | false ↦ λ e. slip_at-reverse older at ∙ sym (slice_get_before (reverse older) s at (rw (length-reverse older) e))
    ]) refl)

pub slip_at_item : (xs : List Slip) (at : ℕ) (s : Slip) → at < length (reverse xs) → s ≡ get_or xs at s → slip_at (reverse xs) at ≡ Some s
slip_at_item xs at s lt e = slip_at-reverse (reverse xs) at ∙ ap (λ l. slice_get l at) (reverse-reverse xs) ∙ slice_get-get_or xs at s (rw (← length-reverse xs) lt) ∙ ap Some (sym e)

pub on_ok : {T E : Type 0} (r : Result T E) (P : Type 0) → IsOk r → OnOk r P → P
on_ok (Ok x) P h p = p
on_ok (Err e) P h p = absurd (grind arith)

-- what the ancestors of a place are, block by block
pub map_past : (s : Slip) (older : List Slip) (tree : List (Option ℕ)) (places : List ℕ) → ((x : ℕ) → x < length older → slip_at (s ∷ older) x ≡ slip_at older x)
    → ((j x : ℕ) → slice_get places j ≡ Some x → x < length older) → map (slip_at (s ∷ older)) places ≡ map (slip_at older) places
map_past s older tree [] past within = refl
map_past s older tree (p ∷ places) past within = rw (past p (within 0 p refl), map_past s older tree places past (λ j x e. within (suc j) x e)) refl

pub slip_at_past : (s : Slip) (older : List Slip) (x : ℕ) → x < length older → slip_at (s ∷ older) x ≡ slip_at older x
slip_at_past s older x lt = grind arith

pub slip_at_top : (s : Slip) (older : List Slip) → slip_at (s ∷ older) (length older) ≡ Some s
slip_at_top s older = grind arith

pub slip_at_within : (newest : List Slip) (at : ℕ) (s : Slip) → slip_at newest at ≡ Some s → at < length newest
slip_at_within [] at s e = absurd (grind arith)
slip_at_within (t ∷ older) at s e = grind (arith, slip_at_within older at s)

-- the place of an id holds a block with that id
pub place_slip : (newest : List Slip) (id : List ℕ) (p : ℕ) → place_of newest id ≡ Some p → (q : Slip) × (slip_at newest p ≡ Some q) × (q.id ≡ id) × (find_id newest id ≡ Some q)
place_slip [] id p e = absurd (grind arith)
place_slip (s ∷ older) id p e =
    let P : Bool → Type 0 = λ b. same_id s.id id ≡ b → cond b (Some (length older)) (place_of older id) ≡ Some p
    → (q : Slip) × (slip_at (s ∷ older) p ≡ Some q) × (q.id ≡ id) × (cond b (Some s) (find_id older id) ≡ Some q) in
    (elim (same_id s.id id) as P [
      | true ↦ λ t f. (s, ap (slip_at (s ∷ older)) (sym (same_Some (length older) p f)) ∙ slip_at_top s older, same_id-true s.id id t, refl)
      | false ↦ λ t f.
          let r = place_slip older id p f in
          (r.0, slip_at_past s older p (slip_at_within older p r.0 r.1) ∙ r.1, r.2, r.3)
    ]) refl e

pub place_none : (newest : List Slip) (id : List ℕ) → place_of newest id ≡ None → has_id newest id ≡ false
place_none [] id e = refl
place_none (s ∷ older) id e = grind (arith, place_none older id)

ancestry_none : (newest : List Slip) (id : List ℕ) → has_id newest id ≡ false → ancestry newest id ≡ []
ancestry_none [] id e = refl
ancestry_none (s ∷ older) id e = grind (arith, ancestry_none older id)

pub length_places : (newest : List Slip) → length (parent_places newest) ≡ length newest
length_places [] = refl
length_places (s ∷ older) = ap suc (length_places older)

slip_has_id : (newest : List Slip) (at : ℕ) (s : Slip) → slip_at newest at ≡ Some s → has_id newest s.id ≡ true
slip_has_id [] at s e = absurd (grind arith)
slip_has_id (t ∷ older) at s e = grind (arith, slip_has_id older at s, same_id_refl t.id, same_Some t s)

history_rest : (s : Slip) (older : List Slip) → IsHistory (s ∷ older) → IsHistory older
history_rest s [] h = tt
history_rest s (t ∷ older) h = h.1

other_of : (b : Bool) → (b ≡ true → ⊥) → b ≡ false
other_of true h = absurd (h refl)
other_of false h = refl

is_other : (s : Slip) (older : List Slip) (j : List ℕ) → IsHistory (s ∷ older) → has_id older j ≡ true → same_id s.id j ≡ false
is_other s [] j h e = absurd (grind arith)
is_other s (t ∷ older) j h e = other_of (same_id s.id j) (λ same. h.0.fresh (subst (λ i. IsTrue (has_id (t ∷ older) i)) (sym (same_id-true s.id j same)) e))

rest_of : (t : Slip) (older : List Slip) → IsHistory older → ((x : ℕ) → x < length older → slip_at (t ∷ older) x ≡ slip_at older x)
    → ((a j x : ℕ) → slice_get (ancestors (parent_places older) a) j ≡ Some x → x < length older)
    → ((p : ℕ) (q : Slip) → slip_at older p ≡ Some q → map Some (ancestry older q.id) ≡ map (slip_at older) (ancestors (parent_places older) p))
    → map Some (ancestry older t.parent_id) ≡ map (slip_at (t ∷ older)) (line_of (λ p. ancestors (parent_places older) p) (place_of older t.parent_id))
rest_of t older h past within ih =
    let P : Option ℕ → Type 0 = λ o. place_of older t.parent_id ≡ o → map Some (ancestry older t.parent_id) ≡ map (slip_at (t ∷ older)) (line_of (λ p. ancestors (parent_places older) p) o) in
    (elim (place_of older t.parent_id) as P [
      | None ↦ λ e. ap (map Some) (ancestry_none older t.parent_id (place_none older t.parent_id e))
      | Some p ↦ λ e.
          let r = place_slip older t.parent_id p e in
          ap (λ i. map Some (ancestry older i)) (sym r.2) ∙ ih p r.0 r.1 ∙ sym (map_past t older (parent_places older) (ancestors (parent_places older) p) past (within p))
    ]) refl

-- the ancestry of a block is that of its place
pub bridge : (newest : List Slip) (at : ℕ) (s : Slip) → IsHistory newest → slip_at newest at ≡ Some s
    → map Some (ancestry newest s.id) ≡ map (slip_at newest) (ancestors (parent_places newest) at)
bridge [] at s h e = absurd (grind arith)
bridge (t ∷ older) at s h e =
    let len : length (parent_places older) ≡ length older = length_places older in
    let past : (x : ℕ) → x < length older → slip_at (t ∷ older) x ≡ slip_at older x = slip_at_past t older in
    let within : (a j x : ℕ) → slice_get (ancestors (parent_places older) a) j ≡ Some x → x < length older =
    λ a j x f. subst (λ n. x < n) len (ancestors_within (parent_places older) a j x f) in
    let P : Bool → Type 0 = λ b. (at == length older) ≡ b → cond b (Some t) (slip_at older at) ≡ Some s
    → map Some (ancestry (t ∷ older) s.id) ≡ map (slip_at (t ∷ older)) (cond b (at ∷ line_of (λ p. ancestors (parent_places older) p) (place_of older t.parent_id)) (ancestors (parent_places older) at)) in
    rw len ((elim (at == length older) as P [
      | true ↦ λ same f.
          let st : t ≡ s = same_Some t s f in
          let top : slip_at (t ∷ older) at ≡ Some t = ap (λ b. cond b (Some t) (slip_at older at)) same in
          let here : ancestry (t ∷ older) s.id ≡ t ∷ ancestry older t.parent_id = rw (← st, same_id_refl t.id) refl in
          rw (here, top) (ap (λ l. Some t ∷ l) (rest_of t older (history_rest t older h) past within (λ p q f2. bridge older p q (history_rest t older h) f2)))
      | false ↦ λ other f.
          let there : ancestry (t ∷ older) s.id ≡ ancestry older s.id = rw (is_other t older s.id h (slip_has_id older at s f)) refl in
          rw there (bridge older at s (history_rest t older h) f ∙ sym (map_past t older (parent_places older) (ancestors (parent_places older) at) past (within at)))
    ]) refl e)

pub is_held : (newest : List Slip) (id : List ℕ) → is_some (place_of newest id) ≡ has_id newest id
is_held [] id = refl
is_held (s ∷ older) id =
    let P : Bool → Type 0 = λ b. is_some (cond b (Some (length older)) (place_of older id)) ≡ (b || has_id older id) in
    elim (same_id s.id id) as P [ true ↦ refl | false ↦ is_held older id ]

pub find_none : (newest : List Slip) (id : List ℕ) → place_of newest id ≡ None → find_id newest id ≡ None
find_none [] id e = refl
find_none (s ∷ older) id e = grind (arith, find_none older id)

pub place_range : (newest : List Slip) (id : List ℕ) (p : ℕ) → place_of newest id ≡ Some p → p < length newest
place_range newest id p e = let r = place_slip newest id p e in slip_at_within newest p r.0 r.1

pub find_some : (newest : List Slip) (id : List ℕ) (p : ℕ) (s : Slip) → place_of newest id ≡ Some p → slip_at newest p ≡ Some s → Some s ≡ find_id newest id
find_some newest id p s e es = let r = place_slip newest id p e in sym es ∙ r.1 ∙ sym r.3

-- there is no block past the last
pub slip_none : (newest : List Slip) (at : ℕ) → length newest ≤ at → slip_at newest at ≡ None
slip_none newest at le = slip_at-reverse newest at ∙ slice_get_past (reverse newest) at (rw (length-reverse newest) le)

-- the path of a block that is found by its id
no_line : (newest : List Slip) (id : List ℕ) → place_of newest id ≡ None → ancestry newest id ≡ []
no_line [] id e = refl
no_line (s ∷ older) id e = grind (arith, no_line older id)

pub path_of_id : (newest : List Slip) (id : List ℕ) (o : Option ℕ) → o ≡ place_of newest id → ancestry_of newest (slip_of newest o) ≡ ancestry newest id
path_of_id newest id None e = sym (no_line newest id (sym e))
path_of_id newest id (Some p) e =
    let r = place_slip newest id p (sym e) in
    ap (ancestry_of newest) r.1 ∙ ap (ancestry newest) r.2
