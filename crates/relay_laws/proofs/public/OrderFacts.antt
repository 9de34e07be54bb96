-- The order from scratch is a history of received blocks.
use Rattle.std.proofs.Common.{arith, ◌≡◌, ◌≤◌, ◌<◌, ◌⊎◌, inl, inr, ℕ, max, true, false, List, [], ◌∷◌, ◌++◌, Option, Some, None, refl, sym, ◌∙◌, ap, subst, ltb}
use Rattle.std.specs.List.{AllByRecursion}
use Rattle.std.proofs.lemmas.Bool.{cases_Bool, both_ways, false_from_ne_true, or_parts, ltb-true, ltb-false}
use Rattle.std.proofs.lemmas.Option.{same_Some}
use Rattle.block_record.specs.declared.blocks.Slip.{Slip}
use Rattle.block_record.specs.Ids.{same_id, same_id_refl, same_id-true}
use Rattle.chain_model.specs.Ancestry.{find_id, has_id, IsHistory, Follows}
use Rattle.chain_model.specs.Finality.{root_num}
use Rattle.chain_laws.proofs.public.Lines.{find_id_at, find_id_past, has_id-find_id}
use Rattle.chain_laws.proofs.public.Growth.{IsFound, found_cases}
use Rattle.chain_laws.proofs.public.Orders.{root_least, root_found}
use Rattle.relay_model.specs.Orders.{Linked, position, link_time, linked_at, linkable, sorted, comes_after}
use Rattle.relay_model.specs.Soundness.{IsDistinct}
use Rattle.relay_model.proofs.public.Entries.{distinct_found}
use Rattle.relay_laws.proofs.Keys.{After, ByTime, ByNum, is_after, Falls, slips, sorted_all, sorted_falls, sorted_distinct, sorted_find}
use Rattle.relay_laws.proofs.Times.{IsLinkedBy, root_time, link_down, IsAboveRoot, above_root}

-- what holds of each linkable block
pub record IsPlaced (received : List Slip) (root : Slip) (y : Linked) : Type 0 where
  pub linked : link_time received root y.slip ≡ Some y.time
  pub place : y.at ≡ position received y.slip
  pub found : IsFound received y.slip

pub linkable_placed : (received : List Slip) (root : Slip) (xs : List Slip) → AllByRecursion (IsFound received) xs → AllByRecursion (IsPlaced received root) (linkable received root xs)
linkable_placed received root [] all = tt
linkable_placed received root (s ∷ rest) all = go (link_time received root s) refl (linkable_placed received root rest all.1)
  where
    go : (o : Option ℕ) → link_time received root s ≡ o → AllByRecursion (IsPlaced received root) (linkable received root rest) → AllByRecursion (IsPlaced received root) (linked_at received s o ++ linkable received root rest)
    go None e below = below
    go (Some time) e below = (record { linked = e; place = refl; found = all.0 }, below)

-- the linkable blocks are among the blocks
linkable_lacks : (received : List Slip) (root : Slip) (xs : List Slip) (j : List ℕ) → has_id xs j ≡ false → has_id (slips (linkable received root xs)) j ≡ false
linkable_lacks received root [] j lacks = refl
linkable_lacks received root (s ∷ rest) j lacks =
    let parts = or_parts (same_id s.id j) (has_id rest j) lacks in
    go (link_time received root s) parts.0 (linkable_lacks received root rest j parts.1)
  where
    go : (o : Option ℕ) → same_id s.id j ≡ false → has_id (slips (linkable received root rest)) j ≡ false → has_id (slips (linked_at received s o ++ linkable received root rest)) j ≡ false
    go None a b = b
    go (Some time) a b = rw (a, b) refl

pub linkable_distinct : (received : List Slip) (root : Slip) (xs : List Slip) → IsDistinct xs → IsDistinct (slips (linkable received root xs))
linkable_distinct received root [] d = tt
linkable_distinct received root (s ∷ rest) d = go (link_time received root s) (linkable_lacks received root rest s.id d.0) (linkable_distinct received root rest d.1)
  where
    go : (o : Option ℕ) → has_id (slips (linkable received root rest)) s.id ≡ false → IsDistinct (slips (linkable received root rest)) → IsDistinct (slips (linked_at received s o ++ linkable received root rest))
    go None a b = b
    go (Some time) a b = (a, b)

pub linkable_found : (received : List Slip) (root : Slip) (xs : List Slip) → IsDistinct xs → (s : Slip) (time : ℕ) → IsFound xs s → link_time received root s ≡ Some time → IsFound (slips (linkable received root xs)) s
linkable_found received root [] d s time found e = absurd (grind (arith, found))
linkable_found received root (x ∷ rest) d s time found e =
    elim (found_cases x rest s found) [
      | inl same ↦ own (link_time received root x) (ap (link_time received root) same ∙ e) same
      | inr below ↦ past (link_time received root x) (apart below) (linkable_found received root rest d.1 s time below e)
    ]
  where
    own : (o : Option ℕ) → o ≡ Some time → x ≡ s → IsFound (slips (linked_at received x o ++ linkable received root rest)) s
    own None h same = absurd (grind (arith, h))
    own (Some n) h same = subst (λ (z : Slip). find_id (x ∷ slips (linkable received root rest)) z.id ≡ Some z) same (find_id_at x (slips (linkable received root rest)) x.id (same_id_refl x.id))

    apart : IsFound rest s → same_id x.id s.id ≡ false
    apart below = false_from_ne_true _ (λ same. both_ways _ (subst (λ (i : List ℕ). has_id rest i ≡ false) (same_id-true x.id s.id same) d.0) (has_id-find_id rest s.id s below))

    past : (o : Option ℕ) → same_id x.id s.id ≡ false → IsFound (slips (linkable received root rest)) s → IsFound (slips (linked_at received x o ++ linkable received root rest)) s
    past None a f = f
    past (Some n) a f = find_id_past x (slips (linkable received root rest)) s.id a ∙ f

-- the order, with keys
abbrev pub keyed : List Slip → Slip → List Linked
keyed received root = sorted (linkable received root received)

pub order_found : (received : List Slip) (root : Slip) → IsDistinct received → (s : Slip) (time : ℕ) → IsFound received s → link_time received root s ≡ Some time → IsFound (slips (keyed received root)) s
order_found received root d s time found e =
    sorted_find (linkable received root received) s.id (linkable_distinct received root received d) ∙ linkable_found received root received d s time found e

pub order_distinct : (received : List Slip) (root : Slip) → IsDistinct received → IsDistinct (slips (keyed received root))
order_distinct received root d = sorted_distinct (linkable received root received) (linkable_distinct received root received d)

pub order_placed : (received : List Slip) (root : Slip) → IsDistinct received → AllByRecursion (IsPlaced received root) (keyed received root)
order_placed received root d = sorted_all (IsPlaced received root) (linkable received root received) (linkable_placed received root received (distinct_found received d))

-- of a block found among keyed ones, the key
pub record IsKeyed (P : Linked → Type 0) (s : Slip) : Type 0 where
  pub key : Linked
  pub is : key.slip ≡ s
  pub has : P key

pub key_of : (P : Linked → Type 0) (xs : List Linked) → AllByRecursion P xs → (s : Slip) → IsFound (slips xs) s → IsKeyed P s
key_of P [] all s found = absurd (grind (arith, found))
key_of P (x ∷ xs) all s found =
    elim (found_cases x.slip (slips xs) s found) [
      | inl same ↦ record { key = x; is = same; has = all.0 }
      | inr below ↦ key_of P xs all.1 s below
    ]

-- the root, or a block with its parent among the blocks and keys in order
pub data Roots (received : List Slip) (root : Slip) (line : List Slip) (y : Linked) : Type 0 where
  IsRoot : y.slip ≡ root → Roots received root line y
  HasParent : (p : Slip) (before : ℕ) → IsLinkedBy received root y.slip y.time p before → IsFound line p → IsAboveRoot received root y.slip y.time → Roots received root line y

-- keys by which one block comes after another
later_key : (y x : Linked) → x.time ≤ y.time → x.slip.num < y.slip.num → After y x
later_key y x le less =
    elim (cases_Bool (ltb x.time y.time)) [
      | inl before ↦ ByTime (ltb-true _ _ before)
      | inr not' ↦ let ge = ltb-false _ _ not' in ByNum (omega (arith, le, ge)) less
    ]

key_after : (received : List Slip) (root : Slip) (x y : Linked) (p : Slip) (before : ℕ) → IsLinkedBy received root y.slip y.time p before → IsPlaced received root x → x.slip ≡ p → After y x
key_after received root x y p before l placed same =
    let t : x.time ≡ before = same_Some x.time before (sym placed.linked ∙ ap (link_time received root) same ∙ l.linked) in
    later_key y x (most (position received y.slip) before y.time x.time l.most t) (subst (λ (z : Slip). z.num < y.slip.num) (sym same) l.parent.less)
  where
    most : (at b ty tx : ℕ) → ty ≡ max at b → tx ≡ b → tx ≤ ty
    most at b ty tx h k = omega (arith, h, k)

-- without its newest block, the parents of the others are there
rest_roots : (received : List Slip) (root : Slip) (x : Linked) (xs : List Linked) → IsPlaced received root x → AllByRecursion (λ y. comes_after y x ≡ false) xs
    → (ys : List Linked) → AllByRecursion (λ y. comes_after y x ≡ false) ys → AllByRecursion (Roots received root (x.slip ∷ slips xs)) ys → AllByRecursion (Roots received root (slips xs)) ys
rest_roots received root x xs placed falls [] a b = tt
rest_roots received root x xs placed falls (y ∷ ys) a b = (one b.0, rest_roots received root x xs placed falls ys a.1 b.1)
  where
    one : Roots received root (x.slip ∷ slips xs) y → Roots received root (slips xs) y
    one (IsRoot e) = IsRoot e
    one (HasParent p before l found above) =
        elim (found_cases x.slip (slips xs) p found) [
          | inl same ↦ absurd (both_ways _ a.0 (is_after y x (key_after received root x y p before l placed same)))
          | inr below ↦ HasParent p before l below above
        ]

-- the root comes after no block
root_after : (received : List Slip) (root : Slip) (x y : Linked) → IsPlaced received root x → x.slip ≡ root → IsAboveRoot received root y.slip y.time → link_time received root root ≡ Some (position received root) → After y x
root_after received root x y placed same above e =
    let t : x.time ≡ position received root = same_Some x.time (position received root) (sym placed.linked ∙ ap (link_time received root) same ∙ e) in
    later_key y x (let le = above.late in omega (arith, t, le)) (subst (λ (z : Slip). z.num < y.slip.num) (sym same) above.num)

order_history : (received : List Slip) (root : Slip) (xs : List Linked) → link_time received root root ≡ Some (position received root) → AllByRecursion (IsPlaced received root) xs → Falls xs → IsDistinct (slips xs)
    → AllByRecursion (Roots received root (slips xs)) xs → IsHistory (slips xs)
order_history received root [] e placed falls d roots = tt
order_history received root (x ∷ []) e placed falls d roots = tt
order_history received root (x ∷ y ∷ xs) e placed falls d roots = (next, order_history received root (y ∷ xs) e placed.1 falls.1 d.1 below)
  where
    below : AllByRecursion (Roots received root (slips (y ∷ xs))) (y ∷ xs)
    below = rest_roots received root x (y ∷ xs) placed.0 falls.0 (y ∷ xs) falls.0 roots.1

    not_root : x.slip ≡ root → Roots received root (slips (x ∷ y ∷ xs)) y → ⊥
    not_root is (IsRoot other) =
        let same : x.slip ≡ y.slip = is ∙ sym other in
        let here : has_id (slips (y ∷ xs)) x.slip.id ≡ true = rw (same, same_id_refl y.slip.id) refl in
        both_ways _ d.0 here
    not_root is (HasParent p before l found above) = both_ways _ falls.0.0 (is_after y x (root_after received root x y placed.0 is above e))

    next_by : Roots received root (slips (x ∷ y ∷ xs)) x → Follows (slips (y ∷ xs)) x.slip
    next_by (IsRoot is) = absurd (not_root is roots.1.0)
    next_by (HasParent p before l found above) =
        elim (found_cases x.slip (slips (y ∷ xs)) p found) [
          | inl same ↦ let less = l.parent.less in absurd (omega (arith, ap (λ (z : Slip). z.num) same, less))
          | inr below' ↦
              let named : find_id (slips (y ∷ xs)) x.slip.parent_id ≡ Some p = ap (find_id (slips (y ∷ xs))) (sym l.parent.id) ∙ below' in
              record {
                fresh = λ h. both_ways _ d.0 h;
                parent = rw named l.parent.num;
                above = subst (λ (n : ℕ). n < x.slip.num) l.parent.num l.parent.less;
              }
        ]

    next : Follows (slips (y ∷ xs)) x.slip
    next = next_by roots.0

all_roots : (received : List Slip) → IsDistinct received → (root : Slip) (line : List Slip) → ((p : Slip) (time : ℕ) → IsFound received p → link_time received root p ≡ Some time → IsFound line p)
    → (ys : List Linked) → AllByRecursion (IsPlaced received root) ys → AllByRecursion (Roots received root line) ys
all_roots received d root line has [] all = tt
all_roots received d root line has (y ∷ ys) all =
    (one (link_down received d root y.slip y.time all.0.linked) (above_root received d root y.slip y.time all.0.linked), all_roots received d root line has ys all.1)
  where
    one : ((y.slip ≡ root) × (y.time ≡ position received y.slip)) ⊎ ((p : Slip) × (before : ℕ) × IsLinkedBy received root y.slip y.time p before) → (y.slip ≡ root) ⊎ IsAboveRoot received root y.slip y.time → Roots received root line y
    one (inl is) a = IsRoot is.0
    one (inr x) (inl is) = IsRoot is
    one (inr x) (inr above) = HasParent x.0 x.1 x.2 (has x.0 x.1 x.2.found x.2.linked) above

-- the order from scratch is a history
pub order_is_history : (received : List Slip) (root : Slip) → IsDistinct received → IsHistory (slips (keyed received root))
order_is_history received root d =
    order_history received root (keyed received root) (root_time received root) (order_placed received root d) (sorted_falls (linkable received root received)) (order_distinct received root d)
    (all_roots received d root (slips (keyed received root)) (λ p time found e. order_found received root d p time found e) (keyed received root) (order_placed received root d))

-- with the root's number
pub order_root : (received : List Slip) (root : Slip) → IsDistinct received → IsFound received root → root_num (slips (keyed received root)) ≡ root.num
order_root received root d found = go (keyed received root) (order_placed received root d) (order_is_history received root d) (order_found received root d root (position received root) found (root_time received root))
  where
    go : (xs : List Linked) → AllByRecursion (IsPlaced received root) xs → IsHistory (slips xs) → IsFound (slips xs) root → root_num (slips xs) ≡ root.num
    go [] placed history f = absurd (grind (arith, f))
    go (x ∷ xs) placed history f =
        let low = root_least (slips (x ∷ xs)) history root f in
        let r = root_found x.slip (slips xs) history in
        let k = key_of (IsPlaced received root) (x ∷ xs) placed r.0 r.1 in
        let up : root.num ≤ r.0.num = least r.0 k.key k.is (above_root received d root k.key.slip k.key.time k.has.linked) in
        omega (arith, low, r.2, up)
      where
        least : (s : Slip) (y : Linked) → y.slip ≡ s → (y.slip ≡ root) ⊎ IsAboveRoot received root y.slip y.time → root.num ≤ s.num
        least s y is (inl same) = omega (arith, ap (λ (z : Slip). z.num) (sym same ∙ is))
        least s y is (inr above) = let less = above.num in omega (arith, less, ap (λ (z : Slip). z.num) is)
