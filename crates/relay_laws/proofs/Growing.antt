-- Link times while more blocks are received, and lists that one order sorts.
use Rattle.std.proofs.Common.{arith, ◌≡◌, ◌<◌, ◌⊎◌, inl, inr, ℕ, zero, suc, max, true, false, List, [], ◌∷◌, length, Some, refl, sym, ◌∙◌, ap, subst}
use Rattle.std.specs.List.{AllByRecursion}
use Rattle.std.proofs.lemmas.Bool.{cases_Bool, both_ways, false_from_ne_true}
use Rattle.std.proofs.lemmas.Option.{same_Some}
use Rattle.block_record.proofs.public.SlipFacts.{same_slip_is, same_slip_refl}
use Rattle.block_record.specs.declared.blocks.Slip.{Slip}
use Rattle.block_record.specs.Ids.{same_id, same_id_refl, same_id-true}
use Rattle.chain_model.specs.Ancestry.{has_id}
use Rattle.chain_laws.proofs.public.Lines.{find_id_at, find_id_past, has_id-find_id}
use Rattle.chain_laws.proofs.public.Growth.{IsFound, find_passes, found_cases}
use Rattle.block_record.specs.Slips.{same_slip}
use Rattle.relay_model.specs.Orders.{position, link_time, Linked}
use Rattle.relay_model.specs.Soundness.{IsDistinct}
use Rattle.relay_laws.proofs.public.RunFacts.{IsStep}
use Rattle.relay_laws.proofs.Times.{IsLinkedBy, link_down, link_up, root_time}
use Rattle.relay_laws.proofs.Keys.{After}
use Rattle.relay_laws.proofs.Drains.{Pairs}

grow_go : (n : ℕ) (first : ℕ) (old new : List Slip) (s root : Slip) → IsDistinct old → IsStep first old new s → (x : Slip) (time : ℕ) → x.num < n → IsFound old x → link_time old root x ≡ Some time → link_time new root x ≡ Some time
grow_go zero first old new s root d step x time less found e = absurd (omega (arith, less))
grow_go (suc n) first old new s root d step x time less found e =
    elim (cases_Bool (same_slip x root)) [
      | inl same ↦ root_case (same_slip_is x root same)
      | inr other ↦ go (λ is. both_ways _ other (ap (λ z. same_slip z root) is ∙ same_slip_refl root)) (link_down old d root x time e) (λ p t l f h. grow_go n first old new s root d step p t l f h)
    ]
  where
    root_case : x ≡ root → link_time new root x ≡ Some time
    root_case is =
        let t : time ≡ position old root = same_Some time (position old root) (sym e ∙ ap (link_time old root) is ∙ root_time old root) in
        let at : position new root ≡ position old root = step.at root (subst (IsFound old) is found) in
        ap (link_time new root) is ∙ root_time new root ∙ ap (λ m. Some m) (at ∙ sym t)

    small : (a b c : ℕ) → a < b → b < suc c → a < c
    small a b c h k = omega (arith, h, k)

    go : (x ≡ root → ⊥) → ((x ≡ root) × (time ≡ position old x)) ⊎ ((p : Slip) × (before : ℕ) × IsLinkedBy old root x time p before)
        → ((p : Slip) (t : ℕ) → p.num < n → IsFound old p → link_time old root p ≡ Some t → link_time new root p ≡ Some t) → link_time new root x ≡ Some time
    go apart (inl is) ih = absurd (apart is.0)
    go apart (inr y) ih =
        let l = y.2 in
        link_up new step.distinct root x y.0 y.1 (step.keeps y.0 l.found) l.parent (ih y.0 y.1 (small y.0.num x.num n l.parent.less less) l.found l.linked) apart
        ∙ ap (λ m. Some (max m y.1)) (step.at x found) ∙ ap (λ m. Some m) (sym l.most)

-- a link time stays
pub link_grows : (first : ℕ) (old new : List Slip) (s root : Slip) → IsDistinct old → IsStep first old new s → (x : Slip) (time : ℕ) → IsFound old x → link_time old root x ≡ Some time → link_time new root x ≡ Some time
link_grows first old new s root d step x time found e = grow_go (suc x.num) first old new s root d step x time (omega arith) found e

pub position_low : (xs : List Slip) (x : Slip) → IsFound xs x → position xs x < length xs
position_low [] x f = absurd (grind (arith, f))
position_low (y ∷ ys) x f =
    elim (cases_Bool (same_slip y x)) [
      | inl same ↦ rw same (omega arith)
      | inr other ↦ rw other (below other (found_cases y ys x f) (λ g. position_low ys x g))
    ]
  where
    below : same_slip y x ≡ false → (y ≡ x) ⊎ IsFound ys x → (IsFound ys x → position ys x < length ys) → position ys x < suc (length ys)
    below other (inl same) ih = absurd (both_ways _ other (subst (λ (z : Slip). same_slip y z ≡ true) same (same_slip_refl y)))
    below other (inr g) ih = let l = ih g in omega (arith, l)

-- the key of a linkable block
abbrev pub key : List Slip → Slip → ℕ → Linked
key received s time = record { slip = s; time = time; at = position received s }

-- x comes after y, by their keys
abbrev pub Newer : List Slip → Slip → Slip → Slip → Type 0
Newer received root x y = (tx ty : ℕ) → link_time received root x ≡ Some tx → link_time received root y ≡ Some ty → After (key received x tx) (key received y ty)

-- y does not come after x
abbrev pub Older : List Slip → Slip → Slip → Slip → Type 0
Older received root x y = (tx ty : ℕ) → link_time received root x ≡ Some tx → link_time received root y ≡ Some ty → After (key received y ty) (key received x tx) → ⊥

lacks_found : (x : Slip) (xs : List Slip) → IsDistinct (x ∷ xs) → IsFound xs x → ⊥
lacks_found x xs d f = both_ways _ d.0 (has_id-find_id xs x.id x f)

-- two sorted lists of the same blocks are one
pub same_sorted : (received : List Slip) (root : Slip) (xs ys : List Slip) → IsDistinct xs → IsDistinct ys → AllByRecursion (λ x. (time : ℕ) × (link_time received root x ≡ Some time)) xs
    → Pairs (Newer received root) xs → Pairs (Older received root) ys → ((s : Slip) → IsFound xs s → IsFound ys s) → ((s : Slip) → IsFound ys s → IsFound xs s) → xs ≡ ys
same_sorted received root [] [] dx dy linked px py there back = refl
same_sorted received root [] (y ∷ ys) dx dy linked px py there back = let f = back y (find_id_at y ys y.id (same_id_refl y.id)) in absurd (grind (arith, f))
same_sorted received root (x ∷ xs) [] dx dy linked px py there back = let f = there x (find_id_at x xs x.id (same_id_refl x.id)) in absurd (grind (arith, f))
same_sorted received root (x ∷ xs) (y ∷ ys) dx dy linked px py there back =
    let one : x ≡ y = heads (found_cases y ys x (there x (find_id_at x xs x.id (same_id_refl x.id)))) (found_cases x xs y (back y (find_id_at y ys y.id (same_id_refl y.id)))) in
    let rest = same_sorted received root xs ys dx.1 dy.1 linked.1 px.1 py.1
    (λ s f. past y ys s (found_cases y ys s (there s (find_id_past x xs s.id (apart x xs dx s f) ∙ f))) (λ is. lacks_found x xs dx (subst (IsFound xs) (sym (one ∙ is)) f)))
    (λ s f. past x xs s (found_cases x xs s (back s (find_id_past y ys s.id (apart y ys dy s f) ∙ f))) (λ is. lacks_found y ys dy (subst (IsFound ys) (sym (sym one ∙ is)) f))) in
    rw (one, rest) refl
  where
    at : (P : Slip → Type 0) (zs : List Slip) (z : Slip) → AllByRecursion P zs → IsFound zs z → P z
    at P zs z all f = find_passes P (λ v. same_id v.id z.id) zs z all f

    heads : (y ≡ x) ⊎ IsFound ys x → (x ≡ y) ⊎ IsFound xs y → x ≡ y
    heads (inl is) b = sym is
    heads (inr f) (inl is) = is
    heads (inr f) (inr g) =
        let tx = linked.0 in
        let ty = at (λ v. (time : ℕ) × (link_time received root v ≡ Some time)) xs y linked.1 g in
        absurd (at (Older received root y) ys x py.0 f ty.0 tx.0 ty.1 tx.1 (at (Newer received root x) xs y px.0 g tx.0 ty.0 tx.1 ty.1))

    past : (z : Slip) (zs : List Slip) (s : Slip) → (z ≡ s) ⊎ IsFound zs s → (z ≡ s → ⊥) → IsFound zs s
    past z zs s (inl is) no' = absurd (no' is)
    past z zs s (inr f) no' = f

    apart : (z : Slip) (zs : List Slip) → IsDistinct (z ∷ zs) → (s : Slip) → IsFound zs s → same_id z.id s.id ≡ false
    apart z zs d s f = false_from_ne_true _ (λ same. both_ways _ (subst (λ (i : List ℕ). has_id zs i ≡ false) (same_id-true z.id s.id same) d.0) (has_id-find_id zs s.id s f))
