-- A run keeps the blocks above the tip in order.
use Rattle.std.proofs.Common.{arith, ◌≡◌, ◌<◌, ◌⊎◌, inl, inr, ℕ, zero, suc, max, Bool, true, false, cond, List, [], ◌∷◌, ◌++◌, Option, Some, None, refl, sym, ◌∙◌, ap, subst}
use Rattle.std.specs.List.{AllByRecursion, filter}
use Rattle.std.proofs.lemmas.Bool.{cases_Bool, both_ways, false_from_ne_true}
use Rattle.std.proofs.lemmas.List.Elements.{filter-append}
use Rattle.std.proofs.lemmas.Option.{same_Some}
use mathlib.Core.List.{IsSuffix}
use Rattle.block_record.specs.declared.blocks.Slip.{Slip}
use Rattle.block_record.specs.Ids.{same_id_refl}
use Rattle.chain_model.specs.Ancestry.{has_id, ancestry, IsHistory}
use Rattle.chain_model.specs.Finality.{final_tip, ancestry_of, ClaimsAgree}
use Rattle.chain_model.specs.Steps.{holds_tip}
use Rattle.chain_laws.proofs.public.Lines.{IsHistory-rest, is_fresh, find_id_at, has_id-find_id, is_above}
use Rattle.chain_laws.proofs.public.Growth.{IsFound, all_weaker, all_found, found_past, tip_claimed, claim_found, grows_by_many}
use Rattle.chain_laws.proofs.public.Reach.{has_id-suffix}
use Rattle.chain_laws.proofs.public.Meeting.{itself_on_path}
use Rattle.chain_laws.proofs.public.Later.{ancestry_later, history_older}
use Rattle.chain_laws.proofs.public.Roots.{has_tip}
use Rattle.relay_model.specs.Soundness.{IsDistinct}
use Rattle.relay_laws.proofs.Times.{link_down}
use Rattle.relay_model.proofs.public.Intakes.{all_filter}
use Rattle.relay_model.proofs.public.Sound.{lacks_parts}
use Rattle.relay_model.specs.Orders.{position, link_time}
use Rattle.relay_laws.proofs.public.RunFacts.{IsStep}
use Rattle.relay_laws.proofs.Keys.{After, ByTime, ByNum, ByPlace}
use Rattle.relay_laws.proofs.Drains.{Pairs, Above, pairs_filter}
use Rattle.relay_laws.proofs.Growing.{key, Newer}

pub pairs_by : (F : Slip → Type 0) (P Q : Slip → Slip → Type 0) → ((x y : Slip) → F x → F y → P x y → Q x y) → (xs : List Slip) → AllByRecursion F xs → Pairs P xs → Pairs Q xs
pairs_by F P Q f [] all d = tt
pairs_by F P Q f (x ∷ xs) all d = (each xs all.1 d.0, pairs_by F P Q f xs all.1 d.1)
  where
    each : (ys : List Slip) → AllByRecursion F ys → AllByRecursion (P x) ys → AllByRecursion (Q x) ys
    each [] a b = tt
    each (y ∷ ys) a b = (f x y all.0 a.0 b.0, each ys a.1 b.1)

pub pairs_append : (P : Slip → Slip → Type 0) (F G : Slip → Type 0) → ((x y : Slip) → F x → G y → P x y) → (xs ys : List Slip) → AllByRecursion F xs → AllByRecursion G ys → Pairs P xs → Pairs P ys → Pairs P (xs ++ ys)
pairs_append P F G f [] ys a b dx dy = dy
pairs_append P F G f (x ∷ xs) ys a b dx dy = (both xs dx.0, pairs_append P F G f xs ys a.1 b dx.1 dy)
  where
    right : (zs : List Slip) → AllByRecursion G zs → AllByRecursion (P x) zs
    right [] g = tt
    right (z ∷ zs) g = (f x z a.0 g.0, right zs g.1)

    both : (ws : List Slip) → AllByRecursion (P x) ws → AllByRecursion (P x) (ws ++ ys)
    both [] h = right ys b
    both (w ∷ ws) h = (h.0, both ws h.1)

pub filter_twice_all : (f g : Slip → Bool) (xs : List Slip) → AllByRecursion (λ x. f x ≡ true → g x ≡ true) xs → filter f (filter g xs) ≡ filter f xs
filter_twice_all f g [] all = refl
filter_twice_all f g (x ∷ xs) all =
    let rest = filter_twice_all f g xs all.1 in
    elim (cases_Bool (g x)) [
      | inl hit ↦ rw hit (kept (f x) rest)
      | inr miss ↦ let no' : f x ≡ false = false_from_ne_true _ (λ e. both_ways _ miss (all.0 e)) in rw (miss, no') rest
    ]
  where
    kept : (b : Bool) → filter f (filter g xs) ≡ filter f xs → cond b (x ∷ filter f (filter g xs)) (filter f (filter g xs)) ≡ cond b (x ∷ filter f xs) (filter f xs)
    kept b e = rw e refl

pub filter_none : (f : Slip → Bool) (xs : List Slip) → AllByRecursion (λ x. f x ≡ false) xs → filter f xs ≡ []
filter_none f [] all = refl
filter_none f (x ∷ xs) all = rw all.0 (filter_none f xs all.1)

-- the blocks before a history are new
pub front_new : (front old : List Slip) → IsHistory (front ++ old) → AllByRecursion (λ x. IsFound (front ++ old) x × (has_id old x.id ≡ false)) front
front_new [] old history = tt
front_new (x ∷ front) old history =
    let rest = IsHistory-rest x (front ++ old) history in (
      (find_id_at x (front ++ old) x.id (same_id_refl x.id), (lacks_parts front old x.id (is_fresh x (front ++ old) history)).1),
      all_weaker (λ y. IsFound (front ++ old) y × (has_id old y.id ≡ false)) (λ y. IsFound (x ∷ front ++ old) y × (has_id old y.id ≡ false)) (λ y f. (found_past x (front ++ old) history y f.0, f.1)) front (front_new front old rest),
    )

-- a key in a longer list of received blocks
pub newer_grows : (first : ℕ) (old new : List Slip) (s root : Slip) → (d : (x : Slip) (time : ℕ) → IsFound old x → link_time old root x ≡ Some time → link_time new root x ≡ Some time) → IsStep first old new s
    → (x y : Slip) → (IsFound old x × ((time : ℕ) × (link_time old root x ≡ Some time))) → (IsFound old y × ((time : ℕ) × (link_time old root y ≡ Some time))) → Newer old root x y → Newer new root x y
newer_grows first old new s root d step x y fx fy newer tx ty ex ey =
    let ax : fx.1.0 ≡ tx = same_Some fx.1.0 tx (sym (d x fx.1.0 fx.0 fx.1.1) ∙ ex) in
    let ay : fy.1.0 ≡ ty = same_Some fy.1.0 ty (sym (d y fy.1.0 fy.0 fy.1.1) ∙ ey) in
    same_keys (step.at x fx.0) (step.at y fy.0) ax ay (newer fx.1.0 fy.1.0 fx.1.1 fy.1.1)
  where
    same_keys : {a b c e : ℕ} → position new x ≡ position old x → position new y ≡ position old y → a ≡ c → b ≡ e → After (key old x a) (key old y b) → After (key new x c) (key new y e)
    same_keys {a} {b} {c} {e} px py ac be (ByTime t) = ByTime (omega (arith, t, ac, be))
    same_keys {a} {b} {c} {e} px py ac be (ByNum t n) = ByNum (sym ac ∙ t ∙ be) n
    same_keys {a} {b} {c} {e} px py ac be (ByPlace t n p) = ByPlace (sym ac ∙ t ∙ be) n (omega (arith, p, px, py))

-- what contains a later tip contains an earlier one
pub tip_below : (front old : List Slip) → IsHistory (front ++ old) → ClaimsAgree (front ++ old) → (t u : Slip) → final_tip old ≡ Some t → final_tip (front ++ old) ≡ Some u → IsFound old t
    → (id : List ℕ) → has_id (ancestry (front ++ old) id) u.id ≡ true → has_id (ancestry (front ++ old) id) t.id ≡ true
tip_below front old history agreed t u et eu ft id on =
    let grown : IsSuffix (ancestry old t.id) (ancestry (front ++ old) u.id) = finals (final_tip old) (final_tip (front ++ old)) et eu (grows_by_many front old history agreed) in
    let own : has_id (ancestry old t.id) t.id ≡ true = itself_on_path old t ft in
    has_id-suffix _ _ t.id (is_above (front ++ old) history id u.id on).line (has_id-suffix _ _ t.id grown own)
  where
    finals : (o p : Option Slip) → o ≡ Some t → p ≡ Some u → IsSuffix (ancestry_of old o) (ancestry_of (front ++ old) p) → IsSuffix (ancestry old t.id) (ancestry (front ++ old) u.id)
    finals o p eo ep h = rw (eo, ep) at h

-- each link time is below a bound of the positions
pub time_low : (received : List Slip) → IsDistinct received → (root : Slip) (bound : ℕ) → ((x : Slip) → IsFound received x → position received x < bound)
    → (n : ℕ) (x : Slip) (time : ℕ) → x.num < n → IsFound received x → link_time received root x ≡ Some time → time < bound
time_low received d root bound low zero x time less found e = absurd (omega (arith, less))
time_low received d root bound low (suc n) x time less found e =
    elim (link_down received d root x time e) [
      | inl is ↦ let l = low x found in omega (arith, l, is.1)
      | inr y ↦
          let l = y.2 in
          most time (position received x) y.1 bound l.most (low x found) (time_low received d root bound low n y.0 y.1 (small y.0.num x.num n l.parent.less less) l.found l.linked)
    ]
  where
    small : (a b c : ℕ) → a < b → b < suc c → a < c
    small a b c h k = omega (arith, h, k)

    most : (t a b m : ℕ) → t ≡ max a b → a < m → b < m → t < m
    most t a b m h k l = omega (arith, h, k, l)

-- new blocks of one link time, after older ones, or off the tip
abbrev pub IsAllNew : List Slip → Slip → ℕ → List Slip → List Slip → Type 0
IsAllNew received root bound front old =
    AllByRecursion (λ x. (time : ℕ) → link_time received root x ≡ Some time → time ≡ bound) front
    × AllByRecursion (λ y. (time : ℕ) → link_time received root y ≡ Some time → time < bound) old

old_holds : (front old : List Slip) → IsHistory (front ++ old) → ClaimsAgree (front ++ old) → (o p : Option Slip) → final_tip old ≡ o → final_tip (front ++ old) ≡ p
    → AllByRecursion (λ x. holds_tip (front ++ old) p x ≡ true → holds_tip old o x ≡ true) old
old_holds front old history agreed o p eo ep =
    all_weaker (IsFound old) (λ x. holds_tip (front ++ old) p x ≡ true → holds_tip old o x ≡ true) (λ x fx on. go o p eo ep x fx on) old (all_found old (history_older front old history))
  where
    go : (o' p' : Option Slip) → final_tip old ≡ o' → final_tip (front ++ old) ≡ p' → (x : Slip) → IsFound old x → holds_tip (front ++ old) p' x ≡ true → holds_tip old o' x ≡ true
    go None p' e f x fx on = refl
    go (Some t) None e f x fx on = absurd (none_tip front old history f x fx)
      where
        none_tip : (xs ys : List Slip) → IsHistory (xs ++ ys) → final_tip (xs ++ ys) ≡ None → (x' : Slip) → IsFound ys x' → ⊥
        none_tip [] [] h k x' g = grind (arith, g)
        none_tip [] (y ∷ ys) h k x' g = has_tip y ys h k
        none_tip (z ∷ xs) ys h k x' g = has_tip z (xs ++ ys) h k
    go (Some t) (Some u) e f x fx on =
        let c = tip_claimed old (history_older front old history) t e in
        let ft = claim_found old (history_older front old history) c.by t c.claimed in
        let on_t : has_id (ancestry (front ++ old) x.id) t.id ≡ true = tip_below front old history agreed t u e f ft x.id on in
        ap (λ l. has_id l t.id) (sym (ancestry_later front old history x.id (has_id-find_id old x.id x fx))) ∙ on_t

newer_new : (received : List Slip) (root : Slip) (bound : ℕ) (x y : Slip) → ((time : ℕ) → link_time received root x ≡ Some time → time ≡ bound) → ((time : ℕ) → link_time received root y ≡ Some time → time ≡ bound) → Above received x y → Newer received root x y
newer_new received root bound x y fx fy above tx ty ex ey = go above (fx tx ex ∙ sym (fy ty ey))
  where
    go : Above received x y → tx ≡ ty → After (key received x tx) (key received y ty)
    go (inl num) e = ByNum e num
    go (inr both) e = ByPlace e both.0 both.1

-- sorted blocks above the tip stay sorted
pub sorted_after : (received front old : List Slip) (root : Slip) (bound : ℕ) → IsHistory (front ++ old) → ClaimsAgree (front ++ old)
    → Pairs (Newer received root) (filter (holds_tip old (final_tip old)) old) → Pairs (Above received) front
    → (IsAllNew received root bound front old) ⊎ (AllByRecursion (λ x. holds_tip (front ++ old) (final_tip (front ++ old)) x ≡ false) front)
    → Pairs (Newer received root) (filter (holds_tip (front ++ old) (final_tip (front ++ old))) (front ++ old))
sorted_after received front old root bound history agreed before above new = subst (Pairs (Newer received root)) (sym (filter-append f front old)) (both new)
  where
    f : Slip → Bool
    f = holds_tip (front ++ old) (final_tip (front ++ old))

    olds : Pairs (Newer received root) (filter f old)
    olds = subst (Pairs (Newer received root)) (filter_twice_all f (holds_tip old (final_tip old)) old (old_holds front old history agreed (final_tip old) (final_tip (front ++ old)) refl refl))
        (pairs_filter (Newer received root) f (filter (holds_tip old (final_tip old)) old) before)

    both : (IsAllNew received root bound front old) ⊎ (AllByRecursion (λ x. holds_tip (front ++ old) (final_tip (front ++ old)) x ≡ false) front) → Pairs (Newer received root) (filter f front ++ filter f old)
    both (inl all) =
        pairs_append (Newer received root) (λ x. (time : ℕ) → link_time received root x ≡ Some time → time ≡ bound) (λ y. (time : ℕ) → link_time received root y ≡ Some time → time < bound)
        (λ x y fx fy tx ty ex ey. let a = fx tx ex in let b = fy ty ey in ByTime (omega (arith, a, b)))
        (filter f front) (filter f old) (all_filter _ f front all.0) (all_filter _ f old all.1)
        (pairs_filter (Newer received root) f front (pairs_by (λ x. (time : ℕ) → link_time received root x ≡ Some time → time ≡ bound) (Above received) (Newer received root) (λ x y fx fy h. newer_new received root bound x y fx fy h) front all.0 above))
        olds
    both (inr off) = subst (λ (l : List Slip). Pairs (Newer received root) (l ++ filter f old)) (sym (filter_none f front off)) olds
