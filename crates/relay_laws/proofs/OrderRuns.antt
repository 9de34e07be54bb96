-- The blocks above the tip stand in the order from scratch.
use Rattle.std.proofs.Common.{arith, ◌≡◌, ◌≤◌, ◌<◌, ◌⊎◌, inl, inr, ℕ, zero, suc, max, Bool, true, false, List, [], ◌∷◌, Some, refl, sym, ◌∙◌, ap, subst, ◌||◌}
use Rattle.std.proofs.lemmas.Option.{same_Some}
use Rattle.block_record.specs.declared.blocks.Slip.{Slip}
use Rattle.block_record.specs.Ids.{same_id, same_id_refl}
use Rattle.chain_model.specs.Ancestry.{find_id, has_id, ancestry, IsHistory}
use Rattle.chain_laws.proofs.public.Growth.{IsFound}
use Rattle.chain_laws.proofs.public.Reach.{head_is_found}
use Rattle.chain_laws.proofs.public.LineFacts.{parent_at}
use Rattle.relay_model.specs.Orders.{position, link_time}
use Rattle.relay_model.specs.Soundness.{IsDistinct}
use Rattle.relay_laws.proofs.public.RunFacts.{last_of}
use Rattle.relay_laws.proofs.Times.{IsParent, link_down, above_root, IsAboveRoot}
use Rattle.relay_laws.proofs.public.Scratch.{line_parent, alone_last}

-- a history with new blocks: each is the admitted one, or waited for a block that is new too
pub record IsNewPart (whole old : List Slip) (s : Slip) : Type 0 where
  pub history : IsHistory whole
  pub from : (x : Slip) → IsFound whole x → has_id old x.id ≡ false → (x ≡ s) ⊎ (has_id old x.parent_id ≡ false)
  pub roots : (x : Slip) → last_of whole ≡ Some x → has_id old x.id ≡ false → x ≡ s

-- what holds of the admitted block and goes from parent to child holds of all new ones
new_go : (whole old : List Slip) (s : Slip) → IsNewPart whole old s → (P : Slip → Type 0) → P s
    → ((x q : Slip) → IsFound whole x → IsFound whole q → has_id old q.id ≡ false → IsParent x q → ancestry whole x.id ≡ x ∷ ancestry whole q.id → P q → P x)
    → (n : ℕ) (x : Slip) → x.num < n → IsFound whole x → has_id old x.id ≡ false → P x
new_go whole old s part P own step zero x less found new = absurd (omega (arith, less))
new_go whole old s part P own step (suc n) x less found new =
    let line = head_is_found whole x.id x found in
    go line.0 line.1 (part.from x found new) (λ q l f h. new_go whole old s part P own step n q l f h)
  where
    go : (line : List Slip) → ancestry whole x.id ≡ x ∷ line → (x ≡ s) ⊎ (has_id old x.parent_id ≡ false) → ((q : Slip) → q.num < n → IsFound whole q → has_id old q.id ≡ false → P q) → P x
    go line e (inl is) ih = subst P (sym is) own
    go [] e (inr orphan) ih = subst P (sym (part.roots x (alone_last whole part.history x e) new)) own
    go (q ∷ qs) e (inr orphan) ih =
        let y = parent_at whole part.history x q qs e in
        let parent = line_parent whole part.history x q qs e in
        let new_q : has_id old q.id ≡ false = ap (has_id old) parent.id ∙ orphan in
        step x q found y.found new_q parent (e ∙ ap (λ l. x ∷ l) (sym y.line)) (ih q (small q.num x.num n y.less less) y.found new_q)
      where
        small : (a c m : ℕ) → a < c → c < suc m → a < m
        small a c m h k = omega (arith, h, k)

-- all new blocks have the admitted one on their path
pub new_path : (whole old : List Slip) (s : Slip) → IsNewPart whole old s → IsFound whole s → (x : Slip) → IsFound whole x → has_id old x.id ≡ false → has_id (ancestry whole x.id) s.id ≡ true
new_path whole old s part there x found new =
    new_go whole old s part (λ y. has_id (ancestry whole y.id) s.id ≡ true)
    (let r = head_is_found whole s.id s there in ap (λ l. has_id l s.id) r.1 ∙ first s r.0)
    (λ y q fy fq nq parent line on. ap (λ l. has_id l s.id) line ∙ below y (has_id (ancestry whole q.id) s.id) on)
    (suc x.num) x (omega arith) found new
  where
    first : (a : Slip) (rest : List Slip) → has_id (a ∷ rest) a.id ≡ true
    first a rest = rw (same_id_refl a.id) refl

    below : (y : Slip) (b : Bool) → b ≡ true → (same_id y.id s.id || b) ≡ true
    below y b e = grind (arith, e)

-- and, where it is received now, its position as link time
pub new_time : (whole old received : List Slip) (s root : Slip) → IsNewPart whole old s → IsDistinct received → IsFound whole s → ((x : Slip) → IsFound whole x → IsFound received x)
    → ((x : Slip) → IsFound received x → position received x ≤ position received s) → ((x : Slip) (time : ℕ) → IsFound received x → link_time received root x ≡ Some time → time ≤ position received s)
    → ((x : Slip) → IsFound whole x → (time : ℕ) × (link_time received root x ≡ Some time))
    → (x : Slip) → IsFound whole x → has_id old x.id ≡ false → (time : ℕ) → link_time received root x ≡ Some time → time ≡ position received s
new_time whole old received s root part d there inside last bound linked x found new =
    new_go whole old s part (λ y. (time : ℕ) → link_time received root y ≡ Some time → time ≡ position received s) own step (suc x.num) x (omega arith) found new
  where
    at_least : (t a b : ℕ) → t ≡ max a b → a ≤ t
    at_least t a b h = omega (arith, h)

    both : (t p : ℕ) → p ≤ t → t ≤ p → t ≡ p
    both t p h k = omega (arith, h, k)

    own : (time : ℕ) → link_time received root s ≡ Some time → time ≡ position received s
    own time e = elim (link_down received d root s time e) [
      | inl is ↦ is.1
      | inr y ↦ both time (position received s) (at_least time (position received s) y.1 y.2.most) (bound s time (inside s there) e)
    ]

    step : (y q : Slip) → IsFound whole y → IsFound whole q → has_id old q.id ≡ false → IsParent y q → ancestry whole y.id ≡ y ∷ ancestry whole q.id
        → ((time : ℕ) → link_time received root q ≡ Some time → time ≡ position received s) → (time : ℕ) → link_time received root y ≡ Some time → time ≡ position received s
    step y q fy fq nq parent line ih time e =
        let tq = linked q fq in
        elim (link_down received d root y time e) [
          | inl is ↦ absurd (not_root is.0 (above_root received d root q tq.0 tq.1))
          | inr z ↦
              let named : IsFound received q = inside q fq in
              let one : z.0 ≡ q = same_Some z.0 q (sym z.2.found ∙ ap (find_id received) (z.2.parent.id ∙ sym parent.id) ∙ named) in
              let before : z.1 ≡ position received s = ih z.1 (ap (link_time received root) (sym one) ∙ z.2.linked) in
              top time (position received y) z.1 (position received s) z.2.most before (last y (inside y fy))
        ]
      where
        top : (t a b p : ℕ) → t ≡ max a b → b ≡ p → a ≤ p → t ≡ p
        top t a b p h k l = omega (arith, h, k, l)

        not_root : y ≡ root → (q ≡ root) ⊎ IsAboveRoot received root q (linked q fq).0 → ⊥
        not_root is (inl same) = let less = parent.less in omega (arith, less, ap (λ (v : Slip). v.num) is, ap (λ (v : Slip). v.num) same)
        not_root is (inr above) = let less = parent.less in let more = above.num in omega (arith, less, more, ap (λ (v : Slip). v.num) is)
