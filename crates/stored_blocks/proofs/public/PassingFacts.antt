-- Places whose blocks pass a test, as more blocks are seen and fewer pass.
use Rattle.std.proofs.Common.{arith, ◌≡◌, ◌<◌, ◌⊎◌, inl, inr, ℕ, suc, Bool, true, false, not, List, Some, refl, sym, ◌∙◌, ap, subst, ◌&&◌}
use Rattle.std.proofs.lemmas.Bool.{cases_Bool, cases_lt, and_parts, both_ways}
use Rattle.std.proofs.lemmas.Option.{same_Some}
use Rattle.block_record.specs.declared.blocks.Slip.{Slip}
use Rattle.block_record.specs.Ids.{same_id, same_id-true, same_id_refl}
use Rattle.block_tree.specs.Places.{place_of, slip_at}
use Rattle.block_tree.proofs.public.PathFacts.{place_at}
use Rattle.chain_model.specs.Ancestry.{IsHistory}
use Rattle.bundle_model.specs.Members.{Among}
use Rattle.stored_blocks.specs.declared.places.NumberedPlace.{NumberedPlace}
use Rattle.stored_blocks.specs.Places.{Adds, Drops}
use Rattle.stored_blocks.specs.Stored.{IsPassing, ArePassing}

abbrev pub numbered : Slip → ℕ → NumberedPlace
numbered s at = record { num = s.num; place = at }

-- one id is at one place
pub one_place : (newest : List Slip) (a b : ℕ) (x y : Slip) → IsHistory newest → slip_at newest a ≡ Some x → slip_at newest b ≡ Some y → same_id x.id y.id ≡ true → a ≡ b
one_place newest a b x y history ea eb e =
    same_Some a b (sym (place_at newest a x history ea) ∙ ap (place_of newest) (same_id-true x.id y.id e) ∙ place_at newest b y history eb)

pub next_passing : (newest : List Slip) (test : Slip → Bool) (n : ℕ) (xs ys : List NumberedPlace) (s : Slip) → slip_at newest n ≡ Some s → test s ≡ true
    → ArePassing newest test n xs → Adds (numbered s n) xs ys → ArePassing newest test (suc n) ys
next_passing newest test n xs ys s here passes p a = record {
  own = λ x h. elim (a.only x h) [
    | inl same ↦ subst (IsPassing newest test (suc n)) same (record { low = omega arith; slip = s; here = here; num = refl; passes = passes })
    | inr old ↦ let o = p.own x old in record { low = let l = o.low in omega (arith, l); slip = o.slip; here = o.here; num = o.num; passes = o.passes }
  ];
  all = λ at t low there e. elim (cases_lt at n) [
    | inl before ↦ a.keeps (numbered t at) (p.all at t before there e)
    | inr after ↦
        let now : at ≡ n = omega (arith, low, after) in
        let one : s ≡ t = same_Some s t (sym here ∙ ap (slip_at newest) (sym now) ∙ there) in
        subst (λ (x : NumberedPlace). Among ys x) (same_numbered s t n at one now) a.there
  ];
}
  where
    same_numbered : (u v : Slip) (m k : ℕ) → u ≡ v → k ≡ m → numbered u m ≡ numbered v k
    same_numbered u v m k e f = rw (e, f) refl

-- where the block at a place no longer passes, and each other does as it did
pub fewer_passing : (newest : List Slip) (test less : Slip → Bool) (n at : ℕ) (xs ys : List NumberedPlace) (y : Slip) → IsHistory newest → slip_at newest at ≡ Some y
    → ((t : Slip) → less t ≡ (test t && not (same_id y.id t.id))) → ArePassing newest test n xs → Drops (numbered y at) xs ys → ArePassing newest less n ys
fewer_passing newest test less n at xs ys y history here is p d = record { own = own; all = all }
  where
    own : (x : NumberedPlace) → Among ys x → IsPassing newest less n x
    own x h = go (cases_Bool (same_id y.id o.slip.id))
      where
        o : IsPassing newest test n x
        o = p.own x (d.only x h)

        go : (same_id y.id o.slip.id ≡ true) ⊎ (same_id y.id o.slip.id ≡ false) → IsPassing newest less n x
        go (inl e) =
            let place = one_place newest at x.place y o.slip history here o.here e in
            let one : y ≡ o.slip = same_Some y o.slip (sym here ∙ ap (slip_at newest) place ∙ o.here) in
            absurd (d.gone (subst (Among ys) (back x o.slip o.num one place) h))
          where
            back : (z : NumberedPlace) (t : Slip) → t.num ≡ z.num → y ≡ t → at ≡ z.place → z ≡ numbered y at
            back z t e1 e2 e3 = grind (arith, e1, e2, e3)
        go (inr e) = let t = o.passes in record { low = o.low; slip = o.slip; here = o.here; num = o.num; passes = is o.slip ∙ rw (t, e) refl }

    all : (k : ℕ) (t : Slip) → k < n → slip_at newest k ≡ Some t → less t ≡ true → Among ys (numbered t k)
    all k t low there e =
        let parts = and_parts (test t) (not (same_id y.id t.id)) (sym (is t) ∙ e) in
        d.keeps (numbered t k) (p.all k t low there parts.0) (λ same. other parts.1 (ap (λ (z : NumberedPlace). z.place) same))
      where
        other : not (same_id y.id t.id) ≡ true → at ≡ k → ⊥
        other off e' =
            let one : y ≡ t = same_Some y t (sym here ∙ ap (slip_at newest) e' ∙ there) in
            both_ways _ (ap not (subst (λ (z : Slip). same_id y.id z.id ≡ true) one (same_id_refl y.id))) off

-- a test that says the same
pub same_passing : (newest : List Slip) (test other : Slip → Bool) (n : ℕ) (xs : List NumberedPlace) → ((at : ℕ) (t : Slip) → at < n → slip_at newest at ≡ Some t → other t ≡ test t)
    → ArePassing newest test n xs → ArePassing newest other n xs
same_passing newest test other n xs same p = record {
  own = λ x h. let o = p.own x h in record { low = o.low; slip = o.slip; here = o.here; num = o.num; passes = same x.place o.slip o.low o.here ∙ o.passes };
  all = λ at s low here e. p.all at s low here (sym (same at s low here) ∙ e);
}
