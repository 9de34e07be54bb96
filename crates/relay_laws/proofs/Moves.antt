-- Where blocks go while waiting blocks are taken in.
use Rattle.std.proofs.Common.{arith, ◌≡◌, ◌⊎◌, inl, inr, ℕ, zero, suc, Bool, true, false, not, cond, List, [], ◌∷◌, Option, Some, None, refl, sym, ◌∙◌, ap, subst}
use Rattle.std.specs.List.{filter}
use Rattle.std.proofs.lemmas.Bool.{cases_Bool, both_ways, false_from_ne_true}
use Rattle.std.proofs.lemmas.Option.{same_Some}
use Rattle.block_record.specs.declared.blocks.Slip.{Slip}
use Rattle.block_record.specs.Ids.{same_id, same_id_refl, same_id-true}
use Rattle.chain_model.specs.Ancestry.{find_id, has_id}
use Rattle.chain_laws.proofs.public.Lines.{has_id-find_id, find_id_at, find_id_past}
use Rattle.chain_laws.proofs.public.Growth.{IsFound, found_past, found_cases}
use Rattle.relay_model.specs.declared.answers.Conflict.{Conflict as Clash}
use Rattle.relay_model.specs.Worlds.{next_waiting}
use Rattle.relay_model.specs.Offers.{Intake, take_one, take_judged, take_in, clash}
use Rattle.relay_model.specs.Soundness.{IsDistinct}
use Rattle.relay_model.proofs.public.Admits.{admits}
use Rattle.relay_model.proofs.public.Intakes.{IsTaken, next_is, IsTaking, keeps_one, find_of}
use Rattle.relay_model.proofs.public.Entries.{distinct_found}

-- a block of a filtered list
pub filter_found : (p : Slip → Bool) (xs : List Slip) → IsDistinct xs → (x : Slip) → IsFound xs x → p x ≡ true → IsFound (filter p xs) x
filter_found p [] d x found e = absurd (grind (arith, found))
filter_found p (y ∷ ys) d x found e =
    elim (cases_Bool (same_id y.id x.id)) [
      | inl here ↦
          let same : y ≡ x = same_Some y x (sym (find_id_at y ys x.id here) ∙ found) in
          let hit : p y ≡ true = ap p same ∙ e in
          rw hit (find_id_at y (filter p ys) x.id here ∙ ap (λ z. Some z) same)
      | inr past ↦
          let rest = filter_found p ys d.1 x (sym (find_id_past y ys x.id past) ∙ found) e in
          let Q : Bool → Type 0 = λ t. find_id (cond t (y ∷ filter p ys) (filter p ys)) x.id ≡ Some x in
          elim (p y) as Q [ true ↦ find_id_past y (filter p ys) x.id past ∙ rest | false ↦ rest ]
    ]

none_of : (xs : List Slip) (id : List ℕ) (x : Slip) → has_id xs id ≡ false → find_id xs id ≡ Some x → ⊥
none_of xs id x lacks found = both_ways _ lacks (has_id-find_id xs id x found)

pub found_filter : (p : Slip → Bool) (xs : List Slip) → IsDistinct xs → (x : Slip) → IsFound (filter p xs) x → IsFound xs x × (p x ≡ true)
found_filter p [] d x found = absurd (grind (arith, found))
found_filter p (y ∷ ys) d x found = go (p y) refl found (λ f. found_filter p ys d.1 x f)
  where
    other : IsFound ys x → same_id y.id x.id ≡ false
    other f = false_from_ne_true _ (λ same. none_of ys x.id x (subst (λ (i : List ℕ). has_id ys i ≡ false) (same_id-true y.id x.id same) d.0) f)

    up : IsFound ys x × (p x ≡ true) → IsFound (y ∷ ys) x × (p x ≡ true)
    up f = (find_id_past y ys x.id (other f.0) ∙ f.0, f.1)

    go : (b : Bool) → p y ≡ b → find_id (cond b (y ∷ filter p ys) (filter p ys)) x.id ≡ Some x → (IsFound (filter p ys) x → IsFound ys x × (p x ≡ true)) → IsFound (y ∷ ys) x × (p x ≡ true)
    go true e f ih =
        elim (found_cases y (filter p ys) x f) [
          | inl same ↦ (subst (λ (z : Slip). find_id (y ∷ ys) z.id ≡ Some z) same (find_id_at y ys y.id (same_id_refl y.id)), ap p (sym same) ∙ e)
          | inr below ↦ up (ih below)
        ]
    go false e f ih = up (ih f)

-- where blocks are after some were taken
pub record Moves (d e : Intake) : Type 0 where
  pub keeps : (x : Slip) → IsFound d.history x → IsFound e.history x
  pub from : (x : Slip) → IsFound e.history x → IsFound d.history x ⊎ IsFound d.waiting x
  pub back : (x : Slip) → IsFound e.waiting x → IsFound d.waiting x
  pub drops : e.dropped ≡ [] → d.dropped ≡ []
  pub stays : (x : Slip) → e.dropped ≡ [] → IsFound d.waiting x → IsFound e.history x ⊎ IsFound e.waiting x

moves_not : (d : Intake) → Moves d d
moves_not d = record { keeps = λ x f. f; from = λ x f. inl f; back = λ x f. f; drops = λ e. e; stays = λ x e f. inr f }

moves_both : (a b c : Intake) → Moves a b → Moves b c → Moves a c
moves_both a b c m n = record {
  keeps = λ x f. n.keeps x (m.keeps x f);
  from = λ x f. elim (n.from x f) [ inl h ↦ m.from x h | inr r ↦ inr (m.back x r) ];
  back = λ x f. m.back x (n.back x f);
  drops = λ e. m.drops (n.drops e);
  stays = λ x e f. elim (m.stays x (n.drops e) f) [ inl h ↦ inl (n.keeps x h) | inr r ↦ n.stays x e r ];
}

moves_judged : (d : Intake) → IsTaking d → (s : Slip) → IsTaken d.history d.waiting s → (o : Option Clash) → clash d.history s ≡ o → Moves d (take_judged d s o)
moves_judged d t s is None e =
    let keep = λ (x : Slip). not (same_id x.id s.id) in
    let own : IsFound d.waiting s = is.has (λ x. find_id d.waiting x.id ≡ Some x) (distinct_found d.waiting t.distinct) in
    let p = find_of d.history s.parent_id is.parent in
    let next = admits d.history s p.0 t.history t.agreed (is.has _ t.apart) p.1 (is.has _ t.rises) e in
    record {
      keeps = λ x f. found_past s d.history next.history x f;
      from = λ x f. elim (found_cases s d.history x f) [ inl same ↦ inr (subst (λ (z : Slip). find_id d.waiting z.id ≡ Some z) same own) | inr old ↦ inl old ];
      back = λ x f. (found_filter keep d.waiting t.distinct x f).0;
      drops = λ h. h;
      stays = λ x h f. elim (cases_Bool (same_id x.id s.id)) [
        | inl same ↦
            let one : s ≡ x = same_Some s x (sym own ∙ ap (find_id d.waiting) (sym (same_id-true x.id s.id same)) ∙ f) in
            inl (subst (λ (z : Slip). find_id (s ∷ d.history) z.id ≡ Some z) one (find_id_at s d.history s.id (same_id_refl s.id)))
        | inr other ↦ inr (filter_found keep d.waiting t.distinct x f (ap not other))
      ];
    }
moves_judged d t s is (Some c) e = record {
  keeps = λ x f. f;
  from = λ x f. inl f;
  back = λ x f. (found_filter (λ (y : Slip). not (same_id y.id s.id)) d.waiting t.distinct x f).0;
  drops = λ h. absurd (filled h);
  stays = λ x h f. absurd (filled h);
}
  where
    filled : c ∷ d.dropped ≡ [] → ⊥
    filled h = cc

moves_one : (d : Intake) → IsTaking d → (o : Option Slip) → next_waiting d.history d.waiting ≡ o → Moves d (take_one d o)
moves_one d t None e = moves_not d
moves_one d t (Some s) e = moves_judged d t s (next_is d.history d.waiting s e) (clash d.history s) refl

pub moves : (n : ℕ) (d : Intake) → IsTaking d → Moves d (take_in n d)
moves zero d t = moves_not d
moves (suc n) d t =
    let next = next_waiting d.history d.waiting in
    moves_both d (take_one d next) (take_in n (take_one d next)) (moves_one d t next refl) (moves n (take_one d next) (keeps_one d t next refl))
