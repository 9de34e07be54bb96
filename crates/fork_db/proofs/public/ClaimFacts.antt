-- What blocks claim, and the final tip.
use Rattle.std.proofs.Common.{arith, ◌≡◌, ◌<◌, ◌≤◌, ◌==◌, ℕ, Bool, true, false, cond, suc, List, [], ◌∷◌, ◌++◌, length, reverse, Option, Some, None, refl, sym, ◌∙◌, ap, subst, nat_le, find, max, IsSome, IfSome, get_or, ltb, if◌then◌else◌, unwrap_or, ◌||◌, IsTrue}
use Rattle.std.proofs.lemmas.List.{length-reverse, reverse-append, reverse-reverse}
use Rattle.std.proofs.lemmas.Option.{same_Some, slice_get-get_or}
use Rattle.std.specs.List.{slice_get, cons_option}
use Rattle.block_record.specs.Ids.{same_id, same_id_refl}
use Rattle.block_record.specs.declared.blocks.Slip.{Slip}
use Rattle.chain_model.specs.Ancestry.{find_id, has_id, ancestry, IsHistory}
use Rattle.chain_model.specs.Finality.{claim, claims, final_tip, greater, greatest, root_num, on_path, ClaimsAgree}
use Rattle.chain_model.proofs.public.ScanFacts.{ancestry_past}
use Rattle.chain_laws.proofs.public.Lines.{IsHistory-rest, some_and, other_id, is_fresh, has_id-find_id, has_id-ancestry}
use Rattle.chain_laws.proofs.public.Growth.{claims_kept, claim_kept}
use Rattle.chain_laws.proofs.public.Tips.{claims_go_on_to_agree}
use Rattle.block_tree.specs.Places.{slip_at, slip_of, place_of}
use Rattle.block_tree.proofs.public.PlaceFacts.{slip_at_within, slip_at_past, slip_at_top, find_none, slice_get_before, slice_get_last}
use Rattle.block_tree.proofs.public.ParentFacts.{found_at}
use Rattle.fork_db.specs.Claims.{AreClaims, claim_at}
use Rattle.fork_db.specs.Verdicts.{agrees_with, agrees_next}

-- the number at a place
abbrev mark_at : List ℕ → ℕ → Option ℕ
mark_at [] at = None
mark_at (c ∷ older) at = if at == length older then Some c else mark_at older at

passes : (x n : ℕ) → x ≤ n → nat_le x n ≡ true
passes x n le = grind arith

some_first : (p : Slip → Bool) (s : Slip) (rest : List Slip) → p s ≡ true → IsSome (find p (s ∷ rest))
some_first p s rest e = rw e refl

some_later : (p : Slip → Bool) (s : Slip) (rest : List Slip) → IsSome (find p rest) → IsSome (find p (s ∷ rest))
some_later p s rest h =
    let P : Bool → Type 0 = λ b. IsSome (cond b (Some s) (find p rest)) in
    elim (p s) as P [ true ↦ refl | false ↦ h ]

pub some_of : (o : Option Slip) → IsSome o → (x : Slip) × (o ≡ Some x)
some_of None h = absurd (grind arith)
some_of (Some x) h = (x, refl)

greater_some : (o : Option Slip) (c : Slip) → IsSome (greater o c)
greater_some None c = refl
greater_some (Some t) c =
    let P : Bool → Type 0 = λ b. IsSome (cond b (Some c) (Some t)) in
    elim (ltb t.num c.num) as P [ true ↦ refl | false ↦ refl ]

-- the root is on each path
pub root_at : (newest : List Slip) (r : Slip) → slip_at newest 0 ≡ Some r → root_num newest ≡ r.num
root_at [] r e = absurd (grind arith)
root_at (s ∷ []) r e = ap (λ (x : Slip). x.num) (same_Some s r e)
root_at (s ∷ t ∷ older) r e = root_at (t ∷ older) r (sym (slip_at_past s (t ∷ older) 0 (omega arith)) ∙ e)

pub root_passes : (newest : List Slip) (id : List ℕ) (n : ℕ) (q : Slip) → IsHistory newest → find_id newest id ≡ Some q → root_num newest ≤ n → IsSome (find (λ x. nat_le x.num n) (ancestry newest id))
root_passes [] id n q h e le = absurd (grind arith)
root_passes (s ∷ []) id n q h e le =
    let P : Bool → Type 0 = λ b. cond b (Some s) None ≡ Some q → IsSome (find (λ x. nat_le x.num n) (cond b (s ∷ []) [])) in
    (elim (same_id s.id id) as P [ true ↦ λ f. some_first (λ (x : Slip). nat_le x.num n) s [] (passes s.num n le) | false ↦ λ f. absurd (grind arith) ]) e
root_passes (s ∷ t ∷ older) id n q h e le =
    let parent = some_and (find_id (t ∷ older) s.parent_id) (λ p. p.num ≡ s.parent_num) h.0.parent in
    let P : Bool → Type 0 = λ b. cond b (Some s) (find_id (t ∷ older) id) ≡ Some q → IsSome (find (λ x. nat_le x.num n) (cond b (s ∷ ancestry (t ∷ older) s.parent_id) (ancestry (t ∷ older) id))) in
    (elim (same_id s.id id) as P [
      | true ↦ λ f. some_later (λ (x : Slip). nat_le x.num n) s (ancestry (t ∷ older) s.parent_id) (root_passes (t ∷ older) s.parent_id n parent.0 h.1 parent.1 le)
      | false ↦ λ f. root_passes (t ∷ older) id n q h.1 f le
    ]) e

max_right : (a b n : ℕ) → n ≡ max a b → b ≤ n
max_right a b n e = grind arith

pub claim_exists : (newest : List Slip) (at lib n : ℕ) (s : Slip) → IsHistory newest → n ≡ max lib (root_num newest) → slip_at newest at ≡ Some s → IsSome (find (λ x. nat_le x.num n) (ancestry newest s.id))
claim_exists newest at lib n s h en e = root_passes newest s.id n s h (found_at newest at s h e) (max_right lib (root_num newest) n en)

-- the tip after one more block
pub tip_step : (s c : Slip) (newest : List Slip) → IsHistory (s ∷ newest) → claim (s ∷ newest) s ≡ Some c → final_tip (s ∷ newest) ≡ greater (final_tip newest) c
tip_step s c newest h e = ap greatest (claims_kept s newest h ∙ ap (λ o. cons_option o (claims newest)) e)

pub tip_there : (newest : List Slip) → IsHistory newest → 0 < length newest → IsSome (final_tip newest)
tip_there [] h lt = absurd (let f : ⊥ = omega arith in f)
tip_there (s ∷ older) h lt =
    let o = some_of (claim (s ∷ older) s) (claim_exists (s ∷ older) (length older) s.lib_num _ s h refl (slip_at_top s older)) in
    rw (tip_step s o.0 older h o.1) (greater_some (final_tip older) o.0)

pub tip_range : (newest : List Slip) (place : ℕ) → IsHistory newest → slip_at newest place ≡ final_tip newest → 0 < length newest → place < length newest
tip_range newest place h e lt =
    let o = some_of (final_tip newest) (tip_there newest h lt) in
    slip_at_within newest place o.0 (e ∙ o.1)

-- claims
pub claims_push : (s : Slip) (newest : List Slip) (cs : List ℕ) (c : ℕ) → AreClaims newest (reverse cs) → slip_at (s ∷ newest) c ≡ claim (s ∷ newest) s → c < length (s ∷ newest)
    → AreClaims (s ∷ newest) (reverse (cs ++ c ∷ []))
claims_push s newest cs c h e lt = rw (reverse-append cs (c ∷ [])) (e, lt, h)

pub claims_length : (newest : List Slip) (cs : List ℕ) → AreClaims newest cs → length cs ≡ length newest
claims_length [] [] h = refl
claims_length (s ∷ older) (c ∷ cs) h = ap suc (claims_length older cs h.2)
claims_length (s ∷ older) [] h = absurd h
claims_length [] (c ∷ cs) h = absurd h

pub mark_at-reverse : (newest : List ℕ) (at : ℕ) → mark_at newest at ≡ slice_get (reverse newest) at
mark_at-reverse [] at = refl
mark_at-reverse (s ∷ older) at =
    let turned : reverse (s ∷ older) ≡ reverse older ++ s ∷ [] = reverse-append (s ∷ []) older in
    let P : Bool → Type 0 = λ b. (at == length older) ≡ b → cond b (Some s) (mark_at older at) ≡ slice_get (reverse older ++ s ∷ []) at in
    rw turned ((elim (at == length older) as P [
      | true ↦ λ e. sym (slice_get_last (reverse older) s at (rw (length-reverse older) e))
      | false ↦ λ e. mark_at-reverse older at ∙ sym (slice_get_before (reverse older) s at (rw (length-reverse older) e))
    ]) refl)

claim_marked : (newest : List Slip) (cs : List ℕ) (at c : ℕ) (s : Slip) → IsHistory newest → AreClaims newest cs → slip_at newest at ≡ Some s → mark_at cs at ≡ Some c
    → slip_at newest c ≡ claim newest s
claim_marked [] cs at c s h a e ec = absurd (grind arith)
claim_marked (t ∷ older) [] at c s h a e ec = absurd a
claim_marked (t ∷ older) (d ∷ cs) at c s h a e ec =
    let len : length cs ≡ length older = claims_length older cs a.2 in
    let P : Bool → Type 0 = λ b. cond b (Some t) (slip_at older at) ≡ Some s → cond b (Some d) (mark_at cs at) ≡ Some c → slip_at (t ∷ older) c ≡ claim (t ∷ older) s in
    (elim (at == length older) as P [
      | true ↦ λ f g. ap (slip_at (t ∷ older)) (sym (same_Some d c g)) ∙ a.0 ∙ ap (claim (t ∷ older)) (same_Some t s f)
      | false ↦ λ f g.
          let rest = IsHistory-rest t older h in
          let there : slip_at older c ≡ claim older s = claim_marked older cs at c s rest a.2 f g in
          let kept : claim (t ∷ older) s ≡ claim older s = claim_kept t older h s (found_at older at s rest f) in
          let there_some = some_of (claim older s) (claim_exists older at s.lib_num _ s rest refl f) in
          slip_at_past t older c (slip_at_within older c there_some.0 (there ∙ there_some.1)) ∙ there ∙ sym kept
    ]) e (subst (λ n. cond (at == n) (Some d) (mark_at cs at) ≡ Some c) len ec)

pub claim_kept_at : (newest : List Slip) (cs : List ℕ) (at c : ℕ) (s : Slip) → IsHistory newest → AreClaims newest cs → slip_at newest at ≡ Some s → slice_get (reverse cs) at ≡ Some c
    → slip_at newest c ≡ claim newest s
claim_kept_at newest cs at c s h a e ec = claim_marked newest cs at c s h a e (mark_at-reverse cs at ∙ ec)

claim_marked_within : (newest : List Slip) (cs : List ℕ) (at c : ℕ) → AreClaims newest cs → mark_at cs at ≡ Some c → c < length newest
claim_marked_within [] [] at c a e = absurd (grind arith)
claim_marked_within [] (d ∷ cs) at c a e = absurd a
claim_marked_within (t ∷ older) [] at c a e = absurd a
claim_marked_within (t ∷ older) (d ∷ cs) at c a e =
    let P : Bool → Type 0 = λ b. cond b (Some d) (mark_at cs at) ≡ Some c → c < length (t ∷ older) in
    (elim (at == length cs) as P [
      | true ↦ λ f. subst (λ n. n < length (t ∷ older)) (same_Some d c f) a.1
      | false ↦ λ f. let lt : c < length older = claim_marked_within older cs at c a.2 f in omega (arith, lt)
    ]) e

-- a claim is a block of the history
pub claim_within : (newest : List Slip) (cs : List ℕ) (at c : ℕ) → AreClaims newest cs → slice_get (reverse cs) at ≡ Some c → c < length newest
claim_within newest cs at c a e = claim_marked_within newest cs at c a (mark_at-reverse cs at ∙ e)

pub claim_item : (items : List ℕ) (at c : ℕ) → at < length items → c ≡ get_or items at c → slice_get (reverse (reverse items)) at ≡ Some c
claim_item items at c lt e = ap (λ l. slice_get l at) (reverse-reverse items) ∙ slice_get-get_or items at c lt ∙ ap Some (sym e)

pub claims_room : (newest : List Slip) (items : List ℕ) (n at : ℕ) → n ≡ length items → AreClaims newest (reverse items) → at < length newest → at < n
claims_room newest items n at e h lt = rw (e, ← length-reverse items, claims_length newest (reverse items) h) lt

-- a block whose number is low enough claims itself
pub self_claim : (newest : List Slip) (s : Slip) (limit num lib : ℕ) → 0 < length newest → limit ≡ max lib (root_num newest) → num ≤ limit → s.num ≡ num → s.lib_num ≡ lib
    → claim (s ∷ newest) s ≡ Some s
self_claim [] s limit num lib lt e le en el = absurd (let f : ⊥ = omega arith in f)
self_claim (t ∷ older) s limit num lib lt e le en el =
    let low : nat_le s.num (max s.lib_num (root_num (t ∷ older))) ≡ true = passes s.num (max s.lib_num (root_num (t ∷ older))) (rw (en, el, ← e) le) in
    rw (same_id_refl s.id, low) refl

-- the first block claims itself
pub root_claim : (s : Slip) → claim (s ∷ []) s ≡ Some s
root_claim s =
    let low : nat_le s.num (max s.lib_num s.num) ≡ true = passes s.num (max s.lib_num s.num) (max_right s.lib_num s.num _ refl) in
    rw (same_id_refl s.id, low) refl

fails : (x n : ℕ) → n < x → nat_le x n ≡ false
fails x n lt = grind arith

some_is : (newest : List Slip) (s : Slip) (r : Option ℕ) (o : Option Slip) → IsSome o → slip_of newest r ≡ o → o ≡ claim_at (s ∷ newest) r
some_is newest s None None is e = absurd (grind arith)
some_is newest s None (Some x) is e = absurd (grind arith)
some_is newest s (Some c) o is e = sym e

-- a block whose number is too high claims a block of its parent's path
pub below_claim : (newest : List Slip) (s p : Slip) (parent limit num lib : ℕ) (r : Option ℕ) → IsHistory (s ∷ newest) → slip_at newest parent ≡ Some p → s.parent_id ≡ p.id
    → limit ≡ max lib (root_num newest) → limit < num → s.num ≡ num → s.lib_num ≡ lib
    → slip_of newest r ≡ find (λ x. nat_le x.num limit) (ancestry newest p.id) → claim (s ∷ newest) s ≡ claim_at (s ∷ newest) r
below_claim [] s p parent limit num lib r h ep ei e lt en el er = absurd (grind arith)
below_claim (t ∷ older) s p parent limit num lib r h ep ei e lt en el er =
    let high : nat_le s.num (max s.lib_num (root_num (t ∷ older))) ≡ false = fails s.num (max s.lib_num (root_num (t ∷ older))) (rw (en, el, ← e) lt) in
    let there : IsSome (find (λ x. nat_le x.num limit) (ancestry (t ∷ older) p.id)) = claim_exists (t ∷ older) parent lib limit p h.1 e ep in
    let same : find (λ x. nat_le x.num (max s.lib_num (root_num (t ∷ older)))) (ancestry (t ∷ older) s.parent_id) ≡ find (λ x. nat_le x.num limit) (ancestry (t ∷ older) p.id) = rw (ei, el, ← e) refl in
    let first : claim (s ∷ t ∷ older) s ≡ find (λ x. nat_le x.num (max s.lib_num (root_num (t ∷ older)))) (ancestry (t ∷ older) s.parent_id) = rw (same_id_refl s.id, high) refl in
    first ∙ same ∙ some_is (t ∷ older) s r (find (λ x. nat_le x.num limit) (ancestry (t ∷ older) p.id)) there er

-- who is on a path does not change with one more block
pub on_path_past : (s : Slip) (older : List Slip) (x y : Slip) → IsHistory (s ∷ older) → find_id older y.id ≡ Some y → on_path (s ∷ older) x y ≡ on_path older x y
on_path_past s older x y h f = ap (λ l. has_id l x.id) (ancestry_past s older y.id (other_id s older h y.id (has_id-find_id older y.id y f)))

-- an older claim agrees with the tip by their paths
pub agree_older : (newest : List Slip) (s t c : Slip) (tip claimed : ℕ) → IsHistory (s ∷ newest) → slip_at newest tip ≡ Some t → slip_at newest claimed ≡ Some c
    → slip_at newest tip ≡ final_tip newest → claim (s ∷ newest) s ≡ claim_at (s ∷ newest) (Some claimed) → agrees_next newest s ≡ (on_path newest c t || on_path newest t c)
agree_older newest s t c tip claimed h et ec eft ecl =
    let rest = IsHistory-rest s newest h in
    ap (λ o. agrees_with (s ∷ newest) o (claim (s ∷ newest) s)) (sym eft ∙ et) ∙ ap (agrees_with (s ∷ newest) (Some t)) (ecl ∙ ec)
    ∙ ap (λ b. b || on_path (s ∷ newest) t c) (on_path_past s newest c t h (found_at newest tip t rest et))
    ∙ ap (λ b. on_path newest c t || b) (on_path_past s newest t c h (found_at newest claimed c rest ec))

off_of : (b : Bool) → (b ≡ true → ⊥) → b ≡ false
off_of true h = absurd (h refl)
off_of false h = refl

apart : (b : Bool) → b ≡ true → b ≡ false → ⊥
apart b e f = grind arith

-- a block that claims itself agrees with the tip where the tip is on its parent's path
pub agree_self : (newest : List Slip) (s t p : Slip) (tip parent : ℕ) → IsHistory (s ∷ newest) → slip_at newest tip ≡ Some t → slip_at newest parent ≡ Some p → s.parent_id ≡ p.id
    → slip_at newest tip ≡ final_tip newest → claim (s ∷ newest) s ≡ Some s → agrees_next newest s ≡ on_path newest t p
agree_self newest s t p tip parent h et ep ei eft ecl =
    let rest = IsHistory-rest s newest h in
    let tip_there = found_at newest tip t rest et in
    let not_old : on_path newest s t ≡ false = off_of (on_path newest s t) (λ on. apart (has_id newest s.id) (has_id-ancestry newest t.id s.id on) (is_fresh s newest h)) in
    let other : same_id s.id t.id ≡ false = other_id s newest h t.id (has_id-find_id newest t.id t tip_there) in
    let own : on_path (s ∷ newest) t s ≡ on_path newest t p = rw (same_id_refl s.id, other, ei) refl in
    ap (λ o. agrees_with (s ∷ newest) o (claim (s ∷ newest) s)) (sym eft ∙ et) ∙ ap (agrees_with (s ∷ newest) (Some t)) ecl
    ∙ ap (λ b. b || on_path (s ∷ newest) t s) (on_path_past s newest s t h tip_there ∙ not_old) ∙ own

one_more : (newest all : List Slip) (s : Slip) → all ≡ s ∷ newest → length all ≡ 1 → final_tip newest ≡ None
one_more [] all s e one = refl
one_more (t ∷ older) all s e one = absurd (let f : ⊥ = omega (arith, ap length e) in f)

-- the final tip after the next block
pub next_tip : (newest all : List Slip) (s : Slip) (tip c r : ℕ) → all ≡ s ∷ newest → IsHistory (s ∷ newest) → slip_at newest tip ≡ final_tip newest
    → slip_at (s ∷ newest) c ≡ claim (s ∷ newest) s
    → ((old : Option Slip) (x : Slip) → (length all ≡ 1 → old ≡ None) → (1 < length all → old ≡ slip_at all tip) → slip_at all c ≡ Some x → slip_at all r ≡ greater old x) → slip_at all r ≡ final_tip all
next_tip newest all s tip c r e h et ec later =
    let rest = IsHistory-rest s newest h in
    let x = some_of (claim (s ∷ newest) s) (claim_exists (s ∷ newest) (length newest) s.lib_num _ s h refl (slip_at_top s newest)) in
    let next : 1 < length all → final_tip newest ≡ slip_at all tip = λ pos.
    sym et ∙ sym (slip_at_past s newest tip (tip_range newest tip rest et (omega (arith, ap length e, pos)))) ∙ ap (λ l. slip_at l tip) (sym e) in
    later (final_tip newest) x.0 (one_more newest all s e) next (ap (λ l. slip_at l c) e ∙ ec ∙ x.1) ∙ sym (tip_step s x.0 newest h x.1) ∙ ap final_tip (sym e)

pub tip_within : (newest all : List Slip) (s : Slip) (tip : ℕ) → all ≡ s ∷ newest → IsHistory (s ∷ newest) → slip_at newest tip ≡ final_tip newest → 1 < length all → tip < length all
tip_within newest all s tip e h et pos =
    let lt : tip < length newest = tip_range newest tip (IsHistory-rest s newest h) et (omega (arith, ap length e, pos)) in
    omega (arith, ap length e, lt)

-- all claims go on to agree
pub next_agrees : (newest : List Slip) (s : Slip) → IsHistory (s ∷ newest) → ClaimsAgree newest → agrees_next newest s ≡ true → ClaimsAgree (s ∷ newest)
next_agrees newest s h agree e = claims_go_on_to_agree s newest h agree (λ t c et ec. subst IsTrue (sym (sym (ap (λ o. agrees_with (s ∷ newest) o (claim (s ∷ newest) s)) et ∙ ap (agrees_with (s ∷ newest) (Some t)) ec) ∙ e)) refl)

-- the first block's claim agrees with none
pub first_agrees : (s : Slip) → agrees_next [] s ≡ true
first_agrees s = refl

pub first_true : (a b : Bool) → a ≡ true → (a || b) ≡ true
first_true true b e = refl
first_true false b e = absurd (grind arith)

pub first_false : (a b : Bool) → a ≡ false → (a || b) ≡ b
first_false true b e = absurd (grind arith)
first_false false b e = refl

-- a block without a parent that may come next is the first
pub orphan_claim : (newest : List Slip) (s : Slip) → IsHistory (s ∷ newest) → place_of newest s.parent_id ≡ None → claim (s ∷ newest) s ≡ Some s
orphan_claim [] s h e = root_claim s
orphan_claim (t ∷ older) s h e =
    let parent = some_and (find_id (t ∷ older) s.parent_id) (λ p. p.num ≡ s.parent_num) h.0.parent in
    absurd (no_parent (find_id (t ∷ older) s.parent_id) parent.0 (find_none (t ∷ older) s.parent_id e) parent.1)
  where
    no_parent : (o : Option Slip) (p : Slip) → o ≡ None → o ≡ Some p → ⊥
    no_parent o p e f = grind arith

pub append_claims : (newest all : List Slip) (s : Slip) (cs more : List ℕ) (c : ℕ) → all ≡ s ∷ newest → more ≡ cs ++ c ∷ [] → slip_at (s ∷ newest) c ≡ claim (s ∷ newest) s → c ≤ length newest
    → AreClaims newest (reverse cs) → AreClaims all (reverse more)
append_claims newest all s cs more c e em ec le h = rw (em, e) (claims_push s newest cs c h ec (let f : c < length (s ∷ newest) = omega (arith, le) in f))

pub claims_itself : (newest : List Slip) (s : Slip) (r : Option ℕ) (at : ℕ) → at ≡ length newest → r ≡ None → claim (s ∷ newest) s ≡ claim_at (s ∷ newest) r → slip_at (s ∷ newest) at ≡ claim (s ∷ newest) s
claims_itself newest s r at ea er e = ap (slip_at (s ∷ newest)) ea ∙ slip_at_top s newest ∙ sym (e ∙ ap (claim_at (s ∷ newest)) er)

pub claims_older : (newest : List Slip) (s : Slip) (r : Option ℕ) (c : ℕ) → r ≡ Some c → IfSome r (λ x. x < length newest) → claim (s ∷ newest) s ≡ claim_at (s ∷ newest) r → (slip_at (s ∷ newest) c ≡ claim (s ∷ newest) s) × (c ≤ length newest)
claims_older newest s r c er lt e =
    let le : c < length newest = subst (λ o. IfSome o (λ x. x < length newest)) er lt in
    (slip_at_past s newest c le ∙ sym (e ∙ ap (claim_at (s ∷ newest)) er), omega (arith, le))

-- the place of what a linked block claims, which may be its own
pub claim_place : (newest : List Slip) (s : Slip) (o : Option ℕ) (at c : ℕ) → claim (s ∷ newest) s ≡ claim_at (s ∷ newest) o → IfSome o (λ x. x < length newest) → at ≡ length newest → c ≡ unwrap_or o at
    → (slip_at (s ∷ newest) c ≡ claim (s ∷ newest) s) × (c ≤ length newest)
claim_place newest s None at c e lt ea ec = (claims_itself newest s None c (ec ∙ ea) refl e, omega (arith, ea, ec))
claim_place newest s (Some x) at c e lt ea ec = claims_older newest s (Some x) c (ap Some (sym ec)) lt e
