-- The newest block of a tree, as the code meets it.
use Rattle.std.proofs.Common.{arith, ◌≡◌, ◌<◌, ◌≤◌, ◌-◌, ◌⊎◌, inl, inr, ℕ, Bool, true, false, List, [], ◌∷◌, length, drop, Option, Some, None, refl, sym, ◌∙◌, ap, subst}
use Rattle.std.specs.List.{All, Contains}
use Rattle.std.specs.List.Sorted.{IsPermutation}
use Rattle.std.specs.BinaryHeap.{IsUpperBound}
use Rattle.std.proofs.lemmas.List.Elements.{All-head, All-tail}
use Rattle.std.proofs.lemmas.List.Sorted.{All-permutation, Contains-permutation}
use Rattle.std.proofs.lemmas.Bool.{both_ways}
use Rattle.block_record.specs.declared.blocks.Slip.{Slip}
use Rattle.chain_model.specs.Ancestry.{IsHistory}
use Rattle.chain_model.specs.Finality.{on_path, final_tip, ClaimsAgree}
use Rattle.chain_model.specs.Steps.{head, holds_tip}
use Rattle.chain_laws.proofs.public.Lines.{some_and}
use Rattle.chain_laws.proofs.public.Roots.{has_tip}
use Rattle.chain_laws.proofs.public.Meeting.{itself_on_path}
use Rattle.block_tree.specs.Places.{slip_at}
use Rattle.block_tree.proofs.public.PlaceFacts.{slip_at_within, slip_at_top}
use Rattle.block_tree.proofs.public.ParentFacts.{found_at}
use Rattle.block_tree.proofs.public.WalkFacts.{slip_there}
use Rattle.fork_db.specs.declared.heads.Rival.{Rival}
use Rattle.fork_db.specs.Heads.{holds_final_tip, IsRivalOf, HoldsTipAt, IsRanked, rival_cmp}
use Rattle.fork_db.proofs.RankFacts.{front_or_later, front, nothing_in, some_at, is_at, child_ranks, higher_ranks, rival_ranks, off_ranks, own_more, all_under, taken_ranks}

-- what a test of two places says
abbrev pub Says : List Slip → ℕ → ℕ → Bool → Type 0
Says newest a b answer = (x y : Slip) → slip_at newest a ≡ Some x → slip_at newest b ≡ Some y → answer ≡ on_path newest x y

-- the tip has a place
pub tip_range : (newest : List Slip) (tip : ℕ) → IsHistory newest → 0 < length newest → slip_at newest tip ≡ final_tip newest → tip < length newest
tip_range [] tip history some e = absurd (let f : ⊥ = omega arith in f)
tip_range (s ∷ older) tip history some e = go (final_tip (s ∷ older)) refl
  where
    go : (o : Option Slip) → final_tip (s ∷ older) ≡ o → tip < length (s ∷ older)
    go None f = absurd (has_tip s older history f)
    go (Some t) f = slip_at_within (s ∷ older) tip t (e ∙ f)

pub own_range : (newest : List Slip) (r : Rival) → IsRivalOf newest r → r.place.0 < length newest
own_range newest r h = let y = some_and (slip_at newest r.place.0) (λ x. x.num ≡ r.num) h in slip_at_within newest r.place.0 y.0 y.1

-- a test against the tip
pub holds_if : (newest : List Slip) (tip place : ℕ) (b : Bool) → slip_at newest tip ≡ final_tip newest → tip < length newest → place < length newest → Says newest tip place b → b ≡ true → HoldsTipAt newest place
holds_if newest tip place b e lt lt2 says hit =
    let t = slip_there newest tip lt in
    let y = slip_there newest place lt2 in
    some_at newest place (λ z. holds_final_tip newest z ≡ true) y.0 y.1 (subst (λ o. holds_tip newest o y.0 ≡ true) (sym t.1 ∙ e) (sym (says t.0 y.0 t.1 y.1) ∙ hit))

pub off_if : (newest : List Slip) (tip place : ℕ) (b : Bool) → slip_at newest tip ≡ final_tip newest → tip < length newest → Says newest tip place b → b ≡ false → HoldsTipAt newest place → ⊥
off_if newest tip place b e lt says miss holds =
    let t = slip_there newest tip lt in
    let y = some_and (slip_at newest place) (λ z. holds_final_tip newest z ≡ true) holds in
    both_ways _ (sym (says t.0 y.0 t.1 y.1) ∙ miss) (subst (λ o. holds_tip newest o y.0 ≡ true) (sym (sym t.1 ∙ e)) y.2)

-- rivals that are taken from a heap
pub own_taken : (newest : List Slip) (items rest : List Rival) (r : Rival) → All (IsRivalOf newest) items → IsPermutation items (r ∷ rest) → IsRivalOf newest r
own_taken newest items rest r all moved = All-head (IsRivalOf newest) r rest (All-permutation (IsRivalOf newest) items (r ∷ rest) moved all)

pub own_left : (newest : List Slip) (items rest : List Rival) (r : Rival) → All (IsRivalOf newest) items → IsPermutation items (r ∷ rest) → All (IsRivalOf newest) rest
own_left newest items rest r all moved = All-tail (IsRivalOf newest) r rest (All-permutation (IsRivalOf newest) items (r ∷ rest) moved all)

pub taken_or_left : (items rest : List Rival) (r w : Rival) → IsPermutation items (r ∷ rest) → Contains items w → (r ≡ w) ⊎ Contains rest w
taken_or_left items rest r w moved has = front_or_later r w rest (Contains-permutation items (r ∷ rest) w moved has)

pub passed_over : (newest : List Slip) (items rest : List Rival) (r w : Rival) → IsPermutation items (r ∷ rest) → (HoldsTipAt newest r.place.0 → ⊥) → Contains items w → HoldsTipAt newest w.place.0 → Contains rest w
passed_over newest items rest r w moved off has holds =
    elim (taken_or_left items rest r w moved has) [
      | inl same ↦ absurd (off (subst (λ (x : Rival). HoldsTipAt newest x.place.0) (sym same) holds))
      | inr left ↦ left
    ]

-- what is known before the newest block is taken in
pub record Before (newest : List Slip) (place n : ℕ) (rivals : List Rival) : Type 0 where
  pub history : IsHistory newest
  pub some : 0 < length newest
  pub len : n ≡ length newest
  pub agreed : ClaimsAgree newest
  pub ranked : IsRanked (drop 1 newest) place rivals

pub head_range : (newest : List Slip) (place : ℕ) (rivals : List Rival) → 0 < length newest → IsRanked (drop 1 newest) place rivals → place < length newest
head_range [] place rivals some ranked = absurd (let f : ⊥ = omega arith in f)
head_range (s ∷ []) place rivals some ranked = let e : place ≡ 0 = ranked.0 in omega arith
head_range (s ∷ t ∷ older) place rivals some ranks = let lt = slip_at_within (t ∷ older) place ranks.top ranks.best.here in omega (arith, lt)

last_place : (s : Slip) (older : List Slip) (n : ℕ) → n ≡ length (s ∷ older) → n - 1 ≡ length older
last_place s older n e = omega (arith, e)

newest_passes : (s : Slip) (older : List Slip) → HoldsTipAt (s ∷ older) (length (s ∷ older) - 1) → holds_final_tip (s ∷ older) s ≡ true
newest_passes s older holds =
    is_at (s ∷ older) (length (s ∷ older) - 1) (λ x. holds_final_tip (s ∷ older) x ≡ true) s (ap (slip_at (s ∷ older)) (last_place s older (length (s ∷ older)) refl) ∙ slip_at_top s older) holds

pub newest_holds : (newest : List Slip) (tip n : ℕ) (b : Bool) → slip_at newest tip ≡ final_tip newest → tip < length newest → n ≡ length newest → 0 < length newest → Says newest tip (n - 1) b → b ≡ true → HoldsTipAt newest (length newest - 1)
newest_holds newest tip n b e lt len some says hit =
    subst (λ k. HoldsTipAt newest (k - 1)) len (holds_if newest tip (n - 1) b e lt (omega (arith, len, some)) says hit)

says_at : (s : Slip) (older : List Slip) (place n : ℕ) (b : Bool) → n ≡ length (s ∷ older) → Says (s ∷ older) place (n - 1) b → Says (s ∷ older) place (length older) b
says_at s older place n b len says = subst (λ k. Says (s ∷ older) place k b) (last_place s older n len) says

pub child : (newest : List Slip) (place n : ℕ) (rivals : List Rival) (b : Bool) → Before newest place n rivals → HoldsTipAt newest (length newest - 1) → Says newest place (n - 1) b → b ≡ true → IsRanked newest (n - 1) rivals
child [] place n rivals b before holds says hit = absurd (let lt = before.some in let f : ⊥ = omega arith in f)
child (s ∷ older) place n rivals b before holds says hit =
    subst (λ k. IsRanked (s ∷ older) k rivals) (sym (last_place s older n before.len))
    (child_ranks s older place rivals before.history before.agreed before.ranked (newest_passes s older holds) (λ x y ex ey. sym (says_at s older place n b before.len says x y ex ey) ∙ hit))

-- a first block is on the path of the head
root_is_child : (s : Slip) (place n : ℕ) (rivals : List Rival) (b : Bool) → Before (s ∷ []) place n rivals → Says (s ∷ []) place (n - 1) b → b ≡ false → ⊥
root_is_child s place n rivals b before says miss =
    let here : slip_at (s ∷ []) place ≡ Some s = ap (slip_at (s ∷ [])) before.ranked.0 in
    both_ways _ (sym (says_at s [] place n b before.len says s s here refl) ∙ miss) (itself_on_path (s ∷ []) s (found_at (s ∷ []) 0 s before.history refl))

pub higher : (newest : List Slip) (place n : ℕ) (rivals more : List Rival) (old new : Rival) (b : Bool) → Before newest place n rivals → HoldsTipAt newest (length newest - 1) → Says newest place (n - 1) b → b ≡ false
    → IsRivalOf newest old → old.place.0 ≡ place → IsRivalOf newest new → new.place.0 ≡ n - 1 → old.num < new.num → IsPermutation (old ∷ rivals) more → IsRanked newest (n - 1) more
higher [] place n rivals more old new b before holds says miss own at own_new at_new less moved = absurd (let lt = before.some in let f : ⊥ = omega arith in f)
higher (s ∷ []) place n rivals more old new b before holds says miss own at own_new at_new less moved = absurd (root_is_child s place n rivals b before says miss)
higher (s ∷ t ∷ older) place n rivals more old new b before holds says miss own at own_new at_new less moved =
    let last = last_place s (t ∷ older) n before.len in
    subst (λ k. IsRanked (s ∷ t ∷ older) k more) (sym last)
    (higher_ranks s t older place rivals more old new before.history before.agreed before.ranked (newest_passes s (t ∷ older) holds) own at own_new (at_new ∙ last) less moved)

pub rival : (newest : List Slip) (place n : ℕ) (rivals more : List Rival) (old new : Rival) (b : Bool) → Before newest place n rivals → Says newest place (n - 1) b → b ≡ false → HoldsTipAt newest place
    → IsRivalOf newest old → old.place.0 ≡ place → IsRivalOf newest new → new.place.0 ≡ n - 1 → new.num ≤ old.num → IsPermutation (new ∷ rivals) more → IsRanked newest place more
rival [] place n rivals more old new b before says miss holds own at own_new at_new less moved = absurd (let lt = before.some in let f : ⊥ = omega arith in f)
rival (s ∷ []) place n rivals more old new b before says miss holds own at own_new at_new less moved = absurd (root_is_child s place n rivals b before says miss)
rival (s ∷ t ∷ older) place n rivals more old new b before says miss holds own at own_new at_new less moved =
    rival_ranks s t older place rivals more old new before.history before.agreed before.ranked holds own at own_new (at_new ∙ last_place s (t ∷ older) n before.len) less moved

pub all_own : (newest : List Slip) (place n : ℕ) (rivals more : List Rival) (new : Rival) (b : Bool) → Before newest place n rivals → Says newest place (n - 1) b → b ≡ false
    → IsRivalOf newest new → IsPermutation (new ∷ rivals) more → All (IsRivalOf newest) more
all_own [] place n rivals more new b before says miss own moved = absurd (let lt = before.some in let f : ⊥ = omega arith in f)
all_own (s ∷ []) place n rivals more new b before says miss own moved = absurd (root_is_child s place n rivals b before says miss)
all_own (s ∷ t ∷ older) place n rivals more new b before says miss own moved = own_more s (t ∷ older) rivals more new before.ranked.own own moved

pub taken : (newest : List Slip) (place n : ℕ) (rivals more rest : List Rival) (new r : Rival) (b : Bool) → Before newest place n rivals → Says newest place (n - 1) b → b ≡ false → (HoldsTipAt newest place → ⊥)
    → new.place.0 ≡ n - 1 → IsPermutation (new ∷ rivals) more → All (IsRivalOf newest) rest → IsRivalOf newest r → HoldsTipAt newest r.place.0 → IsUpperBound rival_cmp r rest
    → ((w : Rival) → Contains more w → HoldsTipAt newest w.place.0 → (Some r ≡ Some w) ⊎ Contains rest w) → IsRanked newest r.place.0 rest
taken [] place n rivals more rest new r b before says miss off at_new moved own_rest own holds up others = absurd (let lt = before.some in let f : ⊥ = omega arith in f)
taken (s ∷ []) place n rivals more rest new r b before says miss off at_new moved own_rest own holds up others = absurd (root_is_child s place n rivals b before says miss)
taken (s ∷ t ∷ older) place n rivals more rest new r b before says miss off at_new moved own_rest own holds up others =
    taken_ranks (s ∷ t ∷ older) more rest r before.history
    (all_under s t older place rivals more new before.history before.agreed before.ranked off (at_new ∙ last_place s (t ∷ older) n before.len) moved) own_rest own holds up others

-- one of the rivals is the newest block, whose path has the tip
pub one_taken : (newest : List Slip) (n : ℕ) (rivals more rest : List Rival) (new : Rival) → n ≡ length newest → HoldsTipAt newest (length newest - 1) → new.place.0 ≡ n - 1 → IsPermutation (new ∷ rivals) more → rest ≡ []
    → ((w : Rival) → Contains more w → HoldsTipAt newest w.place.0 → (None ≡ Some w) ⊎ Contains rest w) → ⊥
one_taken newest n rivals more rest new len holds at_new moved none others =
    let has : Contains more new = Contains-permutation (new ∷ rivals) more new moved (front new rivals) in
    let place : length newest - 1 ≡ new.place.0 = omega (arith, len, at_new) in
    elim (others new has (subst (HoldsTipAt newest) place holds)) [
      | inl e ↦ nothing new e
      | inr left ↦ nothing_in new (subst (λ (l : List Rival). Contains l new) none left)
    ]
  where
    nothing : (w : Rival) → None ≡ Some w → ⊥
    nothing w e = grind arith

pub off : (newest : List Slip) (place n tip : ℕ) (rivals : List Rival) (b : Bool) → Before newest place n rivals → slip_at newest tip ≡ final_tip newest → Says newest tip (n - 1) b → b ≡ false → IsRanked newest place rivals
off [] place n tip rivals b before e says miss = absurd (let lt = before.some in let f : ⊥ = omega arith in f)
off (s ∷ older) place n tip rivals b before e says miss =
    let lt = tip_range (s ∷ older) tip before.history before.some e in
    let t = slip_there (s ∷ older) tip lt in
    let not_on : on_path (s ∷ older) t.0 s ≡ false = sym (says_at s older tip n b before.len says t.0 s t.1 (slip_at_top s older)) ∙ miss in
    off_ranks s older place rivals before.history before.agreed before.ranked (subst (λ o. holds_tip (s ∷ older) o s ≡ false) (sym t.1 ∙ e) not_on)

-- the head is at its place
pub head_at : (newest : List Slip) (place : ℕ) (rivals : List Rival) → IsRanked newest place rivals → slip_at newest place ≡ head newest
head_at [] place rivals ranked = refl
head_at (s ∷ older) place rivals ranks = ranks.best.here ∙ sym ranks.is_head

pub ranked_range : (newest : List Slip) (place : ℕ) (rivals : List Rival) → 0 < length newest → IsRanked newest place rivals → place < length newest
ranked_range [] place rivals some ranked = absurd (let f : ⊥ = omega arith in f)
ranked_range (s ∷ older) place rivals some ranks = slip_at_within (s ∷ older) place ranks.top ranks.best.here
