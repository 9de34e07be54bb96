-- Where two lines of a history meet, and what a target has.
use Rattle.std.proofs.Common.{arith, ◌≡◌, ◌≤◌, inl, inr, ℕ, Bool, true, false, not, cond, ltb, List, [], ◌∷◌, ◌++◌, length, Option, Some, None, refl, sym, ◌∙◌, ap, subst}
use Rattle.std.specs.List.{AllByRecursion, filter}
use Rattle.std.proofs.lemmas.Bool.{ltb-false, both_ways, not-false, not_from_true, le-ltb}
use Rattle.std.proofs.lemmas.List.{append-nil, length-append, nil_from_length}
use mathlib.Core.List.{IsSuffix}
use Rattle.block_record.specs.declared.blocks.Slip.{Slip}
use Rattle.block_record.specs.declared.blocks.BlockRef.{BlockRef}
use Rattle.chain_model.specs.declared.places.Mode.{Mode}
use Rattle.chain_model.specs.declared.places.Mode.TheVariants as mode
use Rattle.block_record.specs.Ids.{same_id, same_id-true, same_id_refl}
use Rattle.chain_model.specs.Ancestry.{find_id, has_id, ancestry, IsHistory}
use Rattle.chain_model.specs.Finality.{claim, on_path, greater, greatest, final_tip, ancestry_of, final_ancestry}
use Rattle.chain_model.specs.Steps.{keep_while, drop_while, is_after, kept, ancestry_at, cut, whole_target, target, head, holds_tip}
use Rattle.chain_laws.proofs.public.Lines.{id-find_id, some_and, is_above}
use Rattle.chain_laws.proofs.public.LineFacts.{same_number}
use Rattle.std.proofs.lemmas.Option.{same_Some}
use Rattle.chain_laws.proofs.public.Growth.{IsFound, all_weaker, find_passes, claim_found, tip_claimed, greater_cases}
use Rattle.chain_laws.proofs.public.ClosedLists.{Passes, Closed, keep-append-drop}
use Rattle.chain_laws.proofs.public.Reach.{IsLine, Nothing, From, IsAncestryOf, ancestry_line, drop_line, line_under, head_is_found, line_found, has_id-drop, has_id-drop_by_id, first_fails, has_id-suffix}
use Rattle.chain_model.specs.Places.{IsHeld, BlocksFit, IsAhead}

pub drop_suffix : (p : Slip → Bool) (xs : List Slip) → IsSuffix (drop_while p xs) xs
drop_suffix p xs = (keep_while p xs, keep-append-drop p xs)

suffix_nil : (xs : List Slip) → IsSuffix [] xs
suffix_nil xs = (xs, append-nil xs)

suffix_both : (a b : List Slip) → IsSuffix a b → IsSuffix b a → a ≡ b
suffix_both a b h g =
    let short : length h.0 ≡ 0 = omega (arith, length-append h.0 a, ap length h.1, length-append g.0 b, ap length g.1) in
    subst (λ (t : List Slip). t ++ a ≡ b) (nil_from_length h.0 short) h.1

-- the first block of an ancestry
first_of_line : (newest line : List Slip) (s : Slip) → IsAncestryOf newest line s → (rest : List Slip) × (line ≡ s ∷ rest)
first_of_line newest line s a = let r = head_is_found newest s.id s a.found in (r.0, a.is ∙ r.1)

pub has_first : (line : List Slip) (s : Slip) (rest : List Slip) → line ≡ s ∷ rest → has_id line s.id ≡ true
has_first line s rest e = rw (e, same_id_refl s.id) refl

-- what is left of one line, from the first block on the other, is left of the other too
meet_half : (newest line goal : List Slip) → IsHistory newest → IsLine newest goal → (x : List Slip) → IsLine newest x
    → x ≡ drop_while (λ s. not (has_id goal s.id)) line → IsSuffix x (drop_while (λ s. not (has_id line s.id)) goal)
meet_half newest line goal history g x Nothing e = suffix_nil _
meet_half newest line goal history g x (From l s a) e =
    let r = first_of_line newest l s a in
    let on_goal : has_id goal s.id ≡ true = not-false _ (first_fails _ line s r.0 (sym e ∙ r.1)) in
    let on_x : has_id (drop_while (λ s. not (has_id goal s.id)) line) s.id ≡ true = has_first _ s r.0 (sym e ∙ r.1) in
    let on_line : has_id line s.id ≡ true = has_id-suffix _ line s.id (drop_suffix _ line) on_x in
    let on_kept = has_id-drop_by_id (λ i. not (has_id line i)) goal s.id (not_from_true _ on_line) on_goal in
    subst (λ (y : List Slip). IsSuffix y (drop_while (λ s. not (has_id line s.id)) goal)) (sym a.is)
    (line_under newest history _ (drop_line newest history _ goal g) s.id on_kept)

pub meet : (newest line goal : List Slip) → IsHistory newest → IsLine newest line → IsLine newest goal
    → drop_while (λ s. not (has_id goal s.id)) line ≡ drop_while (λ s. not (has_id line s.id)) goal
meet newest line goal history l g =
    suffix_both _ _
    (meet_half newest line goal history g _ (drop_line newest history _ line l) refl)
    (meet_half newest goal line history l _ (drop_line newest history _ goal g) refl)

-- the blocks of a line whose first is final are final
pub all_in : (xs : List Slip) → Passes (λ s. has_id xs s.id) xs
all_in [] = tt
all_in (x ∷ xs) = (has_first (x ∷ xs) x xs refl, all_weaker (λ s. has_id xs s.id ≡ true) (λ s. has_id (x ∷ xs) s.id ≡ true) (λ s e. has_id-suffix xs (x ∷ xs) s.id (x ∷ [], refl) e) xs (all_in xs))

-- a claim is on the path of its block
pub claim_on_path : (newest : List Slip) (b c : Slip) → claim newest b ≡ Some c → on_path newest c b ≡ true
claim_on_path newest b c e = find_passes (λ x. has_id (ancestry newest b.id) x.id ≡ true) _ (ancestry newest b.id) c (all_in (ancestry newest b.id)) e

pub suffix_passes : (xs finals : List Slip) → IsSuffix xs finals → Passes (λ s. has_id finals s.id) xs
suffix_passes xs finals h = all_weaker (λ s. has_id xs s.id ≡ true) (λ s. has_id finals s.id ≡ true) (λ s e. has_id-suffix xs finals s.id h e) xs (all_in xs)

closed_go : (newest finals line : List Slip) → IsHistory newest → IsLine newest finals → (x : List Slip) → IsLine newest x
    → x ≡ drop_while (λ s. not (has_id finals s.id)) line → Passes (λ s. has_id finals s.id) x
closed_go newest finals line history f x Nothing e = tt
closed_go newest finals line history f x (From l s a) e =
    let r = first_of_line newest l s a in
    let final : has_id finals s.id ≡ true = not-false _ (first_fails _ line s r.0 (sym e ∙ r.1)) in
    suffix_passes l finals (subst (λ (y : List Slip). IsSuffix y finals) (sym a.is) (line_under newest history finals f s.id final))

pub finals_closed : (newest finals line : List Slip) → IsHistory newest → IsLine newest finals → IsLine newest line → Closed (λ s. has_id finals s.id) line
finals_closed newest finals line history f l = closed_go newest finals line history f _ (drop_line newest history _ line l) refl

-- the last final block of a place is on both lines and final
abbrev pub LibFits : List Slip → List Slip → List Slip → Option BlockRef → Type 0
LibFits newest line goal None = line ≡ []
LibFits newest line goal (Some r) = (has_id line r.id ≡ true) × (has_id goal r.id ≡ true) × (has_id (final_ancestry newest) r.id ≡ true) × IsHeld newest r

from_go : (newest line : List Slip) → IsHistory newest → (r : BlockRef) (b : Slip) → IsFound newest b → b.id ≡ r.id → b.num ≡ r.num → (x : List Slip) → IsLine newest x
    → x ≡ drop_while (is_after (Some r)) line → has_id x r.id ≡ true → x ≡ ancestry newest r.id
from_go newest line history r b found id num x Nothing e h = absurd (both_ways _ refl h)
from_go newest line history r b found id num x (From l s a) e h =
    let first = first_of_line newest l s a in
    let low : s.num ≤ r.num = ltb-false r.num s.num (first_fails _ line s first.0 (sym e ∙ first.1)) in
    let on : has_id (ancestry newest s.id) b.id ≡ true = subst (λ (i : List ℕ). has_id (ancestry newest s.id) i ≡ true) (sym id) (subst (λ (y : List Slip). has_id y r.id ≡ true) a.is h) in
    let same : b ≡ s = same_number newest history b s found a.found on (omega (arith, low, num)) in
    a.is ∙ ap (λ (y : Slip). ancestry newest y.id) (sym same) ∙ ap (ancestry newest) id

-- the block at a reference that is held has its number
not_after : (newest : List Slip) (r : BlockRef) (b : Slip) → find_id newest r.id ≡ Some b → b.num ≡ r.num → (s : Slip) → IsFound newest s → same_id s.id r.id ≡ true → ltb r.num s.num ≡ false
not_after newest r b at num s found same =
    let there : find_id newest r.id ≡ Some s = subst (λ (i : List ℕ). find_id newest i ≡ Some s) (same_id-true s.id r.id same) found in
    let one : s ≡ b = same_Some s b (sym there ∙ at) in
    le-ltb r.num s.num (omega (arith, ap (λ y. y.num) one, num))

drop_all_of : (xs : List Slip) → drop_while (λ s. true) xs ≡ []
drop_all_of [] = refl
drop_all_of (x ∷ xs) = drop_all_of xs

-- what is left from the last final block on is its ancestry
pub lib_split : (newest line goal : List Slip) → IsHistory newest → IsLine newest goal → (lib : Option BlockRef) → LibFits newest line goal lib
    → drop_while (is_after lib) (kept line goal) ≡ ancestry_at newest lib
lib_split newest line goal history g None fits = drop_all_of (kept line goal)
lib_split newest line goal history g (Some r) fits =
    let on_kept = has_id-drop_by_id (λ i. not (has_id line i)) goal r.id (not_from_true _ fits.0) fits.1 in
    let b = some_and _ _ fits.3 in
    let line_kept = drop_line newest history _ goal g in
    let id = id-find_id newest r.id b.0 b.1 in
    let found : IsFound newest b.0 = ap (find_id newest) id ∙ b.1 in
    let on_rest = has_id-drop (is_after (Some r)) (kept line goal) r.id (all_weaker (IsFound newest) _ (not_after newest r b.0 b.1 b.2) (kept line goal) (line_found newest history (kept line goal) line_kept)) on_kept in
    from_go newest (kept line goal) history r b.0 found id b.2 _ (drop_line newest history _ (kept line goal) line_kept) refl on_rest

pub lib_passes : (newest line goal : List Slip) → IsHistory newest → IsLine newest (final_ancestry newest) → (lib : Option BlockRef) → LibFits newest line goal lib
    → Passes (λ s. has_id (final_ancestry newest) s.id) (ancestry_at newest lib)
lib_passes newest line goal history f None fits = tt
lib_passes newest line goal history f (Some r) fits = suffix_passes _ _ (line_under newest history (final_ancestry newest) f r.id fits.2)

-- the path of a block that may be missing is a line
path_line : (newest : List Slip) → IsHistory newest → (o : Option Slip) → IsLine newest (ancestry_of newest o)
path_line newest history None = Nothing
path_line newest history (Some t) = ancestry_line newest history t.id

pub finals_line : (newest : List Slip) → IsHistory newest → IsLine newest (final_ancestry newest)
finals_line newest history = path_line newest history (final_tip newest)

-- a target is a line
cut_is_line : (newest : List Slip) → IsHistory newest → (stop : Option ℕ) (line : List Slip) → IsLine newest line → IsLine newest (cut stop line)
cut_is_line newest history None line l = l
cut_is_line newest history (Some stop) line l = drop_line newest history _ line l

pub whole_line : (newest : List Slip) → IsHistory newest → (m : Mode) → IsLine newest (whole_target newest m)
whole_line newest history mode.Live = path_line newest history (head newest)
whole_line newest history mode.Final = finals_line newest history

pub target_line : (newest : List Slip) → IsHistory newest → (m : Mode) (stop : Option ℕ) → IsLine newest (target newest m stop)
target_line newest history m stop = cut_is_line newest history stop _ (whole_line newest history m)

-- the head's path has the final blocks
greatest_passes : (p : Slip → Bool) (xs : List Slip) (h : Slip) → greatest (filter p xs) ≡ Some h → p h ≡ true
greatest_passes p [] h e = absurd (grind arith)
greatest_passes p (x ∷ xs) h e =
    let P : Bool → Type 0 = λ t. p x ≡ t → greatest (cond t (x ∷ filter p xs) (filter p xs)) ≡ Some h → p h ≡ true in
    let both : P (p x) = elim (p x) as P [
      | true ↦ λ hit g. elim (greater_cases (greatest (filter p xs)) x h g) [ inl older ↦ greatest_passes p xs h older | inr same ↦ subst (λ (s : Slip). p s ≡ true) same hit ]
      | false ↦ λ miss g. greatest_passes p xs h g
    ] in
    both refl e

pub greater_is_some : (o : Option Slip) (s : Slip) → greater o s ≡ None → ⊥
greater_is_some None s e = grind arith
greater_is_some (Some t) s e = grind arith

none_passes : (p : Slip → Bool) (xs : List Slip) → greatest (filter p xs) ≡ None → AllByRecursion (λ s. p s ≡ false) xs
none_passes p [] e = tt
none_passes p (x ∷ xs) e =
    let P : Bool → Type 0 = λ t. p x ≡ t → greatest (cond t (x ∷ filter p xs) (filter p xs)) ≡ None → (p x ≡ false) × AllByRecursion (λ s. p s ≡ false) xs in
    let both : P (p x) = elim (p x) as P [
      | true ↦ λ hit g. absurd (greater_is_some (greatest (filter p xs)) x g)
      | false ↦ λ miss g. (miss, none_passes p xs g)
    ] in
    both refl e

pub itself_on_path : (newest : List Slip) (t : Slip) → IsFound newest t → on_path newest t t ≡ true
itself_on_path newest t found = let r = head_is_found newest t.id t found in has_first (ancestry newest t.id) t r.0 r.1

head_has_tip : (newest : List Slip) → IsHistory newest → (t : Slip) → IsFound newest t → (j : List ℕ) → has_id (ancestry newest t.id) j ≡ true
    → (h : Option Slip) → greatest (filter (λ s. on_path newest t s) newest) ≡ h → has_id (ancestry_of newest h) j ≡ true
head_has_tip newest history t found j on None e =
    absurd (both_ways _ (find_passes (λ s. on_path newest t s ≡ false) _ newest t (none_passes (λ s. on_path newest t s) newest e) found) (itself_on_path newest t found))
head_has_tip newest history t found j on (Some h) e =
    let above = is_above newest history h.id t.id (greatest_passes (λ s. on_path newest t s) newest h e) in
    has_id-suffix _ _ j above.line on

head_has : (newest : List Slip) → IsHistory newest → (o : Option Slip) → final_tip newest ≡ o → (j : List ℕ) → has_id (ancestry_of newest o) j ≡ true
    → has_id (ancestry_of newest (greatest (filter (holds_tip newest o) newest))) j ≡ true
head_has newest history None e j on = absurd (both_ways _ refl on)
head_has newest history (Some t) e j on =
    let claimed = tip_claimed newest history t e in
    head_has_tip newest history t (claim_found newest history claimed.by t claimed.claimed) j on _ refl

cut_has : (newest : List Slip) → IsHistory newest → (end lib : BlockRef) → BlocksFit newest end lib → (stop : Option ℕ) → IsAhead stop (Some end)
    → (line : List Slip) → IsLine newest line → has_id line lib.id ≡ true → has_id (cut stop line) lib.id ≡ true
cut_has newest history end lib fits None ahead line l on = on
cut_has newest history end lib fits (Some stop) ahead line l on =
    let e = some_and _ _ fits.end_held in
    let low : (s : Slip) → IsFound newest s → same_id s.id lib.id ≡ true → ltb stop s.num ≡ false =
    λ s found same.
    let at : find_id newest lib.id ≡ Some s = subst (λ (i : List ℕ). find_id newest i ≡ Some s) (same_id-true s.id lib.id same) found in
    let below : s.num ≤ e.0.num = (is_above newest history end.id lib.id fits.on_path).nums s e.0 at e.1 in
    le-ltb stop s.num (omega (arith, below, e.2, ahead)) in
    has_id-drop _ line lib.id (all_weaker (IsFound newest) _ low line (line_found newest history line l)) on

pub whole_has : (newest : List Slip) → IsHistory newest → (j : List ℕ) → has_id (final_ancestry newest) j ≡ true → (m : Mode) → has_id (whole_target newest m) j ≡ true
whole_has newest history j final mode.Live = head_has newest history (final_tip newest) refl j final
whole_has newest history j final mode.Final = final

pub target_has : (newest : List Slip) → IsHistory newest → (end lib : BlockRef) → BlocksFit newest end lib → (m : Mode) (stop : Option ℕ) → IsAhead stop (Some end)
    → has_id (target newest m stop) lib.id ≡ true
target_has newest history end lib fits m stop ahead =
    cut_has newest history end lib fits stop ahead _ (whole_line newest history m) (whole_has newest history lib.id fits.final m)
