-- The place at the head of a history.
use Rattle.std.proofs.Common.{arith, ◌≡◌, ◌≤◌, inl, inr, Bool, true, false, not, cond, List, [], ◌∷◌, Option, Some, None, refl, sym, ◌∙◌, ap, subst}
use Rattle.std.specs.List.{AllByRecursion, filter, find}
use Rattle.std.specs.Option.{option_map}
use Rattle.std.proofs.lemmas.Bool.{both_ways}
use Rattle.chain_laws.proofs.public.Lines.{is_above}
use Rattle.block_record.specs.declared.blocks.Slip.{Slip}
use Rattle.block_record.specs.declared.blocks.BlockRef.{BlockRef}
use Rattle.chain_model.specs.declared.places.Mode.TheVariants as mode
use Rattle.chain_model.specs.Ancestry.{has_id, ancestry, IsHistory}
use Rattle.chain_model.specs.Finality.{ancestry_of, greatest, final_tip, final_ancestry}
use Rattle.chain_model.specs.Steps.{ref_of, drop_while, ancestry_at, holds_tip, head, target}
use Rattle.chain_laws.specs.Standing.{first_of, place_at_end, stands, after_base}
use Rattle.chain_laws.proofs.public.Growth.{IsFound, all_found, greater_cases, tip_claimed, claim_found}
use Rattle.chain_laws.proofs.public.Reach.{IsLine, drop_line, head_is_found, has_id-drop_by_id, first_fails}
use Rattle.chain_laws.proofs.public.Meeting.{whole_line, whole_has, itself_on_path}
use Rattle.chain_laws.proofs.public.LineFacts.{line_is, first_is_found, same_number}
use Rattle.chain_laws.proofs.public.Ends.{place_same}
use Rattle.relay_model.proofs.public.Intakes.{all_filter}
use Rattle.step_laws.specs.Telling.{head_place, at_head, has_head}

-- the greatest of blocks is one of them
all_greatest : (P : Slip → Type 0) (xs : List Slip) (t : Slip) → AllByRecursion P xs → greatest xs ≡ Some t → P t
all_greatest P [] t all e = absurd (grind (arith, e))
all_greatest P (x ∷ xs) t all e = elim (greater_cases (greatest xs) x t e) [ inl older ↦ all_greatest P xs t all.1 older | inr same ↦ subst P same all.0 ]

-- the head is a block of the history
pub head_found : (newest : List Slip) → IsHistory newest → (h : Slip) → head newest ≡ Some h → IsFound newest h
head_found newest history h e =
    let p = holds_tip newest (final_tip newest) in
    all_greatest (IsFound newest) (filter p newest) h (all_filter (IsFound newest) p newest (all_found newest history)) e

-- and so is the final tip
pub tip_found : (newest : List Slip) → IsHistory newest → (t : Slip) → final_tip newest ≡ Some t → IsFound newest t
tip_found newest history t e = let c = tip_claimed newest history t e in claim_found newest history c.by t c.claimed

-- the first block of a path is the block of the path
first_of_path : (newest : List Slip) (o : Option Slip) → ((s : Slip) → o ≡ Some s → IsFound newest s) → first_of (ancestry_of newest o) ≡ o
first_of_path newest None found = refl
first_of_path newest (Some s) found = let r = head_is_found newest s.id s (found s refl) in ap first_of r.1

-- the first block that passes is the first of what is left without those that do not
find-drop : (f : Slip → Bool) (xs : List Slip) → find f xs ≡ first_of (drop_while (λ s. not (f s)) xs)
find-drop f [] = refl
find-drop f (x ∷ xs) =
    let P : Bool → Type 0 = λ t. cond t (Some x) (find f xs) ≡ first_of (cond (not t) (drop_while (λ s. not (f s)) xs) (x ∷ xs)) in
    elim (f x) as P [ true ↦ refl | false ↦ find-drop f xs ]

-- a path that has the final tip has it as its first final block
final_first : (newest finals line : List Slip) (t : Slip) → IsHistory newest → finals ≡ ancestry newest t.id → IsFound newest t → IsLine newest line
    → has_id line t.id ≡ true → find (λ s. has_id finals s.id) line ≡ Some t
final_first newest finals line t history is found whole on =
    find-drop (λ s. has_id finals s.id) line ∙ go (drop_while (λ s. not (has_id finals s.id)) line) refl (drop_line newest history (λ s. not (has_id finals s.id)) line whole) kept
  where
    tip_on : has_id finals t.id ≡ true
    tip_on = ap (λ l. has_id l t.id) is ∙ itself_on_path newest t found

    kept : has_id (drop_while (λ s. not (has_id finals s.id)) line) t.id ≡ true
    kept = has_id-drop_by_id (λ i. not (has_id finals i)) line t.id (ap not tip_on) on

    passes : (b : Bool) → not b ≡ false → b ≡ true
    passes true e = refl
    passes false e = sym e

    go : (l : List Slip) → drop_while (λ s. not (has_id finals s.id)) line ≡ l → IsLine newest l → has_id l t.id ≡ true → first_of l ≡ Some t
    go [] e li has = absurd (both_ways _ refl has)
    go (y ∷ ys) e li has =
        let final : has_id finals y.id ≡ true = passes (has_id finals y.id) (first_fails (λ s. not (has_id finals s.id)) line y ys e) in
        let there = first_is_found newest y ys li in
        let below : y.num ≤ t.num = (is_above newest history t.id y.id (ap (λ l. has_id l y.id) (sym is) ∙ final)).nums y t there found in
        let over : has_id (ancestry newest y.id) t.id ≡ true = ap (λ l. has_id l t.id) (line_is newest y ys li) ∙ has in
        ap (λ s. Some s) (sym (same_number newest history t y found there over below))

none_final : (finals xs : List Slip) → finals ≡ [] → find (λ s. has_id finals s.id) xs ≡ None
none_final finals [] e = refl
none_final finals (x ∷ xs) e = rw (ap (λ l. has_id l x.id) e) (none_final finals xs e)

-- on the path of the head the last final block is the final tip
last_final : (newest : List Slip) → IsHistory newest → find (λ s. has_id (final_ancestry newest) s.id) (ancestry_of newest (head newest)) ≡ final_tip newest
last_final newest history = go (final_tip newest) refl
  where
    go : (o : Option Slip) → final_tip newest ≡ o → find (λ s. has_id (final_ancestry newest) s.id) (ancestry_of newest (head newest)) ≡ o
    go None e = none_final (final_ancestry newest) (ancestry_of newest (head newest)) (ap (ancestry_of newest) e)
    go (Some t) e =
        let is : final_ancestry newest ≡ ancestry newest t.id = ap (ancestry_of newest) e in
        let found = tip_found newest history t e in
        let tip_on : has_id (final_ancestry newest) t.id ≡ true = ap (λ l. has_id l t.id) is ∙ itself_on_path newest t found in
        final_first newest (final_ancestry newest) (ancestry_of newest (head newest)) t history is found (whole_line newest history mode.Live)
        (whole_has newest history t.id tip_on mode.Live)

-- the end of the path of the head is the head, and its last final block is the final tip
pub place_at_head : (newest : List Slip) → IsHistory newest → place_at_end (final_ancestry newest) (target newest mode.Live None) ≡ head_place newest
place_at_head newest history =
    place_same (place_at_end (final_ancestry newest) (target newest mode.Live None)) (head_place newest)
    (ap (option_map ref_of) (first_of_path newest (head newest) (head_found newest history))) (ap (option_map ref_of) (last_final newest history))

path_at : (newest : List Slip) (o : Option Slip) → ancestry_at newest (option_map ref_of o) ≡ ancestry_of newest o
path_at newest None = refl
path_at newest (Some s) = refl

-- a client that stands at the head has its path
pub stands_at_head : (newest : List Slip) (base : Option BlockRef) → stands newest base (head_place newest) ≡ at_head newest base
stands_at_head newest base =
    let end = path_at newest (head newest) in
    let lib = path_at newest (final_tip newest) in
    rw (end, lib) refl

keep_all : (xs : List Slip) → after_base None xs ≡ xs
keep_all [] = refl
keep_all (x ∷ xs) = ap (λ l. x ∷ l) (keep_all xs)

-- without a base it has the whole path
pub at_head-None : (newest : List Slip) → at_head newest None ≡ has_head newest
at_head-None newest =
    let blocks = keep_all (ancestry_of newest (head newest)) in
    let finals = keep_all (final_ancestry newest) in
    rw (blocks, finals) refl
