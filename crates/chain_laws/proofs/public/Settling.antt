-- Why there are no steps from the place that was reached.
use Rattle.std.proofs.lemmas.Bool.{le-ltb}
use Rattle.std.proofs.Common.{arith, ◌≡◌, ℕ, Option, Bool, true, false, not, cond, List, [], ◌∷◌, Some, refl, ◌∙◌, ap}
use Rattle.std.specs.List.{filter, find}
use Rattle.std.specs.Option.{option_map}
use Rattle.block_record.specs.declared.blocks.Slip.{Slip}
use Rattle.block_record.specs.Ids.{same_id_refl}
use Rattle.chain_model.specs.declared.places.Mode.{Mode}
use Rattle.chain_model.specs.Ancestry.{has_id, IsHistory}
use Rattle.chain_model.specs.Finality.{final_ancestry}
use Rattle.chain_model.specs.Steps.{keep_while, drop_while, is_after, ref_of, steps_between, steps_of, target}
use Rattle.chain_laws.proofs.public.LineFacts.{line_back}
use Rattle.chain_laws.proofs.public.Meeting.{target_line}
use Rattle.chain_laws.specs.Standing.{place_at_end}

-- a line has its own first block
none_apart : (line : List Slip) → keep_while (λ s. not (has_id line s.id)) line ≡ []
none_apart [] = refl
none_apart (s ∷ rest) = rw (same_id_refl s.id) refl

all_kept : (line : List Slip) → drop_while (λ s. not (has_id line s.id)) line ≡ line
all_kept [] = refl
all_kept (s ∷ rest) = rw (same_id_refl s.id) refl

-- no block before the first that passes does
none_before : (p : Slip → Bool) (line : List Slip) → filter p (keep_while (is_after (option_map ref_of (find p line))) line) ≡ []
none_before p [] = refl
none_before p (s ∷ rest) =
    let P : Bool → Type 0 = λ t. p s ≡ t → filter p (keep_while (is_after (option_map ref_of (cond t (Some s) (find p rest)))) (s ∷ rest)) ≡ [] in
    let both : P (p s) = elim (p s) as P [
      | true ↦ λ hit. rw (le-ltb s.num s.num (omega arith)) refl
      | false ↦ λ miss. skipped p s rest (option_map ref_of (find p rest)) miss (none_before p rest)
    ] in
    both refl
  where
    skipped : (q : Slip → Bool) (x : Slip) (xs : List Slip) (o : _) → q x ≡ false → filter q (keep_while (is_after o) xs) ≡ [] → filter q (keep_while (is_after o) (x ∷ xs)) ≡ []
    skipped q x xs o miss h = grind (arith, miss, h)

settled_line : (finals line : List Slip) → steps_between finals line (option_map ref_of (find (λ s. has_id finals s.id) line)) line ≡ []
settled_line finals line = rw (none_apart line, all_kept line, none_before (λ s. has_id finals s.id) line) refl

-- the steps from the end of a target to it are none
pub steps_settle : (newest : List Slip) (m : Mode) (stop : Option ℕ) → IsHistory newest
    → steps_of newest (place_at_end (final_ancestry newest) (target newest m stop)) m stop ≡ []
steps_settle newest m stop history =
    let goal = target newest m stop in
    let finals = final_ancestry newest in
    ap (λ x. steps_between finals x (option_map ref_of (find (λ s. has_id finals s.id) goal)) goal) (line_back newest goal (target_line newest history m stop))
    ∙ settled_line finals goal
