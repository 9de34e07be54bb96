-- The way from a place to a target, step by step: at each step the client stands at the place.
use Rattle.std.proofs.Common.{arith, ◌≡◌, ◌⊎◌, inl, inr, ℕ, Bool, true, false, ltb, List, [], ◌∷◌, ◌++◌, ◌+◌, length, map, reverse, Option, Some, None, refl, sym, ◌∙◌, ap, subst, append_assoc}
use Rattle.std.specs.List.{AllByRecursion}
use Rattle.std.proofs.lemmas.Bool.{lt-ltb, eq-eqb, both_ways, false_from_ne_true}
use Rattle.std.proofs.lemmas.List.{length-map, length-append}
use Rattle.block_record.specs.declared.blocks.Slip.{Slip}
use Rattle.block_record.specs.declared.blocks.BlockRef.{BlockRef}
use Rattle.block_record.specs.Ids.{same_id_refl}
use Rattle.chain_model.specs.declared.places.Place.{Place}
use Rattle.chain_model.specs.declared.places.Step.TheVariants as step
use Rattle.chain_model.specs.Ancestry.{has_id, IsHistory}
use Rattle.chain_model.specs.Finality.{final_ancestry}
use Rattle.chain_model.specs.Steps.{BlockStep, block_step, ref_of, parent_of, ancestry_at, place_after}
use Rattle.chain_model.specs.Fold.{FoldState, follows_last, after_step}
use Rattle.chain_laws.proofs.public.Growth.{IsFound}
use Rattle.chain_laws.proofs.public.LinkedLists.{reverse-cons, slice_get_reverse}
use Rattle.chain_laws.proofs.public.ClosedLists.{Passes}
use Rattle.chain_laws.proofs.public.Reach.{IsLine, line_linked, has_id-append_right}
use Rattle.chain_laws.proofs.public.Meeting.{has_first}
use Rattle.chain_laws.specs.Marks.{mark, taken_back}
use Rattle.chain_laws.proofs.public.LineFacts.{ref_first, IsBase, line_distinct, after_base_of, line_back, line_suffix, first_is_found, parent_next}
use Rattle.chain_model.specs.Places.{PlaceFits, BlocksFit, IsHeld}
use Rattle.chain_laws.specs.Standing.{after_base, stands}

abbrev pub is_final : List Slip → Slip → Bool
is_final newest s = has_id (final_ancestry newest) s.id

abbrev pub Fails : (Slip → Bool) → List Slip → Type 0
Fails f xs = AllByRecursion (λ s. f s ≡ false) xs

-- a list that is not empty
abbrev pub Begins : List Slip → Type 0
Begins xs = (s : Slip) × (rest : List Slip) × (xs ≡ s ∷ rest)

-- the way that is left: blocks to undo, the end first; blocks on both lines that are not final; blocks to mark as final, to add as final and to add, upwards;
-- blocks that are marked; the line of the base
pub record Walks (newest goal : List Slip) (base : Option BlockRef) (place : Place) (steps : List BlockStep) (gone free due finals news counted lowest : List Slip) : Type 0 where
  pub base_is : IsBase base lowest
  pub on : IsLine newest ((gone ++ (free ++ (reverse due ++ counted))) ++ lowest)
  pub goal_line : IsLine newest goal
  pub goal_is : goal ≡ (reverse news ++ (reverse finals ++ (free ++ (reverse due ++ counted)))) ++ lowest
  pub end : place.end ≡ ref_first ((gone ++ (free ++ (reverse due ++ counted))) ++ lowest)
  pub lib : place.lib ≡ ref_first (counted ++ lowest)
  pub steps_are : steps ≡ map (block_step step.Undo) gone ++ (map (block_step step.Final) due ++ (map (block_step step.NewFinal) finals ++ map (block_step step.New) news))
  pub one : (free ≡ []) ⊎ (finals ≡ [])
  pub low : Passes (is_final newest) (counted ++ lowest)
  pub due_final : Passes (is_final newest) due
  pub finals_final : Passes (is_final newest) finals
  pub free_not : Fails (is_final newest) free
  pub news_not : Fails (is_final newest) news
  pub rooted : Begins (counted ++ lowest) ⊎ (((gone ++ (free ++ (reverse due ++ counted))) ++ lowest ≡ []) × (finals ≡ [] → news ≡ []))

pub record Walk (newest goal : List Slip) (base : Option BlockRef) (place : Place) (steps : List BlockStep) : Type 0 where
  pub gone : List Slip
  pub free : List Slip
  pub due : List Slip
  pub finals : List Slip
  pub news : List Slip
  pub counted : List Slip
  pub lowest : List Slip
  pub walks : Walks newest goal base place steps gone free due finals news counted lowest

abbrev pub based : Option BlockRef → List Slip → ℕ → FoldState
based base line count = record { base = base; blocks = map ref_of line; finals = count }

-- one step on the way
pub record Next (newest goal : List Slip) (base : Option BlockRef) (place : Place) (x : BlockStep) (xs : List BlockStep) : Type 0 where
  pub fold : after_step (stands newest base place) x ≡ Some (stands newest base (place_after place x))
  pub marks : after_base base (ancestry_at newest (place_after place x).lib) ≡ mark x ++ after_base base (ancestry_at newest place.lib)
  pub apart : AllByRecursion (λ s. has_id (after_base base (ancestry_at newest place.lib)) s.id ≡ false) (taken_back x)
  pub block : IsFound newest x.slip
  pub walk : Walk newest goal base (place_after place x) xs

begins_right : (xs ys : List Slip) → Begins ys → Begins (xs ++ ys)
begins_right [] ys b = b
begins_right (x ∷ xs) ys b = (x, xs ++ ys, refl)

-- the place after an undo is at the next block of the line
parent_first : (newest : List Slip) → IsHistory newest → (u : Slip) (line : List Slip) → IsLine newest (u ∷ line) → Begins line → Some (parent_of u) ≡ ref_first line
parent_first newest history u [] l b = absurd (cc)
parent_first newest history u (p ∷ ps) l b = ap (λ r. Some r) (parent_next newest history u p ps l)

-- the lists of a walk
line_parts : (gone free due counted lowest : List Slip) → (gone ++ (free ++ (reverse due ++ counted))) ++ lowest ≡ (gone ++ (free ++ reverse due)) ++ (counted ++ lowest)
line_parts gone free due counted lowest =
    rw (
      append_assoc gone (free ++ (reverse due ++ counted)) lowest,
      append_assoc free (reverse due ++ counted) lowest,
      append_assoc (reverse due) counted lowest,
      append_assoc gone (free ++ reverse due) (counted ++ lowest),
      append_assoc free (reverse due) (counted ++ lowest),
    ) refl

pub lib_line : (newest goal : List Slip) (base : Option BlockRef) (place : Place) (steps : List BlockStep) (gone free due finals news counted lowest : List Slip) → IsHistory newest
    → Walks newest goal base place steps gone free due finals news counted lowest → IsLine newest (counted ++ lowest)
lib_line newest goal base place steps gone free due finals news counted lowest history w =
    line_suffix newest history (gone ++ (free ++ reverse due)) (counted ++ lowest) (subst (IsLine newest) (line_parts gone free due counted lowest) w.on)

counted_is : (newest goal : List Slip) (base : Option BlockRef) (place : Place) (steps : List BlockStep) (gone free due finals news counted lowest : List Slip) → IsHistory newest
    → Walks newest goal base place steps gone free due finals news counted lowest → after_base base (ancestry_at newest place.lib) ≡ counted
counted_is newest goal base place steps gone free due finals news counted lowest history w =
    let l = lib_line newest goal base place steps gone free due finals news counted lowest history w in
    ap (λ r. after_base base (ancestry_at newest r)) w.lib ∙ ap (after_base base) (line_back newest (counted ++ lowest) l)
    ∙ after_base_of base counted lowest w.base_is (line_distinct newest history (counted ++ lowest) l)

path_is : (newest goal : List Slip) (base : Option BlockRef) (place : Place) (steps : List BlockStep) (gone free due finals news counted lowest : List Slip) → IsHistory newest
    → Walks newest goal base place steps gone free due finals news counted lowest → after_base base (ancestry_at newest place.end) ≡ gone ++ (free ++ (reverse due ++ counted))
path_is newest goal base place steps gone free due finals news counted lowest history w =
    ap (λ r. after_base base (ancestry_at newest r)) w.end ∙ ap (after_base base) (line_back newest _ w.on)
    ∙ after_base_of base (gone ++ (free ++ (reverse due ++ counted))) lowest w.base_is (line_distinct newest history _ w.on)

pub stands_is : (newest goal : List Slip) (base : Option BlockRef) (place : Place) (steps : List BlockStep) (gone free due finals news counted lowest : List Slip) → IsHistory newest
    → Walks newest goal base place steps gone free due finals news counted lowest → stands newest base place ≡ based base (gone ++ (free ++ (reverse due ++ counted))) (length counted)
stands_is newest goal base place steps gone free due finals news counted lowest history w =
    rw (counted_is newest goal base place steps gone free due finals news counted lowest history w, path_is newest goal base place steps gone free due finals news counted lowest history w) refl

held : (newest : List Slip) (s : Slip) (rest : List Slip) → IsLine newest (s ∷ rest) → IsHeld newest (ref_of s)
held newest s rest l = let f = first_is_found newest s rest l in rw f refl

fits_go : (newest line low : List Slip) (end lib : Option BlockRef) → IsLine newest line → IsLine newest low → Begins line → Begins low → end ≡ ref_first line → lib ≡ ref_first low
    → Passes (is_final newest) low → ((j : List ℕ) → has_id low j ≡ true → has_id line j ≡ true) → PlaceFits newest end lib
fits_go newest [] low end lib l m b c e f p h = absurd (cc)
fits_go newest (s ∷ line) [] end lib l m b c e f p h = absurd (cc)
fits_go newest (s ∷ line) (t ∷ low) end lib l m b c e f p h =
    let back = line_back newest (s ∷ line) l in
    let fits : BlocksFit newest (ref_of s) (ref_of t) = record {
      end_held = held newest s line l;
      lib_held = held newest t low m;
      final = p.0;
      on_path = rw back (h t.id (has_first (t ∷ low) t low refl));
    } in
    rw (e, f) fits

nil_right : (xs ys : List Slip) → xs ++ ys ≡ [] → ys ≡ []
nil_right [] ys e = e
nil_right (x ∷ xs) ys e = absurd (cc)

fits_none : (newest : List Slip) (end lib : Option BlockRef) → end ≡ None → lib ≡ None → PlaceFits newest end lib
fits_none newest end lib e f = rw (e, f) tt

walks_fit : (newest goal : List Slip) (base : Option BlockRef) (place : Place) (steps : List BlockStep) (gone free due finals news counted lowest : List Slip) → IsHistory newest
    → Walks newest goal base place steps gone free due finals news counted lowest → PlaceFits newest place.end place.lib
walks_fit newest goal base place steps gone free due finals news counted lowest history w =
    let l = lib_line newest goal base place steps gone free due finals news counted lowest history w in
    let parts = line_parts gone free due counted lowest in
    elim w.rooted [
      | inl low ↦ fits_go newest _ (counted ++ lowest) place.end place.lib w.on l (subst Begins (sym parts) (begins_right (gone ++ (free ++ reverse due)) (counted ++ lowest) low)) low w.end w.lib w.low
          (λ j h. subst (λ (x : List Slip). has_id x j ≡ true) (sym parts) (has_id-append_right (gone ++ (free ++ reverse due)) (counted ++ lowest) j h))
      | inr none ↦ fits_none newest place.end place.lib (w.end ∙ ap ref_first none.0) (w.lib ∙ ap ref_first (nil_right (gone ++ (free ++ reverse due)) (counted ++ lowest) (sym parts ∙ none.0)))
    ]

-- a child of the last block is one after the base too
follows_base : (base : Option BlockRef) (xs ys : List Slip) (s : Slip) → IsBase base ys → follows_last None (map ref_of (xs ++ ys)) s ≡ true → follows_last base (map ref_of xs) s ≡ true
follows_base None [] ys s none h = refl
follows_base (Some r) [] [] s at h = absurd at
follows_base (Some r) [] (y ∷ ys) s at h = rw (← at.0, ← at.1) h
follows_base None (x ∷ xs) ys s at h = h
follows_base (Some r) (x ∷ xs) ys s at h = h

-- the first step, and the steps after it
same_first : (x y : BlockStep) (xs ys : List BlockStep) → x ∷ xs ≡ y ∷ ys → x ≡ y
same_first x y xs ys e = grind (arith, e)

same_rest : (x y : BlockStep) (xs ys : List BlockStep) → x ∷ xs ≡ y ∷ ys → xs ≡ ys
same_rest x y xs ys e = grind (arith, e)

next_of : (newest goal : List Slip) (base : Option BlockRef) (place : Place) (x y : BlockStep) (xs ys : List BlockStep) → x ∷ xs ≡ y ∷ ys
    → Next newest goal base place y ys → Next newest goal base place x xs
next_of newest goal base place x y xs ys e h =
    subst (λ (z : BlockStep). Next newest goal base place z xs) (sym (same_first x y xs ys e)) (subst (λ (zs : List BlockStep). Next newest goal base place y zs) (sym (same_rest x y xs ys e)) h)

fold_by : (f g : FoldState) (x : BlockStep) (before after : FoldState) → f ≡ before → g ≡ after → after_step before x ≡ Some after → after_step f x ≡ Some g
fold_by f g x before after e e' h = rw (e, e') h

has_id-append_left : (xs ys : List Slip) (j : List ℕ) → has_id xs j ≡ true → has_id (xs ++ ys) j ≡ true
has_id-append_left [] ys j h = absurd (both_ways _ refl h)
has_id-append_left (x ∷ xs) ys j h = grind (arith, h, has_id-append_left xs ys j)

-- undo
next_undo : (newest goal : List Slip) (base : Option BlockRef) (place : Place) (steps : List BlockStep) (u : Slip) (gone free due finals news counted lowest : List Slip) → IsHistory newest
    → Walks newest goal base place steps (u ∷ gone) free due finals news counted lowest
    → Next newest goal base place (block_step step.Undo u) (map (block_step step.Undo) gone ++ (map (block_step step.Final) due ++ (map (block_step step.NewFinal) finals ++ map (block_step step.New) news)))
next_undo newest goal base place steps u gone free due finals news counted lowest history w =
    let rest = gone ++ (free ++ (reverse due ++ counted)) in
    let low : Begins (counted ++ lowest) = elim w.rooted [ inl l ↦ l | inr none ↦ absurd (not_empty u (rest ++ lowest) none.0) ] in
    let line : Begins (rest ++ lowest) = subst Begins (sym (line_parts gone free due counted lowest)) (begins_right (gone ++ (free ++ reverse due)) (counted ++ lowest) low) in
    let after : Walks newest goal base (place_after place (block_step step.Undo u)) (map (block_step step.Undo) gone ++ (map (block_step step.Final) due ++ (map (block_step step.NewFinal) finals ++ map (block_step step.New) news))) gone free due finals news counted lowest = record {
      base_is = w.base_is;
      on = line_suffix newest history (u ∷ []) (rest ++ lowest) w.on;
      goal_line = w.goal_line;
      goal_is = w.goal_is;
      end = parent_first newest history u (rest ++ lowest) w.on line;
      lib = w.lib;
      steps_are = refl;
      one = w.one;
      low = w.low;
      due_final = w.due_final;
      finals_final = w.finals_final;
      free_not = w.free_not;
      news_not = w.news_not;
      rooted = inl low;
    } in
    let other : has_id counted u.id ≡ false = apart_of gone free due counted lowest u (line_distinct newest history _ w.on).0 in
    let less : ltb (length counted) (length (ref_of u ∷ map ref_of rest)) ≡ true =
    lt-ltb _ _ (omega (arith, length-map rest ref_of, length-append gone (free ++ (reverse due ++ counted)), length-append free (reverse due ++ counted), length-append (reverse due) counted)) in
    let one : after_step (based base (u ∷ rest) (length counted)) (block_step step.Undo u) ≡ Some (based base rest (length counted)) = rw (same_id_refl u.id, eq-eqb u.num u.num refl, less) refl in
    record {
      fold = fold_by _ _ (block_step step.Undo u) _ _ (stands_is newest goal base place steps (u ∷ gone) free due finals news counted lowest history w)
          (stands_is newest goal base _ _ gone free due finals news counted lowest history after) one;
      marks = refl;
      apart = (rw (counted_is newest goal base place steps (u ∷ gone) free due finals news counted lowest history w) other, tt);
      block = first_is_found newest u (rest ++ lowest) w.on;
      walk = record { gone = gone; free = free; due = due; finals = finals; news = news; counted = counted; lowest = lowest; walks = after };
    }
  where
    apart_of : (g f d c l : List Slip) (x : Slip) → has_id ((g ++ (f ++ (reverse d ++ c))) ++ l) x.id ≡ false → has_id c x.id ≡ false
    apart_of g f d c l x none =
        false_from_ne_true _ (λ h. both_ways _ none (rw (append_assoc g (f ++ (reverse d ++ c)) l, append_assoc f (reverse d ++ c) l, append_assoc (reverse d) c l)
        (has_id-append_right g _ x.id (has_id-append_right f _ x.id (has_id-append_right (reverse d) _ x.id (has_id-append_left c l x.id h))))))

    not_empty : (x : Slip) (xs : List Slip) → x ∷ xs ≡ [] → ⊥
    not_empty x xs e = absurd (cc)

-- final
next_final : (newest goal : List Slip) (base : Option BlockRef) (place : Place) (steps : List BlockStep) (free : List Slip) (d : Slip) (due finals news counted lowest : List Slip) → IsHistory newest
    → Walks newest goal base place steps [] free (d ∷ due) finals news counted lowest
    → Next newest goal base place (block_step step.Final d) (map (block_step step.Final) due ++ (map (block_step step.NewFinal) finals ++ map (block_step step.New) news))
next_final newest goal base place steps free d due finals news counted lowest history w =
    let turned : reverse (d ∷ due) ++ counted ≡ reverse due ++ (d ∷ counted) = reverse-cons d due counted in
    let after : Walks newest goal base (place_after place (block_step step.Final d)) (map (block_step step.Final) due ++ (map (block_step step.NewFinal) finals ++ map (block_step step.New) news)) [] free due finals news (d ∷ counted) lowest = record {
      base_is = w.base_is;
      on = subst (λ (l : List Slip). IsLine newest ((free ++ l) ++ lowest)) turned w.on;
      goal_line = w.goal_line;
      goal_is = subst (λ (l : List Slip). goal ≡ (reverse news ++ (reverse finals ++ (free ++ l))) ++ lowest) turned w.goal_is;
      end = subst (λ (l : List Slip). place.end ≡ ref_first ((free ++ l) ++ lowest)) turned w.end;
      lib = refl;
      steps_are = refl;
      one = w.one;
      low = (w.due_final.0, w.low);
      due_final = w.due_final.1;
      finals_final = w.finals_final;
      free_not = w.free_not;
      news_not = w.news_not;
      rooted = inl (d, counted ++ lowest, refl);
    } in
    let line = free ++ (reverse (d ∷ due) ++ counted) in
    let parts : line ≡ (free ++ reverse due) ++ (d ∷ counted) = ap (λ l. free ++ l) turned ∙ sym (append_assoc free (reverse due) (d ∷ counted)) in
    let found = slice_get_reverse (free ++ reverse due) counted line d (length counted) parts refl in
    let one : after_step (based base line (length counted)) (block_step step.Final d) ≡ Some (based base line (length counted + 1)) = rw (found, same_id_refl d.id, eq-eqb d.num d.num refl) refl in
    let same : based base line (length counted + 1) ≡ based base (free ++ (reverse due ++ (d ∷ counted))) (length (d ∷ counted)) =
    rw turned (ap (based base (free ++ (reverse due ++ (d ∷ counted)))) (omega arith)) in
    record {
      fold = fold_by _ _ (block_step step.Final d) _ _ (stands_is newest goal base place steps [] free (d ∷ due) finals news counted lowest history w)
          (stands_is newest goal base _ _ [] free due finals news (d ∷ counted) lowest history after) (one ∙ ap (λ f. Some f) same);
      marks = counted_is newest goal base _ _ [] free due finals news (d ∷ counted) lowest history after
          ∙ ap (λ l. d ∷ l) (sym (counted_is newest goal base place steps [] free (d ∷ due) finals news counted lowest history w));
      apart = tt;
      block = first_is_found newest d (counted ++ lowest) (lib_line newest goal base _ _ [] free due finals news (d ∷ counted) lowest history after);
      walk = record { gone = []; free = free; due = due; finals = finals; news = news; counted = d ∷ counted; lowest = lowest; walks = after };
    }

-- newfinal
next_newfinal : (newest goal : List Slip) (base : Option BlockRef) (place : Place) (steps : List BlockStep) (b : Slip) (finals news counted lowest : List Slip) → IsHistory newest
    → Walks newest goal base place steps [] [] [] (b ∷ finals) news counted lowest
    → Next newest goal base place (block_step step.NewFinal b) (map (block_step step.NewFinal) finals ++ map (block_step step.New) news)
next_newfinal newest goal base place steps b finals news counted lowest history w =
    let turned : goal ≡ (reverse news ++ (reverse finals ++ (b ∷ counted))) ++ lowest =
    w.goal_is ∙ ap (λ l. (reverse news ++ l) ++ lowest) (reverse-cons b finals counted) in
    let parts : goal ≡ (reverse news ++ reverse finals) ++ (b ∷ (counted ++ lowest)) =
    turned ∙ rw (append_assoc (reverse news) (reverse finals ++ (b ∷ counted)) lowest, append_assoc (reverse finals) (b ∷ counted) lowest, append_assoc (reverse news) (reverse finals) (b ∷ (counted ++ lowest))) refl in
    let on : IsLine newest (b ∷ (counted ++ lowest)) = line_suffix newest history (reverse news ++ reverse finals) _ (subst (IsLine newest) parts w.goal_line) in
    let after : Walks newest goal base (place_after place (block_step step.NewFinal b)) (map (block_step step.NewFinal) finals ++ map (block_step step.New) news) [] [] [] finals news (b ∷ counted) lowest = record {
      base_is = w.base_is;
      on = on;
      goal_line = w.goal_line;
      goal_is = turned;
      end = refl;
      lib = refl;
      steps_are = refl;
      one = inl refl;
      low = (w.finals_final.0, w.low);
      due_final = tt;
      finals_final = w.finals_final.1;
      free_not = tt;
      news_not = w.news_not;
      rooted = inl (b, counted ++ lowest, refl);
    } in
    let child : follows_last base (map ref_of counted) b ≡ true = follows_base base counted lowest b w.base_is (line_linked newest history _ on).0 in
    let one : after_step (based base counted (length counted)) (block_step step.NewFinal b) ≡ Some (based base (b ∷ counted) (length counted + 1)) = rw (child, eq-eqb (length counted) (length (map ref_of counted)) (sym (length-map counted ref_of))) refl in
    let same : based base (b ∷ counted) (length counted + 1) ≡ based base (b ∷ counted) (length (b ∷ counted)) = ap (based base (b ∷ counted)) (omega arith) in
    record {
      fold = fold_by _ _ (block_step step.NewFinal b) _ _ (stands_is newest goal base place steps [] [] [] (b ∷ finals) news counted lowest history w)
          (stands_is newest goal base _ _ [] [] [] finals news (b ∷ counted) lowest history after) (one ∙ ap (λ f. Some f) same);
      marks = counted_is newest goal base _ _ [] [] [] finals news (b ∷ counted) lowest history after
          ∙ ap (λ l. b ∷ l) (sym (counted_is newest goal base place steps [] [] [] (b ∷ finals) news counted lowest history w));
      apart = tt;
      block = first_is_found newest b (counted ++ lowest) on;
      walk = record { gone = []; free = []; due = []; finals = finals; news = news; counted = b ∷ counted; lowest = lowest; walks = after };
    }

-- new
next_new : (newest goal : List Slip) (base : Option BlockRef) (place : Place) (steps : List BlockStep) (free : List Slip) (c : Slip) (news counted lowest : List Slip) → IsHistory newest
    → Walks newest goal base place steps [] free [] [] (c ∷ news) counted lowest
    → Next newest goal base place (block_step step.New c) (map (block_step step.New) news)
next_new newest goal base place steps free c news counted lowest history w =
    let turned : goal ≡ (reverse news ++ (c ∷ (free ++ counted))) ++ lowest = w.goal_is ∙ ap (λ l. l ++ lowest) (reverse-cons c news (free ++ counted)) in
    let on : IsLine newest (c ∷ ((free ++ counted) ++ lowest)) =
    line_suffix newest history (reverse news) _ (subst (IsLine newest) (turned ∙ append_assoc (reverse news) (c ∷ (free ++ counted)) lowest) w.goal_line) in
    let low : Begins (counted ++ lowest) = elim w.rooted [ inl l ↦ l | inr none ↦ absurd (not_none c news (none.1 refl)) ] in
    let after : Walks newest goal base (place_after place (block_step step.New c)) (map (block_step step.New) news) [] (c ∷ free) [] [] news counted lowest = record {
      base_is = w.base_is;
      on = on;
      goal_line = w.goal_line;
      goal_is = turned;
      end = refl;
      lib = w.lib;
      steps_are = refl;
      one = inr refl;
      low = w.low;
      due_final = tt;
      finals_final = tt;
      free_not = (w.news_not.0, w.free_not);
      news_not = w.news_not.1;
      rooted = inl low;
    } in
    let child : follows_last base (map ref_of (free ++ counted)) c ≡ true =
    follows_base base (free ++ counted) lowest c w.base_is (line_linked newest history _ on).0 in
    let one : after_step (based base (free ++ counted) (length counted)) (block_step step.New c) ≡ Some (based base (c ∷ (free ++ counted)) (length counted)) = rw child refl in
    record {
      fold = fold_by _ _ (block_step step.New c) _ _ (stands_is newest goal base place steps [] free [] [] (c ∷ news) counted lowest history w)
          (stands_is newest goal base _ _ [] (c ∷ free) [] [] news counted lowest history after) one;
      marks = refl;
      apart = tt;
      block = first_is_found newest c ((free ++ counted) ++ lowest) on;
      walk = record { gone = []; free = c ∷ free; due = []; finals = []; news = news; counted = counted; lowest = lowest; walks = after };
    }
  where
    not_none : (x : Slip) (xs : List Slip) → x ∷ xs ≡ [] → ⊥
    not_none x xs e = absurd (cc)

-- any step
next_go : (newest goal : List Slip) (base : Option BlockRef) (place : Place) (x : BlockStep) (xs : List BlockStep) (gone free due finals news counted lowest : List Slip) → IsHistory newest
    → Walks newest goal base place (x ∷ xs) gone free due finals news counted lowest → Next newest goal base place x xs
next_go newest goal base place x xs (u ∷ gone) free due finals news counted lowest history w =
    next_of newest goal base place x _ xs _ w.steps_are (next_undo newest goal base place _ u gone free due finals news counted lowest history w)
next_go newest goal base place x xs [] free (d ∷ due) finals news counted lowest history w =
    next_of newest goal base place x _ xs _ w.steps_are (next_final newest goal base place _ free d due finals news counted lowest history w)
next_go newest goal base place x xs [] free [] (b ∷ finals) news counted lowest history w =
    let none : free ≡ [] = elim w.one [ inl e ↦ e | inr e ↦ absurd (not_nil b finals e) ] in
    let w' : Walks newest goal base place (x ∷ xs) [] [] [] (b ∷ finals) news counted lowest = subst (λ (l : List Slip). Walks newest goal base place (x ∷ xs) [] l [] (b ∷ finals) news counted lowest) none w in
    next_of newest goal base place x _ xs _ w.steps_are (next_newfinal newest goal base place _ b finals news counted lowest history w')
  where
    not_nil : (y : Slip) (ys : List Slip) → y ∷ ys ≡ [] → ⊥
    not_nil y ys e = absurd (cc)
next_go newest goal base place x xs [] free [] [] (c ∷ news) counted lowest history w =
    next_of newest goal base place x _ xs _ w.steps_are (next_new newest goal base place _ free c news counted lowest history w)
next_go newest goal base place x xs [] free [] [] [] counted lowest history w = absurd (no_step x xs w.steps_are)
  where
    no_step : (y : BlockStep) (ys : List BlockStep) → y ∷ ys ≡ [] → ⊥
    no_step y ys e = absurd (cc)

pub next : (newest goal : List Slip) (base : Option BlockRef) (place : Place) (x : BlockStep) (xs : List BlockStep) → IsHistory newest
    → Walk newest goal base place (x ∷ xs) → Next newest goal base place x xs
next newest goal base place x xs history w = next_go newest goal base place x xs w.gone w.free w.due w.finals w.news w.counted w.lowest history w.walks

pub walk_fits : (newest goal : List Slip) (base : Option BlockRef) (place : Place) (steps : List BlockStep) → IsHistory newest → Walk newest goal base place steps → PlaceFits newest place.end place.lib
walk_fits newest goal base place steps history w = walks_fit newest goal base place steps w.gone w.free w.due w.finals w.news w.counted w.lowest history w.walks
