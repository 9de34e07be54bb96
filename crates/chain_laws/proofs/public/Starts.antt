-- From a place that fits, the steps to the target are a walk.
use Rattle.std.proofs.Common.{◌≡◌, ◌⊎◌, inl, inr, ℕ, Bool, true, false, not, cond, List, [], ◌∷◌, ◌++◌, map, reverse, Option, Some, None, refl, sym, ◌∙◌, ap, subst, append_assoc}
use Rattle.std.specs.List.{filter}
use Rattle.std.proofs.lemmas.List.{append-nil, reverse-reverse}
use Rattle.block_record.proofs.public.ListFacts.{all_reverse}
use Rattle.block_record.specs.declared.blocks.Slip.{Slip}
use Rattle.block_record.specs.declared.blocks.BlockRef.{BlockRef}
use Rattle.chain_model.specs.declared.places.Place.{Place}
use Rattle.chain_model.specs.declared.places.Mode.{Mode}
use Rattle.chain_model.specs.declared.places.Step.TheVariants as step
use Rattle.chain_model.specs.Ancestry.{has_id, ancestry, IsHistory}
use Rattle.chain_model.specs.Finality.{final_ancestry}
use Rattle.chain_model.specs.Steps.{block_step, ref_of, ancestry_at, keep_while, drop_while, is_after, undone, added, kept, steps_between, steps_of, target}
use Rattle.chain_laws.proofs.public.Lines.{some_and, id-find_id, is_above}
use Rattle.chain_laws.proofs.public.ClosedLists.{Passes, Closed, Closed-passes, keep-append-drop, filter-closed, filter-not-closed, Passes-append, closed_parts, closed_first}
use Rattle.chain_laws.proofs.public.Reach.{IsLine, Nothing, ancestry_line, head_is_found}
use Rattle.chain_laws.proofs.public.Meeting.{LibFits, meet, lib_split, lib_passes, finals_closed, finals_line, target_line, target_has}
use Rattle.chain_laws.proofs.public.LineFacts.{ref_first, IsBase}
use Rattle.chain_laws.proofs.public.Walks.{is_final, Fails, Begins, Walk}
use Rattle.chain_laws.proofs.public.Roots.{line_has_final}
use Rattle.chain_model.specs.Places.{PlaceFits, IsAhead, IsHeld}
use Rattle.chain_laws.specs.Standing.{IsUnder}

all_filter : (p : Slip → Bool) (xs : List Slip) → Passes p (filter p xs)
all_filter p [] = tt
all_filter p (x ∷ xs) =
    let P : Bool → Type 0 = λ t. p x ≡ t → Passes p (cond t (x ∷ filter p xs) (filter p xs)) in
    let both : P (p x) = elim (p x) as P [ true ↦ λ hit. (hit, all_filter p xs) | false ↦ λ miss. all_filter p xs ] in
    both refl

all_keep : (p : Slip → Bool) (xs : List Slip) → Passes p (keep_while p xs)
all_keep p [] = tt
all_keep p (x ∷ xs) =
    let P : Bool → Type 0 = λ t. p x ≡ t → Passes p (cond t (x ∷ keep_while p xs) []) in
    let both : P (p x) = elim (p x) as P [ true ↦ λ hit. (hit, all_keep p xs) | false ↦ λ miss. tt ] in
    both refl

fails : (f : Slip → Bool) (xs : List Slip) → Passes (λ s. not (f s)) xs → Fails f xs
fails f [] all = tt
fails f (x ∷ xs) all = (not_true (f x) all.0, fails f xs all.1)
  where
    not_true : (b : Bool) → not b ≡ true → b ≡ false
    not_true true e = sym e
    not_true false e = refl

keep_none : (f : Slip → Bool) (xs : List Slip) → Passes f xs → keep_while (λ s. not (f s)) xs ≡ []
keep_none f [] all = refl
keep_none f (x ∷ xs) all = rw all.0 refl

-- a list whose last part passes, in two
halves : (f : Slip → Bool) (xs : List Slip) → Closed f xs → keep_while (λ s. not (f s)) xs ++ reverse (reverse (filter f xs)) ≡ xs
halves f xs all = rw (reverse-reverse (filter f xs), filter-closed f xs all) (keep-append-drop (λ s. not (f s)) xs)

both_halves : (f : Slip → Bool) (xs : List Slip) → Closed f xs → reverse (reverse (filter (λ s. not (f s)) xs)) ++ reverse (reverse (filter f xs)) ≡ xs
both_halves f xs all = rw (reverse-reverse (filter (λ s. not (f s)) xs), filter-not-closed f xs all) (halves f xs all)

-- what is known where a walk begins
pub record Starts (newest line goal : List Slip) (base : Option BlockRef) (place : Place) (counted lowest : List Slip) : Type 0 where
  pub line_is : IsLine newest line
  pub goal_is : IsLine newest goal
  pub lib_fits : LibFits newest line goal place.lib
  pub end : place.end ≡ ref_first line
  pub lib : place.lib ≡ ref_first (ancestry_at newest place.lib)
  pub parts : ancestry_at newest place.lib ≡ counted ++ lowest
  pub base_is : IsBase base lowest
  pub rooted : Begins (counted ++ lowest) ⊎ (line ≡ [])

walk_from : (newest line goal : List Slip) (base : Option BlockRef) (place : Place) (counted lowest : List Slip) → IsHistory newest → Starts newest line goal base place counted lowest
    → Walk newest goal base place (steps_between (final_ancestry newest) line place.lib goal)
walk_from newest line goal base place counted lowest history s =
    let f = is_final newest in
    let p = λ (x : Slip). not (f x) in
    let lib = place.lib in
    let U = undone line goal in
    let A = added line goal in
    let K = keep_while (is_after lib) (kept line goal) in
    let L = drop_while (is_after lib) (kept line goal) in
    let finals = finals_line newest history in
    let both : K ++ L ≡ kept line goal = keep-append-drop (is_after lib) (kept line goal) in
    let split : L ≡ counted ++ lowest = lib_split newest line goal history s.goal_is lib s.lib_fits ∙ s.parts in
    let line_parts : line ≡ U ++ (K ++ L) = rw (both, ← meet newest line goal history s.line_is s.goal_is, keep-append-drop (λ x. not (has_id goal x.id)) line) refl in
    let goal_parts : goal ≡ A ++ (K ++ L) = rw (both, keep-append-drop (λ x. not (has_id line x.id)) goal) refl in
    let closed : Closed f (A ++ (K ++ L)) = subst (Closed f) goal_parts (finals_closed newest (final_ancestry newest) goal history finals s.goal_is) in
    let closed_A : Closed f A = closed_first f A (K ++ L) closed in
    let closed_low : Closed f (K ++ L) = elim (closed_parts f A (K ++ L) closed) [ inl u ↦ Closed-passes f (K ++ L) u.all | inr u ↦ u.rest ] in
    let closed_K : Closed f K = closed_first f K L closed_low in
    let one : (keep_while p K ≡ []) ⊎ (reverse (filter f A) ≡ []) =
    elim (closed_parts f A (K ++ L) closed) [
      | inl u ↦ inl (keep_none f K (Passes-append f K L u.all).0)
      | inr u ↦ inr (ap reverse (filter-closed f A closed_A ∙ u.none))
    ] in
    let rest = keep_while p K ++ (reverse (reverse (filter f K)) ++ counted) in
    let rest_is : rest ++ lowest ≡ K ++ L =
    append_assoc (keep_while p K) (reverse (reverse (filter f K)) ++ counted) lowest ∙ ap (λ l. keep_while p K ++ l) (append_assoc (reverse (reverse (filter f K))) counted lowest)
    ∙ sym (append_assoc (keep_while p K) (reverse (reverse (filter f K))) (counted ++ lowest)) ∙ ap (λ l. l ++ (counted ++ lowest)) (halves f K closed_K) ∙ ap (λ l. K ++ l) (sym split) in
    let whole : (U ++ rest) ++ lowest ≡ line = append_assoc U rest lowest ∙ ap (λ l. U ++ l) rest_is ∙ sym line_parts in
    let turned_news = reverse (reverse (filter p A)) in
    let turned_finals = reverse (reverse (filter f A)) in
    let target_is : (turned_news ++ (turned_finals ++ rest)) ++ lowest ≡ goal =
    append_assoc turned_news (turned_finals ++ rest) lowest ∙ ap (λ l. turned_news ++ l) (append_assoc turned_finals rest lowest) ∙ sym (append_assoc turned_news turned_finals (rest ++ lowest))
    ∙ ap (λ l. l ++ (rest ++ lowest)) (both_halves f A closed_A) ∙ ap (λ l. A ++ l) rest_is ∙ sym goal_parts in
    let undos = map (block_step step.Undo) U in
    let fins = map (block_step step.Final) (reverse (filter f K)) in
    let newfins = map (block_step step.NewFinal) (reverse (filter f A)) in
    let news = map (block_step step.New) (reverse (filter p A)) in
    let rooted : Begins (counted ++ lowest) ⊎ (((U ++ rest) ++ lowest ≡ []) × (reverse (filter f A) ≡ [] → reverse (filter p A) ≡ [])) =
    elim s.rooted [
      | inl b ↦ inl b
      | inr none ↦ inr (whole ∙ none, λ e. root_first newest line goal history s.goal_is none e)
    ] in
    record {
      gone = U;
      free = keep_while p K;
      due = reverse (filter f K);
      finals = reverse (filter f A);
      news = reverse (filter p A);
      counted = counted;
      lowest = lowest;
      walks = record {
        base_is = s.base_is;
        on = subst (IsLine newest) (sym whole) s.line_is;
        goal_line = s.goal_is;
        goal_is = sym target_is;
        end = s.end ∙ ap ref_first (sym whole);
        lib = s.lib ∙ ap ref_first s.parts;
        steps_are = append_assoc (undos ++ fins) newfins news ∙ append_assoc undos fins (newfins ++ news);
        one = one;
        low = subst (Passes f) s.parts (lib_passes newest line goal history finals lib s.lib_fits);
        due_final = all_reverse (λ x. f x ≡ true) (filter f K) (all_filter f K);
        finals_final = all_reverse (λ x. f x ≡ true) (filter f A) (all_filter f A);
        free_not = fails f (keep_while p K) (all_keep p K);
        news_not = all_reverse (λ x. f x ≡ false) (filter p A) (fails f (filter p A) (all_filter p A));
        rooted = rooted;
      };
    }
  where
    turn_nil : (xs : List Slip) → reverse xs ≡ [] → xs ≡ []
    turn_nil xs e = sym (reverse-reverse xs) ∙ ap reverse e

    added_all : (g : List Slip) → added [] g ≡ g
    added_all [] = refl
    added_all (x ∷ g) = ap (λ k. x ∷ k) (added_all g)

    root_first : (n l g : List Slip) → IsHistory n → IsLine n g → l ≡ [] → reverse (filter (is_final n) (added l g)) ≡ [] → reverse (filter (λ x. not (is_final n x)) (added l g)) ≡ []
    root_first n l g h line none e =
        let all : added l g ≡ g = ap (λ k. added k g) none ∙ added_all g in
        let nil : g ≡ [] = line_has_final n g h line (ap (filter (is_final n)) (sym all) ∙ turn_nil _ e) in
        rw (all, nil) refl

-- the line of the base is the last part of the line of the lib
pub record LibParts (newest : List Slip) (base lib : Option BlockRef) : Type 0 where
  pub counted : List Slip
  pub lowest : List Slip
  pub parts : ancestry_at newest lib ≡ counted ++ lowest
  pub base_is : IsBase base lowest

pub lib_parts : (newest : List Slip) → IsHistory newest → (base lib : Option BlockRef) → IsUnder newest base lib → LibParts newest base lib
lib_parts newest history None lib under = record { counted = ancestry_at newest lib; lowest = []; parts = sym (append-nil (ancestry_at newest lib)); base_is = refl }
lib_parts newest history (Some r) None under = absurd under
lib_parts newest history (Some r) (Some l) under =
    let above = (is_above newest history l.id r.id under.1).line in
    let b = some_and _ _ under.0 in
    let first = head_is_found newest r.id b.0 b.1 in
    record {
      counted = above.0;
      lowest = b.0 ∷ first.0;
      parts = sym above.1 ∙ ap (λ x. above.0 ++ x) first.1;
      base_is = (id-find_id newest r.id b.0 b.1, b.2);
    }

-- a reference that is held is that of the first block of its line
held_first : (newest : List Slip) (r : BlockRef) → IsHeld newest r → (Some r ≡ ref_first (ancestry_at newest (Some r))) × Begins (ancestry_at newest (Some r))
held_first newest r held =
    let b = some_and _ _ held in
    let first = head_is_found newest r.id b.0 b.1 in
    let same : ref_of b.0 ≡ r = ref_same b.0 r (id-find_id newest r.id b.0 b.1) b.2 in
    (ap (λ x. Some x) (sym same) ∙ ap ref_first (sym first.1), (b.0, first.0, first.1))
  where
    ref_same : (x : Slip) (q : BlockRef) → x.id ≡ q.id → x.num ≡ q.num → ref_of x ≡ q
    ref_same x q e n = let y : ref_of x ≡ record { num = q.num; id = q.id } = rw (e, n) refl in y

-- the walk from a place that fits
start_go : (newest : List Slip) (base end lib : Option BlockRef) (m : Mode) (stop : Option ℕ) → IsHistory newest → PlaceFits newest end lib → IsUnder newest base lib → IsAhead stop end
    → Walk newest (target newest m stop) base (record { end = end; lib = lib }) (steps_between (final_ancestry newest) (ancestry_at newest end) lib (target newest m stop))
start_go newest base None None m stop history fits under ahead =
    let b = lib_parts newest history base None under in
    walk_from newest [] (target newest m stop) base (record { end = None; lib = None }) b.counted b.lowest history (record {
      line_is = Nothing;
      goal_is = target_line newest history m stop;
      lib_fits = refl;
      end = refl;
      lib = refl;
      parts = b.parts;
      base_is = b.base_is;
      rooted = inr refl;
    })
start_go newest base None (Some l) m stop history fits under ahead = absurd fits
start_go newest base (Some e) None m stop history fits under ahead = absurd fits
start_go newest base (Some e) (Some l) m stop history fits under ahead =
    let b = lib_parts newest history base (Some l) under in
    let h = held_first newest l fits.lib_held in
    walk_from newest (ancestry newest e.id) (target newest m stop) base (record { end = Some e; lib = Some l }) b.counted b.lowest history (record {
      line_is = ancestry_line newest history e.id;
      goal_is = target_line newest history m stop;
      lib_fits = (fits.on_path, target_has newest history e l fits m stop ahead, fits.final, fits.lib_held);
      end = (held_first newest e fits.end_held).0;
      lib = h.0;
      parts = b.parts;
      base_is = b.base_is;
      rooted = inl (subst Begins b.parts h.1);
    })

pub start : (newest : List Slip) (base : Option BlockRef) (place : Place) (m : Mode) (stop : Option ℕ) → IsHistory newest → PlaceFits newest place.end place.lib → IsUnder newest base place.lib → IsAhead stop place.end
    → Walk newest (target newest m stop) base place (steps_of newest place m stop)
start newest base place m stop history fits under ahead = start_go newest base place.end place.lib m stop history fits under ahead
