-- Scans of a history from its end.
use Rattle.std.proofs.Common.{arith, Option, not, ◌≡◌, ◌<◌, ◌+◌, ℕ, Bool, true, false, cond, Some, take, get_or, List, [], ◌∷◌, ◌++◌, map, reverse, Bor, refl, sym, ◌∙◌, ap, append_assoc, length}
use Rattle.std.proofs.lemmas.List.{append-nil, reverse-append, map_push, map-append, nil_from_length, take_more}
use Rattle.std.proofs.lemmas.List.Elements.{filter-append}
use Rattle.std.proofs.lemmas.Option.{same_Some}
use Rattle.std.specs.List.{slice_get, filter}
use Rattle.block_record.specs.declared.blocks.BlockRef.{BlockRef}
use Rattle.chain_model.specs.declared.places.Step.TheVariants as step
use Rattle.chain_model.specs.Steps.{BlockStep, keep_while, is_after, undone, added, kept, block_step, steps_between}
use Rattle.chain_model.specs.Seen.{seen}
use Rattle.chain_model.specs.Finality.{root_num}
use Rattle.block_record.specs.declared.blocks.Slip.{Slip}
use Rattle.block_record.specs.Ids.{same_id}
use Rattle.chain_model.specs.Ancestry.{ancestry, has_id}

reverse_last : (older rest : List Slip) (s : Slip) → older ≡ rest ++ s ∷ [] → reverse older ≡ s ∷ reverse rest
reverse_last older rest s e = ap reverse e ∙ reverse-append rest (s ∷ [])

-- one block is met, or passed
pub ancestry_met : (s : Slip) (older : List Slip) (id : List ℕ) → same_id s.id id ≡ true → ancestry (s ∷ older) id ≡ s ∷ ancestry older s.parent_id
ancestry_met s older id e = rw e refl

pub ancestry_past : (s : Slip) (older : List Slip) (id : List ℕ) → same_id s.id id ≡ false → ancestry (s ∷ older) id ≡ ancestry older id
ancestry_past s older id e = rw e refl

-- the newest block is the one that is wanted
pub ancestry_push : (items more : List (Bor Slip)) (s : Bor Slip) (older rest all : List Slip) (wanted : List ℕ)
    → more ≡ items ++ s ∷ [] → older ≡ rest ++ s.now ∷ [] → same_id s.now.id wanted ≡ true
    → seen items ++ ancestry (reverse older) wanted ≡ all → seen more ++ ancestry (reverse rest) s.now.parent_id ≡ all
ancestry_push items more s older rest all wanted pushed last same h =
    let next : ancestry (reverse older) wanted ≡ s.now ∷ ancestry (reverse rest) s.now.parent_id =
    ap (λ l. ancestry l wanted) (reverse_last older rest s.now last) ∙ ancestry_met s.now (reverse rest) wanted same in
    rw (pushed, map_push (λ (x : Bor Slip). x.now) items s, append_assoc (seen items) (s.now ∷ []) (ancestry (reverse rest) s.now.parent_id), ← next) h

-- it is another
pub ancestry_skip : (items : List (Bor Slip)) (s : Bor Slip) (older rest all : List Slip) (wanted : List ℕ)
    → older ≡ rest ++ s.now ∷ [] → same_id s.now.id wanted ≡ false
    → seen items ++ ancestry (reverse older) wanted ≡ all → seen items ++ ancestry (reverse rest) wanted ≡ all
ancestry_skip items s older rest all wanted last other h =
    let next : ancestry (reverse older) wanted ≡ ancestry (reverse rest) wanted =
    ap (λ l. ancestry l wanted) (reverse_last older rest s.now last) ∙ ancestry_past s.now (reverse rest) wanted other in
    rw (← next) h

-- none is left
pub ancestry_end : (items : List (Bor Slip)) (older all : List Slip) (wanted : List ℕ) → length older ≡ 0
    → seen items ++ ancestry (reverse older) wanted ≡ all → seen items ≡ all
ancestry_end items older all wanted none h = sym (append-nil (seen items)) ∙ (ap (λ l. seen items ++ ancestry (reverse l) wanted) (sym (nil_from_length older none)) ∙ h)

-- the root stands last
root_num-last : (xs : List Slip) (r : Slip) → root_num (xs ++ r ∷ []) ≡ r.num
root_num-last [] r = refl
root_num-last (a ∷ []) r = refl
root_num-last (a ∷ b ∷ xs) r = root_num-last (b ∷ xs) r

pub root_num-reverse : (xs : List Slip) (r : Slip) → slice_get xs 0 ≡ Some r → root_num (reverse xs) ≡ r.num
root_num-reverse [] r e = absurd (grind arith)
root_num-reverse (x ∷ xs) r e = ap root_num (reverse-append (x ∷ []) xs) ∙ root_num-last (reverse xs) x ∙ ap (λ s. s.num) (same_Some x r e)

-- one more block from the front is the newest so far
pub reverse_more : (xs : List Slip) (i : ℕ) (x : Slip) → i < length xs → x ≡ get_or xs i x → reverse (take (i + 1) xs) ≡ x ∷ reverse (take i xs)
reverse_more xs i x lt read = ap reverse (take_more xs i x lt) ∙ reverse-append (take i xs) (get_or xs i x ∷ []) ∙ ap (λ s. s ∷ reverse (take i xs)) (sym read)

-- with no block to stop at, all are kept
pub keep_while-all : (xs : List Slip) → keep_while (λ s. true) xs ≡ xs
keep_while-all [] = refl
keep_while-all (x ∷ xs) = ap (λ l. x ∷ l) (keep_while-all xs)

-- the last of a path comes first
pub reverse_filter_last : (p : Slip → Bool) (xs : List Slip) (s : Slip) → reverse (filter p (xs ++ s ∷ [])) ≡ filter p (s ∷ []) ++ reverse (filter p xs)
reverse_filter_last p xs s =
    let P : Bool → Type 0 = λ t. reverse (filter p xs ++ cond t (s ∷ []) []) ≡ cond t (s ∷ []) [] ++ reverse (filter p xs) in
    rw (filter-append p xs (s ∷ [])) (elim (p s) as P [ true ↦ reverse-append (filter p xs) (s ∷ []) | false ↦ ap reverse (append-nil (filter p xs)) ])

pub push_last : {Y : Type 0} (g : Slip → Y) (p : Slip → Bool) (old new all : List Y) (path : List (Bor Slip)) (i j k : ℕ) (s : Bor Slip)
    → j ≡ i → k ≡ i + 1 → i < length path → s ≡ get_or path i s → new ≡ old ++ map g (filter p (s.now ∷ []))
    → old ++ map g (reverse (filter p (seen (take k path)))) ≡ all → new ++ map g (reverse (filter p (seen (take j path)))) ≡ all
push_last g p old new all path i j k s same one lt read pushed h =
    let more : seen (take (i + 1) path) ≡ seen (take i path) ++ s.now ∷ [] =
    ap seen (take_more path i s lt) ∙ map_push (λ (x : Bor Slip). x.now) (take i path) (get_or path i s) ∙ ap (λ (x : Bor Slip). seen (take i path) ++ x.now ∷ []) (sym read) in
    let turned : map g (reverse (filter p (seen (take k path)))) ≡ map g (filter p (s.now ∷ [])) ++ map g (reverse (filter p (seen (take i path)))) =
    ap (λ n. map g (reverse (filter p (seen (take n path))))) one ∙ ap (λ l. map g (reverse (filter p l))) more ∙ ap (map g) (reverse_filter_last p (seen (take i path)) s.now) ∙ map-append g (filter p (s.now ∷ [])) (reverse (filter p (seen (take i path)))) in
    rw (pushed, same, append_assoc old (map g (filter p (s.now ∷ []))) (map g (reverse (filter p (seen (take i path))))), ← turned) h

-- the four runs of steps
pub all_steps : (F H W U A K : List Slip) (lib : Option BlockRef) (o0 o1 o2 o3 o4 : List BlockStep)
    → U ≡ undone H W → A ≡ added H W → K ≡ keep_while (is_after lib) (kept H W)
    → o0 ≡ [] → o1 ≡ o0 ++ map (block_step step.Undo) U → o2 ≡ o1 ++ map (block_step step.Final) (reverse (filter (λ s. has_id F s.id) K))
    → o3 ≡ o2 ++ map (block_step step.NewFinal) (reverse (filter (λ s. has_id F s.id) A)) → o4 ≡ o3 ++ map (block_step step.New) (reverse (filter (λ s. not (has_id F s.id)) A))
    → o4 ≡ steps_between F H lib W
all_steps F H W U A K lib o0 o1 o2 o3 o4 u a k e0 e1 e2 e3 e4 =
    let whole : o4 ≡ map (block_step step.Undo) U ++ map (block_step step.Final) (reverse (filter (λ s. has_id F s.id) K)) ++ map (block_step step.NewFinal) (reverse (filter (λ s. has_id F s.id) A)) ++ map (block_step step.New) (reverse (filter (λ s. not (has_id F s.id)) A)) =
    rw (e4, e3, e2, e1, e0) refl in
    whole ∙ rw (u, a, k) refl
