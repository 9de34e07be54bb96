-- Which blocks are on a path.
use Rattle.std.proofs.Common.{arith, ◌++◌, get_or, ◌≤◌, reverse, map, find, nat_eq, ◌≡◌, ◌<◌, ◌+◌, ◌-◌, ◌==◌, ℕ, Bool, true, false, cond, ◌||◌, suc, zero, List, [], ◌∷◌, length, Option, Some, None, refl, sym, ◌∙◌, ap, subst, eq-eqb}
use Rattle.std.proofs.lemmas.List.{length-reverse, length-map, get_or-reverse}
use Rattle.std.specs.Option.{option_map}
use Rattle.std.proofs.lemmas.Option.{same_Some, slice_get_within, slice_get-get_or, slice_get-map, slice_get_past, get_or_from_slice_get}
use Rattle.std.specs.List.{slice_get, list_any}
use Rattle.link_rows.specs.Tree.{meeting as tree_meeting}
use Rattle.link_rows.proofs.public.ListFacts.{any_at}
use Rattle.block_tree.proofs.public.PlaceFacts.{bridge}
use Rattle.block_record.proofs.public.ListFacts.{map_reverse}
use Rattle.block_record.specs.Ids.{same_id, same_id_refl, same_id-true}
use Rattle.block_record.specs.declared.blocks.Slip.{Slip}
use Rattle.chain_model.specs.Ancestry.{has_id, ancestry, IsHistory}
use Rattle.chain_model.specs.Finality.{on_path}
use Rattle.chain_laws.proofs.public.Lines.{IsHistory-rest, other_id, has_id-find_id}
use Rattle.link_rows.specs.Tree.{ancestors, path}
use Rattle.link_rows.proofs.public.TreeFacts.{ancestors_within}
use Rattle.link_rows.proofs.public.Walks.{length_above}
use Rattle.block_tree.specs.Places.{place_of, slip_at, parent_places, meeting}
use Rattle.block_tree.proofs.public.PlaceFacts.{length_places}
use Rattle.block_tree.proofs.public.WalkFacts.{one_some, line_some, slip_there, line_none}
use Rattle.block_tree.proofs.public.ParentFacts.{found_at}

pub has_id_at : (line : List Slip) (j : ℕ) (x : Slip) → slice_get line j ≡ Some x → has_id line x.id ≡ true
has_id_at [] j x e = absurd (grind arith)
has_id_at (s ∷ line) zero x e = let same : s ≡ x = same_Some s x e in rw (same, same_id_refl x.id) refl
has_id_at (s ∷ line) (suc j) x e = grind (arith, has_id_at line j x)

pub has_id_index : (line : List Slip) (id : List ℕ) → has_id line id ≡ true → (j : ℕ) × (z : Slip) × (slice_get line j ≡ Some z) × (z.id ≡ id)
has_id_index [] id e = absurd (grind arith)
has_id_index (s ∷ line) id e =
    let P : Bool → Type 0 = λ b. same_id s.id id ≡ b → (b || has_id line id) ≡ true → (j : ℕ) × (z : Slip) × (slice_get (s ∷ line) j ≡ Some z) × (z.id ≡ id) in
    (elim (same_id s.id id) as P [
      | true ↦ λ t f. (0, s, refl, same_id-true s.id id t)
      | false ↦ λ t f. let r = has_id_index line id f in (suc r.0, r.1, r.2, r.3)
    ]) refl e

-- a block stands at one place
pub place_at : (newest : List Slip) (at : ℕ) (s : Slip) → IsHistory newest → slip_at newest at ≡ Some s → place_of newest s.id ≡ Some at
place_at [] at s h e = absurd (grind arith)
place_at (t ∷ older) at s h e =
    let P : Bool → Type 0 = λ b. (at == length older) ≡ b → cond b (Some t) (slip_at older at) ≡ Some s → place_of (t ∷ older) s.id ≡ Some at in
    (elim (at == length older) as P [
      | true ↦ λ same f.
          let ts : t ≡ s = same_Some t s f in
          let top : length older ≡ at = grind arith in
          rw (← ts, same_id_refl t.id, top) refl
      | false ↦ λ _ f.
          let rest = IsHistory-rest t older h in
          rw (other_id t older h s.id (has_id-find_id older s.id s (found_at older at s rest f))) (place_at older at s rest f)
    ]) refl e

none_some : (o : Option Slip) (z : Slip) → o ≡ None → o ≡ Some z → ⊥
none_some o z e f = grind arith

place_there : (xs : List ℕ) (j : ℕ) → (slice_get xs j ≡ None → ⊥) → (c : ℕ) × (slice_get xs j ≡ Some c)
place_there xs j h =
    let P : Option ℕ → Type 0 = λ o. (o ≡ None → ⊥) → (c : ℕ) × (o ≡ Some c) in
    (elim (slice_get xs j) as P [ None ↦ λ g. absurd (g refl) | Some c ↦ λ g. (c, refl) ]) h

off_of : (b : Bool) → (b ≡ true → ⊥) → b ≡ false
off_of true h = absurd (h refl)
off_of false h = refl

both_ways_of : (a b : Bool) → (a ≡ true → b ≡ true) → (b ≡ true → a ≡ true) → a ≡ b
both_ways_of true b f g = sym (f refl)
both_ways_of false true f g = g refl
both_ways_of false false f g = refl

eqb_same : (r a : ℕ) → (r == a) ≡ true → r ≡ a
eqb_same r a e = grind arith

too_deep : (da db n m j : ℕ) → da + 1 ≡ n → db + 1 ≡ m → db < da → n ≡ m - j → ⊥
too_deep da db n m j la lb lt e = omega arith

index_of : (da n m j : ℕ) → da + 1 ≡ n → n ≡ m - j → j < m → j ≡ m - 1 - da
index_of da n m j e len lt = omega arith

-- a block that is on a path is at a place of it
pub on_line : (newest : List Slip) (a b : ℕ) (x y : Slip) → IsHistory newest → slip_at newest a ≡ Some x → slip_at newest b ≡ Some y → on_path newest x y ≡ true
    → (j : ℕ) × (slice_get (ancestors (parent_places newest) b) j ≡ Some a)
on_line newest a b x y h ea eb on =
    let r = has_id_index (ancestry newest y.id) x.id on in
    let A = ancestors (parent_places newest) b in
    let c = place_there A r.0 (λ none. absurd (none_some (slice_get (ancestry newest y.id) r.0) r.1 (line_none newest b r.0 y h eb none) r.2)) in
    let z = slip_there newest c.0 (rw (← length_places newest) (ancestors_within (parent_places newest) b r.0 c.0 c.1)) in
    let same : z.0 ≡ r.1 = same_Some z.0 r.1 (sym (line_some newest b r.0 c.0 y z.0 h eb c.1 z.1) ∙ r.2) in
    let ids : z.0.id ≡ x.id = ap (λ (s : Slip). s.id) same ∙ r.3 in
    let one : c.0 ≡ a = same_Some c.0 a (sym (place_at newest c.0 z.0 h z.1) ∙ ap (place_of newest) ids ∙ place_at newest a x h ea) in
    (r.0, c.1 ∙ ap Some one)

pub on_path_at : (newest : List Slip) (a b j : ℕ) (x y : Slip) → IsHistory newest → slip_at newest a ≡ Some x → slip_at newest b ≡ Some y
    → slice_get (ancestors (parent_places newest) b) j ≡ Some a → on_path newest x y ≡ true
on_path_at newest a b j x y h ea eb e = has_id_at (ancestry newest y.id) j x (line_some newest b j a y x h eb e ea)

-- the deeper block is on no path of the other
pub deeper_off : (newest : List Slip) (tree : List (Option ℕ)) (a b da db : ℕ) (x y : Slip) → tree ≡ parent_places newest → IsHistory newest → slip_at newest a ≡ Some x → slip_at newest b ≡ Some y
    → da + 1 ≡ length (path tree a) → db + 1 ≡ length (path tree b) → db < da → false ≡ on_path newest x y
deeper_off newest tree a b da db x y e h ea eb la lb lt =
    let la2 : da + 1 ≡ length (ancestors (parent_places newest) a) = subst (λ t. da + 1 ≡ length (ancestors t a)) e (la ∙ length-reverse (ancestors tree a)) in
    let lb2 : db + 1 ≡ length (ancestors (parent_places newest) b) = subst (λ t. db + 1 ≡ length (ancestors t b)) e (lb ∙ length-reverse (ancestors tree b)) in
    sym (off_of (on_path newest x y) (λ on.
    let r = on_line newest a b x y h ea eb on in
    let len = length_above (parent_places newest) b r.0 a r.1 in
    too_deep da db (length (ancestors (parent_places newest) a)) (length (ancestors (parent_places newest) b)) r.0 la2 lb2 lt len))

-- the block of that depth decides
pub same_off : (newest : List Slip) (tree : List (Option ℕ)) (a b da r : ℕ) (x y : Slip) → tree ≡ parent_places newest → IsHistory newest → slip_at newest a ≡ Some x → slip_at newest b ≡ Some y
    → da + 1 ≡ length (path tree a) → slice_get (ancestors tree b) (length (path tree b) - 1 - da) ≡ Some r → (r == a) ≡ on_path newest x y
same_off newest tree a b da r x y e h ea eb la up =
    let la2 : da + 1 ≡ length (ancestors (parent_places newest) a) = subst (λ t. da + 1 ≡ length (ancestors t a)) e (la ∙ length-reverse (ancestors tree a)) in
    let B = ancestors (parent_places newest) b in
    let up2 : slice_get B (length B - 1 - da) ≡ Some r = subst (λ t. slice_get (ancestors t b) (length (ancestors t b) - 1 - da) ≡ Some r) e (ap (λ n. slice_get (ancestors tree b) (n - 1 - da)) (sym (length-reverse (ancestors tree b))) ∙ up) in
    both_ways_of (r == a) (on_path newest x y)
    (λ same. on_path_at newest a b (length B - 1 - da) x y h ea eb (up2 ∙ ap Some (eqb_same r a same)))
    (λ on.
    let q = on_line newest a b x y h ea eb on in
    let len = length_above (parent_places newest) b q.0 a q.1 in
    let index : q.0 ≡ length B - 1 - da = index_of da (length (ancestors (parent_places newest) a)) (length B) q.0 la2 len (slice_get_within B q.0 a q.1) in
    eq-eqb r a (same_Some r a (sym up2 ∙ ap (slice_get B) (sym index) ∙ q.1)))

heads : (a b : Option Slip) (as_ bs : List (Option Slip)) → a ∷ as_ ≡ b ∷ bs → a ≡ b
heads a b as_ bs e = grind arith

tails : (a b : Option Slip) (as_ bs : List (Option Slip)) → a ∷ as_ ≡ b ∷ bs → as_ ≡ bs
tails a b as_ bs e = grind arith

any_index : (xs : List ℕ) (p : ℕ) → list_any (nat_eq p) xs ≡ true → (j : ℕ) × (slice_get xs j ≡ Some p)
any_index [] p e = absurd (grind arith)
any_index (x ∷ xs) p e =
    let P : Bool → Type 0 = λ b. nat_eq p x ≡ b → (b || list_any (nat_eq p) xs) ≡ true → (j : ℕ) × (slice_get (x ∷ xs) j ≡ Some p) in
    (elim (nat_eq p x) as P [
      | true ↦ λ t _. (0, ap Some (sym (eqb_same p x t)))
      | false ↦ λ _ f. let r = any_index xs p f in (suc r.0, r.1)
    ]) refl e

-- where two lists answer alike, block by block and place by place, they find alike
alike : (newest : List Slip) (line : List Slip) (places : List ℕ) (p : Slip → Bool) (q : ℕ → Bool) (r : ℕ) → map Some line ≡ map (slip_at newest) places
    → ((j x : ℕ) (z : Slip) → slice_get places j ≡ Some x → slip_at newest x ≡ Some z → p z ≡ q x) → find q places ≡ Some r → slip_at newest r ≡ find p line
alike newest [] [] p q r e same f = absurd (grind arith)
alike newest (s ∷ line) [] p q r e same f = absurd (grind arith)
alike newest [] (x ∷ places) p q r e same f = absurd (grind arith)
alike newest (s ∷ line) (x ∷ places) p q r e same f =
    let first : slip_at newest x ≡ Some s = sym (heads (Some s) (slip_at newest x) (map Some line) (map (slip_at newest) places) e) in
    let rest : map Some line ≡ map (slip_at newest) places = tails (Some s) (slip_at newest x) (map Some line) (map (slip_at newest) places) e in
    let test : p s ≡ q x = same 0 x s refl first in
    let P : Bool → Type 0 = λ b. cond b (Some x) (find q places) ≡ Some r → slip_at newest r ≡ cond b (Some s) (find p line) in
    rw test ((elim (q x) as P [
      | true ↦ λ g. ap (slip_at newest) (sym (same_Some x r g)) ∙ first
      | false ↦ λ g. alike newest line places p q r rest (λ j y z ep ez. same (suc j) y z ep ez) g
    ]) f)

pub meeting_slip : (newest : List Slip) (tree : List (Option ℕ)) (a b r : ℕ) (x y : Slip) → tree ≡ parent_places newest → IsHistory newest → slip_at newest a ≡ Some x → slip_at newest b ≡ Some y
    → tree_meeting tree a b ≡ Some r → slip_at newest r ≡ meeting (ancestry newest x.id) (ancestry newest y.id)
meeting_slip newest tree a b r x y e h ea eb f =
    alike newest (ancestry newest x.id) (ancestors (parent_places newest) a) (λ s. has_id (ancestry newest y.id) s.id) (λ p. list_any (nat_eq p) (ancestors (parent_places newest) b)) r
    (bridge newest a x h ea)
    (λ j p z ep ez. both_ways_of (has_id (ancestry newest y.id) z.id) (list_any (nat_eq p) (ancestors (parent_places newest) b))
    (λ on. let q = on_line newest p b z y h ez eb on in any_at (ancestors (parent_places newest) b) q.0 p q.1)
    (λ any. let q = any_index (ancestors (parent_places newest) b) p any in on_path_at newest p b q.0 z y h ez eb q.1))
    (subst (λ t. tree_meeting t a b ≡ Some r) e f)

short_of : (a b c n depth : ℕ) → a ≡ b → b ≡ c → n + 1 ≡ c → n < depth → a ≤ depth
short_of a b c n depth e f g lt = omega arith

in_path : (tree : List (Option ℕ)) (at depth r : ℕ) → slice_get (reverse (ancestors tree at)) depth ≡ Some r → r < length tree
in_path tree at depth r e =
    let A = ancestors tree at in
    let lt : depth < length A = rw (← length-reverse A) (slice_get_within (reverse A) depth r e) in
    let value : get_or (reverse A) depth 0 ≡ r = get_or_from_slice_get (reverse A) depth r 0 e in
    let turned : get_or A (length A - 1 - depth) 0 ≡ r = sym (get_or-reverse A depth 0 lt) ∙ value in
    ancestors_within tree at (length A - 1 - depth) r (slice_get-get_or A (length A - 1 - depth) 0 (omega arith) ∙ ap Some turned)

path_reverse : (newest : List Slip) (line : List Slip) (places : List ℕ) → map Some line ≡ map (slip_at newest) places → map Some (reverse line) ≡ map (slip_at newest) (reverse places)
path_reverse newest line places e = map_reverse Some line ∙ ap reverse e ∙ sym (map_reverse (slip_at newest) places)

-- the block at an index of a path
pub path_slip : (newest : List Slip) (tree : List (Option ℕ)) (at depth r : ℕ) (y : Slip) → tree ≡ parent_places newest → IsHistory newest → slip_at newest at ≡ Some y
    → slice_get (path tree at) depth ≡ Some r → slip_at newest r ≡ slice_get (reverse (ancestry newest y.id)) depth
path_slip newest tree at depth r y e h ey f =
    let L = reverse (ancestry newest y.id) in
    let f2 : slice_get (reverse (ancestors (parent_places newest) at)) depth ≡ Some r = subst (λ t. slice_get (path t at) depth ≡ Some r) e f in
    let z = slip_there newest r (rw (← length_places newest) (in_path (parent_places newest) at depth r f2)) in
    let both : option_map Some (slice_get L depth) ≡ option_map (slip_at newest) (slice_get (reverse (ancestors (parent_places newest) at)) depth) =
    sym (slice_get-map Some L depth) ∙ ap (λ l. slice_get l depth) (path_reverse newest (ancestry newest y.id) (ancestors (parent_places newest) at) (bridge newest at y h ey)) ∙ slice_get-map (slip_at newest) (reverse (ancestors (parent_places newest) at)) depth in
    z.1 ∙ sym (one_some (slice_get L depth) z.0 (both ∙ ap (option_map (slip_at newest)) f2 ∙ ap Some z.1))

pub path_none : (newest : List Slip) (tree : List (Option ℕ)) (at depth n : ℕ) (y : Slip) → tree ≡ parent_places newest → IsHistory newest → slip_at newest at ≡ Some y
    → n + 1 ≡ length (path tree at) → n < depth → None ≡ slice_get (reverse (ancestry newest y.id)) depth
path_none newest tree at depth n y e h ey len lt =
    let same : length (ancestry newest y.id) ≡ length (ancestors (parent_places newest) at) =
    sym (length-map (ancestry newest y.id) Some) ∙ ap length (bridge newest at y h ey) ∙ length-map (ancestors (parent_places newest) at) (slip_at newest) in
    let len2 : n + 1 ≡ length (ancestors (parent_places newest) at) = subst (λ t. n + 1 ≡ length (ancestors t at)) e (len ∙ length-reverse (ancestors tree at)) in
    sym (slice_get_past (reverse (ancestry newest y.id)) depth (short_of (length (reverse (ancestry newest y.id))) (length (ancestry newest y.id)) (length (ancestors (parent_places newest) at)) n depth (length-reverse (ancestry newest y.id)) same len2 lt))

pub path_range : (newest : List Slip) (tree : List (Option ℕ)) (at depth r : ℕ) → tree ≡ parent_places newest → slice_get (path tree at) depth ≡ Some r → r < length newest
path_range newest tree at depth r e f = rw (← length_places newest, ← e) (in_path tree at depth r f)

pub meeting_range : (newest : List Slip) (tree : List (Option ℕ)) (a b r : ℕ) → tree ≡ parent_places newest → tree_meeting tree a b ≡ Some r → r < length newest
meeting_range newest tree a b r e f =
    let i = find_index (λ x. list_any (nat_eq x) (ancestors tree b)) (ancestors tree a) r f in
    rw (← length_places newest, ← e) (ancestors_within tree a i.0 r i.1)
  where
    find_index : (p : ℕ → Bool) (xs : List ℕ) (r : ℕ) → find p xs ≡ Some r → (j : ℕ) × (slice_get xs j ≡ Some r)
    find_index p [] r e = absurd (grind arith)
    find_index p (x ∷ xs) r e =
        let P : Bool → Type 0 = λ b. cond b (Some x) (find p xs) ≡ Some r → (j : ℕ) × (slice_get (x ∷ xs) j ≡ Some r) in
        (elim (p x) as P [ true ↦ λ f. (0, f) | false ↦ λ f. let i = find_index p xs r f in (suc i.0, i.1) ]) e
