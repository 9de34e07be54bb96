-- The last block up to a number.
use Rattle.std.proofs.Common.{arith, ◌⊎◌, ◌≡◌, ◌<◌, ◌≤◌, ◌+◌, ◌-◌, ◌*◌, ◌^◌, ◌==◌, inl, inr, ℕ, Bool, true, false, cond, suc, zero, List, [], ◌∷◌, length, Option, Some, None, refl, sym, ◌∙◌, ap, subst, nat_le, find, IfSome, get_or}
use Rattle.std.proofs.lemmas.Option.{same_Some, slice_get_within, slice_get-map, slice_get_past, slice_get-get_or}
use Rattle.std.proofs.lemmas.Grind.{pow_more}
use Rattle.std.specs.List.{slice_get}
use Rattle.std.specs.Option.{option_map}
use Rattle.block_record.specs.Ids.{same_id}
use Rattle.block_record.specs.declared.blocks.Slip.{Slip}
use Rattle.chain_model.specs.Ancestry.{find_id, ancestry, IsHistory}
use Rattle.chain_laws.proofs.public.Lines.{IsHistory-rest, some_and}
use Rattle.std.proofs.lemmas.List.{length-reverse, length-map}
use Rattle.link_rows.specs.Tree.{ancestors, path}
use Rattle.link_rows.proofs.public.TreeFacts.{ancestors_within, ancestors_first, ancestors_length}
use Rattle.link_rows.proofs.public.Walks.{above}
use Rattle.block_tree.specs.Places.{slip_at, slip_of, parent_places, IsSkip}
use Rattle.block_tree.proofs.public.PlaceFacts.{bridge, length_places, slip_at_within}

-- an ancestry begins with its block
first_found : (newest : List Slip) (id : List ℕ) → slice_get (ancestry newest id) 0 ≡ find_id newest id
first_found [] id = refl
first_found (s ∷ older) id =
    let P : Bool → Type 0 = λ b. slice_get (cond b (s ∷ ancestry older s.parent_id) (ancestry older id)) 0 ≡ cond b (Some s) (find_id older id) in
    elim (same_id s.id id) as P [ true ↦ refl | false ↦ first_found older id ]

lower : (m : ℕ) (p y : Slip) (a b : ℕ) → a < b → p.num ≡ a → (m ≡ 0 → p ≡ y) → (0 < m → y.num < p.num) → y.num < b
lower zero p y a b lt e same less = let f : p.num ≡ y.num = ap (λ (x : Slip). x.num) (same refl) in omega arith
lower (suc m) p y a b lt e same less = let f : y.num < p.num = less (omega arith) in omega arith

top_falls : (s : Slip) (older : List Slip) (j m : ℕ) (x y : Slip) → IsHistory (s ∷ older) → j < m
    → slice_get (s ∷ ancestry older s.parent_id) j ≡ Some x → slice_get (s ∷ ancestry older s.parent_id) m ≡ Some y
    → ((i k : ℕ) (u v : Slip) → i < k → slice_get (ancestry older s.parent_id) i ≡ Some u → slice_get (ancestry older s.parent_id) k ≡ Some v → v.num < u.num) → y.num < x.num
top_falls s older j zero x y h lt ej em rest = absurd (let f : ⊥ = omega arith in f)
top_falls s older (suc j) (suc m) x y h lt ej em rest = rest j m x y (omega arith) ej em
top_falls s [] zero (suc m) x y h lt ej em rest = absurd (grind arith)
top_falls s (t ∷ older) zero (suc m) x y h lt ej em rest =
    let parent = some_and (find_id (t ∷ older) s.parent_id) (λ q. q.num ≡ s.parent_num) h.0.parent in
    let first : slice_get (ancestry (t ∷ older) s.parent_id) 0 ≡ Some parent.0 = first_found (t ∷ older) s.parent_id ∙ parent.1 in
    let same : s ≡ x = same_Some s x ej in
    let up : s.parent_num < s.num = h.0.above in
    let is : parent.0.num ≡ s.parent_num = parent.2 in
    subst (λ (z : Slip). y.num < z.num) same (lower m parent.0 y s.parent_num s.num up is (λ z. same_Some parent.0 y (sym first ∙ ap (slice_get (ancestry (t ∷ older) s.parent_id)) (sym z) ∙ em)) (λ pos. rest 0 m parent.0 y pos first em))

-- numbers fall along an ancestry
pub nums_fall : (newest : List Slip) (id : List ℕ) (j m : ℕ) (x y : Slip) → IsHistory newest → j < m
    → slice_get (ancestry newest id) j ≡ Some x → slice_get (ancestry newest id) m ≡ Some y → y.num < x.num
nums_fall [] id j m x y h lt ej em = absurd (grind arith)
nums_fall (s ∷ older) id j m x y h lt ej em =
    let P : Bool → Type 0 = λ b. slice_get (cond b (s ∷ ancestry older s.parent_id) (ancestry older id)) j ≡ Some x → slice_get (cond b (s ∷ ancestry older s.parent_id) (ancestry older id)) m ≡ Some y → y.num < x.num in
    (elim (same_id s.id id) as P [
      | true ↦ λ fj fm. top_falls s older j m x y h lt fj fm (λ i k u v l fu fv. nums_fall older s.parent_id i k u v (IsHistory-rest s older h) l fu fv)
      | false ↦ λ fj fm. nums_fall older id j m x y (IsHistory-rest s older h) lt fj fm
    ]) ej em

pub one_some : (o : Option Slip) (y : Slip) → option_map Some o ≡ Some (Some y) → o ≡ Some y
one_some None y e = absurd (grind arith)
one_some (Some x) y e = same_Some (Some x) (Some y) e

one_none : (o : Option Slip) → option_map Some o ≡ None → o ≡ None
one_none None e = refl
one_none (Some x) e = absurd (grind arith)

below_top : (xs : List Slip) (x : Slip) (a : ℕ) → a < length (x ∷ xs) → (a == length xs) ≡ false → a < length xs
below_top xs x a lt ne = grind arith

past_end : (xs : List ℕ) (n m p : ℕ) → n + 1 ≡ length xs → n < m → slice_get xs (0 + m) ≡ Some p → ⊥
past_end xs n m p len lt e = let f : 0 + m < length xs = slice_get_within xs (0 + m) p e in omega arith

double_of : (i p p2 : ℕ) → p2 ≡ p * 2 → i + p2 ≡ (i + p) + p
double_of i p p2 e = omega arith

passes : (x : Slip) (limit : ℕ) → x.num ≤ limit → nat_le x.num limit ≡ true
passes x limit le = grind arith

fails_num : (j m x y limit : ℕ) → limit < y → j ≤ m → (j ≡ m → y ≡ x) → (j < m → y < x) → nat_le x limit ≡ false
fails_num j m x y limit more le same less = grind arith

fails_of : (j m : ℕ) (x y : Slip) (limit : ℕ) → limit < y.num → j ≤ m → (j ≡ m → y ≡ x) → (j < m → y.num < x.num) → nat_le x.num limit ≡ false
fails_of j m x y limit more le same less =
    let same_num : j ≡ m → y.num ≡ x.num = λ e. ap (λ (z : Slip). z.num) (same e) in
    fails_num j m x.num y.num limit more le same_num less

-- what the first that passes is
abbrev pub Passes : (Slip → Bool) → Option Slip → Type 0
Passes p None = Unit {0}
Passes p (Some x) = p x ≡ true

find_head : (p : Slip → Bool) (xs : List Slip) (o : Option Slip) → slice_get xs 0 ≡ o → Passes p o → find p xs ≡ o
find_head p [] o e pass = e
find_head p (x ∷ xs) o e pass = let hit : p x ≡ true = subst (Passes p) (sym e) pass in rw hit e

pub find_after : (p : Slip → Bool) (xs : List Slip) (m : ℕ) (o : Option Slip) → ((j : ℕ) (x : Slip) → j ≤ m → slice_get xs j ≡ Some x → p x ≡ false)
    → slice_get xs (m + 1) ≡ o → Passes p o → find p xs ≡ o
find_after p [] m o fails e pass = sym (slice_get_past [] (m + 1) (omega arith)) ∙ e
find_after p (x ∷ xs) zero o fails e pass =
    let miss : p x ≡ false = fails 0 x (omega arith) refl in
    rw miss (find_head p xs o e pass)
find_after p (x ∷ xs) (suc m) o fails e pass =
    let miss : p x ≡ false = fails 0 x (omega arith) refl in
    rw miss (find_after p xs m o (λ j y le f. fails (suc j) y (omega arith) f) (subst (λ n. slice_get (x ∷ xs) n ≡ o) (let f : suc m + 1 ≡ suc (m + 1) = omega arith in f) e) pass)

-- and by one at least with each block
pub nums_gap : (newest : List Slip) (id : List ℕ) (m : ℕ) (x y : Slip) → IsHistory newest → slice_get (ancestry newest id) 0 ≡ Some x → slice_get (ancestry newest id) m ≡ Some y → y.num + m ≤ x.num
nums_gap newest id zero x y h e f = let same : x.num ≡ y.num = ap (λ (s : Slip). s.num) (same_Some x y (sym e ∙ f)) in omega arith
nums_gap newest id (suc m) x y h e f =
    let lt : suc m < length (ancestry newest id) = slice_get_within (ancestry newest id) (suc m) y f in
    let u = get_or (ancestry newest id) m x in
    let here : slice_get (ancestry newest id) m ≡ Some u = slice_get-get_or (ancestry newest id) m x (omega arith) in
    let up : u.num + m ≤ x.num = nums_gap newest id m x u h e here in
    let down : y.num < u.num = nums_fall newest id m (suc m) u y h (omega arith) here f in
    omega arith

-- blocks and places of a path
pub line_some : (newest : List Slip) (at j p : ℕ) (s y : Slip) → IsHistory newest → slip_at newest at ≡ Some s → slice_get (ancestors (parent_places newest) at) j ≡ Some p
    → slip_at newest p ≡ Some y → slice_get (ancestry newest s.id) j ≡ Some y
line_some newest at j p s y h e ep ey =
    let both : option_map Some (slice_get (ancestry newest s.id) j) ≡ option_map (slip_at newest) (slice_get (ancestors (parent_places newest) at) j) =
    sym (slice_get-map Some (ancestry newest s.id) j) ∙ ap (λ l. slice_get l j) (bridge newest at s h e) ∙ slice_get-map (slip_at newest) (ancestors (parent_places newest) at) j in
    one_some (slice_get (ancestry newest s.id) j) y (both ∙ ap (option_map (slip_at newest)) ep ∙ ap Some ey)

pub line_none : (newest : List Slip) (at j : ℕ) (s : Slip) → IsHistory newest → slip_at newest at ≡ Some s → slice_get (ancestors (parent_places newest) at) j ≡ None
    → slice_get (ancestry newest s.id) j ≡ None
line_none newest at j s h e ep =
    let both : option_map Some (slice_get (ancestry newest s.id) j) ≡ option_map (slip_at newest) (slice_get (ancestors (parent_places newest) at) j) =
    sym (slice_get-map Some (ancestry newest s.id) j) ∙ ap (λ l. slice_get l j) (bridge newest at s h e) ∙ slice_get-map (slip_at newest) (ancestors (parent_places newest) at) j in
    one_none (slice_get (ancestry newest s.id) j) (both ∙ ap (option_map (slip_at newest)) ep)

-- each place of the tree holds a block
pub slip_there : (newest : List Slip) (at : ℕ) → at < length newest → (s : Slip) × (slip_at newest at ≡ Some s)
slip_there [] at lt = absurd (let f : ⊥ = omega arith in f)
slip_there (s ∷ older) at lt =
    let P : Bool → Type 0 = λ b. (at == length older) ≡ b → (t : Slip) × (cond b (Some s) (slip_at older at) ≡ Some t) in
    (elim (at == length older) as P [
      | true ↦ λ _. (s, refl)
      | false ↦ λ ne. slip_there older at (below_top older s at lt ne)
    ]) refl

-- the walk stands at a block with a number above the limit, and none that is 2^j further or more is above it
pub record IsCut (newest : List Slip) (line : List ℕ) (limit j from : ℕ) : Type 0 where
  pub index : ℕ
  pub place : slice_get line index ≡ Some from
  pub over : (y : Slip) → slip_at newest from ≡ Some y → limit < y.num
  pub under : (p : ℕ) (y : Slip) → slice_get line (index + 2 ^ j) ≡ Some p → slip_at newest p ≡ Some y → y.num ≤ limit

pub cut_start : (newest : List Slip) (at limit j n : ℕ) (s : Slip) → at < length newest → slip_at newest at ≡ Some s → limit < s.num
    → n + 1 ≡ length (ancestors (parent_places newest) at) → n < 2 ^ j → IsCut newest (ancestors (parent_places newest) at) limit j at
cut_start newest at limit j n s lt e more len small = record {
  index = 0;
  place = ancestors_first (parent_places newest) at (rw (length_places newest) lt);
  over = λ y f. subst (λ (x : Slip). limit < x.num) (same_Some s y (sym e ∙ f)) more;
  under = λ p y f _. absurd (past_end (ancestors (parent_places newest) at) n (2 ^ j) p len small f);
}

pub cut_step : (newest : List Slip) (at limit j k k2 from to : ℕ) → IsCut newest (ancestors (parent_places newest) at) limit j from → j ≡ k + 1 → k2 ≡ k
    → IsSkip newest (ancestors (parent_places newest) from) (2 ^ k2) limit from to → IsCut newest (ancestors (parent_places newest) at) limit k to
cut_step newest at limit j k k2 from to h e e2 (inl s) =
    let A = ancestors (parent_places newest) at in
    let d : h.index + 2 ^ j ≡ (h.index + 2 ^ k2) + 2 ^ k = ap (λ n. h.index + 2 ^ n) e ∙ double_of h.index (2 ^ k) (2 ^ (k + 1)) (pow_more 2 k) ∙ ap (λ n. (h.index + 2 ^ n) + 2 ^ k) (sym e2) in
    record {
      index = h.index + 2 ^ k2;
      place = sym (above (parent_places newest) at h.index from (2 ^ k2) h.place) ∙ s.0;
      over = s.1;
      under = λ p y f g. h.under p y (ap (slice_get A) d ∙ f) g;
    }
cut_step newest at limit j k k2 from to h e e2 (inr s) =
    let A = ancestors (parent_places newest) at in
    record {
      index = h.index;
      place = h.place ∙ ap Some (sym s.0);
      over = λ y f. h.over y (ap (slip_at newest) (sym s.0) ∙ f);
      under = λ p y f g. s.1 p y (above (parent_places newest) at h.index from (2 ^ k2) h.place ∙ ap (λ n. slice_get A (h.index + 2 ^ n)) e2 ∙ f) g;
    }

-- the walk ends before the block that is looked for
pub cut_end : (newest : List Slip) (at limit from : ℕ) (r : Option ℕ) (s : Slip) → IsHistory newest → slip_at newest at ≡ Some s
    → IsCut newest (ancestors (parent_places newest) at) limit 0 from → r ≡ slice_get (ancestors (parent_places newest) from) (2 ^ 0)
    → slip_of newest r ≡ find (λ x. nat_le x.num limit) (ancestry newest s.id)
cut_end newest at limit from r s h e cut er =
    let tree = parent_places newest in
    let L = ancestry newest s.id in
    let here = slip_there newest from (rw (← length_places newest) (ancestors_within tree at cut.index from cut.place)) in
    let at_m : slice_get L cut.index ≡ Some here.0 = line_some newest at cut.index from s here.0 h e cut.place here.1 in
    let more : limit < here.0.num = cut.over here.0 here.1 in
    let fails : (j : ℕ) (x : Slip) → j ≤ cut.index → slice_get L j ≡ Some x → nat_le x.num limit ≡ false = λ j x le f.
    fails_of j cut.index x here.0 limit more le (λ same. same_Some here.0 x (sym at_m ∙ ap (slice_get L) (sym same) ∙ f)) (λ lt. nums_fall newest s.id j cut.index x here.0 h lt f at_m) in
    let next : r ≡ slice_get (ancestors tree at) (cut.index + 2 ^ 0) = er ∙ above tree at cut.index from (2 ^ 0) cut.place in
    let P : Option ℕ → Type 0 = λ o. r ≡ o → slip_of newest o ≡ find (λ x. nat_le x.num limit) L in
    subst (λ o. slip_of newest o ≡ find (λ x. nat_le x.num limit) L) refl ((elim r as P [
      | None ↦ λ f. sym (find_after (λ (x : Slip). nat_le x.num limit) L cut.index None fails (line_none newest at (cut.index + 1) s h e (sym next ∙ f)) tt)
      | Some p ↦ λ f.
          let there = slip_there newest p (rw (← length_places newest) (ancestors_within tree at (cut.index + 1) p (sym next ∙ f))) in
          there.1 ∙ sym (find_after (λ (x : Slip). nat_le x.num limit) L cut.index (Some there.0) fails (line_some newest at (cut.index + 1) p s there.0 h e (sym next ∙ f) there.1)
          (passes there.0 limit (cut.under p there.0 (sym next ∙ f) there.1)))
    ]) refl)

pub in_tree : (newest : List Slip) (tree : List (Option ℕ)) (x : ℕ) → tree ≡ parent_places newest → x < length newest → x < length tree
in_tree newest tree x e lt = rw (e, length_places newest) lt

pub line_range : (newest : List Slip) (tree : List (Option ℕ)) (a j x : ℕ) → tree ≡ parent_places newest → slice_get (ancestors tree a) j ≡ Some x → x < length newest
line_range newest tree a j x e f = rw (← length_places newest, ← e) (ancestors_within tree a j x f)

-- the block itself is low enough
pub at_once : (newest : List Slip) (at limit : ℕ) (r s : Slip) → IsHistory newest → slip_at newest at ≡ Some r → r.num ≤ limit → slip_at newest at ≡ Some s
    → slip_at newest at ≡ find (λ x. nat_le x.num limit) (ancestry newest s.id)
at_once newest at limit r s h er le es =
    let low : nat_le s.num limit ≡ true = subst (λ (x : Slip). nat_le x.num limit ≡ true) (same_Some r s (sym er ∙ es)) (passes r limit le) in
    es ∙ sym (find_head (λ (x : Slip). nat_le x.num limit) (ancestry newest s.id) (Some s) (line_some newest at 0 at s s h es (ancestors_first (parent_places newest) at (rw (length_places newest) (slip_at_within newest at s es))) es) low)

pub tree_path : (newest : List Slip) (tree : List (Option ℕ)) (at n : ℕ) → tree ≡ parent_places newest → n + 1 ≡ length (path tree at) → n + 1 ≡ length (ancestors (parent_places newest) at)
tree_path newest tree at n e f = subst (λ t. n + 1 ≡ length (ancestors t at)) e (f ∙ length-reverse (ancestors tree at))

pub skip_in : (newest : List Slip) (tree : List (Option ℕ)) (n limit from to : ℕ) → tree ≡ parent_places newest → IsSkip newest (ancestors tree from) n limit from to
    → IsSkip newest (ancestors (parent_places newest) from) n limit from to
skip_in newest tree n limit from to e h = subst (λ t. IsSkip newest (ancestors t from) n limit from to) e h

pub start_at : (n count : ℕ) → n < 2 ^ count → n < 2 ^ (count - 0)
start_at n count lt = subst (λ k. n < 2 ^ k) (let f : count ≡ count - 0 = omega arith in f) lt

pub cut_zero : (newest : List Slip) (line : List ℕ) (limit j from : ℕ) → j ≡ 0 → IsCut newest line limit j from → IsCut newest line limit 0 from
cut_zero newest line limit j from e h = subst (λ n. IsCut newest line limit n from) e h

pub depth_short : (newest : List Slip) (at n : ℕ) → n + 1 ≡ length (ancestors (parent_places newest) at) → n + 1 ≤ length newest
depth_short newest at n e = rw (e, ← length_places newest) (ancestors_length (parent_places newest) at)

pub range_of : (newest : List Slip) (tree : List (Option ℕ)) (a j : ℕ) (r : Option ℕ) → tree ≡ parent_places newest → r ≡ slice_get (ancestors tree a) j → IfSome r (λ p. p < length newest)
range_of newest tree a j None e f = tt
range_of newest tree a j (Some p) e f = line_range newest tree a j p e (sym f)

pub cut_range : (newest : List Slip) (at limit j from : ℕ) → IsCut newest (ancestors (parent_places newest) at) limit j from → from < length newest
cut_range newest at limit j from h = rw (← length_places newest) (ancestors_within (parent_places newest) at h.index from h.place)

pub tree_cost : (newest : List Slip) (tree : List (Option ℕ)) (d : ℕ) → tree ≡ parent_places newest → length newest < 2 ^ d → length tree < 2 ^ d
tree_cost newest tree d e lt = rw (e, length_places newest) lt

near_of : (y m s limit : ℕ) → y + m ≤ s → s - limit < m → y ≤ limit
near_of y m s limit le lt = omega arith

pub cut_near : (newest : List Slip) (at limit j : ℕ) (s : Slip) → IsHistory newest → at < length newest → slip_at newest at ≡ Some s → limit < s.num → s.num - limit < 2 ^ j
    → IsCut newest (ancestors (parent_places newest) at) limit j at
cut_near newest at limit j s h lt e more near =
    let first = ancestors_first (parent_places newest) at (rw (length_places newest) lt) in record {
      index = 0;
      place = first;
      over = λ y f. subst (λ (x : Slip). limit < x.num) (same_Some s y (sym e ∙ f)) more;
      under = λ p y f g.
          near_of y.num (2 ^ j) s.num limit (nums_gap newest s.id (2 ^ j) s y h (line_some newest at 0 at s s h e first e)
          (line_some newest at (2 ^ j) p s y h e (ap (slice_get (ancestors (parent_places newest) at)) (let k : 2 ^ j ≡ 0 + 2 ^ j = omega arith in k) ∙ f) g)) near;
    }

pub cut_rounds : (newest : List Slip) (at limit count n : ℕ) (s : Slip) → IsHistory newest → at < length newest → slip_at newest at ≡ Some s → limit < s.num
    → n + 1 ≡ length (ancestors (parent_places newest) at) → (n < 2 ^ count) ⊎ (s.num - limit < 2 ^ count) → IsCut newest (ancestors (parent_places newest) at) limit (count - 0) at
cut_rounds newest at limit count n s h lt e more len (inl deep) = cut_start newest at limit (count - 0) n s lt e more len (start_at n count deep)
cut_rounds newest at limit count n s h lt e more len (inr near) = cut_near newest at limit (count - 0) s h lt e more (start_at (s.num - limit) count near)

pub depth_is : (newest : List Slip) (tree : List (Option ℕ)) (at n : ℕ) (s : Slip) → tree ≡ parent_places newest → IsHistory newest → slip_at newest at ≡ Some s
    → n + 1 ≡ length (path tree at) → n + 1 ≡ length (ancestry newest s.id)
depth_is newest tree at n s e h es len =
    tree_path newest tree at n e len ∙ sym (sym (length-map (ancestry newest s.id) Some) ∙ ap length (bridge newest at s h es) ∙ length-map (ancestors (parent_places newest) at) (slip_at newest))
