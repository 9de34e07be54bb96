-- Why bundles are due, the front of the final path, and begin those of a longer history.
use Rattle.std.proofs.Common.{arith, ◌≡◌, ◌≤◌, ◌<◌, ◌+◌, ◌-◌, ◌*◌, ◌/◌, ◌%◌, inl, inr, ℕ, zero, suc, true, false, List, [], ◌∷◌, ◌++◌, reverse, refl, sym, ◌∙◌, ap, subst, ltb, leb}
use Rattle.std.specs.List.{AllByRecursion, filter}
use Rattle.std.proofs.lemmas.Bool.{cases_lt, lt-ltb, le-leb, ltb-true, leb-true, and_parts}
use Rattle.std.proofs.lemmas.List.{reverse-append, append-nil}
use Rattle.std.proofs.lemmas.List.Elements.{filter-append}
use Rattle.std.proofs.Common.{append_assoc}
use Rattle.std.proofs.Math.Nat.{suc-mul, div-mul-le_self, le-div_iff_mul-le, mul-mod_left, mod-add-div', div-le_self}
use Rattle.std.proofs.lemmas.Nat.{mod-mul-add}
use mathlib.Core.List.{IsPrefix, IsSuffix}
use Rattle.block_record.specs.declared.blocks.Slip.{Slip}
use Rattle.chain_model.specs.Ancestry.{IsHistory}
use Rattle.chain_model.specs.Finality.{final_ancestry}
use Rattle.chain_laws.proofs.public.Growth.{all_weaker, grows_by_many}
use Rattle.chain_laws.proofs.public.Later.{history_older}
use Rattle.chain_laws.proofs.public.Meeting.{finals_line}
use Rattle.relay_model.specs.Offers.{tip_num}
use Rattle.bundle_model.specs.Members.{Among}
use Rattle.bundle_model.specs.Bundles.{Bundle, base_of, is_within, bundle_with, bundle_at, bundles_below, bundles_of, finals_up, blocks_of, IsDue}
use Rattle.bundle_model.specs.Laws.{BundlesGrow, BundlesGrowOn, BundlesAreFront, BundlesAreDue, FinalsAreBundled, IsInBundle}
use Rattle.bundle_model.proofs.public.MemberFacts.{all_append, all_among, among_all, among_left, among_right, among_filter, filter_among, among_reverse, filter_none}
use Rattle.bundle_model.proofs.public.Climbs.{Falls, Climbs, falls_reverse, line_falls, falls_above, is_below, climb_split, below_prefix, ltb_no, TipLine, tip_line}

-- the blocks of a bundle
blocks_with : (base : ℕ) (l : List Slip) → blocks_of (bundle_with base l) ≡ l
blocks_with base [] = refl
blocks_with base (s ∷ rest) = append-nil (s ∷ rest)

pub blocks_append : (xs ys : List Bundle) → blocks_of (xs ++ ys) ≡ blocks_of xs ++ blocks_of ys
blocks_append [] ys = refl
blocks_append (b ∷ xs) ys = ap (λ l. b.blocks ++ l) (blocks_append xs ys) ∙ sym (append_assoc b.blocks (blocks_of xs) (blocks_of ys))

nothing_below : (path : List Slip) (k : ℕ) → k ≡ 0 → filter (is_below k) path ≡ []
nothing_below path k e = filter_none (is_below k) path (all_among (λ s. ltb s.num k ≡ false) path (λ s h. ltb_no s.num k (omega (arith, e))))

-- the blocks of the first bundles are those below their end
pub below_blocks : (size : ℕ) (path : List Slip) (n : ℕ) → Climbs path → blocks_of (bundles_below size path n) ≡ filter (is_below (n * size)) path
below_blocks size path zero c = sym (nothing_below path (0 * size) (omega arith))
below_blocks size path (suc n) c =
    blocks_append (bundles_below size path n) (bundle_at size path (n * size))
    ∙ ap (λ l. l ++ blocks_of (bundle_at size path (n * size))) (below_blocks size path n c)
    ∙ ap (λ l. filter (is_below (n * size)) path ++ l) (blocks_with (n * size) (filter (is_within size (n * size)) path))
    ∙ climb_split size (n * size) path c
    ∙ ap (λ k. filter (is_below k) path) (sym (suc-mul n size))

pub finals_climb : (newest : List Slip) → IsHistory newest → Climbs (finals_up newest)
finals_climb newest history = falls_reverse (final_ancestry newest) (line_falls newest history (final_ancestry newest) (finals_line newest history))

pub bundles_are_front : BundlesAreFront
bundles_are_front size newest some history =
    let c = finals_climb newest history in
    let k = tip_num newest / size in
    subst (λ (l : List Slip). IsPrefix l (finals_up newest)) (sym (below_blocks size (finals_up newest) k c)) (below_prefix (k * size) (finals_up newest) c)

-- blocks past a bundle's end make no difference
bundle_more : (size : ℕ) (path more : List Slip) (base : ℕ) → AllByRecursion (λ s. base + size ≤ s.num) more → bundle_at size (path ++ more) base ≡ bundle_at size path base
bundle_more size path more base all =
    let none : filter (is_within size base) more ≡ [] =
    filter_none (is_within size base) more (all_weaker (λ s. base + size ≤ s.num) (λ s. is_within size base s ≡ false) (λ s h. past s h) more all) in
    ap (bundle_with base) (filter-append (is_within size base) path more ∙ ap (λ l. filter (is_within size base) path ++ l) none ∙ append-nil (filter (is_within size base) path))
  where
    past : (s : Slip) → base + size ≤ s.num → is_within size base s ≡ false
    past s h = let e1 = ltb_no s.num (base + size) h in let e2 = le-leb base s.num (omega (arith, h)) in rw (e1, e2) refl

bundles_more : (size : ℕ) (path more : List Slip) (low n : ℕ) → AllByRecursion (λ s. low < s.num) more → n * size ≤ low → bundles_below size (path ++ more) n ≡ bundles_below size path n
bundles_more size path more low zero all le = refl
bundles_more size path more low (suc n) all le =
    let end : n * size + size ≤ low = omega (arith, le, suc-mul n size) in
    let one = bundle_more size path more (n * size) (all_weaker (λ s. low < s.num) (λ s. n * size + size ≤ s.num) (λ s h. omega (arith, h, end)) more all) in
    let rest = bundles_more size path more low n all (omega (arith, end)) in
    rw (one, rest) refl

pub bundles_longer : (size : ℕ) (path : List Slip) (n m : ℕ) → n ≤ m → IsPrefix (bundles_below size path n) (bundles_below size path m)
bundles_longer size path n zero le = let e : n ≡ 0 = omega (arith, le) in subst (λ (k : ℕ). IsPrefix (bundles_below size path k) []) (sym e) ([], refl)
bundles_longer size path n (suc m) le =
    elim (cases_lt m n) [
      | inl more ↦ let e : n ≡ suc m = omega (arith, le, more) in subst (λ (k : ℕ). IsPrefix (bundles_below size path k) (bundles_below size path (suc m))) (sym e) ([], append-nil (bundles_below size path (suc m)))
      | inr less ↦
          let r = bundles_longer size path n m less in
          let last = bundle_at size path (m * size) in
          (r.0 ++ last, sym (append_assoc (bundles_below size path n) r.0 last) ∙ ap (λ l. l ++ last) r.1)
    ]

pub div_mono : (size a b : ℕ) → 0 < size → a ≤ b → a / size ≤ b / size
div_mono size a b some le = (le-div_iff_mul-le {k = size} {x = a / size} {y = b} some).1 (omega (arith, div-mul-le_self a size, le))

prefix_same : (xs ys zs : List Bundle) → xs ≡ ys → IsPrefix ys zs → IsPrefix xs zs
prefix_same xs ys zs e h = subst (λ (l : List Bundle). IsPrefix l zs) (sym e) h

-- where the path of the one goes on above its tip in the path of the other
grow : (size : ℕ) (older newer more : List Slip) → 0 < size → finals_up newer ≡ finals_up older ++ more → AllByRecursion (λ s. tip_num older < s.num) more → tip_num older ≤ tip_num newer
    → IsPrefix (bundles_of size older) (bundles_of size newer)
grow size older newer more some paths above le =
    let k = tip_num older / size in
    let same : bundles_of size older ≡ bundles_below size (finals_up newer) k =
    sym (bundles_more size (finals_up older) more (tip_num older) k above (div-mul-le_self (tip_num older) size)) ∙ ap (λ l. bundles_below size l k) (sym paths) in
    prefix_same _ _ _ same (bundles_longer size (finals_up newer) k (tip_num newer / size) (div_mono size (tip_num older) (tip_num newer) some le))

paths_go_on : (older newer : List Slip) (h : IsSuffix (final_ancestry older) (final_ancestry newer)) → finals_up newer ≡ finals_up older ++ reverse h.0
paths_go_on older newer h = ap reverse (sym h.1) ∙ reverse-append h.0 (final_ancestry older)

all_reversed : (P : Slip → Type 0) (xs : List Slip) → AllByRecursion P xs → AllByRecursion P (reverse xs)
all_reversed P xs all = all_among P (reverse xs) (λ x h. among_all P xs all x (back x h))
  where
    back : (x : Slip) → Among (reverse xs) x → Among xs x
    back x h = Rattle.bundle_model.proofs.public.MemberFacts.reverse_among xs x h

-- what comes above the tip of a final path that goes on, and the greater tip
pub record GoesOn (older newer more : List Slip) : Type 0 where
  pub above : AllByRecursion (λ s. tip_num older < s.num) more
  pub higher : tip_num older ≤ tip_num newer

pub goes_on : (older newer : List Slip) → IsHistory older → IsHistory newer → (t : TipLine older) → (h : IsSuffix (final_ancestry older) (final_ancestry newer)) → GoesOn older newer h.0
goes_on older newer ho hn t h =
    let f : Falls (h.0 ++ t.tip ∷ t.rest) = subst Falls (sym h.1 ∙ ap (λ l. h.0 ++ l) t.line) (line_falls newer hn (final_ancestry newer) (finals_line newer hn)) in
    let num : tip_num older ≡ t.tip.num = rw t.is refl in
    let above = falls_above h.0 t.tip t.rest f in
    record {
      above = subst (λ (n : ℕ). AllByRecursion (λ s. n < s.num) h.0) (sym num) above;
      higher = elim (tip_line newer hn) [
        | inl none ↦ absurd (empty h.0 (sym (ap (λ l. h.0 ++ l) t.line) ∙ h.1 ∙ none.line))
        | inr u ↦ top h.0 u (ap (λ l. h.0 ++ l) (sym t.line) ∙ h.1 ∙ u.line) above num (rw u.is refl)
      ];
    }
  where
    empty : (xs : List Slip) → xs ++ t.tip ∷ t.rest ≡ [] → ⊥
    empty [] e = grind (arith, e)
    empty (x ∷ xs) e = grind (arith, e)

    top : (xs : List Slip) (u : TipLine newer) → xs ++ t.tip ∷ t.rest ≡ u.tip ∷ u.rest → AllByRecursion (λ s. t.tip.num < s.num) xs → tip_num older ≡ t.tip.num → tip_num newer ≡ u.tip.num → tip_num older ≤ tip_num newer
    top [] u e above a b = let same : t.tip ≡ u.tip = grind (arith, e) in omega (arith, ap (λ (s : Slip). s.num) same, a, b)
    top (x ∷ xs) u e above a b = let same : x ≡ u.tip = grind (arith, e) in omega (arith, ap (λ (s : Slip). s.num) same, a, b, above.0)

pub bundles_grow : BundlesGrow
bundles_grow size older newer some ho hn h =
    elim (tip_line older ho) [
      | inl none ↦
          let k : tip_num older / size ≡ 0 = omega (arith, div-le_self (tip_num older) size, none.num) in
          prefix_same _ _ _ (ap (bundles_below size (finals_up older)) k) (bundles_of size newer, refl)
      | inr t ↦
          let on = goes_on older newer ho hn t h in
          grow size older newer (reverse h.0) some (paths_go_on older newer h) (all_reversed (λ s. tip_num older < s.num) h.0 on.above) on.higher
    ]

pub bundles_grow_on : BundlesGrowOn
bundles_grow_on size older more some history agreed =
    bundles_grow size older (more ++ older) some (history_older more older history) history (grows_by_many more older history agreed)

-- the base of a number between a base and its end
pub base_within : (size n num : ℕ) → n * size ≤ num → num < n * size + size → base_of size num ≡ n * size
base_within size n num le less =
    let e : num ≡ n * size + (num - n * size) = omega (arith, le) in
    let m : num % size ≡ num - n * size = ap (λ x. x % size) e ∙ mod-mul-add n size (num - n * size) (omega (arith, le, less)) in
    omega (arith, m, le)

due_at : (size : ℕ) (newest path : List Slip) (n : ℕ) → n * size + size ≤ tip_num newest → (l : List Slip) → AllByRecursion (λ s. base_of size s.num ≡ n * size) l
    → AllByRecursion (IsDue size newest) (bundle_with (n * size) l)
due_at size newest path n reached [] all = tt
due_at size newest path n reached (s ∷ rest) all = (record { multiple = mul-mod_left n size; reached = reached; first = s; more = rest; some = refl; within = all }, tt)

pub within_is : (size base : ℕ) (s : Slip) → is_within size base s ≡ true → (base ≤ s.num) × (s.num < base + size)
within_is size base s e = let p = and_parts (leb base s.num) (ltb s.num (base + size)) e in (leb-true _ _ p.0, ltb-true _ _ p.1)

due_below : (size : ℕ) (newest path : List Slip) (n : ℕ) → n * size ≤ tip_num newest → AllByRecursion (IsDue size newest) (bundles_below size path n)
due_below size newest path zero le = tt
due_below size newest path (suc n) le =
    let end : n * size + size ≤ tip_num newest = omega (arith, le, suc-mul n size) in
    let l = filter (is_within size (n * size)) path in
    let based : AllByRecursion (λ s. base_of size s.num ≡ n * size) l =
    all_among (λ s. base_of size s.num ≡ n * size) l (λ s h. let w = within_is size (n * size) s (filter_among (is_within size (n * size)) path s h).1 in base_within size n s.num w.0 w.1) in
    all_append (IsDue size newest) (bundles_below size path n) (bundle_at size path (n * size)) (due_below size newest path n (omega (arith, end))) (due_at size newest path n end l based)

pub bundles_are_due : BundlesAreDue
bundles_are_due size newest some = due_below size newest (finals_up newest) (tip_num newest / size) (div-mul-le_self (tip_num newest) size)

in_more : (size : ℕ) (xs ys : List Bundle) (s : Slip) → IsInBundle size xs s → IsInBundle size (xs ++ ys) s
in_more size xs ys s h = record { bundle = h.bundle; there = among_left xs ys h.bundle h.there; based = h.based; has = h.has }

pub in_prefix : (size : ℕ) (xs ys : List Bundle) → IsPrefix xs ys → (s : Slip) → IsInBundle size xs s → IsInBundle size ys s
in_prefix size xs ys p s h = subst (λ (l : List Bundle). IsInBundle size l s) p.1 (in_more size xs p.0 s h)

in_last : (size : ℕ) (xs : List Bundle) (base : ℕ) (l : List Slip) (s : Slip) → base ≡ base_of size s.num → Among l s → IsInBundle size (xs ++ bundle_with base l) s
in_last size xs base [] s e h = absurd h
in_last size xs base (x ∷ l) s e h = record {
  bundle = record { base = base; blocks = x ∷ l };
  there = among_right xs (bundle_with base (x ∷ l)) _ (inl refl);
  based = e;
  has = h;
}

pub base_is : (size num : ℕ) → base_of size num ≡ num / size * size
base_is size num = omega (arith, mod-add-div' num size)

pub num_within : (size num : ℕ) → 0 < size → (num / size * size ≤ num) × (num < num / size * size + size)
num_within size num some =
    elim (cases_lt num (num / size * size + size)) [
      | inl less ↦ (div-mul-le_self num size, less)
      | inr more ↦
          let e : suc (num / size) * size ≤ num = omega (arith, more, suc-mul (num / size) size) in
          let le = (le-div_iff_mul-le {k = size} {x = suc (num / size)} {y = num} some).1 e in
          absurd (omega (arith, le))
    ]

pub finals_are_bundled : FinalsAreBundled
finals_are_bundled size newest s some history final reached =
    let k = s.num / size in
    let path = finals_up newest in
    let w = num_within size s.num some in
    let hit : is_within size (k * size) s ≡ true = rw (le-leb _ _ w.0, lt-ltb _ _ w.1) refl in
    let here = among_filter (is_within size (k * size)) path s (among_reverse (final_ancestry newest) s final) hit in
    let one = in_last size (bundles_below size path k) (k * size) (filter (is_within size (k * size)) path) s (sym (base_is size s.num)) here in
    let end : suc k * size ≤ tip_num newest = omega (arith, reached, base_is size s.num, suc-mul k size) in
    let le = (le-div_iff_mul-le {k = size} {x = suc k} {y = tip_num newest} some).1 end in
    in_prefix size (bundles_below size path (suc k)) (bundles_of size newest) (bundles_longer size path (suc k) (tip_num newest / size) le) s one
