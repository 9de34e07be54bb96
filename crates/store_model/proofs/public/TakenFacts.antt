-- The blocks that loading takes: which they are, and that parents come before their children.
use Rattle.std.proofs.Common.{arith, ◌≡◌, ◌≤◌, ◌<◌, ◌⊎◌, inl, inr, ℕ, Bool, true, false, cond, List, [], ◌∷◌, ◌++◌, reverse, refl, sym, ◌∙◌, ap, subst, ltb, ◌&&◌}
use Rattle.std.proofs.Math.Dec.{eqb}
use Rattle.std.specs.List.{AllByRecursion}
use Rattle.std.proofs.lemmas.Bool.{or_cases, or_parts, and_parts, ltb-true, ltb-false, eqb-true}
use Rattle.std.proofs.lemmas.Option.{same_Some}
use Rattle.std.proofs.lemmas.List.{reverse-append, reverse-reverse, append_assoc}
use mathlib.Core.List.{IsPrefix, IsSuffix}
use Rattle.block_record.specs.declared.blocks.Slip.{Slip}
use Rattle.outer_world.specs.Files.{comes_before}
use Rattle.chain_model.specs.Ancestry.{IsHistory}
use Rattle.chain_model.specs.Finality.{final_ancestry}
use Rattle.chain_laws.proofs.public.Growth.{IsFound, all_weaker}
use Rattle.chain_laws.proofs.public.Reach.{IsLine}
use Rattle.chain_laws.proofs.public.LineFacts.{line_is, line_tail, line_suffix, parent_at}
use Rattle.chain_laws.proofs.public.Meeting.{finals_line}
use Rattle.chain_laws.proofs.public.Orders.{root_least, alone_is_root}
use Rattle.bundle_model.specs.Members.{Among}
use Rattle.bundle_model.specs.Bundles.{Bundle, bundles_of, blocks_of, finals_up, base_of, IsDue}
use Rattle.bundle_model.specs.Laws.{IsInBundle}
use Rattle.bundle_model.proofs.public.MemberFacts.{among_all, among_left, among_right, among_parts, among_reverse, reverse_among, among_map, map_among}
use Rattle.bundle_model.proofs.public.BundleFacts.{blocks_append, bundles_are_front}
use Rattle.store_model.specs.Shown.{Single, Shown, slips, IsSingle, IsShown}
use Rattle.store_model.specs.Loads.{is_after, insert, in_order, taken}
use Rattle.store_model.proofs.RootFacts.{IsParentOf}
use Rattle.store_model.proofs.LoadFacts.{ParentsBefore}

-- a file in its place among others
insert_has : (x : Single) (ys : List Single) → Among (insert x ys) x
insert_has x [] = inl refl
insert_has x (y ∷ ys) =
    let P : Bool → Type 0 = λ b. Among (cond b (x ∷ y ∷ ys) (y ∷ insert x ys)) x in
    elim (is_after x y) as P [ true ↦ inl refl | false ↦ inr (insert_has x ys) ]

insert_keeps : (x : Single) (ys : List Single) (z : Single) → Among ys z → Among (insert x ys) z
insert_keeps x [] z h = absurd h
insert_keeps x (y ∷ ys) z (inl e) =
    let P : Bool → Type 0 = λ b. Among (cond b (x ∷ y ∷ ys) (y ∷ insert x ys)) z in
    elim (is_after x y) as P [ true ↦ inr (inl e) | false ↦ inl e ]
insert_keeps x (y ∷ ys) z (inr h) =
    let rest = insert_keeps x ys z h in
    let P : Bool → Type 0 = λ b. Among (cond b (x ∷ y ∷ ys) (y ∷ insert x ys)) z in
    elim (is_after x y) as P [ true ↦ inr (inr h) | false ↦ inr rest ]

insert_parts : (x : Single) (ys : List Single) (z : Single) → Among (insert x ys) z → (x ≡ z) ⊎ Among ys z
insert_parts x [] z (inl e) = inl e
insert_parts x [] z (inr h) = absurd h
insert_parts x (y ∷ ys) z h = go (is_after x y) h (λ k. insert_parts x ys z k)
  where
    go : (b : Bool) → Among (cond b (x ∷ y ∷ ys) (y ∷ insert x ys)) z → (Among (insert x ys) z → (x ≡ z) ⊎ Among ys z) → (x ≡ z) ⊎ Among (y ∷ ys) z
    go true (inl e) ih = inl e
    go true (inr k) ih = inr k
    go false (inl e) ih = inr (inl e)
    go false (inr k) ih = elim (ih k) [ inl e ↦ inl e | inr m ↦ inr (inr m) ]

order_has : (xs : List Single) (z : Single) → Among xs z → Among (in_order xs) z
order_has [] z h = absurd h
order_has (x ∷ xs) z (inl e) = subst (Among (insert x (in_order xs))) e (insert_has x (in_order xs))
order_has (x ∷ xs) z (inr h) = insert_keeps x (in_order xs) z (order_has xs z h)

order_parts : (xs : List Single) (z : Single) → Among (in_order xs) z → Among xs z
order_parts [] z h = absurd h
order_parts (x ∷ xs) z h = elim (insert_parts x (in_order xs) z h) [ inl e ↦ inl e | inr k ↦ inr (order_parts xs z k) ]

-- no number is less than one after it
abbrev pub Descends : List Slip → Type 0
Descends [] = Unit {0}
Descends (s ∷ rest) = AllByRecursion (λ t. t.num ≤ s.num) rest × Descends rest

slips_all : (n : ℕ) (xs : List Single) → ((z : Single) → Among xs z → z.slip.num ≤ n) → AllByRecursion (λ t. t.num ≤ n) (slips xs)
slips_all n [] f = tt
slips_all n (x ∷ xs) f = (f x (inl refl), slips_all n xs (λ z h. f z (inr h)))

all_slips : (n : ℕ) (xs : List Single) → AllByRecursion (λ t. t.num ≤ n) (slips xs) → (z : Single) → Among xs z → z.slip.num ≤ n
all_slips n [] all z h = absurd h
all_slips n (x ∷ xs) all z (inl e) = subst (λ (y : Single). y.slip.num ≤ n) e all.0
all_slips n (x ∷ xs) all z (inr h) = all_slips n xs all.1 z h

after_num : (x y : Single) → is_after x y ≡ true → y.slip.num ≤ x.slip.num
after_num x y e =
    elim (or_cases (ltb y.slip.num x.slip.num) (eqb x.slip.num y.slip.num && comes_before y.name x.name) e) [
      | inl less ↦ let l = ltb-true _ _ less in omega (arith, l)
      | inr equal ↦ let l = eqb-true _ _ (and_parts (eqb x.slip.num y.slip.num) (comes_before y.name x.name) equal).0 in omega (arith, l)
    ]

before_num : (x y : Single) → is_after x y ≡ false → x.slip.num ≤ y.slip.num
before_num x y e = ltb-false _ _ (or_parts (ltb y.slip.num x.slip.num) (eqb x.slip.num y.slip.num && comes_before y.name x.name) e).0

insert_descends : (x : Single) (ys : List Single) → Descends (slips ys) → Descends (slips (insert x ys))
insert_descends x [] d = (tt, tt)
insert_descends x (y ∷ ys) d = go (is_after x y) refl (insert_descends x ys d.1)
  where
    go : (b : Bool) → is_after x y ≡ b → Descends (slips (insert x ys)) → Descends (slips (cond b (x ∷ y ∷ ys) (y ∷ insert x ys)))
    go true e ih =
        let le = after_num x y e in
        ((le, all_weaker (λ t. t.num ≤ y.slip.num) (λ t. t.num ≤ x.slip.num) (λ t h. omega (arith, h, le)) (slips ys) d.0), d)
    go false e ih =
        let le = before_num x y e in
        (slips_all y.slip.num (insert x ys) (λ z h. elim (insert_parts x ys z h) [ inl same ↦ subst (λ (w : Single). w.slip.num ≤ y.slip.num) same le | inr k ↦ all_slips y.slip.num ys d.0 z k ]), ih)

order_descends : (xs : List Single) → Descends (slips (in_order xs))
order_descends [] = tt
order_descends (x ∷ xs) = insert_descends x (in_order xs) (order_descends xs)

-- the blocks of merged files are the end of the final path
pub reversed_prefix : (a b : List Slip) → IsPrefix a (reverse b) → IsSuffix (reverse a) b
reversed_prefix a b h = (reverse h.0, sym (reverse-append a h.0) ∙ ap reverse h.1 ∙ reverse-reverse b)

pub blocks_prefix : (xs ys : List Bundle) (path : List Slip) → IsPrefix xs ys → IsPrefix (blocks_of ys) path → IsPrefix (blocks_of xs) path
blocks_prefix xs ys path h p =
    (blocks_of h.0 ++ p.0, sym (append_assoc (blocks_of xs) (blocks_of h.0) p.0) ∙ ap (λ l. l ++ p.0) (sym (blocks_append xs h.0) ∙ ap blocks_of h.1) ∙ p.1)

pub merged_suffix : (size : ℕ) (newest : List Slip) (merged : List Bundle) → 0 < size → IsHistory newest → IsPrefix merged (bundles_of size newest) → IsSuffix (reverse (blocks_of merged)) (final_ancestry newest)
merged_suffix size newest merged some history h =
    reversed_prefix (blocks_of merged) (final_ancestry newest) (blocks_prefix merged (bundles_of size newest) (finals_up newest) h (bundles_are_front size newest some history))

pub merged_line : (size : ℕ) (newest : List Slip) (merged : List Bundle) → 0 < size → IsHistory newest → IsPrefix merged (bundles_of size newest) → IsLine newest (reverse (blocks_of merged))
merged_line size newest merged some history h =
    let s = merged_suffix size newest merged some history h in
    line_suffix newest history s.0 (reverse (blocks_of merged)) (subst (IsLine newest) (sym s.1) (finals_line newest history))

-- a block of a bundle
pub in_bundle_blocks : (size : ℕ) (bundles : List Bundle) (s : Slip) → IsInBundle size bundles s → Among (blocks_of bundles) s
in_bundle_blocks size bundles s h = go bundles h.there
  where
    go : (bs : List Bundle) → Among bs h.bundle → Among (blocks_of bs) s
    go [] k = absurd k
    go (b ∷ bs) (inl e) = among_left b.blocks (blocks_of bs) s (subst (λ (c : Bundle). Among c.blocks s) (sym e) h.has)
    go (b ∷ bs) (inr k) = among_right b.blocks (blocks_of bs) s (go bs k)

pub blocks_in_bundle : (size : ℕ) (newest : List Slip) (bundles : List Bundle) → AllByRecursion (IsDue size newest) bundles → (s : Slip) → Among (blocks_of bundles) s → IsInBundle size bundles s
blocks_in_bundle size newest [] all s h = absurd h
blocks_in_bundle size newest (b ∷ bs) all s h =
    elim (among_parts b.blocks (blocks_of bs) s h) [
      | inl own ↦ record { bundle = b; there = inl refl; based = sym (among_all (λ t. base_of size t.num ≡ b.base) b.blocks all.0.within s own); has = own }
      | inr rest ↦ let r = blocks_in_bundle size newest bs all.1 s rest in record { bundle = r.bundle; there = inr r.there; based = r.based; has = r.has }
    ]

-- parents stand below their children on a line
pub line_parents : (newest : List Slip) → IsHistory newest → (line : List Slip) → IsLine newest line → ParentsBefore newest line
line_parents newest history [] l = tt
line_parents newest history (s ∷ []) l =
    (λ f p parent. let low = root_least newest history p parent.found in let top = alone_is_root newest history s (line_is newest s [] l) in let less = parent.less in absurd (omega (arith, low, top, less)), tt)
line_parents newest history (s ∷ q ∷ qs) l =
    (λ f p parent. let named = (parent_at newest history s q qs (line_is newest s (q ∷ qs) l)).named in inl (same_Some q p (sym named ∙ parent.named)), line_parents newest history (q ∷ qs) (line_tail newest history s (q ∷ qs) l))

-- and by number among files of one block
single_parents : (newest singles rest : List Slip) → Descends singles → ParentsBefore newest rest
    → ((p : Slip) → IsFound newest p → Among (singles ++ rest) p ⊎ AllByRecursion (λ t. t.num ≤ p.num) singles) → ParentsBefore newest (singles ++ rest)
single_parents newest [] rest d parents all = parents
single_parents newest (s ∷ singles) rest d parents all = (first, single_parents newest singles rest d.1 parents next)
  where
    first : IsFound newest s → (p : Slip) → IsParentOf newest s p → Among (singles ++ rest) p
    first f p parent =
        let less : p.num < s.num = parent.less in
        elim (all p parent.found) [
          | inl a ↦ elim a [ inl same ↦ absurd (omega (arith, less, ap (λ (x : Slip). x.num) same)) | inr below ↦ below ]
          | inr high ↦ let h : s.num ≤ p.num = high.0 in absurd (omega (arith, less, h))
        ]

    next : (p : Slip) → IsFound newest p → Among (singles ++ rest) p ⊎ AllByRecursion (λ t. t.num ≤ p.num) singles
    next p f =
        elim (all p f) [
          | inl a ↦ elim a [ inl same ↦ inr (subst (λ (x : Slip). AllByRecursion (λ t. t.num ≤ x.num) singles) same d.0) | inr below ↦ inl below ]
          | inr high ↦ inr high.1
        ]

-- which blocks are taken
pub single_taken : (shown : Shown) (s : Slip) → IsSingle shown s → Among (taken shown) s
single_taken shown s h = among_left (slips (in_order (shown.one ++ shown.forked))) (reverse (blocks_of shown.merged)) s (go h)
  where
    at : (z : Single) → Among (shown.one ++ shown.forked) z → Among (slips (in_order (shown.one ++ shown.forked))) z.slip
    at z k = among_map (λ (file : Single). file.slip) (in_order (shown.one ++ shown.forked)) z (order_has (shown.one ++ shown.forked) z k)

    go : IsSingle shown s → Among (slips (in_order (shown.one ++ shown.forked))) s
    go (inl k) = let z = map_among (λ (file : Single). file.slip) shown.one s k in subst (Among (slips (in_order (shown.one ++ shown.forked)))) z.2 (at z.0 (among_left shown.one shown.forked z.0 z.1))
    go (inr k) = let z = map_among (λ (file : Single). file.slip) shown.forked s k in subst (Among (slips (in_order (shown.one ++ shown.forked)))) z.2 (at z.0 (among_right shown.one shown.forked z.0 z.1))

pub shown_taken : (shown : Shown) (s : Slip) → IsShown shown s → Among (taken shown) s
shown_taken shown s (inl m) =
    among_right (slips (in_order (shown.one ++ shown.forked))) (reverse (blocks_of shown.merged)) s (among_reverse (blocks_of shown.merged) s (in_bundle_blocks shown.size shown.merged s m))
shown_taken shown s (inr k) = single_taken shown s k

pub taken_shown : (shown : Shown) (s : Slip) → Among (taken shown) s → Among (blocks_of shown.merged) s ⊎ IsSingle shown s
taken_shown shown s h =
    elim (among_parts (slips (in_order (shown.one ++ shown.forked))) (reverse (blocks_of shown.merged)) s h) [
      | inl k ↦
          let z = map_among (λ (file : Single). file.slip) (in_order (shown.one ++ shown.forked)) s k in
          elim (among_parts shown.one shown.forked z.0 (order_parts (shown.one ++ shown.forked) z.0 z.1)) [
            | inl a ↦ inr (inl (subst (Among (slips shown.one)) z.2 (among_map (λ (file : Single). file.slip) shown.one z.0 a)))
            | inr b ↦ inr (inr (subst (Among (slips shown.forked)) z.2 (among_map (λ (file : Single). file.slip) shown.forked z.0 b)))
          ]
      | inr k ↦ inl (reverse_among (blocks_of shown.merged) s k)
    ]

-- parents are taken before their children
pub taken_parents : (shown : Shown) (newest : List Slip) → 0 < shown.size → IsHistory newest → IsPrefix shown.merged (bundles_of shown.size newest) → ((x : Slip) → IsFound newest x → Among (taken shown) x)
    → ParentsBefore newest (taken shown)
taken_parents shown newest some history h all =
    single_parents newest (slips (in_order (shown.one ++ shown.forked))) (reverse (blocks_of shown.merged)) (order_descends (shown.one ++ shown.forked))
    (line_parents newest history (reverse (blocks_of shown.merged)) (merged_line shown.size newest shown.merged some history h)) (λ p f. inl (all p f))
