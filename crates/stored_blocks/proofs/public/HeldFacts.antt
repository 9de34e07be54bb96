-- Which blocks are stored, by the payloads that are held: one place given up, and blocks that come with theirs.
use Rattle.std.proofs.Common.{arith, ◌≡◌, ◌≤◌, ◌<◌, ◌+◌, inl, inr, ℕ, zero, suc, Bool, true, false, cond, List, [], ◌∷◌, ◌++◌, length, set, Option, Some, None, refl, sym, ◌∙◌, ap, subst, ◌||◌, IsSome, eqb-true, eq-eqb}
use Rattle.std.specs.List.{AllByRecursion, slice_get}
use Rattle.std.specs.Option.{is_some, option_map}
use Rattle.std.proofs.lemmas.Bool.{both_ways, false_from_ne_true, or_cases}
use Rattle.std.proofs.lemmas.Option.{same_Some}
use Rattle.std.proofs.Math.Dec.{eqb}
use Rattle.block_record.specs.declared.blocks.Block.{Block}
use Rattle.block_record.specs.declared.blocks.Slip.{Slip}
use Rattle.block_record.specs.Ids.{same_id, same_id-true, same_id_refl}
use Rattle.block_tree.specs.Places.{slip_at}
use Rattle.block_tree.proofs.public.PlaceFacts.{slip_at_past, slip_at_top, slip_at_within}
use Rattle.chain_model.specs.Ancestry.{has_id, IsHistory}
use Rattle.chain_laws.proofs.public.Lines.{id-find_id}
use Rattle.relay_model.proofs.public.Intakes.{find_of}
use Rattle.bundle_model.specs.Members.{Among}
use Rattle.bundle_model.specs.Plans.{at_places}
use Rattle.bundle_model.proofs.public.DoneFacts.{find_is}
use Rattle.bundle_model.proofs.public.RetainedFacts.{id_there}
use Rattle.bundle_model.proofs.public.StoredFacts.{is_one}
use Rattle.fork_db.specs.Forks.{Forks}
use Rattle.stored_blocks.specs.Stored.{gone_places, is_given_up, is_gone}
use Rattle.stored_blocks.proofs.public.PassingFacts.{one_place}

gone_low : (held : List (Option Block)) (n m : ℕ) → m < n → is_one (gone_places n held) m ≡ false
gone_low [] n m less = refl
gone_low (None ∷ held) n m less =
    let miss : eqb n m ≡ false = false_from_ne_true _ (λ e. let same = eqb-true n m e in omega (arith, same, less)) in
    let ih = gone_low held (suc n) m (omega (arith, less)) in
    rw (miss, ih) refl
gone_low (Some b ∷ held) n m less = gone_low held (suc n) m (omega (arith, less))

gone_from : (held : List (Option Block)) (n at m : ℕ) → m ≡ n + at → is_one (gone_places n held) m ≡ is_gone (slice_get held at)
gone_from [] n at m e = refl
gone_from (None ∷ held) n zero m e = let hit : eqb n m ≡ true = eq-eqb n m (omega (arith, e)) in rw hit refl
gone_from (None ∷ held) n (suc at) m e =
    let miss : eqb n m ≡ false = false_from_ne_true _ (λ k. let same = eqb-true n m k in omega (arith, same, e)) in
    let ih = gone_from held (suc n) at m (omega (arith, e)) in
    rw miss ih
gone_from (Some b ∷ held) n zero m e = gone_low held (suc n) m (omega (arith, e))
gone_from (Some b ∷ held) n (suc at) m e = gone_from held (suc n) at m (omega (arith, e))

pub gone_is : (held : List (Option Block)) (at : ℕ) → is_one (gone_places 0 held) at ≡ is_gone (slice_get held at)
gone_is held at = gone_from held 0 at at (omega arith)

-- blocks at places
pub at_has : (xs : List Slip) (ps : List ℕ) (at : ℕ) (s : Slip) → slip_at xs at ≡ Some s → is_one ps at ≡ true → Among (at_places ps xs) s
at_has [] ps at s e one = absurd (none e)
  where
    none : None ≡ Some s → ⊥
    none k = grind (arith, k)
at_has (x ∷ xs) ps at s e one = go (eqb at (length xs)) refl (is_one ps (length xs)) refl e (λ k. at_has xs ps at s k one)
  where
    go : (a : Bool) → eqb at (length xs) ≡ a → (b : Bool) → is_one ps (length xs) ≡ b → cond a (Some x) (slip_at xs at) ≡ Some s → (slip_at xs at ≡ Some s → Among (at_places ps xs) s)
        → Among (cond b (x ∷ at_places ps xs) (at_places ps xs)) s
    go true ea true eb k ih = inl (same_Some x s k)
    go true ea false eb k ih = absurd (both_ways _ eb (ap (is_one ps) (sym (eqb-true at (length xs) ea)) ∙ one))
    go false ea true eb k ih = inr (ih k)
    go false ea false eb k ih = ih k

pub at_only : (xs : List Slip) (ps : List ℕ) (s : Slip) → Among (at_places ps xs) s → (at : ℕ) × (slip_at xs at ≡ Some s) × (is_one ps at ≡ true)
at_only [] ps s h = absurd h
at_only (x ∷ xs) ps s h = go (is_one ps (length xs)) refl h (λ k. at_only xs ps s k)
  where
    past : ((at : ℕ) × (slip_at xs at ≡ Some s) × (is_one ps at ≡ true)) → (at : ℕ) × (slip_at (x ∷ xs) at ≡ Some s) × (is_one ps at ≡ true)
    past r = (r.0, slip_at_past x xs r.0 (slip_at_within xs r.0 s r.1) ∙ r.1, r.2)

    go : (b : Bool) → is_one ps (length xs) ≡ b → Among (cond b (x ∷ at_places ps xs) (at_places ps xs)) s → (Among (at_places ps xs) s → (at : ℕ) × (slip_at xs at ≡ Some s) × (is_one ps at ≡ true))
        → (at : ℕ) × (slip_at (x ∷ xs) at ≡ Some s) × (is_one ps at ≡ true)
    go true e (inl same) ih = (length xs, slip_at_top x xs ∙ ap Some same, e)
    go true e (inr k) ih = past (ih k)
    go false e k ih = past (ih k)

-- a block of an id among others
pub has_among : (xs : List Slip) (id : List ℕ) → has_id xs id ≡ true → (p : Slip) × Among xs p × (p.id ≡ id)
has_among xs id e =
    let p = find_of xs id e in
    let i = id-find_id xs id p.0 p.1 in
    (p.0, find_is _ xs p.0 p.1, i)

among_has : (xs : List Slip) (p : Slip) (id : List ℕ) → Among xs p → p.id ≡ id → has_id xs id ≡ true
among_has xs p id h e = subst (λ (i : List ℕ). has_id xs i ≡ true) e (id_there xs p h)

-- a block is stored exactly where its payload was given up
pub given_up_at : (f : Forks) (at : ℕ) (s : Slip) → IsHistory f.history → slip_at f.history at ≡ Some s → is_given_up f s ≡ is_gone (slice_get f.held at)
given_up_at f at s history here = go (is_gone (slice_get f.held at)) (gone_is f.held at)
  where
    go : (b : Bool) → is_one (gone_places 0 f.held) at ≡ b → is_given_up f s ≡ b
    go true e = among_has (at_places (gone_places 0 f.held) f.history) s s.id (at_has f.history (gone_places 0 f.held) at s here e) refl
    go false e = false_from_ne_true _ (λ t.
        let p = has_among (at_places (gone_places 0 f.held) f.history) s.id t in
        let o = at_only f.history (gone_places 0 f.held) p.0 p.1 in
        let one : same_id p.0.id s.id ≡ true = subst (λ (i : List ℕ). same_id p.0.id i ≡ true) p.2 (same_id_refl p.0.id) in
        let place = one_place f.history o.0 at p.0 s history o.1 here one in
        both_ways _ e (ap (is_one (gone_places 0 f.held)) (sym place) ∙ o.2))

-- a list with one element set
set_there : (held : List (Option Block)) (at : ℕ) → at < length held → slice_get (set held at None) at ≡ Some None
set_there [] at less = absurd (omega (arith, less))
set_there (x ∷ held) zero less = refl
set_there (x ∷ held) (suc at) less = set_there held at (omega (arith, less))

set_apart : (held : List (Option Block)) (at k : ℕ) → (at ≡ k → ⊥) → slice_get (set held at None) k ≡ slice_get held k
set_apart [] at k ne = refl
set_apart (x ∷ held) zero zero ne = absurd (ne refl)
set_apart (x ∷ held) zero (suc k) ne = refl
set_apart (x ∷ held) (suc at) zero ne = refl
set_apart (x ∷ held) (suc at) (suc k) ne = set_apart held at k (λ e. ne (ap suc e))

-- what is given up then
pub set_gone : (held : List (Option Block)) (at k : ℕ) → at < length held → is_gone (slice_get (set held at None) k) ≡ (is_gone (slice_get held k) || eqb at k)
set_gone held at k less = go (eqb at k) refl
  where
    go : (b : Bool) → eqb at k ≡ b → is_gone (slice_get (set held at None) k) ≡ (is_gone (slice_get held k) || b)
    go true e =
        let same = eqb-true at k e in
        let there : slice_get (set held at None) k ≡ Some None = subst (λ (m : ℕ). slice_get (set held at None) m ≡ Some None) same (set_there held at less) in
        let P : Bool → Type 0 = λ t. true ≡ (t || true) in
        ap is_gone there ∙ (elim (is_gone (slice_get held k)) as P [ true ↦ refl | false ↦ refl ])
    go false e =
        let apart = set_apart held at k (λ m. both_ways _ e (eq-eqb at k m)) in
        let P : Bool → Type 0 = λ t. t ≡ (t || false) in
        ap is_gone apart ∙ (elim (is_gone (slice_get held k)) as P [ true ↦ refl | false ↦ refl ])

gone_set : (held : List (Option Block)) (at k : ℕ) → at < length held → is_one (gone_places 0 (set held at None)) k ≡ (is_one (gone_places 0 held) k || eqb at k)
gone_set held at k less = gone_is (set held at None) k ∙ set_gone held at k less ∙ ap (λ b. b || eqb at k) (sym (gone_is held k))

-- once a payload is given up, its block is stored too
pub given_up_more : (f g : Forks) (at : ℕ) (y : Slip) → g.history ≡ f.history → g.held ≡ set f.held at None → at < length f.held → slip_at f.history at ≡ Some y
    → (s : Slip) → is_given_up g s ≡ (is_given_up f s || same_id y.id s.id)
given_up_more f g at y same held less here s =
    subst (λ (xs : List Slip). has_id (at_places (gone_places 0 g.held) xs) s.id ≡ (is_given_up f s || same_id y.id s.id)) (sym same)
    (subst (λ (l : List (Option Block)). has_id (at_places (gone_places 0 l) f.history) s.id ≡ (is_given_up f s || same_id y.id s.id)) (sym held) both)
  where
    ps : List ℕ
    ps = gone_places 0 f.held

    qs : List ℕ
    qs = gone_places 0 (set f.held at None)

    one : (k : ℕ) → is_one (gone_places 0 (set f.held at None)) k ≡ (is_one (gone_places 0 f.held) k || eqb at k)
    one k = gone_set f.held at k less

    up : (is_given_up f s || same_id y.id s.id) ≡ true → has_id (at_places (gone_places 0 (set f.held at None)) f.history) s.id ≡ true
    up e = elim (or_cases (is_given_up f s) (same_id y.id s.id) e) [
      | inl old ↦
          let p = has_among (at_places (gone_places 0 f.held) f.history) s.id old in
          let o = at_only f.history (gone_places 0 f.held) p.0 p.1 in
          let t : is_one (gone_places 0 (set f.held at None)) o.0 ≡ true = one o.0 ∙ (let k = o.2 in rw k refl) in
          among_has (at_places (gone_places 0 (set f.held at None)) f.history) p.0 s.id (at_has f.history (gone_places 0 (set f.held at None)) o.0 p.0 o.1 t) p.2
      | inr id ↦
          let t : is_one (gone_places 0 (set f.held at None)) at ≡ true = gone_is (set f.held at None) at ∙ ap is_gone (set_there f.held at less) in
          among_has (at_places (gone_places 0 (set f.held at None)) f.history) y s.id (at_has f.history (gone_places 0 (set f.held at None)) at y here t) (same_id-true y.id s.id id)
    ]

    down : has_id (at_places (gone_places 0 (set f.held at None)) f.history) s.id ≡ true → (is_given_up f s || same_id y.id s.id) ≡ true
    down e =
        let p = has_among (at_places (gone_places 0 (set f.held at None)) f.history) s.id e in
        let o = at_only f.history (gone_places 0 (set f.held at None)) p.0 p.1 in
        elim (or_cases (is_one (gone_places 0 f.held) o.0) (eqb at o.0) (sym (one o.0) ∙ o.2)) [
          | inl old ↦ let t = among_has (at_places (gone_places 0 f.held) f.history) p.0 s.id (at_has f.history (gone_places 0 f.held) o.0 p.0 o.1 old) p.2 in rw t refl
          | inr new ↦
              let m = eqb-true at o.0 new in
              let same' : y ≡ p.0 = same_Some y p.0 (sym here ∙ ap (slip_at f.history) m ∙ o.1) in
              let id : same_id y.id s.id ≡ true = subst (λ (i : List ℕ). same_id y.id i ≡ true) (ap (λ (x : Slip). x.id) same' ∙ p.2) (same_id_refl y.id) in
              let P : Bool → Type 0 = λ t. (t || same_id y.id s.id) ≡ true in
              elim (is_given_up f s) as P [ true ↦ refl | false ↦ id ]
        ]

    both : has_id (at_places (gone_places 0 (set f.held at None)) f.history) s.id ≡ (is_given_up f s || same_id y.id s.id)
    both = go (has_id (at_places (gone_places 0 (set f.held at None)) f.history) s.id) (is_given_up f s || same_id y.id s.id) refl refl
      where
        go : (a b : Bool) → has_id (at_places (gone_places 0 (set f.held at None)) f.history) s.id ≡ a → (is_given_up f s || same_id y.id s.id) ≡ b → a ≡ b
        go true b ea eb = sym (down ea) ∙ eb
        go false true ea eb = sym ea ∙ up eb
        go false false ea eb = refl

-- blocks that come with their payloads
gone_none : (kept : List (Option Block)) (n : ℕ) → AllByRecursion IsSome kept → gone_places n kept ≡ []
gone_none [] n all = refl
gone_none (None ∷ kept) n all = let some = all.0 in absurd (grind (arith, some))
gone_none (Some b ∷ kept) n all = gone_none kept (suc n) all.1

pub gone_append : (held kept : List (Option Block)) (n : ℕ) → AllByRecursion IsSome kept → gone_places n (held ++ kept) ≡ gone_places n held
gone_append [] kept n all = gone_none kept n all
gone_append (None ∷ held) kept n all = ap (λ l. n ∷ l) (gone_append held kept (suc n) all)
gone_append (Some b ∷ held) kept n all = gone_append held kept (suc n) all

past_gone : (held : List (Option Block)) (n : ℕ) → length held ≤ n → is_one (gone_places 0 held) n ≡ false
past_gone held n le = gone_is held n ∙ ap is_gone (Rattle.std.proofs.lemmas.Option.slice_get_past held n le)

at_older : (more older : List Slip) (held : List (Option Block)) → length held ≤ length older → at_places (gone_places 0 held) (more ++ older) ≡ at_places (gone_places 0 held) older
at_older [] older held le = refl
at_older (x ∷ more) older held le =
    let long : length held ≤ length (more ++ older) = omega (arith, le, Rattle.std.proofs.lemmas.List.length-append more older) in
    let miss = past_gone held (length (more ++ older)) long in
    let ih = at_older more older held le in
    rw (miss, ih) refl

-- what was stored goes on to be, and nothing else is
pub given_up_same : (f g : Forks) (more : List Slip) (kept : List (Option Block)) → g.history ≡ more ++ f.history → g.held ≡ f.held ++ kept → AllByRecursion IsSome kept → length f.held ≡ length f.history
    → (s : Slip) → is_given_up g s ≡ is_given_up f s
given_up_same f g more kept history held all same s =
    let e : at_places (gone_places 0 g.held) g.history ≡ at_places (gone_places 0 f.held) f.history =
    ap (λ l. at_places (gone_places 0 l) g.history) held ∙ ap (λ l. at_places l g.history) (gone_append f.held kept 0 all) ∙ ap (at_places (gone_places 0 f.held)) history ∙ at_older more f.history f.held (omega (arith, same)) in
    ap (λ (l : List Slip). has_id l s.id) e

-- whether a payload is held
pub held_gone : {X : Type 0} (f : X → Block) (o : Option X) → is_some o ≡ true → is_gone (Some (option_map f o)) ≡ false
held_gone {X} f None e = absurd (both_ways _ refl e)
held_gone {X} f (Some x) e = refl

pub none_gone : {X : Type 0} (f : X → Block) (o : Option X) → is_some o ≡ false → is_gone (Some (option_map f o)) ≡ true
none_gone {X} f None e = refl
none_gone {X} f (Some x) e = absurd (both_ways _ e refl)
