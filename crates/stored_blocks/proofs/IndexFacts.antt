-- What an index has, as blocks are taken in and come to be stored.
use Rattle.std.proofs.Common.{arith, ◌≡◌, ◌≤◌, ◌<◌, ◌+◌, inl, inr, ℕ, zero, suc, Bool, true, false, not, cond, List, [], ◌∷◌, ◌++◌, length, take, reverse, Option, Some, None, refl, sym, ◌∙◌, ap, subst, ◌&&◌, ◌||◌, IfSome, eqb-true, eq-eqb}
use Rattle.std.specs.List.{filter, find, slice_get}
use Rattle.std.proofs.lemmas.Bool.{both_ways, false_from_ne_true}
use Rattle.std.proofs.lemmas.List.{reverse-append}
use Rattle.std.proofs.lemmas.Option.{same_Some}
use Rattle.std.proofs.Math.Dec.{eqb}
use Rattle.std.proofs.Math.Seq.{take-append_seam}
use mathlib.Core.List.{IsSuffix}
use Rattle.block_record.specs.declared.blocks.Slip.{Slip}
use Rattle.block_record.specs.Ids.{same_id}
use Rattle.block_tree.specs.Places.{slip_at, slip_of}
use Rattle.block_tree.proofs.public.PlaceFacts.{slip_at_within}
use Rattle.chain_model.specs.Ancestry.{has_id, IsHistory}
use Rattle.chain_model.specs.Finality.{ClaimsAgree, final_ancestry}
use Rattle.chain_laws.proofs.public.Growth.{grows_by_many}
use Rattle.chain_laws.proofs.public.Later.{history_older}
use Rattle.chain_laws.proofs.public.Lines.{IsHistory-rest, is_fresh}
use Rattle.bundle_model.specs.Bundles.{finals_up}
use Rattle.bundle_model.specs.Members.{Among}
use Rattle.bundle_model.specs.Plans.{at_places}
use Rattle.bundle_model.proofs.public.MemberFacts.{reverse_among}
use Rattle.bundle_model.proofs.public.Climbs.{line_falls}
use Rattle.bundle_model.proofs.public.PlanFacts.{at_places_among}
use Rattle.bundle_model.proofs.public.RetainedFacts.{id_there}
use Rattle.fork_db.specs.Forks.{Forks}
use Rattle.stored_blocks.specs.declared.places.NumberedPlace.{NumberedPlace}
use Rattle.stored_blocks.specs.Places.{Adds, Drops}
use Rattle.stored_blocks.specs.Stored.{Index, HasTaken, HasBegun, HasGrown, HasReleased, IsIndex, ArePassing, RestIsOff, front_count, gone_places, is_given_up, is_gone, is_off, is_past, next_stored}
use Rattle.stored_blocks.proofs.public.PassingFacts.{numbered, next_passing, fewer_passing}
use Rattle.stored_blocks.proofs.public.HeldFacts.{given_up_more, given_up_same, has_among}
use Rattle.stored_blocks.proofs.OnceFacts.{history_once, finals_once, final_there, front_lacks, take_more, other_ids, filter_one_more, find_one_more, newer_lacks, slip_at_older}
use Rattle.stored_blocks.proofs.public.PathFacts.{count_low, count_on, count_past, count_off, count_mono, count_same, filter_same, find_same, filter_push, off_push, off_stored}

-- the next block
pub block_added : (newest path : List Slip) (q : Slip → Bool) (i : Index) (ys : List NumberedPlace) (s : Slip) (room : ℕ) → slip_at newest i.seen ≡ Some s → is_off path q s ≡ true
    → HasTaken newest path q i → Adds (numbered s i.seen) i.off ys → HasTaken newest path q (record i { seen = i.seen + 1; off = ys; room = room })
block_added newest path q i ys s room here off h a =
    let low = slip_at_within newest i.seen s here in
    record {
      low = omega (arith, low);
      finals_is = h.finals_is;
      front = h.front;
      last = h.last;
      range = h.range;
      stored_is = h.stored_is;
      finals_stored = h.finals_stored;
      off = subst (λ (n : ℕ). ArePassing newest (is_off path q) n ys) (omega arith) (next_passing newest (is_off path q) i.seen i.off ys s here off h.off a);
    }

-- the next final block, which is not stored
pub open_final : (newest path : List Slip) (q : Slip → Bool) (i : Index) (ys : List NumberedPlace) (y : Slip) (at : ℕ) → IsHistory newest → slip_at newest at ≡ Some y → q y ≡ false
    → HasTaken newest path q i → Drops (numbered y at) i.off ys → HasTaken newest (path ++ y ∷ []) q (record i { finals = i.finals + 1; off = ys })
open_final newest path q i ys y at history here no' h d =
    record {
      low = h.low;
      finals_is = let e = h.finals_is in omega (arith, e, Rattle.std.proofs.lemmas.List.length-append path (y ∷ []));
      front = h.front ∙ sym (count_off q path y no');
      last = h.last ∙ sym (ap (find q) (reverse-append path (y ∷ [])) ∙ (rw no' refl));
      range = h.range;
      stored_is = h.stored_is;
      finals_stored = h.finals_stored ∙ sym (filter_push q path y ∙ (rw no' (omega arith)));
      off = fewer_passing newest (is_off path q) (is_off (path ++ y ∷ []) q) i.seen at i.off ys y history here (off_push path q y) h.off d;
    }

-- one that is
pub stored_final : (newest path : List Slip) (q : Slip → Bool) (i : Index) (ys : List NumberedPlace) (y : Slip) (at : ℕ) → IsHistory newest → slip_at newest at ≡ Some y → q y ≡ true
    → HasTaken newest path q i → Drops (numbered y at) i.off ys → HasTaken newest (path ++ y ∷ []) q (record (next_stored i at) { finals = i.finals + 1; off = ys })
stored_final newest path q i ys y at history here yes' h d =
    record {
      low = h.low;
      finals_is = let e = h.finals_is in omega (arith, e, Rattle.std.proofs.lemmas.List.length-append path (y ∷ []));
      front = fronts (eqb i.front i.finals) refl;
      last = here ∙ sym (ap (find q) (reverse-append path (y ∷ [])) ∙ (rw yes' refl));
      range = slip_at_within newest at y here;
      stored_is = h.stored_is;
      finals_stored = let e = h.finals_stored in omega (arith, e, filter_push q path y, one);
      off = fewer_passing newest (is_off path q) (is_off (path ++ y ∷ []) q) i.seen at i.off ys y history here (off_push path q y) h.off d;
    }
  where
    one : cond {A = ℕ} (q y) 1 0 ≡ 1
    one = rw yes' refl

    fronts : (b : Bool) → eqb i.front i.finals ≡ b → cond b (i.front + 1) i.front ≡ front_count q (path ++ y ∷ [])
    fronts true e =
        let same = eqb-true i.front i.finals e in
        let f = h.front in
        let n = h.finals_is in
        let full : front_count q path ≡ length path = omega (arith, same, f, n) in
        let more = count_on q path y yes' full in
        omega (arith, more, same, n)
    fronts false e =
        let f = h.front in
        let n = h.finals_is in
        let less = count_past q path y (λ full. both_ways _ e (eq-eqb i.front i.finals (omega (arith, full, f, n)))) in
        omega (arith, less, f)

-- whether the next final block is stored, by whether it was off
pub was_open : (newest path : List Slip) (q : Slip → Bool) (i : Index) (y : Slip) (at : ℕ) → IsHistory newest → slip_at newest at ≡ Some y → HasTaken newest path q i → Among i.off (numbered y at) → is_off path q y ≡ true
was_open newest path q i y at history here h k =
    let o = h.off.own (numbered y at) k in
    let same : o.slip ≡ y = same_Some o.slip y (sym o.here ∙ here) in
    let passes = o.passes in
    subst (λ (s : Slip). is_off path q s ≡ true) same passes

pub off_parts : (path : List Slip) (q : Slip → Bool) (y : Slip) → is_off path q y ≡ true → (has_id path y.id ≡ false) × (q y ≡ false)
off_parts path q y e = go (has_id path y.id) (q y) e
  where
    go : (a b : Bool) → (not a && not b) ≡ true → (a ≡ false) × (b ≡ false)
    go true b k = absurd (both_ways _ refl k)
    go false true k = absurd (both_ways _ refl k)
    go false false k = (refl, refl)

pub was_stored : (newest path : List Slip) (q : Slip → Bool) (i : Index) (y : Slip) (at : ℕ) → slip_at newest at ≡ Some y → at < i.seen → has_id path y.id ≡ false → HasTaken newest path q i → (Among i.off (numbered y at) → ⊥) → q y ≡ true
was_stored newest path q i y at here low lacks h none = go (q y) refl
  where
    go : (b : Bool) → q y ≡ b → b ≡ true
    go true e = refl
    go false e = absurd (none (h.off.all at y low here (rw (lacks, e) refl)))

pub was_final : (newest path : List Slip) (q : Slip → Bool) (i : Index) (y : Slip) (at : ℕ) → slip_at newest at ≡ Some y → at < i.seen → q y ≡ false → HasTaken newest path q i → (Among i.off (numbered y at) → ⊥) → has_id path y.id ≡ true
was_final newest path q i y at here low no' h none = go (has_id path y.id) refl
  where
    go : (b : Bool) → has_id path y.id ≡ b → b ≡ true
    go true e = refl
    go false e = absurd (none (h.off.all at y low here (rw (e, no') refl)))

-- a block off the path that came to be stored
pub stored_off : (newest path : List Slip) (q r : Slip → Bool) (i : Index) (ys : List NumberedPlace) (y : Slip) (at : ℕ) → IsHistory newest → slip_at newest at ≡ Some y → Among newest y
    → ((s : Slip) → r s ≡ (q s || same_id y.id s.id)) → q y ≡ false → has_id path y.id ≡ false → HasTaken newest path q i → Drops (numbered y at) i.off ys
    → HasTaken newest path r (record i { stored = i.stored + 1; off = ys })
stored_off newest path q r i ys y at history here there more no' lacks h d =
    let agree = other_ids q r y path more lacks in
    record {
      low = h.low;
      finals_is = h.finals_is;
      front = h.front ∙ count_same q r path agree;
      last = h.last ∙ find_same q r (reverse path) (λ s k. agree s (reverse_among path s k));
      range = h.range;
      stored_is = let e = h.stored_is in omega (arith, e, filter_one_more q r y newest more no' (history_once newest history) there);
      finals_stored = h.finals_stored ∙ ap length (filter_same q r path agree);
      off = fewer_passing newest (is_off path q) (is_off path r) i.seen at i.off ys y history here (λ t. off_stored path q r y t (more t)) h.off d;
    }

-- a final block that came to be stored
pub stored_on : (newest : List Slip) (q r : Slip → Bool) (i : Index) (ys : List NumberedPlace) (y : Slip) (at front : ℕ) (last : Option ℕ) → IsHistory newest → slip_at newest at ≡ Some y
    → ((s : Slip) → r s ≡ (q s || same_id y.id s.id)) → q y ≡ false → Among newest y → Among (finals_up newest) y → HasTaken newest (finals_up newest) q i → Drops (numbered y at) i.off ys
    → front ≡ front_count r (finals_up newest) → last ≡ cond (is_past (slip_of newest i.last) y) (Some at) i.last
    → HasTaken newest (finals_up newest) r (record i { front = front; last = last; stored = i.stored + 1; stored_finals = i.stored_finals + 1; off = ys })
stored_on newest q r i ys y at front last history here more no' there on h d ef el =
    record {
      low = h.low;
      finals_is = h.finals_is;
      front = ef;
      last = ap (slip_of newest) el ∙ lasts (is_past (slip_of newest i.last) y) refl ∙ sym found;
      range = subst (λ (o : Option ℕ). IfSome o (λ a. a < length newest)) (sym el) (ranges (is_past (slip_of newest i.last) y));
      stored_is = let e = h.stored_is in omega (arith, e, filter_one_more q r y newest more no' (history_once newest history) there);
      finals_stored = let e = h.finals_stored in omega (arith, e, filter_one_more q r y (finals_up newest) more no' (finals_once newest history) on);
      off = fewer_passing newest (is_off (finals_up newest) q) (is_off (finals_up newest) r) i.seen at i.off ys y history here (λ t. off_stored (finals_up newest) q r y t (more t)) h.off d;
    }
  where
    found : find r (reverse (finals_up newest)) ≡ cond (is_past (find q (reverse (finals_up newest))) y) (Some y) (find q (reverse (finals_up newest)))
    found =
        let line : reverse (finals_up newest) ≡ final_ancestry newest = Rattle.std.proofs.lemmas.List.reverse-reverse (final_ancestry newest) in
        subst (λ (l : List Slip). find r l ≡ cond (is_past (find q l) y) (Some y) (find q l)) (sym line)
        (find_one_more q r y (final_ancestry newest) more no' (Rattle.stored_blocks.proofs.OnceFacts.line_once newest history) (line_falls newest history (final_ancestry newest) (Rattle.chain_laws.proofs.public.Meeting.finals_line newest history)) (reverse_among (final_ancestry newest) y on))

    lasts : (b : Bool) → is_past (slip_of newest i.last) y ≡ b → slip_of newest (cond b (Some at) i.last) ≡ cond (is_past (find q (reverse (finals_up newest))) y) (Some y) (find q (reverse (finals_up newest)))
    lasts true e = let e' : is_past (find q (reverse (finals_up newest))) y ≡ true = ap (λ (o : Option Slip). is_past o y) (sym h.last) ∙ e in rw e' here
    lasts false e = let e' : is_past (find q (reverse (finals_up newest))) y ≡ false = ap (λ (o : Option Slip). is_past o y) (sym h.last) ∙ e in rw e' h.last

    ranges : (b : Bool) → IfSome (cond b (Some at) i.last) (λ a. a < length newest)
    ranges true = slip_at_within newest at y here
    ranges false = h.range

-- what an index has of a history after blocks came to it
pub record Grown (i : Index) (g : Forks) : Type 0 where
  pub begun : HasBegun g i
  pub rest : RestIsOff g i
  pub room : length g.history ≤ i.seen + i.room

stored_held : (f : Forks) (s : Slip) → is_given_up f s ≡ true → has_id f.history s.id ≡ true
stored_held f s e =
    let p = has_among (at_places (gone_places 0 f.held) f.history) s.id e in
    subst (λ (id : List ℕ). has_id f.history id ≡ true) p.2 (id_there f.history p.0 (at_places_among (gone_places 0 f.held) f.history p.0 p.1))

not_stored : (f : Forks) (s : Slip) → has_id f.history s.id ≡ false → is_given_up f s ≡ false
not_stored f s e = false_from_ne_true _ (λ t. both_ways _ e (stored_held f s t))

module _ (i : Index) (g : Forks) (h : HasGrown i g) (history : IsHistory g.history) (agreed : ClaimsAgree g.history) where
  abbrev older : List Slip
  older = h.before.history

  whole : IsHistory (h.more ++ h.before.history)
  whole = subst IsHistory h.history history

  before : IsHistory h.before.history
  before = history_older h.more older whole

  stored_same : (s : Slip) → is_given_up g s ≡ is_given_up h.before s
  stored_same s = given_up_same h.before g h.more h.kept h.history h.held h.given h.index.same s

  goes_on : IsSuffix (final_ancestry h.before.history) (final_ancestry g.history)
  goes_on = subst (λ (l : List Slip). IsSuffix (final_ancestry older) (final_ancestry l)) (sym h.history) (grows_by_many h.more older whole (subst ClaimsAgree h.history agreed))

  paths : finals_up g.history ≡ finals_up h.before.history ++ reverse goes_on.0
  paths = ap reverse (sym goes_on.1) ∙ reverse-append goes_on.0 (final_ancestry older)

  path_is : take i.finals (finals_up g.history) ≡ finals_up h.before.history
  path_is =
      let n = h.index.taken.finals_is in
      ap (λ k. take k (finals_up g.history)) n ∙ ap (take (length (finals_up older))) paths ∙ take-append_seam (finals_up older) (reverse goes_on.0)

  nothing_more : (more : List Slip) → IsHistory (more ++ h.before.history) → filter (is_given_up h.before) (more ++ h.before.history) ≡ filter (is_given_up h.before) h.before.history
  nothing_more [] k = refl
  nothing_more (x ∷ more) k =
      let miss = not_stored h.before x (lacks more (is_fresh x (more ++ older) k)) in
      let ih = nothing_more more (IsHistory-rest x (more ++ older) k) in
      rw (miss, ih) refl
    where
      lacks : (l : List Slip) → has_id (l ++ h.before.history) x.id ≡ false → has_id h.before.history x.id ≡ false
      lacks [] e = e
      lacks (y ∷ l) e = lacks l (second (same_id y.id x.id) e)
        where
          second : (b : Bool) → (b || has_id (l ++ h.before.history) x.id) ≡ false → has_id (l ++ h.before.history) x.id ≡ false
          second true m = absurd (both_ways _ m refl)
          second false m = m

  at_same : (at : ℕ) → at < length h.before.history → slip_at g.history at ≡ slip_at h.before.history at
  at_same at low = ap (λ l. slip_at l at) h.history ∙ slip_at_older h.more older at low

  longer : length g.history ≡ length h.more + length h.before.history
  longer = ap length h.history ∙ Rattle.std.proofs.lemmas.List.length-append h.more older

  last_same : (o : Option ℕ) → IfSome o (λ a. a < length h.before.history) → slip_of g.history o ≡ slip_of h.before.history o
  last_same None r = refl
  last_same (Some a) r = at_same a r

  last_range : (o : Option ℕ) → IfSome o (λ a. a < length h.before.history) → IfSome o (λ a. a < length g.history)
  last_range None r = r
  last_range (Some a) r = omega (arith, r, longer)

  pub taken_on : HasTaken g.history (finals_up h.before.history) (is_given_up g) i
  taken_on =
      let t = h.index.taken in
      let same = λ (x : Slip) (k : Among (finals_up older) x). sym (stored_same x) in
      record {
        low = let l = t.low in omega (arith, l, longer);
        finals_is = t.finals_is;
        front = t.front ∙ count_same (is_given_up h.before) (is_given_up g) (finals_up older) same;
        last = last_same i.last t.range ∙ t.last ∙ find_same (is_given_up h.before) (is_given_up g) (reverse (finals_up older)) (λ x k. sym (stored_same x));
        range = last_range i.last t.range;
        stored_is = t.stored_is ∙ ap length (sym (nothing_more h.more whole) ∙ ap (filter (is_given_up h.before)) (sym h.history) ∙ filter_same (is_given_up h.before) (is_given_up g) g.history (λ x k. sym (stored_same x)));
        finals_stored = t.finals_stored ∙ ap length (filter_same (is_given_up h.before) (is_given_up g) (finals_up older) same);
        off = passing t.off t.low;
      }
    where
      test_same : (s : Slip) → is_off (finals_up h.before.history) (is_given_up g) s ≡ is_off (finals_up h.before.history) (is_given_up h.before) s
      test_same s = let e = stored_same s in rw e refl

      passing : ArePassing h.before.history (is_off (finals_up h.before.history) (is_given_up h.before)) i.seen i.off → i.seen ≤ length h.before.history
          → ArePassing g.history (is_off (finals_up h.before.history) (is_given_up g)) i.seen i.off
      passing p low = record {
        own = λ x k. let o = p.own x k in let l = o.low in record {
          low = o.low;
          slip = o.slip;
          here = at_same x.place (omega (arith, l, low)) ∙ o.here;
          num = o.num;
          passes = test_same o.slip ∙ o.passes;
        };
        all = λ at s l here e. p.all at s l (sym (at_same at (omega (arith, l, low))) ∙ here) (sym (test_same s) ∙ e);
      }

  pub rest_on : RestIsOff g i
  rest_on at s le here =
      let w = h.index.whole in
      let lacks = newer_lacks h.more older whole at s (omega (arith, le, w)) (ap (λ l. slip_at l at) (sym h.history) ∙ here) in
      let off : has_id (finals_up older) s.id ≡ false = false_from_ne_true _ (λ t.
      let p = has_among (finals_up older) s.id t in
      both_ways _ lacks (subst (λ (id : List ℕ). has_id older id ≡ true) p.2 (id_there older p.0 (final_there older before p.0 p.1)))) in
      let open' : is_given_up g s ≡ false = stored_same s ∙ not_stored h.before s lacks in
      subst (λ (l : List Slip). is_off l (is_given_up g) s ≡ true) (sym path_is) (rw (off, open') refl)

  pub grown : Grown i g
  grown = record {
    begun = record {
      taken = subst (λ (l : List Slip). HasTaken g.history l (is_given_up g) i) (sym path_is) taken_on;
      same =
          let a = h.index.same in
          let b = h.same in
          ap length h.held ∙ Rattle.std.proofs.lemmas.List.length-append h.before.held h.kept ∙ omega (arith, a, b, longer);
    };
    rest = rest_on;
    room = let w = h.index.whole in let e = h.enough in omega (arith, longer, w, e);
  }

-- all final blocks are taken in
pub begun_whole : (f : Forks) (i : Index) → HasBegun f i → length (finals_up f.history) ≤ i.finals → i.seen ≡ length f.history → IsIndex f i
begun_whole f i h le whole = record {
  taken = subst (λ (l : List Slip). HasTaken f.history l (is_given_up f) i) (Rattle.std.proofs.lemmas.List.take_all i.finals (finals_up f.history) le) h.taken;
  whole = whole;
  same = h.same;
}

-- nothing is after the end
pub past_finals : (f : Forks) (k : ℕ) → slice_get (finals_up f.history) k ≡ None → length (finals_up f.history) ≤ k
past_finals f k e = past (finals_up f.history) k e
  where
    past : (xs : List Slip) (n : ℕ) → slice_get xs n ≡ None → length xs ≤ n
    past [] n e' = omega arith
    past (x ∷ xs) zero e' = absurd (none e')
      where
        none : Some x ≡ None → ⊥
        none m = grind (arith, m)
    past (x ∷ xs) (suc n) e' = let r = past xs n e' in omega (arith, r)

module _ (i : Index) (f : Forks) (at : ℕ) (y : Slip) (h : HasReleased i f at) (history : IsHistory f.history) (here : slip_at f.history at ≡ Some y) where
  taken_before : HasTaken f.history (finals_up f.history) (is_given_up h.before) i
  taken_before = subst (λ (l : List Slip). HasTaken l (finals_up l) (is_given_up h.before) i) (sym h.history) h.index.taken

  less : at < length h.before.held
  less = let r = h.range in let s = h.index.same in omega (arith, r, s)

  pub more_stored : (s : Slip) → is_given_up f s ≡ (is_given_up h.before s || same_id y.id s.id)
  more_stored s = given_up_more h.before f at y h.history h.held less (ap (λ l. slip_at l at) (sym h.history) ∙ here) s

  pub was_held : is_given_up h.before y ≡ false
  was_held =
      Rattle.stored_blocks.proofs.public.HeldFacts.given_up_at h.before at y (subst IsHistory h.history history) (ap (λ l. slip_at l at) (sym h.history) ∙ here)
      ∙ ap is_gone h.there

  in_history : Among f.history y
  in_history = there f.history at here
    where
      there : (xs : List Slip) (k : ℕ) → slip_at xs k ≡ Some y → Among xs y
      there [] k e = absurd (none e)
        where
          none : None ≡ Some y → ⊥
          none m = grind (arith, m)
      there (x ∷ xs) k e = go (eqb k (length xs)) e (λ m. there xs k m)
        where
          go : (b : Bool) → cond b (Some x) (slip_at xs k) ≡ Some y → (slip_at xs k ≡ Some y → Among xs y) → Among (x ∷ xs) y
          go true m ih = inl (same_Some x y m)
          go false m ih = inr (ih m)

  seen_low : at < i.seen
  seen_low = let r = h.range in let w = h.index.whole in omega (arith, r, w)

  seen_all : i.seen ≡ length f.history
  seen_all = h.index.whole ∙ ap length (sym h.history)

  lengths : length f.held ≡ length f.history
  lengths = ap length h.held ∙ Rattle.std.proofs.lemmas.List.length-set h.before.held at None ∙ h.index.same ∙ ap length (sym h.history)

  pub released_off : (ys : List NumberedPlace) → Among i.off (numbered y at) → Drops (numbered y at) i.off ys → IsIndex f (record i { stored = i.stored + 1; off = ys })
  released_off ys was d =
      let off = was_open f.history (finals_up f.history) (is_given_up h.before) i y at history here taken_before was in
      let lacks = (off_parts (finals_up f.history) (is_given_up h.before) y off).0 in
      record {
        taken = stored_off f.history (finals_up f.history) (is_given_up h.before) (is_given_up f) i ys y at history here in_history more_stored was_held lacks taken_before d;
        whole = seen_all;
        same = lengths;
      }

  pub on_path : (Among i.off (numbered y at) → ⊥) → Among (finals_up f.history) y
  on_path none =
      let has = was_final f.history (finals_up f.history) (is_given_up h.before) i y at here seen_low was_held taken_before none in
      let p = has_among (finals_up f.history) y.id has in
      let same = Rattle.bundle_model.proofs.public.StoredFacts.one_of_id f.history history p.0 y (final_there f.history history p.0 p.1) in_history p.2 in
      subst (Among (finals_up f.history)) same p.1

  pub released_on : (ys : List NumberedPlace) (front : ℕ) (last : Option ℕ) → (Among i.off (numbered y at) → ⊥) → Drops (numbered y at) i.off ys → front ≡ front_count (is_given_up f) (finals_up f.history)
      → last ≡ cond (is_past (slip_of f.history i.last) y) (Some at) i.last
      → IsIndex f (record i { front = front; last = last; stored = i.stored + 1; stored_finals = i.stored_finals + 1; off = ys })
  released_on ys front last none d ef el = record {
    taken = stored_on f.history (is_given_up h.before) (is_given_up f) i ys y at front last history here more_stored was_held in_history (on_path none) taken_before d ef el;
    whole = seen_all;
    same = lengths;
  }

  pub front_low : i.front ≤ front_count (is_given_up f) (finals_up f.history)
  front_low =
      let e = taken_before.front in
      let m = count_mono (is_given_up h.before) (is_given_up f) (finals_up f.history) (λ x t. more_stored x ∙ (rw t refl)) in
      omega (arith, e, m)

-- a path is no longer than its history
ancestry_short : (newest : List Slip) (id : List ℕ) → length (Rattle.chain_model.specs.Ancestry.ancestry newest id) ≤ length newest
ancestry_short [] id = omega arith
ancestry_short (s ∷ older) id =
    let own = ancestry_short older s.parent_id in
    let other = ancestry_short older id in
    let P : Bool → Type 0 = λ b. length (cond b (s ∷ Rattle.chain_model.specs.Ancestry.ancestry older s.parent_id) (Rattle.chain_model.specs.Ancestry.ancestry older id)) ≤ suc (length older) in
    elim (same_id s.id id) as P [ true ↦ omega (arith, own) | false ↦ omega (arith, other) ]

pub finals_short : (newest : List Slip) → length (finals_up newest) ≤ length newest
finals_short newest = let e = Rattle.std.proofs.lemmas.List.length-reverse (final_ancestry newest) in let l = line (Rattle.chain_model.specs.Finality.final_tip newest) in omega (arith, e, l)
  where
    line : (o : Option Slip) → length (Rattle.chain_model.specs.Finality.ancestry_of newest o) ≤ length newest
    line None = omega arith
    line (Some t) = ancestry_short newest t.id

-- the next final block
next_path : (newest : List Slip) (k : ℕ) (y : Slip) → slice_get (finals_up newest) k ≡ Some y → take k (finals_up newest) ++ y ∷ [] ≡ take (k + 1) (finals_up newest)
next_path newest k y e = let m : suc k ≡ k + 1 = omega arith in sym (take_more (finals_up newest) k y e) ∙ ap (λ n. take n (finals_up newest)) m

pub begun_open : (f : Forks) (i : Index) (ys : List NumberedPlace) (y : Slip) (at room : ℕ) → IsHistory f.history → slip_at f.history at ≡ Some y → slice_get (finals_up f.history) i.finals ≡ Some y
    → HasBegun f i → Among i.off (numbered y at) → Drops (numbered y at) i.off ys → HasBegun f (record i { finals = i.finals + 1; off = ys; room = room })
begun_open f i ys y at room history here next b was d =
    let off = was_open f.history (take i.finals (finals_up f.history)) (is_given_up f) i y at history here b.taken was in
    let no' = (off_parts (take i.finals (finals_up f.history)) (is_given_up f) y off).1 in
    let t = open_final f.history (take i.finals (finals_up f.history)) (is_given_up f) i ys y at history here no' b.taken d in
    let u = subst (λ (l : List Slip). HasTaken f.history l (is_given_up f) (record i { finals = i.finals + 1; off = ys })) (next_path f.history i.finals y next) t in
    record {
      taken = record { low = u.low; finals_is = u.finals_is; front = u.front; last = u.last; range = u.range; stored_is = u.stored_is; finals_stored = u.finals_stored; off = u.off };
      same = b.same;
    }

pub begun_stored : (f : Forks) (i : Index) (ys : List NumberedPlace) (y : Slip) (at room : ℕ) → IsHistory f.history → slip_at f.history at ≡ Some y → slice_get (finals_up f.history) i.finals ≡ Some y → at < i.seen
    → HasBegun f i → (Among i.off (numbered y at) → ⊥) → Drops (numbered y at) i.off ys → HasBegun f (record (next_stored i at) { finals = i.finals + 1; off = ys; room = room })
begun_stored f i ys y at room history here next low b none d =
    let lacks = front_lacks f.history history i.finals y next in
    let yes' = was_stored f.history (take i.finals (finals_up f.history)) (is_given_up f) i y at here low lacks b.taken none in
    let t = stored_final f.history (take i.finals (finals_up f.history)) (is_given_up f) i ys y at history here yes' b.taken d in
    let u = subst (λ (l : List Slip). HasTaken f.history l (is_given_up f) (record (next_stored i at) { finals = i.finals + 1; off = ys })) (next_path f.history i.finals y next) t in
    record {
      taken = record { low = u.low; finals_is = u.finals_is; front = u.front; last = u.last; range = u.range; stored_is = u.stored_is; finals_stored = u.finals_stored; off = u.off };
      same = b.same;
    }

filter_short : (q : Slip → Bool) (xs : List Slip) → length (filter q xs) ≤ length xs
filter_short q [] = omega arith
filter_short q (x ∷ xs) =
    let ih = filter_short q xs in
    let P : Bool → Type 0 = λ b. length (cond b (x ∷ filter q xs) (filter q xs)) ≤ suc (length xs) in
    elim (q x) as P [ true ↦ omega (arith, ih) | false ↦ omega (arith, ih) ]

-- what its numbers are at most
pub record Bounds (f : Forks) (i : Index) : Type 0 where
  pub front : i.front ≤ i.finals
  pub stored_finals : i.stored_finals ≤ i.finals
  pub finals : i.finals ≤ length f.history
  pub stored : i.stored ≤ length f.history

pub begun_bounds : (f : Forks) (i : Index) → HasBegun f i → Bounds f i
begun_bounds f i b =
    let path = take i.finals (finals_up f.history) in
    let t = b.taken in
    let ef = t.front in
    let en = t.finals_is in
    let es = t.finals_stored in
    let est = t.stored_is in
    let a = count_low (is_given_up f) path in
    let c = filter_short (is_given_up f) path in
    let d = filter_short (is_given_up f) f.history in
    let e = take_short (finals_up f.history) i.finals in
    let g = finals_short f.history in
    record { front = omega (arith, ef, en, a); stored_finals = omega (arith, es, en, c); finals = omega (arith, en, e, g); stored = omega (arith, est, d) }
  where
    take_short : (xs : List Slip) (n : ℕ) → length (take n xs) ≤ length xs
    take_short [] n = nothing n
      where
        nothing : (m : ℕ) → length (take {A = Slip} m []) ≤ 0
        nothing zero = omega arith
        nothing (suc m) = omega arith
    take_short (x ∷ xs) zero = omega arith
    take_short (x ∷ xs) (suc n) = let r = take_short xs n in omega (arith, r)

pub index_begun : (f : Forks) (i : Index) → IsIndex f i → HasBegun f i
index_begun f i h = record {
  taken = subst (λ (l : List Slip). HasTaken f.history l (is_given_up f) i) (sym (Rattle.std.proofs.lemmas.List.take_all i.finals (finals_up f.history) (let n = h.taken.finals_is in omega (arith, n)))) h.taken;
  same = h.same;
}

-- the end of the final path is reached
pub begun_end : (f : Forks) (i : Index) → HasBegun f i → i.seen ≡ length f.history → slice_get (finals_up f.history) i.finals ≡ None → IsIndex f i
begun_end f i b whole e = begun_whole f i b (past_finals f i.finals e) whole

pub begun_full : (f : Forks) (i : Index) → HasBegun f i → i.seen ≡ length f.history → length f.history ≤ i.finals → IsIndex f i
begun_full f i b whole le = let g = finals_short f.history in begun_whole f i b (omega (arith, le, g)) whole

-- where a payload was given up, more can be counted
pub stored_low : (i : Index) (f : Forks) (at : ℕ) (y : Slip) (h : HasReleased i f at) (history : IsHistory f.history) (here : slip_at f.history at ≡ Some y) → i.stored + 1 ≤ length f.history
stored_low i f at y h history here =
    let t = taken_before i f at y h history here in
    let e = t.stored_is in
    let m = filter_one_more (is_given_up h.before) (is_given_up f) y f.history (more_stored i f at y h history here) (was_held i f at y h history here) (history_once f.history history) (in_history i f at y h history here) in
    let s = filter_short (is_given_up f) f.history in
    omega (arith, e, m, s)

pub finals_low : (i : Index) (f : Forks) (at : ℕ) (y : Slip) (h : HasReleased i f at) (history : IsHistory f.history) (here : slip_at f.history at ≡ Some y) → (Among i.off (numbered y at) → ⊥) → i.stored_finals + 1 ≤ length f.history
finals_low i f at y h history here none =
    let t = taken_before i f at y h history here in
    let e = t.finals_stored in
    let m = filter_one_more (is_given_up h.before) (is_given_up f) y (finals_up f.history) (more_stored i f at y h history here) (was_held i f at y h history here) (finals_once f.history history) (on_path i f at y h history here none) in
    let s = filter_short (is_given_up f) (finals_up f.history) in
    let g = finals_short f.history in
    omega (arith, e, m, s, g)

-- room is not among what an index says of a history
pub index_room : (f : Forks) (i : Index) (room : ℕ) → IsIndex f i → IsIndex f (record i { room = room })
index_room f i room h =
    let t = h.taken in
    record {
      taken = record { low = t.low; finals_is = t.finals_is; front = t.front; last = t.last; range = t.range; stored_is = t.stored_is; finals_stored = t.finals_stored; off = t.off };
      whole = h.whole;
      same = h.same;
    }
