-- Loading brings back what was kept.
use Rattle.std.proofs.Common.{arith, ◌≡◌, ◌⊎◌, inl, inr, ℕ, false, List, [], ◌∷◌, ◌++◌, Some, None, refl, sym, ◌∙◌, ap, subst}
use Rattle.std.specs.List.{AllByRecursion, filter}
use Rattle.std.proofs.lemmas.Bool.{both_ways}
use Rattle.std.proofs.lemmas.Option.{same_Some}
use Rattle.std.proofs.lemmas.List.{append-nil, append_assoc}
use mathlib.Core.List.{IsPrefix, IsSuffix}
use Rattle.block_record.specs.declared.blocks.Slip.{Slip}
use Rattle.chain_model.specs.Ancestry.{find_id, has_id, IsHistory}
use Rattle.chain_model.specs.Finality.{final_ancestry}
use Rattle.chain_laws.proofs.public.Lines.{has_id-find_id, id-find_id}
use Rattle.chain_laws.proofs.public.Growth.{IsFound}
use Rattle.chain_laws.proofs.public.Later.{find_later}
use Rattle.relay_model.specs.Worlds.{World}
use Rattle.relay_model.specs.Orders.{root_of}
use Rattle.relay_model.specs.Runs.{OneEach}
use Rattle.relay_model.specs.Soundness.{IsSound, IsBlock}
use Rattle.relay_model.proofs.public.Intakes.{find_of}
use Rattle.relay_laws.proofs.public.TwoHistories.{IsWithin}
use Rattle.bundle_model.specs.Laws.{IsFrontStored}
use Rattle.bundle_model.specs.Members.{Among}
use Rattle.bundle_model.specs.Bundles.{Bundle, bundles_of, blocks_of, IsDue}
use Rattle.bundle_model.specs.Plans.{stored_slips}
use Rattle.bundle_model.proofs.public.MemberFacts.{among_all, all_among, among_parts, among_reverse, among_suffix, filter_among, all_front, among_left, among_filter}
use Rattle.bundle_model.proofs.public.BundleFacts.{bundles_are_due, bundles_grow}
use Rattle.store_model.specs.Shown.{Shown, slips, IsSingle, IsMerged, IsShown, IsPassed}
use Rattle.store_model.specs.Kept.{Keeps, KeepsStored, IsStoredFinal, IsStoredFork}
use Rattle.store_model.specs.Loads.{Loading, Round, taken, loading_of, round_of, loaded, counts_as_stored, places_of}
use Rattle.store_model.specs.Clean.{root, StartsAt}
use Rattle.store_model.specs.Laws.{IsEmpty, IsSame, Reloads, IsReloadable, LoadKeeps}
use Rattle.store_model.proofs.RootFacts.{no_found, root_some, root_num_is}
use Rattle.store_model.proofs.LoadFacts.{IsSetting, IsLoading, load_goes}
use Rattle.store_model.proofs.public.TakenFacts.{shown_taken, taken_shown, taken_parents, merged_suffix, blocks_in_bundle}
use Rattle.store_model.proofs.WithinFacts.{within_finals, same_heads}
use Rattle.store_model.proofs.PassedFacts.{passed_later}
use Rattle.store_model.proofs.public.PlacesFacts.{places_filter, places_within}
use Rattle.store_model.proofs.RoundFacts.{IsRound, round_goes, full_round}
use Rattle.store_model.proofs.SizeFacts.{loaded_size}
use Rattle.bundle_model.proofs.public.StoredFacts.{among_found, found_is_among, among_any, final_found}
use Rattle.bundle_model.proofs.public.RetainedFacts.{any_is, id_there}

one_front : (xs ys : List Slip) → OneEach (xs ++ ys) → OneEach xs
one_front [] ys one = tt
one_front (x ∷ xs) ys one = (all_front (λ t. t.id ≡ x.id → t ≡ x) xs ys one.0, one_front xs ys one.1)

pub prefix_both : (xs ys zs : List Bundle) → IsPrefix xs ys → IsPrefix ys zs → IsPrefix xs zs
prefix_both xs ys zs a b = (a.0 ++ b.0, sym (append_assoc xs a.0 b.0) ∙ ap (λ l. l ++ b.0) a.1 ∙ b.1)

-- a world without a block is sound
empty_sound : (w : World) → IsEmpty w → IsSound w
empty_sound w e = let h = e.history in let r = e.waiting in record {
  history = subst IsHistory (sym h) tt;
  agreed = λ a b x y fa. absurd (no_found a (subst (λ (l : List Slip). IsFound l a) h fa));
  kind = λ none. h;
  stored = rw e.stored tt;
  distinct = rw r tt;
  apart = rw r tt;
  orphans = rw r tt;
  above = rw r tt;
  rises = rw r tt;
}

each_shown : (shown : Shown) (newest : List Slip) → AllByRecursion (IsShown shown) newest → IsHistory newest → (x : Slip) → IsFound newest x → Among (taken shown) x
each_shown shown newest all history x f = shown_taken shown x (among_all (IsShown shown) newest all x (found_is_among newest x f))

setting_of : (shown : Shown) (old : World) → IsReloadable shown old → IsSetting old.first old.history (taken shown)
setting_of shown old is = record {
  history = is.sound.history;
  one_each = one_front (taken shown) (blocks_of shown.other) is.clean.one_each;
  blocks_are = is.blocks;
  all = each_shown shown old.history is.kept.history is.sound.history;
  agreed = is.clean.agreed;
  starts = is.clean.starts;
}

starts_loading : (first size : ℕ) (newest : List Slip) (empty : World) → IsEmpty empty → empty.first ≡ first → IsLoading first newest [] (record { world = record empty { size = size }; put_by = []; full = None })
starts_loading first size newest empty e f = record {
  sound = empty_sound (record empty { size = size }) (record { history = e.history; waiting = e.waiting; stored = e.stored; opened = e.opened });
  calm = record { opened = e.opened; none = e.waiting };
  first_is = f;
  from = rw e.history tt;
  put_from = tt;
  has = λ x g a. absurd a;
  root_is = sym (ap root e.history);
}

-- the root of a longer history
root_longer : (more older : List Slip) (r : Slip) → root older ≡ Some r → root (more ++ older) ≡ Some r
root_longer [] older r e = e
root_longer (s ∷ []) [] r e = absurd (none e)
  where
    none : None ≡ Some r → ⊥
    none k = grind (arith, k)
root_longer (s ∷ []) (t ∷ older) r e = e
root_longer (s ∷ x ∷ more) older r e = root_longer (x ∷ more) older r e

-- what is known of a world after loading
record IsBack (shown : Shown) (old new : World) : Type 0 where
  sound : IsSound new
  held : (x : Slip) → IsFound old.history x → IsFound new.history x
  from : AllByRecursion (Among (taken shown)) new.history
  waits : AllByRecursion (Among (taken shown)) new.waiting
  roots : (r : Slip) → root old.history ≡ Some r → root new.history ≡ Some r
  stored_is : stored_slips new ≡ filter (counts_as_stored shown) new.history
  sized : new.size ≡ shown.size

back_from : (shown : Shown) (old empty : World) → IsReloadable shown old → (l : Loading) → loading_of shown empty ≡ l → IsLoading old.first old.history (taken shown) l → (r : Round) → round_of shown empty ≡ r
    → IsRound (Among (taken shown)) l.world.history r → IsBack shown old (record r.world { stored = places_of (counts_as_stored shown) r.world.history })
back_from shown old empty is l le i r re round = record {
  sound = record {
    history = round.sound.history;
    agreed = round.sound.agreed;
    kind = round.sound.kind;
    stored = places_within (counts_as_stored shown) r.world.history;
    distinct = round.sound.distinct;
    apart = round.sound.apart;
    orphans = round.sound.orphans;
    above = round.sound.above;
    rises = round.sound.rises;
  };
  held = λ x f. let g = i.has x f (each_shown shown old.history is.kept.history is.sound.history x f) in
      let more = round.grown.0 in
      let longer : IsHistory (more ++ l.world.history) = subst IsHistory (sym round.grown.1) round.sound.history in
      subst (λ (h : List Slip). IsFound h x) round.grown.1 (find_later more l.world.history longer x.id (has_id-find_id l.world.history x.id x g) ∙ g);
  from = round.each.history;
  waits = round.each.waiting;
  roots = λ q e.
      let one : root_of old.first (taken shown) ≡ Some q = subst (StartsAt old.first (taken shown)) e is.clean.starts in
      subst (λ (h : List Slip). root h ≡ Some q) round.grown.1 (root_longer round.grown.0 l.world.history q (sym i.root_is ∙ one));
  stored_is = places_filter (counts_as_stored shown) r.world.history;
  sized = ap (λ (q : Round). q.world.size) (sym re) ∙ loaded_size shown empty;
}

within_of : (shown : Shown) (old new : World) → IsReloadable shown old → IsBack shown old new → IsWithin old.history new.history ⊎ (old.history ≡ [])
within_of shown old new is back = go old.history refl
  where
    go : (h : List Slip) → old.history ≡ h → IsWithin old.history new.history ⊎ (old.history ≡ [])
    go [] e = inr e
    go (t ∷ older) e =
        let r = root_some t older in
        let a : root old.history ≡ Some r.0 = ap root e ∙ r.1 in
        inl (record {
          history = is.sound.history;
          whole = back.sound.history;
          there = back.held;
          root = root_num_is old.history r.0 a ∙ sym (root_num_is new.history r.0 (back.roots r.0 a));
        })

finals_back : (shown : Shown) (old new : World) → IsReloadable shown old → IsBack shown old new → IsSuffix (final_ancestry old.history) (final_ancestry new.history)
finals_back shown old new is back =
    elim (within_of shown old new is back) [
      | inl w ↦ within_finals old.history new.history w back.sound.agreed
      | inr none ↦ subst (λ (h : List Slip). IsSuffix (final_ancestry h) (final_ancestry new.history)) (sym none) (final_ancestry new.history, append-nil (final_ancestry new.history))
    ]

same_back : (shown : Shown) (old new : World) → IsReloadable shown old → IsBack shown old new → ((s : Slip) → IsFound new.history s → IsFound old.history s) → IsSame old.history new.history
same_back shown old new is back no_more =
    elim (within_of shown old new is back) [
      | inl w ↦ same_heads old.history new.history w is.sound.agreed no_more
      | inr none ↦ let both : new.history ≡ old.history = empty new.history back.sound.history (λ x f. subst (λ (h : List Slip). IsFound h x) none (no_more x f)) ∙ sym none in rw both (record { finals = refl; heads = refl })
    ]
  where
    empty : (h : List Slip) → IsHistory h → ((x : Slip) → IsFound h x → IsFound [] x) → h ≡ []
    empty [] history f = refl
    empty (x ∷ h) history f = absurd (no_found x (f x (among_found (x ∷ h) history x (inl refl))))

due_front : (size : ℕ) (newest : List Slip) (xs ys : List Bundle) → IsPrefix xs ys → AllByRecursion (IsDue size newest) ys → AllByRecursion (IsDue size newest) xs
due_front size newest xs ys p all = all_front (IsDue size newest) xs p.0 (subst (AllByRecursion (IsDue size newest)) (sym p.1) all)

-- a block of a merged file is final
merged_final : (shown : Shown) (old : World) → IsReloadable shown old → (x : Slip) → Among (blocks_of shown.merged) x → Among (final_ancestry old.history) x
merged_final shown old is x h =
    let s = merged_suffix shown.size old.history shown.merged is.size is.sound.history is.kept.bundles in
    among_suffix _ _ s x (among_reverse (blocks_of shown.merged) x h)

merged_shown : (shown : Shown) (old : World) → IsReloadable shown old → (x : Slip) → Among (blocks_of shown.merged) x → IsMerged shown x
merged_shown shown old is x h =
    blocks_in_bundle shown.size old.history shown.merged (due_front shown.size old.history shown.merged (bundles_of shown.size old.history) is.kept.bundles (bundles_are_due shown.size old.history is.size)) x h

kept_back : (shown : Shown) (old new : World) → IsReloadable shown old → IsBack shown old new → Keeps shown new
kept_back shown old new is back = record {
  bundles = prefix_both _ _ _ is.kept.bundles (bundles_grow shown.size old.history new.history is.size is.sound.history back.sound.history (finals_back shown old new is back));
  history = all_among (IsShown shown) new.history (λ x h. elim (taken_shown shown x (among_all (Among (taken shown)) new.history back.from x h)) [ inl m ↦ inl (merged_shown shown old is x m) | inr k ↦ inr k ]);
  waiting = all_among (IsSingle shown) new.waiting (λ x h. elim (taken_shown shown x (among_all (Among (taken shown)) new.waiting back.waits x h)) [
    | inl m ↦
        let f = back.held x (final_found old.history is.sound.history x (merged_final shown old is x m)) in
        absurd (both_ways _ (among_all (λ s. has_id new.history s.id ≡ false) new.waiting back.sound.apart x h) (has_id-find_id new.history x.id x f))
    | inr k ↦ k
  ]);
  forked = all_among (IsPassed new.history) (slips shown.forked) (λ x h. passed_later old.history new.history is.sound.history back.sound.history (finals_back shown old new is back) x (among_all (IsPassed old.history) (slips shown.forked) is.kept.forked x h));
}

stored_back : (shown : Shown) (old new : World) → IsReloadable shown old → IsBack shown old new → KeepsStored shown new
stored_back shown old new is back = all_among (λ s. IsStoredFinal shown new.history s ⊎ IsStoredFork shown new.history s) (stored_slips new) each
  where
    each : (x : Slip) → Among (stored_slips new) x → IsStoredFinal shown new.history x ⊎ IsStoredFork shown new.history x
    each x h =
        let p = filter_among (counts_as_stored shown) new.history x (subst (λ (l : List Slip). Among l x) back.stored_is h) in
        elim (among_parts (blocks_of shown.merged) (slips shown.forked) x (any_is (blocks_of shown.merged ++ slips shown.forked) x p.1)) [
          | inl m ↦ inl (record { final = among_suffix _ _ (finals_back shown old new is back) x (merged_final shown old is x m); merged = merged_shown shown old is x m })
          | inr k ↦ inr (record { passed = passed_later old.history new.history is.sound.history back.sound.history (finals_back shown old new is back) x (among_all (IsPassed old.history) (slips shown.forked) is.kept.forked x k); there = k })
        ]

front_back : (shown : Shown) (old new : World) → IsReloadable shown old → IsBack shown old new → IsFrontStored new
front_back shown old new is back = record {
  front = shown.merged;
  first = subst (λ (n : ℕ). IsPrefix shown.merged (bundles_of n new.history)) (sym back.sized) (kept_back shown old new is back).bundles;
  stored = λ s h.
      let f = back.held s (final_found old.history is.sound.history s (merged_final shown old is s h)) in
      let counts = among_any (blocks_of shown.merged ++ slips shown.forked) s (among_left (blocks_of shown.merged) (slips shown.forked) s h) in
      let there = among_filter (counts_as_stored shown) new.history s (found_is_among new.history s f) counts in
      id_there (stored_slips new) s (subst (λ (l : List Slip). Among l s) (sym back.stored_is) there);
  only = λ s final h.
      let p = find_of (stored_slips new) s.id h in
      let id = id-find_id (stored_slips new) s.id p.0 p.1 in
      let at = found_is_among (stored_slips new) p.0 (ap (find_id (stored_slips new)) id ∙ p.1) in
      let q = filter_among (counts_as_stored shown) new.history p.0 (subst (λ (l : List Slip). Among l p.0) back.stored_is at) in
      let fp = among_found new.history back.sound.history p.0 q.0 in
      let fs = final_found new.history back.sound.history s final in
      let same : p.0 ≡ s = same_Some p.0 s (sym fp ∙ ap (find_id new.history) id ∙ fs) in
      elim (among_parts (blocks_of shown.merged) (slips shown.forked) p.0 (any_is (blocks_of shown.merged ++ slips shown.forked) p.0 q.1)) [
        | inl m ↦ subst (Among (blocks_of shown.merged)) same m
        | inr k ↦ absurd ((among_all (IsPassed new.history) (slips shown.forked) (kept_back shown old new is back).forked p.0 k).off (subst (Among (final_ancestry new.history)) (sym same) final))
      ];
}

reloads : (shown : Shown) (old new : World) → IsReloadable shown old → IsBack shown old new → Reloads shown old new
reloads shown old new is back = record {
  sound = back.sound;
  sized = back.sized;
  held = back.held;
  finals = finals_back shown old new is back;
  kept = record { keeps = kept_back shown old new is back; stored = stored_back shown old new is back };
  front = front_back shown old new is back;
  same = same_back shown old new is back;
}

pub load_keeps : LoadKeeps
load_keeps shown old empty is e first full =
    let l = loading_of shown empty in
    let set = setting_of shown old is in
    let begin : Round = record { world = l.world; full = l.full; over = false } in
    let ok : l.full ≡ None = full_round begin l.put_by full in
    let parents = taken_parents shown old.history is.size is.sound.history is.kept.bundles set.all in
    let i = load_goes old.first old.history (taken shown) set (record { world = record empty { size = shown.size }; put_by = []; full = None }) (starts_loading old.first shown.size old.history empty e first) [] (taken shown) refl parents ok in
    let blocks : AllByRecursion IsBlock l.put_by = all_among IsBlock l.put_by (λ x h. among_all IsBlock (taken shown) is.blocks x (among_all (Among (taken shown)) l.put_by i.put_from x h)) in
    let waits : AllByRecursion (Among (taken shown)) l.world.waiting = subst (AllByRecursion (Among (taken shown))) (sym i.calm.none) tt in
    let round = round_goes (Among (taken shown)) l.world.history begin l.put_by i.put_from blocks (record { sound = i.sound; grown = ([], refl); each = record { history = i.from; waiting = waits } }) in
    reloads shown old (loaded shown empty).world is (back_from shown old empty is l refl i (round_of shown empty) refl round)
