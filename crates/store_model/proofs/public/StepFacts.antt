-- What each single step keeps.
use Rattle.std.proofs.Common.{arith, ◌≡◌, ◌≤◌, ◌<◌, ◌+◌, ◌/◌, ◌⊎◌, inl, inr, ℕ, zero, suc, Bool, true, false, not, cond, List, [], ◌∷◌, ◌++◌, length, reverse, Option, Some, None, refl, sym, ◌∙◌, ap, subst, ltb, ◌&&◌, length-append}
use Rattle.std.specs.Str.{bytes_eq}
use Rattle.std.specs.List.{AllByRecursion, list_any}
use Rattle.std.proofs.Math.Dec.{eqb}
use Rattle.std.proofs.lemmas.Bool.{cases_Bool, or_cases, and_parts, both_ways, false_from_ne_true, lt-ltb, ltb-true, eq-eqb, eqb-true, cases_lt}
use Rattle.std.proofs.lemmas.List.{append_assoc}
use Rattle.std.proofs.Math.Nat.{mul-le-mul_right}
use mathlib.Core.List.{IsPrefix, IsSuffix}
use Rattle.block_record.specs.declared.blocks.Slip.{Slip}
use Rattle.block_record.specs.Ids.{same_id}
use Rattle.chain_model.specs.Ancestry.{has_id, IsHistory}
use Rattle.chain_model.specs.Finality.{final_tip, final_ancestry, ClaimsAgree}
use Rattle.chain_laws.proofs.public.Growth.{IsFound, all_weaker, grows_by_many}
use Rattle.chain_laws.proofs.public.Reach.{line_found}
use Rattle.chain_laws.proofs.public.Meeting.{finals_line}
use Rattle.relay_model.specs.declared.answers.Conflict.{Conflict as Clash}
use Rattle.relay_model.specs.Worlds.{World, next_waiting}
use Rattle.relay_model.specs.Offers.{Intake, take_one, take_judged, take_in, intake, clash, tip_num, judge, world_by, offered}
use Rattle.relay_model.specs.Verdicts.{Verdict}
use Rattle.relay_model.specs.Verdicts as verdict
use Rattle.relay_model.specs.Soundness.{IsSound}
use Rattle.relay_model.proofs.public.Intakes.{all_filter}
use Rattle.relay_model.proofs.public.Judged.{stored_by}
use Rattle.relay_model.proofs.public.Sound.{offer_keeps, offer_grows, lacks_parts}
use Rattle.bundle_model.specs.Members.{Among}
use Rattle.bundle_model.specs.Bundles.{Bundle, bundles_of, blocks_of, finals_up, base_of, is_within, IsDue}
use Rattle.bundle_model.specs.Plans.{stored_slips, is_stored, at_places, is_dead}
use Rattle.bundle_model.proofs.public.MemberFacts.{among_all, all_among, among_left, among_right, among_parts, among_filter, filter_among, among_map, map_among, among_suffix, reverse_among, all_front, among_prefix}
use Rattle.bundle_model.proofs.public.Climbs.{ltb_no, tip_line}
use Rattle.bundle_model.proofs.public.BundleFacts.{bundles_grow, bundles_are_due, finals_climb, div_mono, base_is, bundles_are_front}
use Rattle.bundle_model.proofs.public.PlanFacts.{find_first, BasesRise, bundles_rise, rise_parts, IsBundlePlan, IsPlan, plan_is, planned_there, at_places_among}
use Rattle.store_model.specs.Shown.{Single, Shown, slips, IsSingle, IsMerged, IsShown, IsPassed}
use Rattle.store_model.specs.Kept.{IsKeeping, IsStoredFinal, IsStoredFork}
use Rattle.store_model.specs.Steps.{without_single, without_one, with_bundle, with_merged}
use Rattle.store_model.specs.StepLaws.{OfferStaysKept, NoteStaysKept, SweepKeeps, RemovalKeeps, DeadArePassed, BundleKeeps, BundleShows, ShedKeeps}
use Rattle.store_model.proofs.PassedFacts.{passed_later, at_tip}
use Rattle.store_model.proofs.RoundFacts.{offer_each}
use Rattle.store_model.proofs.public.ReloadFacts.{prefix_both}
use Rattle.bundle_model.specs.Shedding.{is_reached, may_sweep, shed}
use Rattle.bundle_model.proofs.public.RetainedFacts.{id_there}
use Rattle.bundle_model.proofs.public.StoredFacts.{found_is_among, one_of_id, stored_of, after_only}

-- a shelf that shows more
pub record IsMore (shown more : Shown) (w : World) : Type 0 where
  pub bundles : IsPrefix more.merged (bundles_of more.size w.history)
  pub merged : (s : Slip) → IsMerged shown s → IsMerged more s
  pub single : (s : Slip) → IsSingle shown s → IsSingle more s
  pub forked : (s : Slip) → Among (slips shown.forked) s → Among (slips more.forked) s
  pub passed : AllByRecursion (IsPassed w.history) (slips more.forked)

-- the same, of the blocks that are held alone
pub record IsMoreHeld (shown more : Shown) (w : World) : Type 0 where
  pub bundles : IsPrefix more.merged (bundles_of more.size w.history)
  pub merged : (s : Slip) → IsMerged shown s → IsMerged more s
  pub single : (s : Slip) → Among w.history s ⊎ Among w.waiting s → IsSingle shown s → IsSingle more s
  pub forked : (s : Slip) → Among w.history s → Among (slips shown.forked) s → Among (slips more.forked) s
  pub passed : AllByRecursion (IsPassed w.history) (slips more.forked)

pub keeps_held : (shown more : Shown) (w : World) → IsKeeping shown w → IsMoreHeld shown more w → IsKeeping more w
keeps_held shown more w k m = record {
  keeps = record {
    bundles = m.bundles;
    history = all_among (IsShown more) w.history (λ s h. elim (among_all (IsShown shown) w.history k.keeps.history s h) [ inl a ↦ inl (m.merged s a) | inr b ↦ inr (m.single s (inl h) b) ]);
    waiting = all_among (IsSingle more) w.waiting (λ s h. m.single s (inr h) (among_all (IsSingle shown) w.waiting k.keeps.waiting s h));
    forked = m.passed;
  };
  stored = all_among (λ s. IsStoredFinal more w.history s ⊎ IsStoredFork more w.history s) (stored_slips w)
      (λ s h. elim (among_all (λ x. IsStoredFinal shown w.history x ⊎ IsStoredFork shown w.history x) (stored_slips w) k.stored s h) [
        | inl a ↦ inl (record { final = a.final; merged = m.merged s a.merged })
        | inr b ↦ inr (record { passed = b.passed; there = m.forked s (at_places_among w.stored w.history s h) b.there })
      ]);
}

pub keeps_more : (shown more : Shown) (w : World) → IsKeeping shown w → IsMore shown more w → IsKeeping more w
keeps_more shown more w k m =
    keeps_held shown more w k (record { bundles = m.bundles; merged = m.merged; single = λ s held h. m.single s h; forked = λ s held h. m.forked s h; passed = m.passed })

pub note_stays_kept : NoteStaysKept
note_stays_kept shown w v h r p k =
    let stored : stored_slips v ≡ stored_slips w = ap (λ (places : List ℕ). at_places places v.history) p ∙ ap (at_places w.stored) h in
    record {
      keeps = record {
        bundles = rw h k.keeps.bundles;
        history = rw h k.keeps.history;
        waiting = rw r k.keeps.waiting;
        forked = subst (λ (l : List Slip). AllByRecursion (IsPassed l) (slips shown.forked)) (sym h) k.keeps.forked;
      };
      stored = subst (λ (l : List Slip). AllByRecursion (λ s. IsStoredFinal shown v.history s ⊎ IsStoredFork shown v.history s) l) (sym stored)
          (subst (λ (l : List Slip). AllByRecursion (λ s. IsStoredFinal shown l s ⊎ IsStoredFork shown l s) (stored_slips w)) (sym h) k.stored);
    }

-- waiting blocks are from the room
judged_waits : (P : Slip → Type 0) (d : Intake) (s : Slip) → AllByRecursion P d.waiting → (o : Option Clash) → AllByRecursion P (take_judged d s o).waiting
judged_waits P d s e None = all_filter P (λ t. not (same_id t.id s.id)) d.waiting e
judged_waits P d s e (Some c) = all_filter P (λ t. not (same_id t.id s.id)) d.waiting e

one_waits : (P : Slip → Type 0) (d : Intake) → AllByRecursion P d.waiting → (o : Option Slip) → AllByRecursion P (take_one d o).waiting
one_waits P d e None = e
one_waits P d e (Some s) = judged_waits P d s e (clash d.history s)

take_waits : (P : Slip → Type 0) (n : ℕ) (d : Intake) → AllByRecursion P d.waiting → AllByRecursion P (take_in n d).waiting
take_waits P zero d e = e
take_waits P (suc n) d e = take_waits P n (take_one d (next_waiting d.history d.waiting)) (one_waits P d e (next_waiting d.history d.waiting))

waits_by : (P : Slip → Type 0) (w : World) (s : Slip) → P s → AllByRecursion P w.waiting → (v : Verdict) → AllByRecursion P (world_by w s v).waiting
waits_by P w s p e verdict.Closed = e
waits_by P w s p e verdict.Duplicate = e
waits_by P w s p e (verdict.Conflict c) = e
waits_by P w s p e verdict.Early = e
waits_by P w s p e verdict.Stale = e
waits_by P w s p e verdict.WaitFull = e
waits_by P w s p e verdict.Waiting = (p, e)
waits_by P w s p e (verdict.HistoryFull need) = e
waits_by P w s p e verdict.Admitted =
    all_filter P (λ x. ltb (tip_num (intake w s).history) x.num) (intake w s).waiting
    (take_waits P (length w.waiting) (record { history = s ∷ w.history; waiting = w.waiting; dropped = [] }) e)

-- places that stand in a history stand in a longer one
places_stay : (places : List ℕ) (more xs : List Slip) → AllByRecursion (λ at. at < length xs) places → at_places places (more ++ xs) ≡ at_places places xs
places_stay places [] xs all = refl
places_stay places (m ∷ more) xs all =
    let none : list_any (λ n. eqb n (length (more ++ xs))) places ≡ false = none_at (length (more ++ xs)) (length-append more xs) places all in
    rw none (places_stay places more xs all)
  where
    none_at : (n : ℕ) → n ≡ length more + length xs → (ps : List ℕ) → AllByRecursion (λ at. at < length xs) ps → list_any (λ k. eqb k n) ps ≡ false
    none_at n e [] a = refl
    none_at n e (k ∷ ps) a =
        let less : k < length xs = a.0 in
        let other : eqb k n ≡ false = false_from_ne_true _ (λ h. let same = eqb-true k n h in omega (arith, same, less, e)) in
        rw (other, none_at n e ps a.1) refl

-- a longer history with the same stored places
pub record IsLonger (w v : World) : Type 0 where
  pub more : List Slip
  pub grown : more ++ w.history ≡ v.history
  pub stored : v.stored ≡ w.stored

pub stored_stay : (w v : World) → IsLonger w v → IsSound w → stored_slips v ≡ stored_slips w
stored_stay w v l sound = ap (λ (ps : List ℕ). at_places ps v.history) l.stored ∙ ap (at_places w.stored) (sym l.grown) ∙ places_stay w.stored l.more w.history sound.stored

pub finals_longer : (w v : World) → IsLonger w v → IsSound v → IsSuffix (final_ancestry w.history) (final_ancestry v.history)
finals_longer w v l sound =
    subst (λ (h : List Slip). IsSuffix (final_ancestry w.history) (final_ancestry h)) l.grown
    (grows_by_many l.more w.history (subst IsHistory (sym l.grown) sound.history) (subst ClaimsAgree (sym l.grown) sound.agreed))

stored_later : (shown : Shown) (older newer : List Slip) → IsHistory older → IsHistory newer → IsSuffix (final_ancestry older) (final_ancestry newer) → (s : Slip)
    → IsStoredFinal shown older s ⊎ IsStoredFork shown older s → IsStoredFinal shown newer s ⊎ IsStoredFork shown newer s
stored_later shown older newer ho hn h s (inl a) = inl (record { final = among_suffix _ _ h s a.final; merged = a.merged })
stored_later shown older newer ho hn h s (inr b) = inr (record { passed = passed_later older newer ho hn h s b.passed; there = b.there })

keeps_longer : (shown : Shown) (w v : World) → 0 < shown.size → IsSound w → IsSound v → IsLonger w v → AllByRecursion (IsShown shown) v.history → AllByRecursion (IsSingle shown) v.waiting → IsKeeping shown w → IsKeeping shown v
keeps_longer shown w v some sw sv l history waiting k =
    let h = finals_longer w v l sv in
    record {
      keeps = record {
        bundles = prefix_both _ _ _ k.keeps.bundles (bundles_grow shown.size w.history v.history some sw.history sv.history h);
        history = history;
        waiting = waiting;
        forked = all_weaker (IsPassed w.history) (IsPassed v.history) (passed_later w.history v.history sw.history sv.history h) (slips shown.forked) k.keeps.forked;
      };
      stored = subst (λ (xs : List Slip). AllByRecursion (λ s. IsStoredFinal shown v.history s ⊎ IsStoredFork shown v.history s) xs) (sym (stored_stay w v l sw))
          (all_weaker (λ s. IsStoredFinal shown w.history s ⊎ IsStoredFork shown w.history s) (λ s. IsStoredFinal shown v.history s ⊎ IsStoredFork shown v.history s)
          (stored_later shown w.history v.history sw.history sv.history h) (stored_slips w) k.stored);
    }

pub offer_stays_kept : OfferStaysKept
offer_stays_kept shown w s some sound block single k =
    let g = offer_grows w s in
    let each = offer_each (IsShown shown) w s (inr single) (record { history = k.keeps.history; waiting = all_weaker (IsSingle shown) (IsShown shown) (λ x h. inr h) w.waiting k.keeps.waiting }) in
    keeps_longer shown w (offered w s).world some sound (offer_keeps w s sound block) (record { more = g.0; grown = g.1; stored = stored_by w s (judge w s) })
    each.history (waits_by (IsSingle shown) w s single k.keeps.waiting (judge w s)) k

-- the blocks that a removal may leave unshown
record Removed (name : List ℕ) (files : List Single) (s : Slip) : Type 0 where
  file : Single
  there : Among files file
  named : bytes_eq file.name name ≡ true
  slip_is : file.slip ≡ s

removed_or : (name : List ℕ) (files : List Single) (s : Slip) → Among (slips files) s → Among (slips (without_single name files)) s ⊎ Removed name files s
removed_or name files s h =
    let f = map_among (λ (file : Single). file.slip) files s h in
    elim (cases_Bool (bytes_eq f.0.name name)) [
      | inl same ↦ inr (record { file = f.0; there = f.1; named = same; slip_is = f.2 })
      | inr other ↦
          let kept = among_filter (λ (file : Single). not (bytes_eq file.name name)) files f.0 f.1 (ap not other) in
          inl (subst (Among (slips (without_single name files))) f.2 (among_map (λ (file : Single). file.slip) (without_single name files) f.0 kept))
    ]

keeps_less : (shown : Shown) (w : World) (name : List ℕ) → IsKeeping shown w → ((s : Slip) → Among w.history s → Removed name shown.one s → IsShown (without_one name shown) s)
    → ((s : Slip) → Among w.waiting s → Removed name shown.one s → IsSingle (without_one name shown) s) → IsKeeping (without_one name shown) w
keeps_less shown w name k f g = record {
  keeps = record {
    bundles = k.keeps.bundles;
    history = all_among (IsShown (without_one name shown)) w.history (λ s h. elim (among_all (IsShown shown) w.history k.keeps.history s h) [
      | inl a ↦ inl a
      | inr b ↦ elim b [
        | inl one ↦ elim (removed_or name shown.one s one) [ inl kept ↦ inr (inl kept) | inr gone ↦ f s h gone ]
        | inr fork ↦ inr (inr fork)
      ]
    ]);
    waiting = all_among (IsSingle (without_one name shown)) w.waiting (λ s h. elim (among_all (IsSingle shown) w.waiting k.keeps.waiting s h) [
      | inl one ↦ elim (removed_or name shown.one s one) [ inl kept ↦ inl kept | inr gone ↦ g s h gone ]
      | inr fork ↦ inr fork
    ]);
    forked = k.keeps.forked;
  };
  stored = all_weaker (λ s. IsStoredFinal shown w.history s ⊎ IsStoredFork shown w.history s) (λ s. IsStoredFinal (without_one name shown) w.history s ⊎ IsStoredFork (without_one name shown) w.history s)
      (λ s h. elim h [ inl a ↦ inl (record { final = a.final; merged = a.merged }) | inr b ↦ inr (record { passed = b.passed; there = b.there }) ]) (stored_slips w) k.stored;
}

pub removal_keeps : RemovalKeeps
removal_keeps shown w name apart k =
    keeps_less shown w name k
    (λ s h gone. absurd ((away s gone).0 h))
    (λ s h gone. absurd ((away s gone).1 h))
  where
    away : (s : Slip) → Removed name shown.one s → (Among w.history s → ⊥) × (Among w.waiting s → ⊥)
    away s gone = subst (λ (x : Slip). (Among w.history x → ⊥) × (Among w.waiting x → ⊥)) gone.slip_is
        (among_all (λ file. bytes_eq file.name name ≡ true → (Among w.history file.slip → ⊥) × (Among w.waiting file.slip → ⊥)) shown.one apart gone.file gone.there gone.named)

pub sweep_keeps : SweepKeeps
sweep_keeps shown w name sound may k = keeps_less shown w name k of_history of_waiting
  where
    swept : (s : Slip) → Removed name shown.one s → may_sweep w s.num s.id ≡ true
    swept s gone = subst (λ (x : Slip). may_sweep w x.num x.id ≡ true) gone.slip_is (among_all (λ file. bytes_eq file.name name ≡ true → may_sweep w file.slip.num file.slip.id ≡ true) shown.one may gone.file gone.there gone.named)

    nowhere : (s : Slip) → (not (has_id (w.waiting ++ w.history) s.id) && is_reached (final_tip w.history) s.num) ≡ true → (has_id w.waiting s.id ≡ false) × (has_id w.history s.id ≡ false)
    nowhere s e =
        let p = (and_parts (not (has_id (w.waiting ++ w.history) s.id)) (is_reached (final_tip w.history) s.num) e).0 in
        let lacks : has_id (w.waiting ++ w.history) s.id ≡ false = false_from_ne_true _ (λ there. both_ways _ (ap not there) p) in
        lacks_parts w.waiting w.history s.id lacks

    of_history : (s : Slip) → Among w.history s → Removed name shown.one s → IsShown (without_one name shown) s
    of_history s h gone =
        elim (or_cases (is_stored w s) (not (has_id (w.waiting ++ w.history) s.id) && is_reached (final_tip w.history) s.num) (swept s gone)) [
          | inl stored ↦
              let p = stored_of w s stored in
              let one : p.0 ≡ s = one_of_id w.history sound.history p.0 s (at_places_among w.stored w.history p.0 p.1) h p.2 in
              elim (among_all (λ x. IsStoredFinal shown w.history x ⊎ IsStoredFork shown w.history x) (stored_slips w) k.stored p.0 p.1) [
                | inl a ↦ inl (subst (IsMerged shown) one a.merged)
                | inr b ↦ inr (inr (subst (Among (slips shown.forked)) one b.there))
              ]
          | inr none ↦ absurd (both_ways _ (nowhere s none).1 (id_there w.history s h))
        ]

    of_waiting : (s : Slip) → Among w.waiting s → Removed name shown.one s → IsSingle (without_one name shown) s
    of_waiting s h gone =
        elim (or_cases (is_stored w s) (not (has_id (w.waiting ++ w.history) s.id) && is_reached (final_tip w.history) s.num) (swept s gone)) [
          | inl stored ↦
              let p = stored_of w s stored in
              let there : has_id w.history s.id ≡ true = subst (λ (i : List ℕ). has_id w.history i ≡ true) p.2 (id_there w.history p.0 (at_places_among w.stored w.history p.0 p.1)) in
              absurd (both_ways _ (among_all (λ x. has_id w.history x.id ≡ false) w.waiting sound.apart s h) there)
          | inr none ↦ absurd (both_ways _ (nowhere s none).0 (id_there w.waiting s h))
        ]

-- the dead blocks of a plan
pub dead_are_passed : DeadArePassed
dead_are_passed w plan sound e =
    let p = plan_is w plan e in
    all_among (IsPassed w.history) plan.dead (λ s h. passed s p (filter_among (is_dead w plan.below) (reverse w.history) s (subst (λ (l : List Slip). Among l s) p.dead h)))
  where
    passed : (s : Slip) → IsPlan w plan → Among (reverse w.history) s × (is_dead w plan.below s ≡ true) → IsPassed w.history s
    passed s p f =
        let parts = and_parts (not (has_id (final_ancestry w.history) s.id) && ltb s.num plan.below) (not (is_stored w s)) f.1 in
        let both = and_parts (not (has_id (final_ancestry w.history) s.id)) (ltb s.num plan.below) parts.0 in
        let less = ltb-true s.num plan.below both.1 in
        let reached = p.reached in
        elim (tip_line w.history sound.history) [
          | inl none ↦ absurd (subst (λ (l : List Slip). Among l s) none.none (reverse_among w.history s f.0))
          | inr t ↦ record {
            off = λ a. both_ways _ (ap not (id_there (final_ancestry w.history) s a)) both.0;
            low = at_tip w.history t s.num (omega (arith, less, reached));
          }
        ]

-- a bundle put in its place: one that is there, or the next one
put_there : (b : Bundle) (bundles : List Bundle) → BasesRise bundles → Among bundles b → with_bundle b bundles ≡ bundles
put_there b [] r h = absurd h
put_there b (c ∷ rest) r (inl e) =
    let n1 = ltb_no c.base b.base (omega (arith, ap (λ (x : Bundle). x.base) e)) in
    let n2 = eq-eqb c.base b.base (ap (λ (x : Bundle). x.base) e) in
    rw (n1, n2) (ap (λ (x : Bundle). x ∷ rest) (sym e))
put_there b (c ∷ rest) r (inr h) =
    let less = lt-ltb c.base b.base (among_all (λ x. c.base < x.base) rest r.0 b h) in
    rw less (ap (λ l. c ∷ l) (put_there b rest r.1 h))

put_next : (b : Bundle) (bundles : List Bundle) → ((c : Bundle) → Among bundles c → c.base < b.base) → with_bundle b bundles ≡ bundles ++ b ∷ []
put_next b [] f = refl
put_next b (c ∷ rest) f =
    let less = lt-ltb c.base b.base (f c (inl refl)) in
    rw less (ap (λ l. c ∷ l) (put_next b rest (λ d h. f d (inr h))))

-- the files and the bundle that is put among them
record IsPutTo (bundles all : List Bundle) (after : List Bundle) : Type 0 where
  prefix : IsPrefix after all
  keeps : (c : Bundle) → Among bundles c → Among after c

rise_front : (xs ys : List Bundle) → BasesRise (xs ++ ys) → BasesRise xs
rise_front [] ys r = tt
rise_front (x ∷ xs) ys r = (all_front (λ c. x.base < c.base) xs ys r.0, rise_front xs ys r.1)

put_bundle : (b : Bundle) (bundles more : List Bundle) → BasesRise (bundles ++ more) → Among (bundles ++ more) b → ((c : Bundle) (rest : List Bundle) → more ≡ c ∷ rest → Among rest b → ⊥) → IsPutTo bundles (bundles ++ more) (with_bundle b bundles)
put_bundle b bundles more r h next =
    elim (among_parts bundles more b h) [
      | inl there ↦
          let e = put_there b bundles (rise_front bundles more r) there in
          record { prefix = rw e (more, refl); keeps = λ c k. rw e k }
      | inr ahead ↦ go more refl ahead
    ]
  where
    go : (m : List Bundle) → more ≡ m → Among m b → IsPutTo bundles (bundles ++ more) (with_bundle b bundles)
    go [] e k = absurd k
    go (c ∷ rest) e (inl same) =
        let below = λ (d : Bundle) (k : Among bundles d). rise_parts bundles more r d b k (subst (λ (l : List Bundle). Among l b) (sym e) (inl same)) in
        let is = put_next b bundles below in
        let list : bundles ++ b ∷ [] ++ rest ≡ bundles ++ more = append_assoc bundles (b ∷ []) rest ∙ ap (λ (x : Bundle). bundles ++ x ∷ rest) (sym same) ∙ ap (λ l. bundles ++ l) (sym e) in
        record { prefix = rw is (rest, list); keeps = λ d k. rw is (among_left bundles (b ∷ []) d k) }
    go (c ∷ rest) e (inr later) = absurd (next c rest e later)

-- a lower base has lower numbers
pub nums_below : (size a b : ℕ) → 0 < size → ((b ≤ a) → base_of size b ≤ base_of size a → ⊥) → a < b
nums_below size a b some f =
    elim (cases_lt a b) [
      | inl less ↦ less
      | inr more ↦
          let m = mul-le-mul_right {m = b / size} {n = a / size} size (div_mono size b a some more) in
          absurd (f more (omega (arith, m, base_is size a, base_is size b)))
    ]

pub bundle_keeps : BundleKeeps
bundle_keeps shown w plan s rest some sized sound k e finals = keeps_more shown (with_merged b shown) w k (record {
  bundles = subst (IsPrefix (with_bundle b shown.merged)) k.keeps.bundles.1 put.prefix;
  merged = λ x h. record { bundle = h.bundle; there = put.keeps h.bundle h.there; based = h.based; has = h.has };
  single = λ x h. h;
  forked = λ x h. h;
  passed = k.keeps.forked;
})
  where
    b : Bundle
    b = record { base = plan.base; blocks = plan.finals }

    is : IsPlan w plan
    is = plan_is w plan e

    more : List Bundle
    more = k.keeps.bundles.0

    whole : shown.merged ++ more ≡ bundles_of w.size w.history
    whole = k.keeps.bundles.1 ∙ ap (λ (n : ℕ). bundles_of n w.history) sized

    rises : BasesRise (shown.merged ++ more)
    rises = subst BasesRise (sym whole) (bundles_rise w.size w.history some)

    planned : (IsPlan w plan → plan.finals ≡ [] → ⊥) → IsBundlePlan w plan
    planned no' = elim is.finals [ inl none ↦ absurd (no' is none) | inr p ↦ p ]

    filled : plan.finals ≡ [] → ⊥
    filled none = let c : s ∷ rest ≡ [] = sym finals ∙ none in grind (arith, c)

    p : IsBundlePlan w plan
    p = planned (λ i none. filled none)

    there : Among (shown.merged ++ more) b
    there = subst (λ (l : List Bundle). Among l b) (sym whole) (planned_there w plan some sound.history is p)

    -- a bundle between the files and the plan's would be stored, and so among the files
    next : (c : Bundle) (later : List Bundle) → more ≡ c ∷ later → Among later b → ⊥
    next c later cut h =
        let in' : Among (shown.merged ++ more) c = among_right shown.merged more c (subst (λ (l : List Bundle). Among l c) (sym cut) (inl refl)) in
        let due = among_all (IsDue w.size w.history) (bundles_of w.size w.history) (bundles_are_due w.size w.history some) c (subst (λ (l : List Bundle). Among l c) whole in') in
        let y = due.first in
        let own : Among c.blocks y = subst (λ (l : List Slip). Among l y) (sym due.some) (inl refl) in
        let based : base_of w.size y.num ≡ c.base = among_all (λ t. base_of w.size t.num ≡ c.base) c.blocks due.within y own in
        let below : c.base < b.base = front c later cut h in
        let final : Among (finals_up w.history) y = up c (subst (λ (l : List Bundle). Among l c) whole in') y own in
        let stored = low y (base_below y c based below) final in
        kept c later cut y based final stored
      where
        front : (d : Bundle) (ds : List Bundle) → more ≡ d ∷ ds → Among ds b → d.base < b.base
        front d ds cut' g = rise_parts (shown.merged ++ d ∷ []) ds (subst BasesRise (ap (λ l. shown.merged ++ l) cut' ∙ sym (append_assoc shown.merged (d ∷ []) ds)) rises) d b (among_right shown.merged (d ∷ []) d (inl refl)) g

        up : (d : Bundle) → Among (bundles_of w.size w.history) d → (x : Slip) → Among d.blocks x → Among (finals_up w.history) x
        up d g x a =
            among_prefix _ _ (bundles_are_front w.size w.history some sound.history) x (blocks_have (bundles_of w.size w.history) d g x a)
          where
            blocks_have : (bs : List Bundle) (q : Bundle) → Among bs q → (z : Slip) → Among q.blocks z → Among (blocks_of bs) z
            blocks_have [] q g' z a' = absurd g'
            blocks_have (r ∷ bs) q (inl same) z a' = among_left r.blocks (blocks_of bs) z (subst (λ (o : Bundle). Among o.blocks z) (sym same) a')
            blocks_have (r ∷ bs) q (inr g') z a' = among_right r.blocks (blocks_of bs) z (blocks_have bs q g' z a')

        base_below : (y : Slip) (d : Bundle) → base_of w.size y.num ≡ d.base → d.base < b.base → y.num < p.first.num
        base_below y d based below = nums_below w.size y.num p.first.num some (λ more' le. omega (arith, le, based, below, p.base))

        low : (y : Slip) → y.num < p.first.num → Among (finals_up w.history) y → is_stored w y ≡ true
        low y less final =
            let f = find_first (λ t. not (is_stored w t)) (finals_up w.history) (finals_climb w.history sound.history) p.first p.first_is in
            not_false (is_stored w y) (f.below y final less)
          where
            not_false : (t : Bool) → not t ≡ false → t ≡ true
            not_false true h' = refl
            not_false false h' = absurd (both_ways _ h' refl)

        kept : (d : Bundle) (ds : List Bundle) → more ≡ d ∷ ds → (y : Slip) → base_of w.size y.num ≡ d.base → Among (finals_up w.history) y → is_stored w y ≡ true → ⊥
        kept d ds cut' y based final stored =
            let q = stored_of w y stored in
            let fy = among_all (IsFound w.history) (final_ancestry w.history) (line_found w.history sound.history (final_ancestry w.history) (finals_line w.history sound.history)) y (reverse_among (final_ancestry w.history) y final) in
            let one : q.0 ≡ y = one_of_id w.history sound.history q.0 y (at_places_among w.stored w.history q.0 q.1) (found_is_among w.history y fy) q.2 in
            elim (among_all (λ x. IsStoredFinal shown w.history x ⊎ IsStoredFork shown w.history x) (stored_slips w) k.stored q.0 q.1) [
              | inl a ↦
                  let m = subst (IsMerged shown) one a.merged in
                  let less = rise_parts shown.merged more rises m.bundle d m.there (subst (λ (l : List Bundle). Among l d) (sym cut') (inl refl)) in
                  let at : m.bundle.base ≡ base_of w.size y.num = m.based ∙ ap (λ (n : ℕ). base_of n y.num) sized in
                  absurd (omega (arith, less, at, based))
              | inr f ↦ absurd (f.passed.off (subst (λ (x : Slip). Among (final_ancestry w.history) x) (sym one) (reverse_among (final_ancestry w.history) y final)))
            ]

    put : IsPutTo shown.merged (shown.merged ++ more) (with_bundle b shown.merged)
    put = put_bundle b shown.merged more rises there next

pub bundle_there : (b : Bundle) (bundles : List Bundle) → Among (with_bundle b bundles) b
bundle_there b [] = inl refl
bundle_there b (c ∷ rest) = go (ltb c.base b.base) (eqb c.base b.base) (bundle_there b rest)
  where
    go : (t u : Bool) → Among (with_bundle b rest) b → Among (cond t (c ∷ with_bundle b rest) (cond u (b ∷ rest) (b ∷ c ∷ rest))) b
    go true u ih = inr ih
    go false true ih = inl refl
    go false false ih = inl refl

pub bundle_shows : BundleShows
bundle_shows shown w plan s rest some sized sound e finals = all_among (IsStoredFinal (with_merged b shown) w.history) plan.finals each
  where
    b : Bundle
    b = record { base = plan.base; blocks = plan.finals }

    is : IsPlan w plan
    is = plan_is w plan e

    pick : (plan.finals ≡ [] → ⊥) → IsBundlePlan w plan
    pick no' = elim is.finals [ inl none ↦ absurd (no' none) | inr p ↦ p ]

    filled : plan.finals ≡ [] → ⊥
    filled none = let c : s ∷ rest ≡ [] = sym finals ∙ none in grind (arith, c)

    p : IsBundlePlan w plan
    p = pick filled

    due : IsDue w.size w.history b
    due = among_all (IsDue w.size w.history) (bundles_of w.size w.history) (bundles_are_due w.size w.history some) b (planned_there w plan some sound.history is p)

    each : (x : Slip) → Among plan.finals x → IsStoredFinal (with_merged b shown) w.history x
    each x h =
        let f = filter_among (is_within w.size plan.base) (finals_up w.history) x (subst (λ (l : List Slip). Among l x) p.finals h) in
        record {
          final = reverse_among (final_ancestry w.history) x f.0;
          merged = record { bundle = b; there = bundle_there b shown.merged; based = sym (among_all (λ t. base_of w.size t.num ≡ plan.base) plan.finals due.within x h) ∙ ap (λ (n : ℕ). base_of n x.num) (sym sized); has = h };
        }

pub shed_keeps : ShedKeeps
shed_keeps shown w plan finals dead k = record {
  keeps = record { bundles = k.keeps.bundles; history = k.keeps.history; waiting = k.keeps.waiting; forked = k.keeps.forked };
  stored = all_among (λ s. IsStoredFinal shown w.history s ⊎ IsStoredFork shown w.history s) (stored_slips (shed w plan)) each;
}
  where
    each : (s : Slip) → Among (stored_slips (shed w plan)) s → IsStoredFinal shown w.history s ⊎ IsStoredFork shown w.history s
    each s h =
        elim (after_only w.history w.stored (plan.finals ++ plan.dead) s h) [
          | inl old ↦ among_all (λ x. IsStoredFinal shown w.history x ⊎ IsStoredFork shown w.history x) (stored_slips w) k.stored s old
          | inr planned ↦ elim (among_parts plan.finals plan.dead s planned) [
            | inl a ↦ inl (among_all (IsStoredFinal shown w.history) plan.finals finals s a)
            | inr b ↦ inr (among_all (IsStoredFork shown w.history) plan.dead dead s b)
          ]
        ]
