-- What is known of the stored blocks, as blocks are offered and plans are shed.
use Rattle.std.proofs.Common.{arith, ◌≡◌, ◌<◌, ◌⊎◌, inl, inr, ℕ, true, not, List, ◌++◌, refl, sym, ◌∙◌, ap, subst, ltb}
use Rattle.std.proofs.lemmas.Bool.{and_parts, both_ways, ltb-true, lt-ltb}
use mathlib.Core.List.{IsPrefix}
use Rattle.block_record.specs.declared.blocks.Slip.{Slip}
use Rattle.chain_model.specs.Ancestry.{has_id}
use Rattle.chain_model.specs.Finality.{final_ancestry}
use Rattle.relay_model.specs.Worlds.{World}
use Rattle.relay_model.specs.Offers.{judge, offered}
use Rattle.relay_model.specs.Soundness.{IsSound}
use Rattle.relay_model.proofs.public.Sound.{offer_keeps, offer_grows}
use Rattle.bundle_model.specs.Members.{Among}
use Rattle.bundle_model.specs.Bundles.{bundles_of, blocks_of, IsDue}
use Rattle.bundle_model.specs.Plans.{is_stored, stored_slips}
use Rattle.bundle_model.specs.Retained.{last_end, is_bundled, is_passed_by}
use Rattle.bundle_model.proofs.public.MemberFacts.{among_all, among_prefix, among_right, reverse_among, among_left}
use Rattle.bundle_model.proofs.public.Climbs.{tip_line}
use Rattle.bundle_model.proofs.public.BundleFacts.{bundles_grow, bundles_are_due, blocks_append, bundles_are_front}
use Rattle.bundle_model.proofs.public.PlanFacts.{bundles_rise, at_places_among}
use Rattle.bundle_model.proofs.public.DoneFacts.{off_path}
use Rattle.bundle_model.proofs.public.RetainedFacts.{any_is, id_there, last_bundle, in_end}
use Rattle.store_model.specs.Shown.{Shown, IsPassed}
use Rattle.store_model.specs.Kept.{IsKeeping, IsStoredFinal, IsStoredFork}
use Rattle.store_model.proofs.PassedFacts.{passed_later, at_tip}
use Rattle.store_model.proofs.public.ReloadFacts.{prefix_both}
use Rattle.relay_model.proofs.public.Judged.{stored_by}
use Rattle.store_model.proofs.public.StepFacts.{IsLonger, stored_stay, finals_longer}
use Rattle.store_model.proofs.SizeFacts.{offer_size}
use Rattle.bundle_model.proofs.public.StoredFacts.{found_is_among, among_any, final_found, one_of_id, stored_of}
use Rattle.store_model.specs.StoredLaws.{StoredAreSettled, SettledBy, OfferKeepsFront, OfferKeepsOwn}

-- a block that was stored, of the history before it grew
record IsOlder (w : World) (s : Slip) : Type 0 where
  there : Among w.history s
  stored : is_stored w s ≡ true

stored_older : (w v : World) → IsSound w → IsSound v → IsLonger w v → (s : Slip) → Among v.history s → is_stored v s ≡ true → IsOlder w s
stored_older w v before sound l s h e =
    let same = stored_stay w v l before in
    let e' : is_stored w s ≡ true = subst (λ (xs : List Slip). has_id xs s.id ≡ true) same e in
    let p = stored_of w s e' in
    let older = at_places_among w.stored w.history p.0 p.1 in
    let newer : Among v.history p.0 = subst (λ (xs : List Slip). Among xs p.0) l.grown (among_right l.more w.history p.0 older) in
    let one : p.0 ≡ s = one_of_id v.history sound.history p.0 s newer h p.2 in
    record { there = subst (Among w.history) one older; stored = e' }

longer_of : (w : World) (s : Slip) → IsLonger w (offered w s).world
longer_of w s = let g = offer_grows w s in record { more = g.0; grown = g.1; stored = stored_by w s (judge w s) }

-- a block below the end of a bundle that is off the final path is passed
passed_below : (w : World) → 0 < w.size → IsSound w → (s : Slip) → Among w.history s → is_passed_by w.size w.history s ≡ true → IsPassed w.history s
passed_below w some sound s h e =
    let p = and_parts (not (has_id (final_ancestry w.history) s.id)) (ltb s.num (last_end w.size (bundles_of w.size w.history))) e in
    let b = last_bundle w.size (bundles_of w.size w.history) s.num (ltb-true _ _ p.1) in
    let due = among_all (IsDue w.size w.history) (bundles_of w.size w.history) (bundles_are_due w.size w.history some) b.0 b.1 in
    let reached = due.reached in
    elim (tip_line w.history sound.history) [
      | inl none ↦ absurd (subst (λ (l : List Slip). Among l s) none.none h)
      | inr t ↦ record {
        off = λ on. both_ways _ (ap not (id_there (final_ancestry w.history) s on)) p.0;
        low = at_tip w.history t s.num (omega (arith, b.2, reached));
      }
    ]

bundled_final : (w : World) → 0 < w.size → IsSound w → (s : Slip) → is_bundled w.size w.history s ≡ true → Among (final_ancestry w.history) s
bundled_final w some sound s e =
    let at = any_is (blocks_of (bundles_of w.size w.history)) s e in
    reverse_among (final_ancestry w.history) s (among_prefix _ _ (bundles_are_front w.size w.history some sound.history) s at)

pub settled_by : SettledBy
settled_by = record { kept = kept; own = λ w some sound own s h e. elim (own s h e) [ inl a ↦ inl (bundled_final w some sound s a) | inr b ↦ inr (passed_below w some sound s h b) ] }
  where
    kept : (shown : Shown) (w : World) → IsSound w → IsKeeping shown w → StoredAreSettled w
    kept shown w sound k s h e =
        let p = stored_of w s e in
        let one : p.0 ≡ s = one_of_id w.history sound.history p.0 s (at_places_among w.stored w.history p.0 p.1) h p.2 in
        elim (among_all (λ x. IsStoredFinal shown w.history x ⊎ IsStoredFork shown w.history x) (stored_slips w) k.stored p.0 p.1) [
          | inl a ↦ inl (subst (Among (final_ancestry w.history)) one a.final)
          | inr b ↦ inr (subst (IsPassed w.history) one b.passed)
        ]

pub offer_keeps_front : OfferKeepsFront
offer_keeps_front w s some sound block settled f =
    let v = (offered w s).world in
    let sv = offer_keeps w s sound block in
    let l = longer_of w s in
    let h = finals_longer w v l sv in
    let same = stored_stay w v l sound in
    let sized : v.size ≡ w.size = offer_size w s in
    record {
      front = f.front;
      first = subst (λ (n : ℕ). IsPrefix f.front (bundles_of n v.history)) (sym sized) (prefix_both _ _ _ f.first (bundles_grow w.size w.history v.history some sound.history sv.history h));
      stored = λ x k. subst (λ (xs : List Slip). has_id xs x.id ≡ true) (sym same) (f.stored x k);
      only = λ x final e.
          let o = stored_older w v sound sv l x (found_is_among v.history x (final_found v.history sv.history x final)) e in
          elim (settled x o.there o.stored) [
            | inl before ↦ f.only x before o.stored
            | inr passed ↦ absurd ((passed_later w.history v.history sound.history sv.history h x passed).off final)
          ];
    }

pub offer_keeps_own : OfferKeepsOwn
offer_keeps_own w s some sound block own x h e = subst (λ (n : ℕ). (is_bundled n v.history x ≡ true) ⊎ (is_passed_by n v.history x ≡ true)) (sym (offer_size w s)) (go (own x o.there o.stored))
  where
    v : World
    v = (offered w s).world

    sv : IsSound (offered w s).world
    sv = offer_keeps w s sound block

    l : IsLonger w (offered w s).world
    l = longer_of w s

    o : IsOlder w x
    o = stored_older w (offered w s).world sound sv l x h e

    grown : IsPrefix (bundles_of w.size w.history) (bundles_of w.size (offered w s).world.history)
    grown = bundles_grow w.size w.history (offered w s).world.history some sound.history sv.history (finals_longer w (offered w s).world l sv)

    go : (is_bundled w.size w.history x ≡ true) ⊎ (is_passed_by w.size w.history x ≡ true) → (is_bundled w.size (offered w s).world.history x ≡ true) ⊎ (is_passed_by w.size (offered w s).world.history x ≡ true)
    go (inl a) =
        let at = any_is (blocks_of (bundles_of w.size w.history)) x a in
        let more : Among (blocks_of (bundles_of w.size w.history) ++ blocks_of grown.0) x = among_left (blocks_of (bundles_of w.size w.history)) (blocks_of grown.0) x at in
        inl (among_any (blocks_of (bundles_of w.size (offered w s).world.history)) x (subst (λ (xs : List Slip). Among xs x) (sym (blocks_append (bundles_of w.size w.history) grown.0) ∙ ap blocks_of grown.1) more))
    go (inr b) =
        let p = and_parts (not (has_id (final_ancestry w.history) x.id)) (ltb x.num (last_end w.size (bundles_of w.size w.history))) b in
        let passed = passed_later w.history (offered w s).world.history sound.history sv.history (finals_longer w (offered w s).world l sv) x (passed_below w some sound x o.there b) in
        let c = last_bundle w.size (bundles_of w.size w.history) x.num (ltb-true _ _ p.1) in
        let up = in_end w.size (bundles_of w.size (offered w s).world.history) (bundles_rise w.size (offered w s).world.history some) c.0 (among_prefix _ _ grown c.0 c.1) in
        let less = lt-ltb x.num (last_end w.size (bundles_of w.size (offered w s).world.history)) (omega (arith, c.2, up)) in
        let away = off_path (offered w s).world.history sv.history x h passed.off in
        inr (rw (away, less) refl)
