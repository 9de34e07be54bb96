-- What the world keeps while plans are shed.
use Rattle.std.proofs.Common.{arith, ◌≡◌, ◌<◌, ℕ, inl, inr, Bool, true, false, cond, eqb, List, [], ◌∷◌, ◌++◌, length, Option, Some, None, refl, sym, ◌∙◌, IsTrue}
use Rattle.std.specs.List.{AllByRecursion, list_any}
use Rattle.std.specs.Prelude.{◌==◌}
use Rattle.std.proofs.lemmas.Bool.{eqb-true, or_cases}
use Rattle.block_record.specs.declared.blocks.Slip.{Slip}
use Rattle.one_block.specs.Files.{IsSize}
use Rattle.relay_model.specs.Soundness.{IsSound}
use Rattle.relay_model.specs.Worlds.{World}
use Rattle.bundle_model.specs.Bundles.{is_size}
use Rattle.bundle_model.specs.Laws.{IsFrontStored, IsOwnStored}
use Rattle.bundle_model.specs.Plans.{Plan}
use Rattle.bundle_model.specs.Shedding.{place_in, shed, stored_after, stored_at}
use Rattle.bundle_model.proofs.public.MergeFacts.{shed_keeps_front, shed_keeps_own}
use Rattle.bundle_model.proofs.public.StoredFacts.{place_low}
use Rattle.bundle_merger.specs.Merging.{AreNext, ChangesStored, all_shed}

place_within : (n : ℕ) (ps : List ℕ) (o : Option ℕ) → ((p : ℕ) → o ≡ Some p → p < n) → AllByRecursion (λ at. at < n) ps → AllByRecursion (λ at. at < n) (stored_at ps o)
place_within n ps None low all = all
place_within n ps (Some p) low all = go (list_any (λ m. m == p) ps)
  where
    go : (t : Bool) → AllByRecursion (λ at. at < n) (cond t ps (p ∷ ps))
    go true = all
    go false = (low p refl, all)

places_within : (xs : List Slip) (ps : List ℕ) (ts : List Slip) → AllByRecursion (λ at. at < length xs) ps → AllByRecursion (λ at. at < length xs) (stored_after xs ps ts)
places_within xs ps [] all = all
places_within xs ps (t ∷ ts) all = places_within xs (stored_at ps (place_in xs t)) ts (place_within (length xs) ps (place_in xs t) (λ p e. place_low xs t p e) all)

-- a sound world stays sound
pub shed_sound : (w : World) (plan : Plan) → IsSound w → IsSound (shed w plan)
shed_sound w plan s = record {
  history = s.history;
  agreed = s.agreed;
  kind = s.kind;
  stored = places_within w.history w.stored (plan.finals ++ plan.dead) s.stored;
  distinct = s.distinct;
  apart = s.apart;
  orphans = s.orphans;
  above = s.above;
  rises = s.rises;
}

pub all_sound : (w : World) (plans : List Plan) → IsSound w → IsSound (all_shed w plans)
all_sound w [] s = s
all_sound w (plan ∷ plans) s = all_sound (shed w plan) plans (shed_sound w plan s)

-- nothing but the stored places changes
pub shed_changes : (w : World) (plans : List Plan) → ChangesStored w (all_shed w plans)
shed_changes w [] = refl
shed_changes w (plan ∷ plans) = shed_changes (shed w plan) plans

-- the stored final blocks stay those of the first bundles
pub all_front : (w : World) (plans : List Plan) → 0 < w.size → IsSound w → AreNext w plans → IsFrontStored w → IsFrontStored (all_shed w plans)
all_front w [] some s next f = f
all_front w (plan ∷ plans) some s next f = all_front (shed w plan) plans some (shed_sound w plan s) next.1 (shed_keeps_front w plan some s.history f next.0)

-- and no others are stored than those of the relay's own plans
pub all_own : (w : World) (plans : List Plan) → 0 < w.size → IsSound w → AreNext w plans → IsOwnStored w → IsOwnStored (all_shed w plans)
all_own w [] some s next f = f
all_own w (plan ∷ plans) some s next f = all_own (shed w plan) plans some (shed_sound w plan s) next.1 (shed_keeps_own w plan some s.history f next.0)

-- a bundle covers some numbers
pub size_some : (n size : ℕ) → n ≡ size → IsTrue (is_size n) → 0 < size
size_some n size e is = elim (or_cases (eqb n 100) (eqb n 1000) is) [ inl a ↦ (let k = eqb-true n 100 a in omega (arith, e, k)) | inr b ↦ (let k = eqb-true n 1000 b in omega (arith, e, k)) ]

-- 100 or 1,000
pub one_size : (n size : ℕ) → n ≡ size → IsTrue (is_size n) → IsSize size
one_size n size e is = elim (or_cases (eqb n 100) (eqb n 1000) is) [ inl a ↦ inl (sym e ∙ eqb-true n 100 a) | inr b ↦ inr (sym e ∙ eqb-true n 1000 b) ]
