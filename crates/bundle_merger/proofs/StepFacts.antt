-- Plans that were written and shed, and then more of them.
use Rattle.std.proofs.Common.{arith, ◌≡◌, ◌≤◌, ◌<◌, ◌+◌, ℕ, List, [], ◌∷◌, ◌++◌, map, append_assoc, Bool, true, false, cond, Option, Some, None, refl, sym, ap, subst, ◌∙◌}
use Rattle.std.specs.List.{list_any}
use Rattle.std.specs.Prelude.{◌==◌}
use Rattle.std.proofs.lemmas.List.{append-nil, map-append}
use Rattle.block_record.specs.declared.blocks.Kind.{Kind as NodeKind}
use Rattle.block_record.specs.declared.blocks.Slip.{Slip}
use Rattle.outer_world.specs.Files.{Files}
use Rattle.one_block.specs.declared.faults.StoreFault.{StoreFault}
use Rattle.relay_model.specs.Chronicles.{Entry, Stored, history_of, stored_of}
use Rattle.relay_model.specs.Worlds.{World}
use Rattle.bundle_model.specs.Plans.{Plan, next_plan}
use Rattle.bundle_model.specs.Shedding.{place_in, shed}
use Rattle.block_relay.specs.Chronicle.{entry_at, shed_entries, stored_entries}
use Rattle.stored_blocks.specs.declared.plans.BundlePlan.{BundlePlan}
use Rattle.stored_blocks.specs.BundlePlans.{plan_seen}
use Rattle.bundle_merger.specs.Merging.{AddsStored, AreNext, ChangesStored, HasMerged, IsHalted, all_shed, bundle_count, files_by, files_of, has_bundle, plans_seen}
use Rattle.bundle_merger.specs.ReadBack.{AreReadBack, IsReadBack}
use Rattle.bundle_merger.specs.Writes.{IsStopped, Refuses, Writes, plan_files, told_with_all}
use Rattle.relay_model.specs.Soundness.{IsSound}
use Rattle.bundle_model.specs.Laws.{IsFrontStored, IsOwnStored}
use Rattle.bundle_merger.proofs.ShedFacts.{all_front, all_own, all_sound, shed_changes}
use Rattle.bundle_merger.proofs.WriteFacts.{refuses_later, stopped_first, told_none, told_on}

-- ---- the entries

pub adds_none : (es : List Entry) → AddsStored es es
adds_none es = ([], refl)

pub adds_on : (a b c : List Entry) → AddsStored a b → AddsStored b c → AddsStored a c
adds_on a b c p q =
    (q.0 ++ p.0, q.1 ∙ ap (λ (l : List Entry). map Stored q.0 ++ l) p.1 ∙ sym (append_assoc (map Stored q.0) (map Stored p.0) a) ∙ ap (λ (l : List Entry). l ++ a) (sym (map-append Stored q.0 p.0)))

entry_adds : (es : List Entry) (o : Option ℕ) → AddsStored es (entry_at es o)
entry_adds es None = adds_none es
entry_adds es (Some at) = go (list_any (λ n. n == at) (stored_of es))
  where
    go : (t : Bool) → AddsStored es (cond t es (Stored at ∷ es))
    go true = adds_none es
    go false = (at ∷ [], refl)

stored_adds : (newest : List Slip) (es : List Entry) (slips : List Slip) → AddsStored es (stored_entries newest es slips)
stored_adds newest es [] = adds_none es
stored_adds newest es (s ∷ rest) =
    let one = entry_at es (place_in newest s) in
    adds_on es one (stored_entries newest one rest) (entry_adds es (place_in newest s)) (stored_adds newest one rest)

pub shed_adds : (es : List Entry) (plan : Plan) → AddsStored es (shed_entries es plan)
shed_adds es plan = stored_adds (history_of es) es (plan.finals ++ plan.dead)

-- ---- the plans

next_append : (w : World) (ps qs : List Plan) → AreNext w ps → AreNext (all_shed w ps) qs → AreNext w (ps ++ qs)
next_append w [] qs a b = b
next_append w (p ∷ ps) qs a b = (a.0, next_append (shed w p) ps qs a.1 b)

shed_append : (w : World) (ps qs : List Plan) → all_shed w (ps ++ qs) ≡ all_shed (all_shed w ps) qs
shed_append w [] qs = refl
shed_append w (p ∷ ps) qs = shed_append (shed w p) ps qs

files_append : (kind : Option NodeKind) (ps qs : List BundlePlan) → files_of kind (ps ++ qs) ≡ files_of kind ps ++ files_of kind qs
files_append None ps qs = refl
files_append (Some kind) [] qs = refl
files_append (Some kind) (p ∷ ps) qs = ap (λ (l : Writes). plan_files kind p ++ l) (files_append (Some kind) ps qs) ∙ sym (append_assoc (plan_files kind p) (files_by kind ps) (files_by kind qs))

held_append : (kind : Option NodeKind) (ps qs : List BundlePlan) → AreReadBack kind ps → AreReadBack kind qs → AreReadBack kind (ps ++ qs)
held_append kind [] qs a b = b
held_append None (p ∷ ps) qs a b = absurd a
held_append (Some kind) (p ∷ ps) qs a b = (a.0, held_append (Some kind) ps qs a.1 b)

seen_append : (ps qs : List BundlePlan) → plans_seen (ps ++ qs) ≡ plans_seen ps ++ plans_seen qs
seen_append ps qs = map-append plan_seen ps qs

count_append : (ps qs : List Plan) → bundle_count (ps ++ qs) ≡ bundle_count ps + bundle_count qs
count_append [] qs = omega arith
count_append (p ∷ ps) qs = go (has_bundle p.finals) refl (count_append ps qs)
  where
    go : (t : Bool) → has_bundle p.finals ≡ t → bundle_count (ps ++ qs) ≡ bundle_count ps + bundle_count qs → bundle_count (p ∷ (ps ++ qs)) ≡ bundle_count (p ∷ ps) + bundle_count qs
    go true e more = rw e (omega (arith, more))
    go false e more = rw e more

-- a plan has one bundle at most
pub count_one : (p : Plan) → bundle_count (p ∷ []) ≤ 1
count_one p = go (has_bundle p.finals) refl
  where
    go : (t : Bool) → has_bundle p.finals ≡ t → bundle_count (p ∷ []) ≤ 1
    go true e = rw e (omega arith)
    go false e = rw e (omega arith)

pub seen_count : (ps qs : List BundlePlan) (n m : ℕ) → n ≡ bundle_count (plans_seen ps) → m ≡ bundle_count (plans_seen qs) → n + m ≡ bundle_count (plans_seen (ps ++ qs))
seen_count ps qs n m e f = let c = count_append (plans_seen ps) (plans_seen qs) in let s = ap bundle_count (seen_append ps qs) in omega (arith, c, s, e, f)

-- the kind stays
pub same_kind : (old new : World) (files now : Option Files) (plans : List BundlePlan) → HasMerged old new files now plans → new.kind ≡ old.kind
same_kind old new files now plans h = ap (λ (w : World). w.kind) h.shed ∙ ap (λ (w : World). w.kind) (shed_changes old (plans_seen plans))

-- ---- what was done

pub merged_none : (w : World) (files : Option Files) → HasMerged w w files files []
merged_none w files = record { next = tt; shed = refl; written = go w.kind; held = tt }
  where
    go : (o : Option NodeKind) → files ≡ told_with_all (files_of o []) files
    go None = told_none files
    go (Some kind) = told_none files

-- one plan
pub merged_one : (old new : World) (files now : Option Files) (plan : BundlePlan) (kind : NodeKind) → old.kind ≡ Some kind → next_plan old ≡ Some (plan_seen plan) → new ≡ shed old (plan_seen plan)
    → now ≡ told_with_all (plan_files kind plan) files → IsReadBack kind plan → HasMerged old new files now (plan ∷ [])
merged_one old new files now plan kind k next shed written held = record {
  next = (next, tt);
  shed = shed;
  written = written ∙ ap (λ (l : Writes). told_with_all l files) (sym (append-nil (plan_files kind plan)) ∙ ap (λ (o : Option NodeKind). files_of o (plan ∷ [])) (sym k));
  held = subst (λ (o : Option NodeKind). AreReadBack o (plan ∷ [])) (sym k) (held, tt);
}

-- and then more
pub merged_on : (a b c : World) (f g h : Option Files) (ps qs : List BundlePlan) → HasMerged a b f g ps → HasMerged b c g h qs → HasMerged a c f h (ps ++ qs)
merged_on a b c f g h ps qs p q =
    let k : b.kind ≡ a.kind = same_kind a b f g ps p in
    record {
      next = subst (AreNext a) (sym (seen_append ps qs)) (next_append a (plans_seen ps) (plans_seen qs) p.next (subst (λ (w : World). AreNext w (plans_seen qs)) p.shed q.next));
      shed = q.shed ∙ ap (λ (w : World). all_shed w (plans_seen qs)) p.shed ∙ sym (shed_append a (plans_seen ps) (plans_seen qs)) ∙ ap (all_shed a) (sym (seen_append ps qs));
      written = told_on (files_of a.kind ps) (files_of a.kind qs) f g h p.written (q.written ∙ ap (λ (o : Option NodeKind). told_with_all (files_of o qs) g) k)
          ∙ ap (λ (l : Writes). told_with_all l f) (sym (files_append a.kind ps qs));
      held = held_append a.kind ps qs p.held (subst (λ (o : Option NodeKind). AreReadBack o qs) k q.held);
    }

-- ---- where it stopped

pub halted_on : (a b c : World) (f g h : Option Files) (n m k : ℕ) (fault : StoreFault) (ps : List BundlePlan) → HasMerged a b f g ps → n ≤ m → IsHalted b c g h m k fault → IsHalted a c f h n k fault
halted_on a b c f g h n m k fault ps p le s = record {
  plans = ps ++ s.plans;
  between = s.between;
  done = merged_on a b c f g s.between ps s.plans p s.done;
  begun = s.begun;
  next = s.next;
  held = s.held;
  stopped = record { done = s.stopped.done; front = s.stopped.front; files = s.stopped.files; cause = refuses_later fault n m k le s.stopped.cause };
}

-- before a plan was found
pub halted_unplanned : (w : World) (files : Option Files) (n m : ℕ) (fault : StoreFault) → Refuses fault n m → IsHalted w w files files n m fault
halted_unplanned w files n m fault r = record {
  plans = [];
  between = files;
  done = merged_none w files;
  begun = None;
  next = tt;
  held = tt;
  stopped = stopped_first (files_of w.kind []) files files n m fault refl r;
}

-- at a plan
pub halted_at : (w : World) (files now : Option Files) (n m : ℕ) (fault : StoreFault) (plan : BundlePlan) (kind : NodeKind) → w.kind ≡ Some kind → next_plan w ≡ Some (plan_seen plan) → IsReadBack kind plan
    → IsStopped (plan_files kind plan) files now n m fault → IsHalted w w files now n m fault
halted_at w files now n m fault plan kind k next held s = record {
  plans = [];
  between = files;
  done = merged_none w files;
  begun = Some plan;
  next = (next, tt);
  held = subst (λ (o : Option NodeKind). AreReadBack o (plan ∷ [])) (sym k) (held, tt);
  stopped = subst (λ (l : Writes). IsStopped l files now n m fault) (sym (append-nil (plan_files kind plan)) ∙ ap (λ (o : Option NodeKind). files_of o (plan ∷ [])) (sym k)) s;
}

-- ---- what stays known

pub done_changes : (old new : World) (files now : Option Files) (plans : List BundlePlan) → HasMerged old new files now plans → ChangesStored old new
done_changes old new files now plans h = subst (ChangesStored old) (sym h.shed) (shed_changes old (plans_seen plans))

pub done_sound : (old new : World) (files now : Option Files) (plans : List BundlePlan) → IsSound old → HasMerged old new files now plans → IsSound new
done_sound old new files now plans s h = subst IsSound (sym h.shed) (all_sound old (plans_seen plans) s)

pub done_front : (old new : World) (files now : Option Files) (plans : List BundlePlan) → 0 < old.size → IsSound old → HasMerged old new files now plans → IsFrontStored old → IsFrontStored new
done_front old new files now plans some s h f = subst IsFrontStored (sym h.shed) (all_front old (plans_seen plans) some s h.next f)

pub done_own : (old new : World) (files now : Option Files) (plans : List BundlePlan) → 0 < old.size → IsSound old → HasMerged old new files now plans → IsOwnStored old → IsOwnStored new
done_own old new files now plans some s h f = subst IsOwnStored (sym h.shed) (all_own old (plans_seen plans) some s h.next f)

pub done_size : (old new : World) (files now : Option Files) (plans : List BundlePlan) → HasMerged old new files now plans → 0 < old.size → 0 < new.size
done_size old new files now plans h some = subst (λ (w : World). 0 < w.size) (sym h.shed) (subst (λ (w : World). 0 < w.size) (sym (shed_changes old (plans_seen plans))) some)
