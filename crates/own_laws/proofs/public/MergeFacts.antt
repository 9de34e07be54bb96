-- A merge writes no file of `one/`.
use Rattle.std.proofs.Common.{◌≡◌, ℕ, Bool, true, false, cond, eqb, List, [], ◌∷◌, ◌++◌, Option, Some, None, refl, sym, subst}
use Rattle.std.specs.Prelude.{codes}
use Rattle.std.specs.List.{AllByRecursion}
use Rattle.block_record.specs.declared.blocks.Block.{Block}
use Rattle.block_record.specs.declared.blocks.Kind.{Kind}
use Rattle.outer_world.specs.Files.{Files, is_in, with_file}
use Rattle.outer_world.proofs.public.FileFacts.{file_at-with_other}
use Rattle.one_block.specs.Files.{merged_text, whole_text}
use Rattle.one_block.specs.Numerals.{padded}
use Rattle.relay_model.specs.Worlds.{World}
use Rattle.bundle_model.proofs.public.MemberFacts.{all_append, all_front}
use Rattle.stored_blocks.specs.declared.plans.BundlePlan.{BundlePlan}
use Rattle.bundle_merger.specs.Containers.{blocks_of}
use Rattle.bundle_merger.specs.Merging.{HasMerged, files_by, files_of, listed}
use Rattle.bundle_merger.specs.Writes.{Writes, bundle_files, dead_files, told_with_all, with_all}
use Rattle.block_reader.specs.declared.own.OwnFile.{OwnFile}
use Rattle.block_reader.specs.Kept.{AreOwn, HoldsOwn}
use Rattle.own_laws.specs.Laws.{HaltsStay, MergesStay}
use Rattle.own_laws.proofs.public.AwayFacts.{outside_apart, own_stay}

-- a file is none of `one/`
abbrev pub IsOutside : List ℕ × List ℕ → Type 0
IsOutside write = is_in (codes "one") write.0 ≡ false

-- such files leave own files as they are
pub own_stay_written : (writes : Writes) (old new : Option Files) (own : List OwnFile) → AllByRecursion IsOutside writes → new ≡ told_with_all writes old → AreOwn old own → AreOwn new own
own_stay_written writes old new own out e all = subst (λ (o : Option Files). AreOwn o own) (sym e) (told old all)
  where
    each : (ws : Writes) (files : Files) → AllByRecursion IsOutside ws → AllByRecursion (HoldsOwn files) own → AllByRecursion (HoldsOwn (with_all ws files)) own
    each [] files o h = h
    each (w ∷ ws) files o h =
        each ws (with_file w.0 w.1 files) o.1
        (own_stay files (with_file w.0 w.1 files) own (λ f there inside. file_at-with_other w.0 w.1 f.name files (outside_apart w.0 f.name o.0 inside)) h)

    told : (files : Option Files) → AreOwn files own → AreOwn (told_with_all writes files) own
    told None h = tt
    told (Some files) h = each writes files out h

-- ---- the files of plans

merged_outside : (size base : ℕ) → is_in (codes "one") (merged_text size base) ≡ false
merged_outside size base = by_test (eqb size 1000)
  where
    by_test : (b : Bool) → is_in (codes "one") (whole_text (cond b (codes "merged1000") (codes "merged")) (padded 10 base)) ≡ false
    by_test true = refl
    by_test false = refl

deads_outside : (kind : Kind) (blocks : List Block) → AllByRecursion IsOutside (dead_files kind blocks)
deads_outside kind [] = tt
deads_outside kind (b ∷ blocks) = (refl, deads_outside kind blocks)

bundle_outside : (kind : Kind) (size base : ℕ) (blocks : List Block) → AllByRecursion IsOutside (bundle_files kind size base blocks)
bundle_outside kind size base [] = tt
bundle_outside kind size base (b ∷ blocks) = (merged_outside size base, tt)

plans_outside : (kind : Kind) (plans : List BundlePlan) → AllByRecursion IsOutside (files_by kind plans)
plans_outside kind [] = tt
plans_outside kind (plan ∷ plans) =
    let dead : Writes = dead_files kind (blocks_of plan.dead.items) in
    let bundle : Writes = bundle_files kind plan.size plan.base (blocks_of plan.finals.items) in
    all_append IsOutside (dead ++ bundle) (files_by kind plans)
    (all_append IsOutside dead bundle (deads_outside kind (blocks_of plan.dead.items)) (bundle_outside kind plan.size plan.base (blocks_of plan.finals.items)))
    (plans_outside kind plans)

pub files_outside : (kind : Option Kind) (plans : List BundlePlan) → AllByRecursion IsOutside (files_of kind plans)
files_outside None plans = tt
files_outside (Some kind) plans = plans_outside kind plans

-- ---- a merge

merged_stay : (w w' : World) (old new : Option Files) (plans : List BundlePlan) (own : List OwnFile) → HasMerged w w' old new plans → AreOwn old own → AreOwn new own
merged_stay w w' old new plans own m all = own_stay_written (files_of w.kind plans) old new own (files_outside w.kind plans) m.written all

pub merges_stay : MergesStay
merges_stay w w' old new merged own m all = merged_stay w w' old new m.plans own m.done all

pub halts_stay : HaltsStay
halts_stay w w' old new before after fault own h all =
    let writes : Writes = files_of w'.kind (listed h.begun) in
    let out : AllByRecursion IsOutside (h.stopped.done ++ h.stopped.front.0) = subst (AllByRecursion IsOutside) (sym h.stopped.front.1) (files_outside w'.kind (listed h.begun)) in
    own_stay_written h.stopped.done h.between new own (all_front IsOutside h.stopped.done h.stopped.front.0 out) h.stopped.files
    (merged_stay w w' old h.between h.plans own h.done all)
