-- What the files keep of the world while plans are written and shed.
use Rattle.std.proofs.Common.{◌≡◌, ◌⊎◌, inl, inr, ℕ, false, List, [], ◌∷◌, ◌++◌, map, reverse, Option, Some, None, refl, sym, ap, subst, ◌∙◌}
use Rattle.std.specs.Arc.{arc_value}
use Rattle.std.specs.List.{AllByRecursion}
use Rattle.std.specs.Prelude.{IsSomeAnd}
use Rattle.std.specs.Str.{bytes_eq}
use Rattle.std.specs.declared.sync.Arc.{Arc}
use Rattle.std.proofs.lemmas.Bool.{cases_Bool}
use Rattle.std.proofs.lemmas.List.{reverse-reverse}
use Rattle.std.proofs.lemmas.Slice.Eq.{bytes_eq-Decides}
use Rattle.block_record.specs.declared.blocks.Block.{Block}
use Rattle.block_record.specs.declared.blocks.Kind.{Kind as NodeKind}
use Rattle.block_record.specs.declared.blocks.Slip.{Slip}
use Rattle.block_record.specs.Slips.{slip}
use Rattle.outer_world.specs.Files.{Files, file_at, with_file}
use Rattle.outer_world.proofs.public.FileFacts.{file_at-with_file, file_at-with_other}
use Rattle.one_block.specs.declared.faults.StoreFault.{StoreFault}
use Rattle.one_block.specs.Files.{IsSize, forked_text, merged_text}
use Rattle.one_block.specs.Layout.{layout_file}
use Rattle.one_block.specs.OneFiles.{one_file_text}
use Rattle.one_block.proofs.public.FolderFacts.{forked_id}
use Rattle.chain_model.specs.Ancestry.{IsHistory}
use Rattle.relay_model.specs.Soundness.{IsSound}
use Rattle.relay_model.specs.Worlds.{World}
use Rattle.bundle_model.specs.Members.{Among}
use Rattle.bundle_model.specs.Plans.{Plan, is_dead, next_plan}
use Rattle.bundle_model.specs.Shedding.{shed}
use Rattle.bundle_model.proofs.public.MemberFacts.{all_among, all_append, all_front, among_all, filter_among, reverse_among}
use Rattle.bundle_model.proofs.public.PlanFacts.{plan_is}
use Rattle.bundle_model.proofs.public.StoredFacts.{one_of_id}
use Rattle.store_model.specs.Shown.{IsPassed, slips}
use Rattle.store_model.specs.Kept.{IsStoredFinal, IsStoredFork}
use Rattle.store_model.proofs.public.StepFacts.{dead_are_passed, shed_keeps}
use Rattle.store_files.specs.Folders.{shown_of, size_by, size_of}
use Rattle.store_files.specs.Kept.{IsWholeKept}
use Rattle.store_files.specs.Laws.{IsBundleText}
use Rattle.store_files.proofs.public.BundleFacts.{bundle_file_keeps, bundle_file_shows}
use Rattle.store_files.proofs.public.KeptFacts.{fork_file_keeps, fork_file_shows, size_is}
use Rattle.store_files.proofs.public.TextFacts.{holds_recordable}
use Rattle.stored_blocks.specs.declared.plans.BundlePlan.{BundlePlan}
use Rattle.stored_blocks.specs.BundlePlans.{plan_seen}
use Rattle.bundle_merger.specs.Containers.{blocks_of, bundle_text}
use Rattle.bundle_merger.specs.MergedFiles.{StaysKept}
use Rattle.bundle_merger.specs.Merging.{AreNext, HasMerged, IsHalted, all_shed, files_by, files_of, listed, plans_seen}
use Rattle.bundle_merger.specs.ReadBack.{AreReadBack, IsHeldAlone, IsReadBack}
use Rattle.bundle_merger.specs.Writes.{Writes, bundle_files, dead_file, dead_files, plan_files, told_with_all, with_all}
use Rattle.bundle_merger.proofs.ShedFacts.{shed_changes, shed_sound}
use Rattle.bundle_merger.proofs.StepFacts.{done_sound}
use Rattle.bundle_merger.proofs.WriteFacts.{with_all-append}

-- ---- single writes

-- a write keeps what the files keep of a world, and the size of the shelf
record IsSafe (w : World) (write : List ℕ × List ℕ) : Type 0 where
  keeps : (old : Files) → size_of old ≡ w.size → IsWholeKept old w → IsWholeKept (with_file write.0 write.1 old) w
  sized : (old : Files) → size_of (with_file write.0 write.1 old) ≡ size_of old

safe_all : (w : World) (writes : Writes) → AllByRecursion (IsSafe w) writes → (old : Files) → size_of old ≡ w.size → IsWholeKept old w → IsWholeKept (with_all writes old) w
safe_all w [] s old e k = k
safe_all w (x ∷ writes) s old e k = safe_all w writes s.1 (with_file x.0 x.1 old) (s.0.sized old ∙ e) (s.0.keeps old e k)

sized_all : (w : World) (writes : Writes) → AllByRecursion (IsSafe w) writes → (old : Files) → size_of (with_all writes old) ≡ size_of old
sized_all w [] s old = refl
sized_all w (x ∷ writes) s old = sized_all w writes s.1 (with_file x.0 x.1 old) ∙ s.0.sized old

-- what is known of a block off the final path
abbrev pub IsGone : World → Slip → Type 0
IsGone w s = Among w.history s × IsPassed w.history s

dead_safe : (w : World) (kind : NodeKind) (b : Block) → IsSound w → IsHeldAlone kind b → IsGone w (slip b) → IsSafe w (dead_file kind b)
dead_safe w kind b sound held gone = record {
  keeps = λ old e k. fork_file_keeps old (with_file (forked_text b.num b.id) (one_file_text kind b) old) w b kind.block_type (one_file_text kind b) sound k held gone.0 gone.1 (inr refl);
  sized = λ old. ap size_by (file_at-with_other (forked_text b.num b.id) (one_file_text kind b) layout_file old refl);
}

deads_safe : (w : World) (kind : NodeKind) (bs : List Block) → IsSound w → AllByRecursion (IsHeldAlone kind) bs → AllByRecursion (IsGone w) (map slip bs) → AllByRecursion (IsSafe w) (dead_files kind bs)
deads_safe w kind [] sound held gone = tt
deads_safe w kind (b ∷ bs) sound held gone = (dead_safe w kind b sound held.0 gone.0, deads_safe w kind bs sound held.1 gone.1)

not_layout : (size base : ℕ) → IsSize size → bytes_eq (merged_text size base) layout_file ≡ false
not_layout size base (inl e) = subst (λ (n : ℕ). bytes_eq (merged_text n base) layout_file ≡ false) (sym e) refl
not_layout size base (inr e) = subst (λ (n : ℕ). bytes_eq (merged_text n base) layout_file ≡ false) (sym e) refl

not_forked : (size base num : ℕ) (id : List ℕ) → IsSize size → bytes_eq (merged_text size base) (forked_text num id) ≡ false
not_forked size base num id (inl e) = subst (λ (n : ℕ). bytes_eq (merged_text n base) (forked_text num id) ≡ false) (sym e) refl
not_forked size base num id (inr e) = subst (λ (n : ℕ). bytes_eq (merged_text n base) (forked_text num id) ≡ false) (sym e) refl

-- ---- a plan

pub seen_blocks : {Z : Type 0} (xs : List (Arc Block Z)) → map slip (blocks_of xs) ≡ map (λ x. slip (arc_value x)) xs
seen_blocks [] = refl
seen_blocks (x ∷ xs) = ap (λ (l : List Slip). slip (arc_value x) ∷ l) (seen_blocks xs)

-- the text of a bundle that has a block
pub text_is : (kind : NodeKind) (plan : BundlePlan) (b : Block) (bs : List Block) → b ∷ bs ≡ blocks_of plan.finals.items → IsReadBack kind plan → IsBundleText (plan_seen plan) (bundle_text kind (b ∷ bs))
text_is kind plan b bs e held = record {
  block_type = kind.block_type;
  blocks = reverse (blocks_of plan.finals.items);
  holds = subst (λ (l : List Block). Rattle.one_block.specs.Heads.HoldsBlocks (bundle_text kind l) kind.block_type (reverse (blocks_of plan.finals.items))) (sym e) held.bundle;
  planned = ap (map slip) (reverse-reverse (blocks_of plan.finals.items)) ∙ seen_blocks plan.finals.items;
  first = slip b;
  more = map slip bs;
  some = sym (seen_blocks plan.finals.items) ∙ ap (map slip) (sym e);
}

record IsDue (w : World) (kind : NodeKind) (plan : BundlePlan) : Type 0 where
  sound : IsSound w
  size : IsSize w.size
  next : next_plan w ≡ Some (plan_seen plan)
  held : IsReadBack kind plan

same_size : (w : World) (kind : NodeKind) (plan : BundlePlan) → IsDue w kind plan → plan.size ≡ w.size
same_size w kind plan d = (plan_is w (plan_seen plan) d.next).sized

due_size : (w : World) (kind : NodeKind) (plan : BundlePlan) → IsDue w kind plan → IsSize plan.size
due_size w kind plan d = subst IsSize (sym (same_size w kind plan d)) d.size

bundles_safe : (w : World) (kind : NodeKind) (plan : BundlePlan) (bs : List Block) → bs ≡ blocks_of plan.finals.items → IsDue w kind plan → AllByRecursion (IsSafe w) (bundle_files kind plan.size plan.base bs)
bundles_safe w kind plan [] e d = tt
bundles_safe w kind plan (b ∷ bs) e d =
    let name = merged_text plan.size plan.base in
    let text = bundle_text kind (b ∷ bs) in (
      record {
        keeps = λ old s k. bundle_file_keeps old (with_file name text old) w (plan_seen plan) text d.sound s k d.next (text_is kind plan b bs e d.held) (inr refl);
        sized = λ old. ap size_by (file_at-with_other name text layout_file old (not_layout plan.size plan.base (due_size w kind plan d)));
      },
      tt,
    )

dead_gone : (w : World) (plan : Plan) → IsSound w → next_plan w ≡ Some plan → AllByRecursion (IsGone w) plan.dead
dead_gone w plan sound e = all_among (IsGone w) plan.dead (λ s h.
    let f = filter_among (is_dead w plan.below) (reverse w.history) s (subst (λ (l : List Slip). Among l s) (plan_is w plan e).dead h) in
    (reverse_among w.history s f.0, among_all (IsPassed w.history) plan.dead (dead_are_passed w plan sound e) s h))

gone_of : (w : World) (kind : NodeKind) (plan : BundlePlan) → IsDue w kind plan → AllByRecursion (IsGone w) (map slip (blocks_of plan.dead.items))
gone_of w kind plan d = subst (AllByRecursion (IsGone w)) (sym (seen_blocks plan.dead.items)) (dead_gone w (plan_seen plan) d.sound d.next)

plan_safe : (w : World) (kind : NodeKind) (plan : BundlePlan) → IsDue w kind plan → AllByRecursion (IsSafe w) (plan_files kind plan)
plan_safe w kind plan d =
    all_append (IsSafe w) (dead_files kind (blocks_of plan.dead.items)) (bundle_files kind plan.size plan.base (blocks_of plan.finals.items))
    (deads_safe w kind (blocks_of plan.dead.items) d.sound d.held.dead (gone_of w kind plan d)) (bundles_safe w kind plan (blocks_of plan.finals.items) refl d)

-- ---- what a plan that was written shows

-- a block stands in `forked/`
record IsForked (kind : NodeKind) (files : Files) (s : Slip) : Type 0 where
  block : Block
  is : slip block ≡ s
  held : IsHeldAlone kind block
  there : file_at (forked_text block.num block.id) files ≡ Some (one_file_text kind block)

same_fork : (kind : NodeKind) (a b : Block) → IsHeldAlone kind a → IsHeldAlone kind b → bytes_eq (forked_text a.num a.id) (forked_text b.num b.id) ≡ Rattle.std.proofs.Common.true → a.id ≡ b.id
same_fork kind a b ha hb e =
    let ra = (holds_recordable (one_file_text kind a) kind.block_type (a ∷ []) ha).0 in
    let rb = (holds_recordable (one_file_text kind b) kind.block_type (b ∷ []) hb).0 in
    forked_id a.num b.num a.id b.id ra.num rb.num ((bytes_eq-Decides (forked_text a.num a.id) (forked_text b.num b.id)).0 e)

forked_all : (w : World) (kind : NodeKind) (bs : List Block) → IsHistory w.history → AllByRecursion (IsHeldAlone kind) bs → AllByRecursion (IsGone w) (map slip bs) → (files : Files) (s : Slip) → Among w.history s
    → Among (map slip bs) s ⊎ IsForked kind files s → IsForked kind (with_all (dead_files kind bs) files) s
forked_all w kind [] history held gone files s at (inl h) = absurd h
forked_all w kind [] history held gone files s at (inr f) = f
forked_all w kind (b ∷ bs) history held gone files s at h =
    let name = forked_text b.num b.id in
    let text = one_file_text kind b in
    let next = with_file name text files in
    let own : IsForked kind next (slip b) = record { block = b; is = refl; held = held.0; there = file_at-with_file name text files } in
    forked_all w kind bs history held.1 gone.1 next s at (elim h [
      | inl now ↦ elim now [ inl e ↦ inr (subst (IsForked kind next) e own) | inr later ↦ inl later ]
      | inr f ↦ elim (cases_Bool (bytes_eq name (forked_text f.block.num f.block.id))) [
        | inl same ↦ inr (subst (IsForked kind next) (one_of_id w.history history (slip b) s gone.0.0 at (same_fork kind b f.block held.0 f.held same ∙ ap (λ (x : Slip). x.id) f.is)) own)
        | inr other ↦ inr (record { block = f.block; is = f.is; held = f.held; there = file_at-with_other name text (forked_text f.block.num f.block.id) files other ∙ f.there })
      ]
    ])

-- the bundle leaves it there
forked_on : (kind : NodeKind) (size base : ℕ) (bs : List Block) (files : Files) (s : Slip) → IsSize size → IsForked kind files s → IsForked kind (with_all (bundle_files kind size base bs) files) s
forked_on kind size base [] files s n f = f
forked_on kind size base (b ∷ bs) files s n f = record {
  block = f.block;
  is = f.is;
  held = f.held;
  there = file_at-with_other (merged_text size base) (bundle_text kind (b ∷ bs)) (forked_text f.block.num f.block.id) files (not_forked size base f.block.num f.block.id n) ∙ f.there;
}

finals_shown : (w : World) (kind : NodeKind) (plan : BundlePlan) (bs : List Block) → bs ≡ blocks_of plan.finals.items → IsDue w kind plan → (files : Files) → size_of files ≡ w.size
    → AllByRecursion (IsStoredFinal (shown_of (with_all (bundle_files kind plan.size plan.base bs) files)) w.history) (map slip bs)
finals_shown w kind plan [] e d files s = tt
finals_shown w kind plan (b ∷ bs) e d files s =
    subst (AllByRecursion (IsStoredFinal (shown_of (with_file (merged_text plan.size plan.base) (bundle_text kind (b ∷ bs)) files)) w.history)) (sym (seen_blocks plan.finals.items) ∙ ap (map slip) (sym e))
    (bundle_file_shows files w (plan_seen plan) (bundle_text kind (b ∷ bs)) d.sound s d.next (text_is kind plan b bs e d.held))

-- a plan that was written is shed
step_kept : (w : World) (kind : NodeKind) (plan : BundlePlan) → IsDue w kind plan → (files : Files) → size_of files ≡ w.size → IsWholeKept files w → IsWholeKept (with_all (plan_files kind plan) files) (shed w (plan_seen plan))
step_kept w kind plan d files s k =
    let dead = dead_files kind (blocks_of plan.dead.items) in
    let bundle = bundle_files kind plan.size plan.base (blocks_of plan.finals.items) in
    let mid = with_all dead files in
    let after = with_all bundle mid in
    let split : with_all (plan_files kind plan) files ≡ after = with_all-append dead bundle files in
    let kept : IsWholeKept after w = subst (λ (fs : Files). IsWholeKept fs w) split (safe_all w (plan_files kind plan) (plan_safe w kind plan d) files s k) in
    let size : size_of mid ≡ w.size = sized_all w dead (deads_safe w kind (blocks_of plan.dead.items) d.sound d.held.dead (gone_of w kind plan d)) files ∙ s in
    let finals : AllByRecursion (IsStoredFinal (shown_of after) w.history) (plan_seen plan).finals =
    subst (AllByRecursion (IsStoredFinal (shown_of after) w.history)) (seen_blocks plan.finals.items) (finals_shown w kind plan (blocks_of plan.finals.items) refl d mid size) in
    let gone = dead_gone w (plan_seen plan) d.sound d.next in
    let forks : AllByRecursion (IsStoredFork (shown_of after) w.history) (plan_seen plan).dead =
    all_among (IsStoredFork (shown_of after) w.history) (plan_seen plan).dead (λ x h.
    let known = among_all (IsGone w) (plan_seen plan).dead gone x h in
    let f = forked_on kind plan.size plan.base (blocks_of plan.finals.items) mid x (due_size w kind plan d)
    (forked_all w kind (blocks_of plan.dead.items) d.sound.history d.held.dead (gone_of w kind plan d) files x known.0 (inl (subst (λ (l : List Slip). Among l x) (sym (seen_blocks plan.dead.items)) h))) in
    let r : IsStoredFork (shown_of after) w.history x = record { passed = known.1; there = subst (Among (slips (shown_of after).forked)) f.is (fork_file_shows after f.block kind.block_type (one_file_text kind f.block) f.held f.there) } in
    r) in
    subst (λ (fs : Files). IsWholeKept fs (shed w (plan_seen plan))) (sym split) (record { formed = kept.formed; keeping = shed_keeps (shown_of after) w (plan_seen plan) finals forks kept.keeping })

-- ---- plans

all_kept : (kind : NodeKind) (w : World) (plans : List BundlePlan) (files : Files) → IsSound w → IsSize w.size → AreNext w (plans_seen plans) → AreReadBack (Some kind) plans → size_of files ≡ w.size → IsWholeKept files w
    → IsWholeKept (with_all (files_by kind plans) files) (all_shed w (plans_seen plans)) × (size_of (with_all (files_by kind plans) files) ≡ w.size)
all_kept kind w [] files sound size next held s k = (k, s)
all_kept kind w (plan ∷ plans) files sound size next held s k =
    let d : IsDue w kind plan = record { sound = sound; size = size; next = next.0; held = held.0 } in
    let mid = with_all (plan_files kind plan) files in
    let r = all_kept kind (shed w (plan_seen plan)) plans mid (shed_sound w (plan_seen plan) sound) size next.1 held.1 (sized_all w (plan_files kind plan) (plan_safe w kind plan d) files ∙ s) (step_kept w kind plan d files s k) in
    let e = sym (with_all-append (plan_files kind plan) (files_by kind plans) files) in
    (subst (λ (fs : Files). IsWholeKept fs (all_shed (shed w (plan_seen plan)) (plans_seen plans))) e r.0, subst (λ (fs : Files). size_of fs ≡ w.size) e r.1)

all_kept_of : (o : Option NodeKind) (w : World) (plans : List BundlePlan) (files : Files) → IsSound w → IsSize w.size → AreNext w (plans_seen plans) → AreReadBack o plans → size_of files ≡ w.size → IsWholeKept files w
    → IsWholeKept (with_all (files_of o plans) files) (all_shed w (plans_seen plans)) × (size_of (with_all (files_of o plans) files) ≡ w.size)
all_kept_of None w [] files sound size next held s k = (k, s)
all_kept_of None w (plan ∷ plans) files sound size next held s k = absurd held
all_kept_of (Some kind) w plans files sound size next held s k = all_kept kind w plans files sound size next held s k

-- what the shed plans leave
record IsLeft (old new : World) (now : Option Files) : Type 0 where
  files : Files
  is : now ≡ Some files
  sized : size_of files ≡ new.size
  kept : IsWholeKept files new

left : (old new : World) (files : Files) (now : Option Files) (plans : List BundlePlan) → IsSound old → HasMerged old new (Some files) now plans → size_of files ≡ old.size → IsWholeKept files old → IsLeft old new now
left old new files now plans sound h s k =
    let r = all_kept_of old.kind old plans files sound (subst IsSize s (size_is files)) h.next h.held s k in
    let size : new.size ≡ old.size = ap (λ (w : World). w.size) h.shed ∙ ap (λ (w : World). w.size) (shed_changes old (plans_seen plans)) in
    record {
      files = with_all (files_of old.kind plans) files;
      is = h.written;
      sized = r.1 ∙ sym size;
      kept = subst (IsWholeKept (with_all (files_of old.kind plans) files)) (sym h.shed) r.0;
    }

-- at the end
pub done_kept : (old new : World) (files now : Option Files) (plans : List BundlePlan) → IsSound old → HasMerged old new files now plans → StaysKept old new files now
done_kept old new None now plans sound h = tt
done_kept old new (Some files) now plans sound h = λ s k. let l = left old new files now plans sound h s k in subst (λ (o : Option Files). IsSomeAnd o (λ after. IsWholeKept after new)) (sym l.is) l.kept

begun_safe : (o : Option NodeKind) (w : World) (begun : Option BundlePlan) → IsSound w → IsSize w.size → AreNext w (plans_seen (listed begun)) → AreReadBack o (listed begun) → AllByRecursion (IsSafe w) (files_of o (listed begun))
begun_safe None w begun sound size next held = tt
begun_safe (Some kind) w None sound size next held = tt
begun_safe (Some kind) w (Some plan) sound size next held = all_append (IsSafe w) (plan_files kind plan) [] (plan_safe w kind plan (record { sound = sound; size = size; next = next.0; held = held.0 })) tt

-- and where it stopped
pub halted_kept : (old new : World) (files now : Option Files) (before after : ℕ) (fault : StoreFault) → IsSound old → IsHalted old new files now before after fault → StaysKept old new files now
halted_kept old new None now before after fault sound h = tt
halted_kept old new (Some files) now before after fault sound h = λ s k.
    let l = left old new files h.between h.plans sound h.done s k in
    let front = h.stopped.front in
    let safe = all_front (IsSafe new) h.stopped.done front.0
    (subst (AllByRecursion (IsSafe new)) (sym front.1) (begun_safe new.kind new h.begun (done_sound old new (Some files) h.between h.plans sound h.done) (subst IsSize l.sized (size_is l.files)) h.next h.held)) in
    let is : now ≡ Some (with_all h.stopped.done l.files) = h.stopped.files ∙ ap (told_with_all h.stopped.done) l.is in
    subst (λ (o : Option Files). IsSomeAnd o (λ x. IsWholeKept x new)) (sym is) (safe_all new h.stopped.done safe l.files l.sized l.kept)
