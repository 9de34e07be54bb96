-- Why all bundles are on the shelf once there is no further plan, and what is counted then.
use Rattle.std.proofs.Common.{arith, ◌≡◌, ◌<◌, ◌≤◌, ◌+◌, ◌*◌, ◌/◌, ◌^◌, ◌⊎◌, inl, inr, ℕ, Bool, true, false, List, [], ◌∷◌, ◌++◌, length, map, reverse, Option, Some, None, refl, sym, ap, subst, ◌∙◌, IsTrue}
use Rattle.std.specs.List.{filter}
use Rattle.std.specs.Prelude.{IsSomeAnd}
use Rattle.std.specs.Str.{bytes_eq}
use Rattle.std.proofs.lemmas.Bool.{both_ways, cases_Bool, cases_lt}
use Rattle.std.proofs.lemmas.List.{reverse-reverse}
use Rattle.std.proofs.lemmas.Slice.Eq.{bytes_eq-Decides}
use Rattle.block_record.specs.declared.blocks.Block.{Block}
use Rattle.block_record.specs.declared.blocks.Kind.{Kind as NodeKind}
use Rattle.block_record.specs.declared.blocks.Slip.{Slip}
use Rattle.block_record.specs.Records.{IsRecordable}
use Rattle.block_record.specs.Slips.{slip}
use Rattle.outer_world.specs.Files.{Files, file_at, is_in, with_file}
use Rattle.outer_world.proofs.public.FileFacts.{file_at-with_file, file_at-with_other}
use Rattle.one_block.specs.Files.{IsSize, base_in, folder_of_size, forked_text, merged_text}
use Rattle.one_block.proofs.public.FileFacts.{based_again}
use Rattle.chain_model.specs.Ancestry.{IsHistory}
use Rattle.chain_model.specs.Finality.{final_ancestry}
use Rattle.relay_model.specs.Offers.{tip_num}
use Rattle.relay_model.specs.Soundness.{IsSound}
use Rattle.relay_model.specs.Worlds.{World}
use Rattle.bundle_model.specs.Bundles.{Bundle, IsDue, base_of, blocks_of as slips_of, bundles_of, finals_up}
use Rattle.bundle_model.specs.Laws.{IsAllStored, IsFrontStored}
use Rattle.bundle_model.specs.Members.{Among}
use Rattle.bundle_model.specs.Plans.{Plan, is_stored, next_plan}
use Rattle.bundle_model.specs.Retained.{stored_finals}
use Rattle.bundle_model.specs.Shedding.{shed}
use Rattle.bundle_model.proofs.public.BundleFacts.{below_blocks, bundles_are_due, bundles_are_front, finals_climb}
use Rattle.bundle_model.proofs.public.Climbs.{is_below}
use Rattle.bundle_model.proofs.public.DoneFacts.{blocks_has, no_plan_is_all, of_bundle}
use Rattle.bundle_model.proofs.public.MemberFacts.{among_all, among_filter, among_parts, among_prefix, among_reverse, filter_among, map_among, reverse-push, reverse_among}
use Rattle.bundle_model.proofs.public.MergeFacts.{plans_are_bundles}
use Rattle.bundle_model.proofs.public.PlanFacts.{BasesRise, bundles_rise, plan_is}
use Rattle.bundle_model.proofs.public.StoredFacts.{final_found, found_is_among, only_planned}
use Rattle.store_model.specs.Shown.{IsPassed}
use Rattle.store_model.proofs.public.StepFacts.{dead_are_passed}
use Rattle.store_files.specs.Laws.{IsBundleText}
use Rattle.store_files.proofs.public.TextFacts.{holds_recordable}
use Rattle.stored_blocks.specs.declared.plans.BundlePlan.{BundlePlan}
use Rattle.stored_blocks.specs.BundlePlans.{plan_seen}
use Rattle.stored_blocks.proofs.public.PathFacts.{filter_same}
use Rattle.bundle_merger.specs.declared.merging.Merged.{Merged}
use Rattle.bundle_merger.specs.Containers.{blocks_of, bundle_text}
use Rattle.bundle_merger.specs.MergedFiles.{AreBundleFiles, HasBundleFile, HoldsBundle, IsBegun, MergesAll}
use Rattle.bundle_merger.specs.Merging.{AreNext, IsMerged, all_shed, files_by, files_of, plans_seen}
use Rattle.bundle_merger.specs.ReadBack.{AreReadBack, IsReadBack}
use Rattle.bundle_merger.specs.Writes.{bundle_files, dead_files, plan_files, with_all}
use Rattle.bundle_merger.proofs.KeptFacts.{seen_blocks, text_is}
use Rattle.bundle_merger.proofs.ShedFacts.{all_front, all_sound, shed_changes, shed_sound}
use Rattle.bundle_merger.proofs.WriteFacts.{with_all-append}

-- ---- bundles

-- one bundle has a base
same_base : (bundles : List Bundle) → BasesRise bundles → (x y : Bundle) → Among bundles x → Among bundles y → x.base ≡ y.base → x ≡ y
same_base [] r x y h k e = absurd h
same_base (b ∷ rest) r x y (inl h) (inl k) e = sym h ∙ k
same_base (b ∷ rest) r x y (inl h) (inr k) e = let less : b.base < y.base = among_all (λ c. b.base < c.base) rest r.0 y k in absurd (omega (arith, less, e, ap (λ (c : Bundle). c.base) h))
same_base (b ∷ rest) r x y (inr h) (inl k) e = let less : b.base < x.base = among_all (λ c. b.base < c.base) rest r.0 x h in absurd (omega (arith, less, e, ap (λ (c : Bundle). c.base) k))
same_base (b ∷ rest) r x y (inr h) (inr k) e = same_base rest r.1 x y h k e

module _ (w : World) (some : 0 < w.size) (history : IsHistory w.history) where
  all : List Bundle
  all = bundles_of w.size w.history

  due : (b : Bundle) → Among (bundles_of w.size w.history) b → IsDue w.size w.history b
  due b h = among_all (IsDue w.size w.history) (bundles_of w.size w.history) (bundles_are_due w.size w.history some) b h

  based : (b : Bundle) → Among (bundles_of w.size w.history) b → (s : Slip) → Among b.blocks s → base_of w.size s.num ≡ b.base
  based b h s k = among_all (λ x. base_of w.size x.num ≡ b.base) b.blocks (due b h).within s k

  of_base : (x y : Bundle) → Among (bundles_of w.size w.history) x → Among (bundles_of w.size w.history) y → x.base ≡ y.base → x ≡ y
  of_base = same_base (bundles_of w.size w.history) (bundles_rise w.size w.history some)

  -- one bundle has a block
  pub same_bundle : (x y : Bundle) (s : Slip) → Among (bundles_of w.size w.history) x → Among (bundles_of w.size w.history) y → Among x.blocks s → Among y.blocks s → x ≡ y
  same_bundle x y s h k a b = of_base x y h k (sym (based x h s a) ∙ based y k s b)

  -- and it is final
  pub bundle_final : (b : Bundle) (s : Slip) → Among (bundles_of w.size w.history) b → Among b.blocks s → Among (final_ancestry w.history) s
  bundle_final b s h k = reverse_among (final_ancestry w.history) s (among_prefix (slips_of (bundles_of w.size w.history)) (finals_up w.history) (bundles_are_front w.size w.history some history) s (blocks_has (bundles_of w.size w.history) b h s k))

-- ---- the files

-- what the files have of the bundles while plans are written: each bundle of which a block is stored has its file, and each file of the folder is that of a bundle
record IsGrowing (w : World) (files : Files) : Type 0 where
  there : (b : Bundle) → Among (bundles_of w.size w.history) b → (s : Slip) → Among b.blocks s → is_stored w s ≡ true → HasBundleFile w files b
  only : (name text : List ℕ) → IsTrue (is_in (folder_of_size w.size) name) → file_at name files ≡ Some text → (b : Bundle) × Among (bundles_of w.size w.history) b × (name ≡ merged_text w.size b.base)

-- so it is where a merge begins
begins : (w : World) (files : Files) → 0 < w.size → IsHistory w.history → IsBegun w files → IsGrowing w files
begins w files some history b = record {
  there = λ c h s k e.
      let front = b.stored in
      let own = of_bundle front.front s (front.only s (bundle_final w some history c s h k) e) in
      let up = among_prefix front.front b.merged b.within own.0 own.1 in
      subst (HasBundleFile w files) (same_bundle w some history own.0 c s (among_prefix b.merged (bundles_of w.size w.history) b.first own.0 up) h own.2 k) (b.files_are.there own.0 up);
  only = λ name text inside e. let o = b.files_are.only name text inside e in (o.0, among_prefix b.merged (bundles_of w.size w.history) b.first o.0 o.1, o.2);
}

-- the files of blocks off the final path are in another folder
fork_outside : (size num : ℕ) (id : List ℕ) → IsSize size → is_in (folder_of_size size) (forked_text num id) ≡ false
fork_outside size num id (inl e) = subst (λ (n : ℕ). is_in (folder_of_size n) (forked_text num id) ≡ false) (sym e) refl
fork_outside size num id (inr e) = subst (λ (n : ℕ). is_in (folder_of_size n) (forked_text num id) ≡ false) (sym e) refl

other_folder : (folder a b : List ℕ) → is_in folder a ≡ false → IsTrue (is_in folder b) → bytes_eq a b ≡ false
other_folder folder a b out inside = elim (cases_Bool (bytes_eq a b)) [
  | inl same ↦ absurd (both_ways _ out (ap (is_in folder) ((bytes_eq-Decides a b).0 same) ∙ inside))
  | inr other ↦ other
]

forks_aside : (size : ℕ) → IsSize size → (kind : NodeKind) (bs : List Block) (files : Files) (name : List ℕ) → IsTrue (is_in (folder_of_size size) name) → file_at name (with_all (dead_files kind bs) files) ≡ file_at name files
forks_aside size n kind [] files name inside = refl
forks_aside size n kind (b ∷ bs) files name inside =
    let own = forked_text b.num b.id in
    let text = Rattle.one_block.specs.OneFiles.one_file_text kind b in
    forks_aside size n kind bs (with_file own text files) name inside
    ∙ file_at-with_other own text name files (other_folder (folder_of_size size) own name (fork_outside size b.num b.id n) inside)

-- a merged file lies in its folder
merged_inside : (size base : ℕ) → IsSize size → base < 2 ^ 64 → IsTrue (is_in (folder_of_size size) (merged_text size base))
merged_inside size base n small = Rattle.one_block.proofs.public.FolderFacts.merged_lies size base small

-- a bundle whose blocks are held has a base of 64 bits
base_small : (w : World) → 0 < w.size → IsHistory w.history → (kind : NodeKind) (b : Bundle) (text : List ℕ) → Among (bundles_of w.size w.history) b → HoldsBundle kind b text → b.base < 2 ^ 64
base_small w some history kind b text h t =
    let d = due w some history b h in
    let own : Among b.blocks d.first = subst (λ (l : List Slip). Among l d.first) (sym d.some) (inl refl) in
    let from = map_among slip (reverse t.blocks) d.first (subst (λ (l : List Slip). Among l d.first) (sym t.shows) own) in
    let fits = among_all IsRecordable (reverse t.blocks) (holds_recordable text kind.block_type t.blocks t.holds) from.0 from.1 in
    let num : from.0.num ≡ d.first.num = ap (λ (s : Slip). s.num) from.2 in
    let base = based w some history b h d.first own in
    let less = fits.num in
    omega (arith, num, base, less)

-- a file with a text, taken apart
record HasText (w : World) (files : Files) (kind : NodeKind) (b : Bundle) : Type 0 where
  text : List ℕ
  there : file_at (merged_text w.size b.base) files ≡ Some text
  holds : HoldsBundle kind b text

text_of : (w : World) (files : Files) (kind : NodeKind) (b : Bundle) → w.kind ≡ Some kind → HasBundleFile w files b → HasText w files kind b
text_of w files kind b k h = go (file_at (merged_text w.size b.base) files) refl (subst (λ (o : Option NodeKind). IsSomeAnd (file_at (merged_text w.size b.base) files) (λ text. IsSomeAnd o (λ x. HoldsBundle x b text))) k h)
  where
    go : (o : Option (List ℕ)) → file_at (merged_text w.size b.base) files ≡ o → IsSomeAnd o (λ text. HoldsBundle kind b text) → HasText w files kind b
    go None e x = absurd x
    go (Some text) e x = record { text = text; there = e; holds = x }

file_of : (w : World) (files : Files) (kind : NodeKind) (b : Bundle) (text : List ℕ) → w.kind ≡ Some kind → file_at (merged_text w.size b.base) files ≡ Some text → HoldsBundle kind b text → HasBundleFile w files b
file_of w files kind b text k e h = subst (λ (o : Option (List ℕ)). IsSomeAnd o (λ x. IsSomeAnd w.kind (λ y. HoldsBundle y b x))) (sym e) (subst (λ (o : Option NodeKind). IsSomeAnd o (λ y. HoldsBundle y b text)) (sym k) h)

-- what is known of a plan that was written
record IsWritten (w : World) (kind : NodeKind) (plan : BundlePlan) : Type 0 where
  some : 0 < w.size
  sound : IsSound w
  size : IsSize w.size
  kept : w.kind ≡ Some kind
  next : next_plan w ≡ Some (plan_seen plan)
  held : IsReadBack kind plan

-- a block of a bundle that comes to be stored is one of the plan's bundle
stored_before : (w : World) (kind : NodeKind) (plan : BundlePlan) → IsWritten w kind plan → (b : Bundle) → Among (bundles_of w.size w.history) b → (s : Slip) → Among b.blocks s → is_stored (shed w (plan_seen plan)) s ≡ true
    → (is_stored w s ≡ true) ⊎ Among (plan_seen plan).finals s
stored_before w kind plan d b h s k e =
    let final = bundle_final w d.some d.sound.history b s h k in
    elim (only_planned w (plan_seen plan) s d.sound.history (found_is_among w.history s (final_found w.history d.sound.history s final)) e) [
      | inl before ↦ inl before
      | inr planned ↦ elim (among_parts (plan_seen plan).finals (plan_seen plan).dead s planned) [
        | inl own ↦ inr own
        | inr dead ↦ absurd ((among_all (IsPassed w.history) (plan_seen plan).dead (dead_are_passed w (plan_seen plan) d.sound d.next) s dead).off final)
      ]
    ]

-- the bundle is written
bundle_grows : (w : World) (kind : NodeKind) (plan : BundlePlan) (bs : List Block) → bs ≡ blocks_of plan.finals.items → IsWritten w kind plan → (files : Files) → IsGrowing w files
    → IsGrowing (shed w (plan_seen plan)) (with_all (bundle_files kind plan.size plan.base bs) files)
bundle_grows w kind plan [] e d files g = record {
  there = λ b h s k x. elim (stored_before w kind plan d b h s k x) [
    | inl before ↦ g.there b h s k before
    | inr own ↦ absurd (subst (λ (l : List Slip). Among l s) (sym (seen_blocks plan.finals.items) ∙ ap (map slip) (sym e)) own)
  ];
  only = g.only;
}
bundle_grows w kind plan (f ∷ bs) e d files g = record { there = there; only = only }
  where
    sized : plan.size ≡ w.size
    sized = (plan_is w (plan_seen plan) d.next).sized

    text : List ℕ
    text = bundle_text kind (f ∷ bs)

    t : IsBundleText (plan_seen plan) text
    t = text_is kind plan f bs e d.held

    own : Bundle
    own = record { base = plan.base; blocks = (plan_seen plan).finals }

    is_one : Among (bundles_of w.size w.history) own
    is_one = elim (plans_are_bundles w (plan_seen plan) d.some d.sound.history d.next) [
      | inl none ↦ (let c : t.first ∷ t.more ≡ [] = sym t.some ∙ none in absurd (grind (arith, c)))
      | inr there ↦ there
    ]

    holds : HoldsBundle kind own text
    holds = record { blocks = reverse (blocks_of plan.finals.items); holds = subst (λ (l : List Block). Rattle.one_block.specs.Heads.HoldsBlocks (bundle_text kind l) kind.block_type (reverse (blocks_of plan.finals.items))) (sym e) d.held.bundle; shows = ap (map slip) (reverse-reverse (blocks_of plan.finals.items)) ∙ seen_blocks plan.finals.items }

    name : List ℕ
    name = merged_text plan.size plan.base

    new : Files
    new = with_file name text files

    written : HasBundleFile w new own
    written = file_of w new kind own text d.kept (ap (λ (n : ℕ). file_at (merged_text n plan.base) new) (sym sized) ∙ file_at-with_file name text files) holds

    -- a bundle of another base stays
    stays : (b : Bundle) → Among (bundles_of w.size w.history) b → (b.base ≡ plan.base → ⊥) → HasBundleFile w files b → HasBundleFile w new b
    stays b h other old =
        let x = text_of w files kind b d.kept old in
        let low = base_small w d.some d.sound.history kind b x.text h x.holds in
        let low' = base_small w d.some d.sound.history kind own text is_one holds in
        let away : bytes_eq name (merged_text w.size b.base) ≡ false = elim (cases_Bool (bytes_eq name (merged_text w.size b.base))) [
          | inl same ↦
              let n : merged_text w.size plan.base ≡ merged_text w.size b.base = ap (λ (m : ℕ). merged_text m plan.base) (sym sized) ∙ (bytes_eq-Decides name (merged_text w.size b.base)).0 same in
              let one : Some plan.base ≡ Some b.base = sym (based_again w.size plan.base low' (due w d.some d.sound.history own is_one).multiple) ∙ ap (base_in w.size) n ∙ based_again w.size b.base low (due w d.some d.sound.history b h).multiple in
              absurd (other (sym (Rattle.std.proofs.lemmas.Option.same_Some plan.base b.base one)))
          | inr apart ↦ apart
        ] in
        file_of w new kind b x.text d.kept (file_at-with_other name text (merged_text w.size b.base) files away ∙ x.there) x.holds

    put : (b : Bundle) → Among (bundles_of w.size w.history) b → b.base ≡ plan.base → HasBundleFile w new b
    put b h e' = subst (HasBundleFile w new) (of_base w d.some d.sound.history own b is_one h (sym e')) written

    there : (b : Bundle) → Among (bundles_of w.size w.history) b → (s : Slip) → Among b.blocks s → is_stored (shed w (plan_seen plan)) s ≡ true → HasBundleFile (shed w (plan_seen plan)) new b
    there b h s k x = elim (stored_before w kind plan d b h s k x) [
      | inl before ↦ elim (Rattle.std.proofs.lemmas.Bool.cases_lt b.base plan.base) [
        | inl less ↦ stays b h (λ q. omega (arith, q, less)) (g.there b h s k before)
        | inr le ↦ elim (Rattle.std.proofs.lemmas.Bool.cases_lt plan.base b.base) [
          | inl more ↦ stays b h (λ q. omega (arith, q, more)) (g.there b h s k before)
          | inr le' ↦ put b h (omega (arith, le, le'))
        ]
      ]
      | inr planned ↦ put b h (ap (λ (c : Bundle). c.base) (same_bundle w d.some d.sound.history b own s h is_one k planned))
    ]

    only : (n x : List ℕ) → IsTrue (is_in (folder_of_size w.size) n) → file_at n new ≡ Some x → (b : Bundle) × Among (bundles_of w.size w.history) b × (n ≡ merged_text w.size b.base)
    only n x inside at = elim (cases_Bool (bytes_eq name n)) [
      | inl same ↦ (own, is_one, sym ((bytes_eq-Decides name n).0 same) ∙ ap (λ (m : ℕ). merged_text m plan.base) sized)
      | inr other ↦ g.only n x inside (sym (file_at-with_other name text n files other) ∙ at)
    ]

-- the files of the blocks off the final path make no difference
not_merged : (size base num : ℕ) (id : List ℕ) → IsSize size → bytes_eq (forked_text num id) (merged_text size base) ≡ false
not_merged size base num id (inl e) = subst (λ (n : ℕ). bytes_eq (forked_text num id) (merged_text n base) ≡ false) (sym e) refl
not_merged size base num id (inr e) = subst (λ (n : ℕ). bytes_eq (forked_text num id) (merged_text n base) ≡ false) (sym e) refl

forks_past : (size base : ℕ) → IsSize size → (kind : NodeKind) (bs : List Block) (files : Files) → file_at (merged_text size base) (with_all (dead_files kind bs) files) ≡ file_at (merged_text size base) files
forks_past size base n kind [] files = refl
forks_past size base n kind (b ∷ bs) files =
    let own = forked_text b.num b.id in
    let text = Rattle.one_block.specs.OneFiles.one_file_text kind b in
    forks_past size base n kind bs (with_file own text files) ∙ file_at-with_other own text (merged_text size base) files (not_merged size base b.num b.id n)

dead_grows : (w : World) → IsSize w.size → (kind : NodeKind) (bs : List Block) (files : Files) → IsGrowing w files → IsGrowing w (with_all (dead_files kind bs) files)
dead_grows w n kind bs files g = record {
  there = λ b h s k x. subst (λ (o : Option (List ℕ)). IsSomeAnd o (λ t. IsSomeAnd w.kind (λ y. HoldsBundle y b t))) (sym (forks_past w.size b.base n kind bs files)) (g.there b h s k x);
  only = λ name x inside at. g.only name x inside (sym (forks_aside w.size n kind bs files name inside) ∙ at);
}

plan_grows : (w : World) (kind : NodeKind) (plan : BundlePlan) → IsWritten w kind plan → (files : Files) → IsGrowing w files → IsGrowing (shed w (plan_seen plan)) (with_all (plan_files kind plan) files)
plan_grows w kind plan d files g =
    let dead = dead_files kind (blocks_of plan.dead.items) in
    let bundle = bundle_files kind plan.size plan.base (blocks_of plan.finals.items) in
    subst (IsGrowing (shed w (plan_seen plan))) (sym (with_all-append dead bundle files))
    (bundle_grows w kind plan (blocks_of plan.finals.items) refl d (with_all dead files) (dead_grows w d.size kind (blocks_of plan.dead.items) files g))

all_grow : (kind : NodeKind) (w : World) (plans : List BundlePlan) (files : Files) → 0 < w.size → IsSound w → IsSize w.size → w.kind ≡ Some kind → AreNext w (plans_seen plans) → AreReadBack (Some kind) plans → IsGrowing w files
    → IsGrowing (all_shed w (plans_seen plans)) (with_all (files_by kind plans) files)
all_grow kind w [] files some sound size is next held g = g
all_grow kind w (plan ∷ plans) files some sound size is next held g =
    let v = shed w (plan_seen plan) in
    let d : IsWritten w kind plan = record { some = some; sound = sound; size = size; kept = is; next = next.0; held = held.0 } in
    subst (IsGrowing (all_shed v (plans_seen plans))) (sym (with_all-append (plan_files kind plan) (files_by kind plans) files))
    (all_grow kind v plans (with_all (plan_files kind plan) files) some (shed_sound w (plan_seen plan) sound) size is next.1 held.1 (plan_grows w kind plan d files g))

all_grow_of : (o : Option NodeKind) (w : World) (plans : List BundlePlan) (files : Files) → 0 < w.size → IsSound w → IsSize w.size → w.kind ≡ o → AreNext w (plans_seen plans) → AreReadBack o plans → IsGrowing w files
    → IsGrowing (all_shed w (plans_seen plans)) (with_all (files_of o plans) files)
all_grow_of None w [] files some sound size is next held g = g
all_grow_of None w (plan ∷ plans) files some sound size is next held g = absurd held
all_grow_of (Some kind) w plans files some sound size is next held g = all_grow kind w plans files some sound size is next held g

-- ---- the end

ended : (w : World) (files : Files) → 0 < w.size → IsHistory w.history → IsAllStored w → IsGrowing w files → AreBundleFiles w files (bundles_of w.size w.history)
ended w files some history done g = record {
  there = λ b h.
      let d = due w some history b h in
      let own : Among b.blocks d.first = subst (λ (l : List Slip). Among l d.first) (sym d.some) (inl refl) in
      g.there b h d.first own (done.bundled d.first (blocks_has (bundles_of w.size w.history) b h d.first own));
  only = g.only;
}

-- ---- the count

count_reverse : (p : Slip → Bool) (xs : List Slip) → length (filter p (reverse xs)) ≡ length (filter p xs)
count_reverse p [] = refl
count_reverse p (x ∷ xs) =
    let r = count_reverse p xs in
    let one : List Slip = x ∷ [] in
    let a = ap (λ (l : List Slip). length (filter p l)) (reverse-push x xs) ∙ ap (λ (l : List Slip). length l) (Rattle.std.proofs.lemmas.List.Elements.filter-append p (reverse xs) one) ∙ Rattle.std.proofs.Common.length-append (filter p (reverse xs)) (filter p one) in
    let b = ap (λ (l : List Slip). length l) (Rattle.std.proofs.lemmas.List.Elements.filter-append p one xs) ∙ Rattle.std.proofs.Common.length-append (filter p one) (filter p xs) in
    a ∙ (let s : length (filter p (reverse xs)) + length (filter p one) ≡ length (filter p one) + length (filter p xs) = omega (arith, r) in s) ∙ sym b

stored_count : (w : World) → 0 < w.size → IsHistory w.history → IsFrontStored w → IsAllStored w → stored_finals w ≡ length (slips_of (bundles_of w.size w.history))
stored_count w some history front done =
    ap (λ (l : List Slip). length l) (filter_same (is_stored w) (is_below end) (final_ancestry w.history) agree)
    ∙ sym (count_reverse (is_below end) (final_ancestry w.history)) ∙ ap (λ (l : List Slip). length l) (sym below)
  where
    end : ℕ
    end = tip_num w.history / w.size * w.size

    below : slips_of (bundles_of w.size w.history) ≡ filter (is_below end) (finals_up w.history)
    below = below_blocks w.size (finals_up w.history) (tip_num w.history / w.size) (finals_climb w.history history)

    stored_low : (s : Slip) → Among (final_ancestry w.history) s → is_stored w s ≡ true → is_below end s ≡ true
    stored_low s at e =
        let o = of_bundle front.front s (front.only s at e) in
        let h = blocks_has (bundles_of w.size w.history) o.0 (among_prefix front.front (bundles_of w.size w.history) front.first o.0 o.1) s o.2 in
        (filter_among (is_below end) (finals_up w.history) s (subst (λ (l : List Slip). Among l s) below h)).1

    low_stored : (s : Slip) → Among (final_ancestry w.history) s → is_below end s ≡ true → is_stored w s ≡ true
    low_stored s at e =
        done.bundled s (subst (λ (l : List Slip). Among l s) (sym below) (among_filter (is_below end) (finals_up w.history) s (among_reverse (final_ancestry w.history) s at) e))

    agree : (s : Slip) → Among (final_ancestry w.history) s → is_stored w s ≡ is_below end s
    agree s at = elim (cases_Bool (is_stored w s)) [
      | inl e ↦ e ∙ sym (stored_low s at e)
      | inr e ↦ elim (cases_Bool (is_below end s)) [
        | inl f ↦ absurd (both_ways _ e (low_stored s at f))
        | inr f ↦ e ∙ sym f
      ]
    ]

-- ---- a merge that came to its end

pub merges_all : (old new : World) (files now : Option Files) (m : Merged) → 0 < old.size → IsSize old.size → IsSound old → IsMerged old new files now m → MergesAll old files now m
merges_all old new None now m some size sound d = tt
merges_all old new (Some files) now m some size sound d = λ begun. (
  subst (λ (o : Option Files). IsSomeAnd o (λ x. AreBundleFiles old x (bundles_of old.size old.history))) (sym d.done.written) (record { there = there begun; only = (at_old begun).only }),
  d.stored ∙ ap stored_finals d.done.shed ∙ counted begun,
)
  where
    plans : List Plan
    plans = plans_seen d.plans

    v : World
    v = all_shed old plans

    after : Files
    after = with_all (files_of old.kind d.plans) files

    back : v ≡ record old { stored = v.stored }
    back = shed_changes old plans

    some_v : 0 < v.size
    some_v = subst (λ (x : World). 0 < x.size) (sym back) some

    sound_v : IsSound v
    sound_v = all_sound old plans sound

    last : next_plan v ≡ None
    last = ap next_plan (sym d.done.shed) ∙ d.last

    front_v : IsBegun old files → IsFrontStored v
    front_v begun = all_front old plans some sound d.done.next begun.stored

    stored_v : IsBegun old files → IsAllStored v
    stored_v begun = no_plan_is_all v some_v sound_v.history (front_v begun) last

    at_old : IsBegun old files → AreBundleFiles (record old { stored = v.stored }) after (bundles_of old.size old.history)
    at_old begun =
        subst (λ (x : World). AreBundleFiles x after (bundles_of x.size x.history)) back
        (ended v after some_v sound_v.history (stored_v begun) (all_grow_of old.kind old d.plans files some sound size refl d.done.next d.done.held (begins old files some sound.history begun)))

    there : IsBegun old files → (b : Bundle) → Among (bundles_of old.size old.history) b → HasBundleFile old after b
    there begun b h = (at_old begun).there b h

    counted : IsBegun old files → stored_finals v ≡ length (slips_of (bundles_of old.size old.history))
    counted begun = stored_count v some_v sound_v.history (front_v begun) (stored_v begun) ∙ ap (λ (x : World). length (slips_of (bundles_of x.size x.history))) back
