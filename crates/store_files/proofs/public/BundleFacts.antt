-- A file of merged blocks that is put into its folder.
use Rattle.std.proofs.Common.{arith, ◌≡◌, ◌<◌, ◌^◌, ◌%◌, ◌⊎◌, inl, inr, ℕ, Bool, true, false, cond, nat_lt, List, [], ◌∷◌, length, map, reverse, Option, Some, None, refl, sym, ◌∙◌, ap, subst, eqb, IsTrue}
use Rattle.std.specs.Prelude.{codes}
use Rattle.std.specs.Str.{bytes_eq}
use Rattle.std.specs.List.{AllByRecursion}
use Rattle.std.proofs.lemmas.Bool.{cases_lt, both_ways, lt-ltb, eq-eqb, eqb-true, false_from_ne_true}
use Rattle.std.proofs.lemmas.List.{length-reverse, length-map}
use Rattle.std.proofs.lemmas.Option.{same_Some}
use Rattle.std.proofs.lemmas.Slice.Eq.{bytes_eq-Decides}
use mathlib.Core.List.{IsPrefix}
use Rattle.block_record.specs.declared.blocks.Slip.{Slip}
use Rattle.block_record.specs.Records.{IsRecordable}
use Rattle.block_record.specs.Slips.{slip}
use Rattle.outer_world.specs.Files.{Files, file_at, with_file, comes_before, is_in}
use Rattle.outer_world.proofs.public.FileFacts.{before_other, file_at-with_other}
use Rattle.one_block.specs.Files.{IsSize, folder_of_size, merged_text, base_in}
use Rattle.one_block.specs.Layout.{layout_file}
use Rattle.one_block.proofs.public.FileFacts.{based_again, one_base_name}
use Rattle.one_block.proofs.public.FolderFacts.{merged_lies}
use Rattle.chain_laws.proofs.public.Growth.{all_weaker}
use Rattle.relay_model.specs.Worlds.{World}
use Rattle.relay_model.specs.Soundness.{IsSound}
use Rattle.bundle_model.specs.Laws.{IsInBundle}
use Rattle.bundle_model.specs.Members.{Among}
use Rattle.bundle_model.specs.Bundles.{Bundle, bundles_of, base_of, IsDue}
use Rattle.bundle_model.specs.Plans.{Plan, next_plan}
use Rattle.bundle_model.proofs.public.MemberFacts.{among_all, map_among}
use Rattle.bundle_model.proofs.public.Climbs.{ltb_no}
use Rattle.bundle_model.proofs.public.BundleFacts.{bundles_are_due}
use Rattle.bundle_model.proofs.public.PlanFacts.{IsPlan, IsBundlePlan, plan_is, planned_there}
use Rattle.store_model.specs.Shown.{slips, IsPassed}
use Rattle.store_model.specs.Kept.{IsKeeping, IsStoredFinal}
use Rattle.store_model.specs.Steps.{with_bundle, with_merged}
use Rattle.store_model.proofs.public.StepFacts.{keeps_more, bundle_keeps, bundle_shows}
use Rattle.store_files.specs.Texts.{slips_in}
use Rattle.store_files.specs.Folders.{with_base, merged_of, singles_of, in_folder, size_by, size_of, shown_by, shown_of}
use Rattle.store_files.specs.Kept.{IsBundleFile, IsWholeKept}
use Rattle.store_files.specs.Laws.{IsBundleText, BundleFileKeeps, BundleFileShows}
use Rattle.store_files.proofs.public.TextFacts.{holds_shows, holds_recordable}
use Rattle.store_files.proofs.public.FolderFacts.{folder_with}
use Rattle.store_files.proofs.public.KeptFacts.{size_is, size_some, formed_with, false_true, resized, same_files}

eqb_no : (a b : ℕ) → (a ≡ b → ⊥) → eqb a b ≡ false
eqb_no a b h = false_from_ne_true _ (λ e. h (eqb-true a b e))

-- where a bundle goes among others
with_past : (b d : Bundle) (rest : List Bundle) → d.base < b.base → with_bundle b (d ∷ rest) ≡ d ∷ with_bundle b rest
with_past b d rest less = let e = lt-ltb d.base b.base less in rw e refl

with_here : (b d : Bundle) (rest : List Bundle) → d.base ≡ b.base → with_bundle b (d ∷ rest) ≡ b ∷ rest
with_here b d rest same = let e = ltb_no d.base b.base (omega (arith, same)) in let f = eq-eqb d.base b.base same in rw (e, f) refl

with_front : (b d : Bundle) (rest : List Bundle) → b.base < d.base → with_bundle b (d ∷ rest) ≡ b ∷ d ∷ rest
with_front b d rest less = let e = ltb_no d.base b.base (omega (arith, less)) in let f = eqb_no d.base b.base (λ h. omega (arith, h, less)) in rw (e, f) refl

pub three : (a b : ℕ) → (a < b) ⊎ (a ≡ b) ⊎ (b < a)
three a b = elim (cases_lt a b) [ inl less ↦ inl less | inr more ↦ elim (cases_lt b a) [ inl less ↦ inr (inr less) | inr le ↦ inr (inl (omega (arith, more, le))) ] ]

-- one that takes the place of another
with_again : (b c : Bundle) (l : List Bundle) → c.base ≡ b.base → with_bundle b (with_bundle c l) ≡ with_bundle b l
with_again b c [] e = with_here b c [] e
with_again b c (d ∷ rest) e =
    elim (three d.base c.base) [
      | inl less ↦
          let low : d.base < b.base = omega (arith, less, e) in
          ap (with_bundle b) (with_past c d rest less) ∙ with_past b d (with_bundle c rest) low ∙ ap (λ (x : List Bundle). d ∷ x) (with_again b c rest e) ∙ sym (with_past b d rest low)
      | inr other ↦ elim other [
        | inl same ↦ ap (with_bundle b) (with_here c d rest same) ∙ with_here b c rest e ∙ sym (with_here b d rest (same ∙ e))
        | inr more ↦ ap (with_bundle b) (with_front c d rest more) ∙ with_here b c (d ∷ rest) e ∙ sym (with_front b d rest (omega (arith, more, e)))
      ]
    ]

-- the lower of two first
low_first : (x y : Bundle) (l : List Bundle) → x.base < y.base → with_bundle x (with_bundle y l) ≡ with_bundle y (with_bundle x l)
low_first x y [] less = with_front x y [] less ∙ sym (with_past y x [] less)
low_first x y (d ∷ rest) less =
    elim (three d.base x.base) [
      | inl low ↦
          let low' : d.base < y.base = omega (arith, low, less) in
          ap (with_bundle x) (with_past y d rest low') ∙ with_past x d (with_bundle y rest) low ∙ ap (λ (m : List Bundle). d ∷ m) (low_first x y rest less)
          ∙ sym (ap (with_bundle y) (with_past x d rest low) ∙ with_past y d (with_bundle x rest) low')
      | inr other ↦ elim other [
        | inl same ↦
            let low' : d.base < y.base = omega (arith, same, less) in
            ap (with_bundle x) (with_past y d rest low') ∙ with_here x d (with_bundle y rest) same
            ∙ sym (ap (with_bundle y) (with_here x d rest same) ∙ with_past y x rest less)
        | inr high ↦ elim (three d.base y.base) [
          | inl low' ↦
              ap (with_bundle x) (with_past y d rest low') ∙ with_front x d (with_bundle y rest) high
              ∙ sym (ap (with_bundle y) (with_front x d rest high) ∙ with_past y x (d ∷ rest) less ∙ ap (λ (m : List Bundle). x ∷ m) (with_past y d rest low'))
          | inr more ↦ elim more [
            | inl same ↦
                ap (with_bundle x) (with_here y d rest same) ∙ with_front x y rest less
                ∙ sym (ap (with_bundle y) (with_front x d rest high) ∙ with_past y x (d ∷ rest) less ∙ ap (λ (m : List Bundle). x ∷ m) (with_here y d rest same))
            | inr up ↦
                ap (with_bundle x) (with_front y d rest up) ∙ with_front x y (d ∷ rest) less
                ∙ sym (ap (with_bundle y) (with_front x d rest high) ∙ with_past y x (d ∷ rest) less ∙ ap (λ (m : List Bundle). x ∷ m) (with_front y d rest up))
          ]
        ]
      ]
    ]

either_first : (x y : Bundle) (l : List Bundle) → (x.base ≡ y.base → ⊥) → with_bundle x (with_bundle y l) ≡ with_bundle y (with_bundle x l)
either_first x y l other =
    elim (three x.base y.base) [
      | inl less ↦ low_first x y l less
      | inr rest ↦ elim rest [ inl same ↦ absurd (other same) | inr more ↦ sym (low_first y x l more) ]
    ]

-- the bundles that a folder shows, with one more
merged_with : (size : ℕ) (name text : List ℕ) (base : ℕ) (files : Files) → is_in (folder_of_size size) name ≡ true → base_in size name ≡ Some base
    → merged_of size (in_folder (folder_of_size size) (with_file name text files)) ≡ with_bundle (record { base = base; blocks = slips_in text }) (merged_of size (in_folder (folder_of_size size) files))
merged_with size name text base [] inside e = rw (inside, e) refl
merged_with size name text base (g ∷ files) inside e = go (comes_before g.0 name) (bytes_eq g.0 name) (is_in (folder_of_size size) g.0) refl refl refl (merged_with size name text base files inside e)
  where
    b : Bundle
    b = record { base = base; blocks = slips_in text }

    M : Files → List Bundle
    M fs = merged_of size fs

    rest : List Bundle
    rest = merged_of size (in_folder (folder_of_size size) files)

    -- a file of another name
    past : (o : Option ℕ) → base_in size g.0 ≡ o → (g.0 ≡ name → ⊥) → with_base o (slips_in g.1) (with_bundle b rest) ≡ with_bundle b (with_base o (slips_in g.1) rest)
    past None is other = refl
    past (Some c) is other = either_first (record { base = c; blocks = slips_in g.1 }) b rest (λ same. other (one_base_name size g.0 name c is (e ∙ ap (λ (n : ℕ). Some n) (sym same))))

    again : (o : Option ℕ) → base_in size g.0 ≡ o → g.0 ≡ name → with_bundle b rest ≡ with_bundle b (with_base o (slips_in g.1) rest)
    again None is same = refl
    again (Some c) is same =
        let equal : c ≡ base = same_Some c base (sym is ∙ ap (base_in size) same ∙ e) in
        sym (with_again b (record { base = c; blocks = slips_in g.1 }) rest equal)

    go : (t u v : Bool) → comes_before g.0 name ≡ t → bytes_eq g.0 name ≡ u → is_in (folder_of_size size) g.0 ≡ v
        → merged_of size (in_folder (folder_of_size size) (with_file name text files)) ≡ with_bundle b rest
        → merged_of size (in_folder (folder_of_size size) (cond t (g ∷ with_file name text files) ((name, text) ∷ cond u files (g ∷ files))))
        ≡ with_bundle b (merged_of size (cond v (g ∷ in_folder (folder_of_size size) files) (in_folder (folder_of_size size) files)))
    go true u true et eu ev ih =
        let other : g.0 ≡ name → ⊥ = λ same. both_ways _ (before_other g.0 name et) ((bytes_eq-Decides g.0 name).1 same) in
        rw ev (ap (with_base (base_in size g.0) (slips_in g.1)) ih ∙ past (base_in size g.0) refl other)
    go true u false et eu ev ih = rw ev ih
    go false true true et eu ev ih = rw (inside, e) (again (base_in size g.0) refl ((bytes_eq-Decides g.0 name).0 eu))
    go false true false et eu ev ih =
        let same : g.0 ≡ name = (bytes_eq-Decides g.0 name).0 eu in
        absurd (both_ways _ ev (ap (is_in (folder_of_size size)) same ∙ inside))
    go false false true et eu ev ih = rw (inside, e, ev) refl
    go false false false et eu ev ih = rw (inside, e, ev) refl

-- names of bundles are in no other folder, and tell no layout
record IsBundleName (size : ℕ) (name : List ℕ) : Type 0 where
  layout : bytes_eq name layout_file ≡ false
  one : is_in (codes "one") name ≡ false
  forked : is_in (codes "forked") name ≡ false
  other : (n : ℕ) → IsSize n → is_in (folder_of_size n) name ≡ true → n ≡ size

bundle_named : (size : ℕ) → IsSize size → (base : ℕ) → IsBundleName size (merged_text size base)
bundle_named size (inl e) base = subst (λ (n : ℕ). IsBundleName n (merged_text n base)) (sym e) (record {
  layout = refl;
  one = refl;
  forked = refl;
  other = λ n s h. elim s [
    | inl f ↦ f
    | inr f ↦ absurd (both_ways _ refl (subst (λ (m : ℕ). is_in (folder_of_size m) (merged_text 100 base) ≡ true) f h))
  ];
})
bundle_named size (inr e) base = subst (λ (n : ℕ). IsBundleName n (merged_text n base)) (sym e) (record {
  layout = refl;
  one = refl;
  forked = refl;
  other = λ n s h. elim s [
    | inl f ↦ absurd (both_ways _ refl (subst (λ (m : ℕ). is_in (folder_of_size m) (merged_text 1000 base) ≡ true) f h))
    | inr f ↦ f
  ];
})

-- what is known of a plan whose bundle's text this is
record IsPut (w : World) (plan : Plan) : Type 0 where
  some : 0 < w.size
  is : IsPlan w plan
  bundle : IsBundlePlan w plan
  due : IsDue w.size w.history (record { base = plan.base; blocks = plan.finals })
  small : plan.base < 2 ^ 64

put_is : (old : Files) (w : World) (plan : Plan) (text : List ℕ) → IsSound w → size_of old ≡ w.size → next_plan w ≡ Some plan → IsBundleText plan text → IsPut w plan
put_is old w plan text sound sized planned t = record { some = some; is = is; bundle = bundle; due = due; small = small }
  where
    some : 0 < w.size
    some = subst (λ (n : ℕ). 0 < n) sized (size_some (size_of old) (size_is old))

    is : IsPlan w plan
    is = plan_is w plan planned

    filled : plan.finals ≡ [] → ⊥
    filled none = let c : t.first ∷ t.more ≡ [] = sym t.some ∙ none in grind (arith, c)

    bundle : IsBundlePlan w plan
    bundle = elim is.finals [ inl none ↦ absurd (filled none) | inr p ↦ p ]

    due : IsDue w.size w.history (record { base = plan.base; blocks = plan.finals })
    due =
        among_all (IsDue w.size w.history) (bundles_of w.size w.history) (bundles_are_due w.size w.history some) (record { base = plan.base; blocks = plan.finals })
        (planned_there w plan some sound.history is bundle)

    -- the number of its first block has 64 bits
    small : plan.base < 2 ^ 64
    small =
        let own : Among plan.finals t.first = subst (λ (l : List Slip). Among l t.first) (sym t.some) (inl refl) in
        let from = map_among slip (reverse t.blocks) t.first (subst (λ (l : List Slip). Among l t.first) (sym t.planned) own) in
        let fits = among_all IsRecordable (reverse t.blocks) (holds_recordable text t.block_type t.blocks t.holds) from.0 from.1 in
        let num : from.0.num ≡ t.first.num = ap (λ (s : Slip). s.num) from.2 in
        let based : base_of w.size t.first.num ≡ plan.base = among_all (λ s. base_of w.size s.num ≡ plan.base) plan.finals due.within t.first own in
        let less = fits.num in
        omega (arith, num, based, less)

-- the files with the bundle of a plan
record IsAfter (old new : Files) (b : Bundle) : Type 0 where
  stays : file_at layout_file new ≡ file_at layout_file old
  merged : merged_of (size_of old) (in_folder (folder_of_size (size_of old)) new) ≡ with_bundle b (merged_of (size_of old) (in_folder (folder_of_size (size_of old)) old))

-- the name of a plan's bundle
name_of : (old : Files) (w : World) (plan : Plan) → size_of old ≡ w.size → IsPut w plan → merged_text plan.size plan.base ≡ merged_text (size_of old) plan.base
name_of old w plan sized p = ap (λ (n : ℕ). merged_text n plan.base) (p.is.sized ∙ sym sized)

after_put : (old : Files) (w : World) (plan : Plan) (text : List ℕ) → size_of old ≡ w.size → IsPut w plan → IsBundleText plan text
    → IsAfter old (with_file (merged_text (size_of old) plan.base) text old) (record { base = plan.base; blocks = plan.finals })
after_put old w plan text sized p t =
    let size = size_of old in
    let name = merged_text size plan.base in
    let multiple = ap (λ (n : ℕ). plan.base % n) sized ∙ p.due.multiple in
    let based : base_in size name ≡ Some plan.base = based_again size plan.base p.small multiple in
    let shows : slips_in text ≡ plan.finals = holds_shows text t.block_type t.blocks t.holds ∙ t.planned in
    record {
      stays = file_at-with_other name text layout_file old (bundle_named size (size_is old) plan.base).layout;
      merged = merged_with size name text plan.base old (merged_lies size plan.base p.small) based
          ∙ ap (λ (l : List Slip). with_bundle (record { base = plan.base; blocks = l }) (merged_of size (in_folder (folder_of_size size) old))) shows;
    }

put_merged : (old : Files) (w : World) (plan : Plan) (text : List ℕ) → IsSound w → size_of old ≡ w.size → IsWholeKept old w → next_plan w ≡ Some plan → IsPut w plan → IsBundleText plan text
    → IsWholeKept (with_file (merged_text (size_of old) plan.base) text old) w
put_merged old w plan text sound sized k planned p t = record {
  formed = formed_with name text old after.stays k.formed (record {
    one = λ h. absurd (false_true _ apart.one h);
    forked = λ h. absurd (false_true _ apart.forked h);
    merged = λ n s h. subst (λ (m : ℕ). IsBundleFile m name text) (sym (apart.other n s h)) (record { base = plan.base; based = based; block_type = t.block_type; blocks = t.blocks; holds = t.holds; some = some_blocks });
  });
  keeping = resized old new w after.stays (keeps_more (with_merged b (shown_of old)) (shown_by (size_of old) new) w put (record {
    bundles = subst (λ (l : List Bundle). IsPrefix l (bundles_of (size_of old) w.history)) (sym after.merged) put.keeps.bundles;
    merged = λ s h. subst (λ (l : List Bundle). IsInBundle (size_of old) l s) (sym after.merged) h;
    single = λ s h. elim h [
      | inl one ↦ inl (subst (λ (fs : Files). Among (slips (singles_of fs)) s) (sym (folder_with (codes "one") name text old apart.one)) one)
      | inr fork ↦ inr (subst (λ (fs : Files). Among (slips (singles_of fs)) s) (sym forked) fork)
    ];
    forked = λ s h. subst (λ (fs : Files). Among (slips (singles_of fs)) s) (sym forked) h;
    passed = subst (λ (fs : Files). AllByRecursion (IsPassed w.history) (slips (singles_of fs))) (sym forked) k.keeping.keeps.forked;
  }));
}
  where
    name : List ℕ
    name = merged_text (size_of old) plan.base

    new : Files
    new = with_file name text old

    apart : IsBundleName (size_of old) name
    apart = bundle_named (size_of old) (size_is old) plan.base

    b : Bundle
    b = record { base = plan.base; blocks = plan.finals }

    after : IsAfter old new b
    after = after_put old w plan text sized p t

    based : base_in (size_of old) name ≡ Some plan.base
    based = based_again (size_of old) plan.base p.small (ap (λ (n : ℕ). plan.base % n) sized ∙ p.due.multiple)

    put : IsKeeping (with_merged b (shown_of old)) w
    put = bundle_keeps (shown_of old) w plan t.first t.more p.some sized sound k.keeping planned t.some

    some_blocks : IsTrue (nat_lt 0 (length t.blocks))
    some_blocks =
        let count : length (map slip (reverse t.blocks)) ≡ length (t.first ∷ t.more) = ap (λ (l : List Slip). length l) (t.planned ∙ t.some) in
        lt-ltb 0 (length t.blocks) (omega (arith, count, length-map (reverse t.blocks) slip, length-reverse t.blocks))

    forked : in_folder (codes "forked") new ≡ in_folder (codes "forked") old
    forked = folder_with (codes "forked") name text old apart.forked

pub bundle_file_keeps : BundleFileKeeps
bundle_file_keeps old new w plan text sound sized k planned t (inl e) = same_files old new w e k
bundle_file_keeps old new w plan text sound sized k planned t (inr e) =
    let p = put_is old w plan text sound sized planned t in
    same_files _ new w (e ∙ ap (λ (n : List ℕ). with_file n text old) (name_of old w plan sized p)) (put_merged old w plan text sound sized k planned p t)

shown_final : (old new : Files) (w : World) (b : Bundle) → IsAfter old new b → (s : Slip) → IsStoredFinal (with_merged b (shown_of old)) w.history s → IsStoredFinal (shown_of new) w.history s
shown_final old new w b a s h =
    let at : IsStoredFinal (shown_by (size_of old) new) w.history s = record { final = h.final; merged = subst (λ (l : List Bundle). IsInBundle (size_of old) l s) (sym a.merged) h.merged } in
    subst (λ (n : ℕ). IsStoredFinal (shown_by n new) w.history s) (sym (ap size_by a.stays)) at

pub bundle_file_shows : BundleFileShows
bundle_file_shows old w plan text sound sized planned t =
    let p = put_is old w plan text sound sized planned t in
    let name = merged_text (size_of old) plan.base in
    let new = with_file name text old in
    let b : Bundle = record { base = plan.base; blocks = plan.finals } in
    subst (λ (n : List ℕ). AllByRecursion (IsStoredFinal (shown_of (with_file n text old)) w.history) plan.finals) (sym (name_of old w plan sized p))
    (all_weaker (IsStoredFinal (with_merged b (shown_of old)) w.history) (IsStoredFinal (shown_of new) w.history) (shown_final old new w b (after_put old w plan text sized p t)) plan.finals
    (bundle_shows (shown_of old) w plan t.first t.more p.some sized sound planned t.some))
