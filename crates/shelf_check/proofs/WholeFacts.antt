-- A good shelf has no first fault, and one report: what stands before a fault is what the files tell.
use Rattle.std.proofs.Common.{◌≡◌, ◌+◌, ◌⊎◌, ℕ, List, [], ◌∷◌, ◌++◌, length, map, Option, Some, None, Result, Ok, Err, inl, inr, refl, sym, ap, subst, ◌∙◌}
use Rattle.std.specs.Prelude.{IsPermutation}
use Rattle.std.specs.Option.{unwrap_or}
use Rattle.std.specs.Cmp.{IsTotalOrder, then_total, on_total, nat_cmp_total}
use Rattle.std.specs.Cmp.Lexicographic.{slice_cmp, nat_list_cmp_total}
use Rattle.std.specs.Ordering.{nat_cmp, ordering_then}
use Rattle.std.specs.declared.cmp.Ordering.{Ordering}
use Rattle.std.specs.declared.cmp.Ordering.TheVariants as order
use Rattle.std.proofs.lemmas.Map.Lookups.{exact_unsigned, exact_bytes}
use Rattle.std.proofs.lemmas.List.{length-map}
use Rattle.block_record.specs.declared.blocks.Block.{Block}
use Rattle.block_record.specs.declared.blocks.BlockRef.{BlockRef}
use Rattle.dbin_file.specs.Contents.{contents}
use Rattle.one_block.specs.Files.{base_in}
use Rattle.one_block.specs.Layout.{HasLayout, layout_size}
use Rattle.one_block.specs.declared.faults.StoreFault.TheVariants as store
use Rattle.outer_world.specs.Files.{Files, file_at}
use Rattle.shelf_check.specs.declared.check.Report.{Report}
use Rattle.one_block.specs.declared.file_faults.FileFault.{FileFault}
use Rattle.one_block.specs.declared.file_faults.FileFault.TheVariants.{Bad, OtherType, Mem}
use Rattle.shelf_check.specs.declared.faults.LoadFault.{LoadFault}
use Rattle.shelf_check.specs.declared.faults.LoadFault.TheVariants.{Store, KindClash, HistoryFull}
use Rattle.one_block.specs.declared.forms.Folder.{Folder}
use Rattle.one_block.specs.declared.forms.Folder.TheVariants.{One, Forked}
use Rattle.one_block.specs.declared.forms.Form.{Form}
use Rattle.one_block.specs.Heads.{AreRecords}
use Rattle.shelf_check.specs.Bundles.{tip_after, BundleRefused}
use Rattle.one_block.specs.Singles.{FormedRefused}
use Rattle.shelf_check.specs.Singles.{AnswersBy}
use Rattle.file_reader.specs.Reading.{HasText}
use Rattle.shelf_check.specs.Folders.{Single, IsSingle, kept_after, AreSingles, IsFolder, IsBadFile}
use Rattle.shelf_check.specs.Folders.{IsFirstIn as IsFirstInFolder}
use Rattle.shelf_check.specs.Merged.{Entry, entry_order, AreOrdered, Bundle, IsBundleOn, kept_of, tip_of, block_count, AreBundles, entries_of, IsMerged, IsOtherName, IsFirstBased, IsBadBundle}
use Rattle.shelf_check.specs.Merged.{IsFirstIn as IsFirstInMerged}
use Rattle.shelf_check.specs.Refusals.{Refused}
use Rattle.shelf_check.specs.Shelf.{report_of, IsGood, IsFirstFault, CheckAnswers, IsGoodShelf, IsReported}
use Rattle.one_block.proofs.public.RecordFacts.{same_blocks}
use Rattle.shelf_check.proofs.LawFacts.{taken_bundle, taken_single}
use Rattle.shelf_check.proofs.ListFacts.{first_same, rest_same, map_turned, Split, split_at}
use Rattle.shelf_check.proofs.public.SortedFacts.{sorted_same}

-- ---- texts and what they hold

-- files of one name have one text
one_text : (files : Files) (n m t u : List ℕ) → HasText (Some files) n t → HasText (Some files) m u → n ≡ m → t ≡ u
one_text files n m t u a b e = sym a ∙ ap (λ x. unwrap_or (file_at x files) []) e ∙ b

-- a text has one type
one_type : (t u held offered : List ℕ) → (contents t).block_type ≡ Some held → (contents u).block_type ≡ Some offered → t ≡ u → held ≡ offered
one_type t u held offered a b e = let s : (let o : Option (List ℕ) = Some held in o) ≡ Some offered = sym a ∙ ap (λ x. (contents x).block_type) e ∙ b in cc s

-- a text has one list of blocks
one_content : (t u : List ℕ) (xs ys : List Block) → AreRecords (contents t).messages xs → AreRecords (contents u).messages ys → t ≡ u → xs ≡ ys
one_content t u xs ys a b e = same_blocks (contents u).messages xs ys (subst (λ (x : List ℕ). AreRecords (contents x).messages xs) e a) b

-- ---- the folders of single files

type_same : (folder : Folder) (files : Files) (k l : Option (List ℕ)) (x y : Single) → IsSingle folder (Some files) k x → IsSingle folder (Some files) l y → x.name ≡ y.name → x.block_type ≡ y.block_type
type_same folder files k l x y a b e = one_type x.text y.text x.block_type y.block_type a.single.holds.typed b.single.holds.typed (one_text files x.name y.name x.text y.text a.there b.there e)

kept_same : (folder : Folder) (files : Files) (kept : Option (List ℕ)) (xs ys : List Single) → AreSingles folder (Some files) kept xs → AreSingles folder (Some files) kept ys
    → map (λ x. x.name) xs ≡ map (λ x. x.name) ys → kept_after kept xs ≡ kept_after kept ys
kept_same folder files kept [] [] a b e = refl
kept_same folder files kept [] (y ∷ ys) a b e = absurd (cc e)
kept_same folder files kept (x ∷ xs) [] a b e = absurd (cc e)
kept_same folder files kept (x ∷ xs) (y ∷ ys) a b e =
    let one : x.name ≡ y.name = cc e in
    ap Some (type_same folder files (kept_after kept xs) (kept_after kept ys) x y a.0 b.0 one)

older_singles : (folder : Folder) (files : Option Files) (kept : Option (List ℕ)) (newer : List Single) (x : Single) (older : List Single)
    → AreSingles folder files kept (newer ++ x ∷ older) → AreSingles folder files kept (x ∷ older)
older_singles folder files kept [] x older good = good
older_singles folder files kept (n ∷ newer) x older good = older_singles folder files kept newer x older good.1

-- a good file is not bad
no_bad_file : (folder : Folder) (files : Files) (kept : Option (List ℕ)) (x : Single) (fault : FileFault) → IsSingle folder (Some files) kept x → IsBadFile folder (Some files) kept x.name fault → fault ≡ Mem
no_bad_file folder files kept x fault good bad =
    let P : Option Form → Type 0 = λ o. AnswersBy o x.name bad.text kept (Err fault) in
    let Q : List ℕ → Type 0 = λ t. FormedRefused good.form x.name t kept fault in
    taken_single good.form x.name x.text kept x.block_type x.block good.single fault
    (subst Q (one_text files x.name x.name bad.text x.text bad.there good.there refl) (subst P good.formed bad.refused))

no_fault_in_folder : (folder : Folder) (files : Files) (kept : Option (List ℕ)) (singles : List Single) (name : List ℕ) (fault : FileFault)
    → IsFolder folder (Some files) kept singles → IsFirstInFolder folder (Some files) kept name fault → fault ≡ Mem
no_fault_in_folder folder files kept singles name fault good bad =
    no_bad_file folder files (kept_after kept s.older) s.x fault parts.0 (subst (λ (n : List ℕ). IsBadFile folder (Some files) (kept_after kept s.older) n fault) (sym s.item) (subst (λ k. IsBadFile folder (Some files) k name fault) (sym kept_is) bad.first.bad))
  where
    s : Split (λ (x : Single). x.name) singles name bad.first.singles
    s = split_at (λ (x : Single). x.name) singles bad.first.singles name bad.first.more (good.listed.all ∙ sym bad.listed.all ∙ bad.first.names_are)

    parts : AreSingles folder (Some files) kept (s.x ∷ s.older)
    parts = older_singles folder (Some files) kept s.newer s.x s.older (subst (AreSingles folder (Some files) kept) s.whole good.good)

    kept_is : kept_after kept s.older ≡ kept_after kept bad.first.singles
    kept_is = kept_same folder files kept s.older bad.first.singles parts.1 bad.first.good s.same

-- two lists of the files of a folder have the same names
folder_same : (folder : Folder) (files : Files) (kept : Option (List ℕ)) (xs ys : List Single) → IsFolder folder (Some files) kept xs → IsFolder folder (Some files) kept ys → map (λ x. x.name) xs ≡ map (λ x. x.name) ys
folder_same folder files kept xs ys a b = map_turned (λ (x : Single). x.name) xs ys (a.listed.all ∙ sym b.listed.all)

kept_in : (folder : Folder) (files : Files) (kept : Option (List ℕ)) (xs ys : List Single) → IsFolder folder (Some files) kept xs → IsFolder folder (Some files) kept ys → kept_after kept xs ≡ kept_after kept ys
kept_in folder files kept xs ys a b = kept_same folder files kept xs ys a.good b.good (folder_same folder files kept xs ys a b)

-- ---- the folder of merged blocks

entry_total : IsTotalOrder entry_order
entry_total = then_total (on_total (λ (e : Entry). e.0) nat_cmp_total) (on_total (λ (e : Entry). e.1) nat_list_cmp_total)

entry_exact : (a b : Entry) → entry_order a b ≡ order.Equal → a ≡ b
entry_exact a b e = by_order (nat_cmp a.0 b.0) (slice_cmp nat_cmp a.1 b.1) refl refl e
  where
    pair_is : (m n : ℕ) (p q : List ℕ) → m ≡ n → p ≡ q → (let x : Entry = (m, p) in x) ≡ (n, q)
    pair_is m n p q i j = cc

    by_order : (r t : Ordering) → nat_cmp a.0 b.0 ≡ r → slice_cmp nat_cmp a.1 b.1 ≡ t → ordering_then r t ≡ order.Equal → a ≡ b
    by_order order.Less t r_is t_is same = absurd (cc same)
    by_order order.Equal t r_is t_is same = pair_is a.0 b.0 a.1 b.1 (exact_unsigned a.0 b.0 r_is) (exact_bytes a.1 b.1 (t_is ∙ same))
    by_order order.Greater t r_is t_is same = absurd (cc same)

-- names have one list of bases
based_same : (xs ys : List Entry) → map (λ e. e.1) xs ≡ map (λ e. e.1) ys → map (λ e. Some e.0) xs ≡ map (λ e. Some e.0) ys → xs ≡ ys
based_same [] [] names bases = refl
based_same [] (y ∷ ys) names bases = absurd (cc names)
based_same (x ∷ xs) [] names bases = absurd (cc names)
based_same (x ∷ xs) (y ∷ ys) names bases =
    let base : x.0 ≡ y.0 = cc bases in
    let name : x.1 ≡ y.1 = cc names in
    let tail_names : map (λ (e : Entry). e.1) xs ≡ map (λ (e : Entry). e.1) ys = cc names in
    let tail_bases : map (λ (e : Entry). Some e.0) xs ≡ map (λ (e : Entry). Some e.0) ys = cc bases in
    pair_is x.0 y.0 x.1 y.1 xs ys base name (based_same xs ys tail_names tail_bases)
  where
    pair_is : (m n : ℕ) (p q : List ℕ) (us vs : List Entry) → m ≡ n → p ≡ q → us ≡ vs → (m, p) ∷ us ≡ (n, q) ∷ vs
    pair_is m n p q us vs i j k = cc

ordered_same : (size : ℕ) (names shown : List (List ℕ)) (xs ys : List Entry) → AreOrdered size names xs → AreOrdered size shown ys → names ≡ shown → xs ≡ ys
ordered_same size names shown xs ys a b same =
    let found : a.found ≡ b.found = based_same a.found b.found (sym a.based.names_are ∙ same ∙ b.based.names_are) (sym a.based.bases ∙ ap (map (base_in size)) same ∙ b.based.bases) in
    sorted_same entry_order entry_total entry_exact b.found xs ys (subst (λ (l : List Entry). IsPermutation l xs) found a.all) b.all a.in_order b.in_order

abbrev entry_of : Bundle → Entry
entry_of x = (x.base, x.name)

blocks_same : (size : ℕ) (files : Files) (k l : Option (List ℕ)) (before before' : Option BlockRef) (x y : Bundle) → IsBundleOn size (Some files) k before x → IsBundleOn size (Some files) l before' y → x.name ≡ y.name → (x.block_type ≡ y.block_type) × (x.blocks ≡ y.blocks)
blocks_same size files k l before before' x y a b e =
    let t = one_text files x.name y.name x.text y.text a.there b.there e in
    (one_type x.text y.text x.block_type y.block_type a.bundle.holds.typed b.bundle.holds.typed t, one_content x.text y.text x.blocks y.blocks a.bundle.holds.records b.bundle.holds.records t)

-- what is kept of files of merged blocks is what their names tell
pub record KeepAlike (xs ys : List Bundle) : Type 0 where
  pub kept : kept_of xs ≡ kept_of ys
  pub tip : tip_of xs ≡ tip_of ys
  pub count : block_count xs ≡ block_count ys

keep_alike : (size : ℕ) (files : Files) (xs ys : List Bundle) → AreBundles size (Some files) xs → AreBundles size (Some files) ys → map entry_of xs ≡ map entry_of ys → KeepAlike xs ys
keep_alike size files [] [] a b e = record { kept = refl; tip = refl; count = refl }
keep_alike size files [] (y ∷ ys) a b e = absurd (cc e)
keep_alike size files (x ∷ xs) [] a b e = absurd (cc e)
keep_alike size files (x ∷ xs) (y ∷ ys) a b e =
    let name : x.name ≡ y.name = ap (λ (i : Entry). i.1) (first_same (entry_of x) (entry_of y) (map entry_of xs) (map entry_of ys) e) in
    let tail : map entry_of xs ≡ map entry_of ys = rest_same (entry_of x) (entry_of y) (map entry_of xs) (map entry_of ys) e in
    let same = blocks_same size files (kept_of xs) (kept_of ys) (tip_of xs) (tip_of ys) x y a.0 b.0 name in
    let older = keep_alike size files xs ys a.1 b.1 tail in
    record {
      kept = ap Some same.0;
      tip = ap (λ t. tip_after t x.blocks) older.tip ∙ ap (tip_after (tip_of ys)) same.1;
      count = ap (λ n. n + length x.blocks) older.count ∙ ap (λ (l : List Block). block_count ys + length l) same.1;
    }

older_bundles : (size : ℕ) (files : Option Files) (newer : List Bundle) (x : Bundle) (older : List Bundle) → AreBundles size files (newer ++ x ∷ older) → AreBundles size files (x ∷ older)
older_bundles size files [] x older good = good
older_bundles size files (n ∷ newer) x older good = older_bundles size files newer x older good.1

-- each name has a base
no_other_name : (size : ℕ) (front : List (List ℕ)) (name : List ℕ) (more : List (List ℕ)) (entries : List Entry) → map (base_in size) (front ++ name ∷ more) ≡ map (λ e. Some e.0) entries → base_in size name ≡ None → ⊥
no_other_name size [] name more [] e none = cc e
no_other_name size [] name more (x ∷ xs) e none =
    let head : base_in size name ≡ Some x.0 = cc e in
    let clash : (let o : Option ℕ = None in o) ≡ Some x.0 = sym none ∙ head in
    cc clash
no_other_name size (f ∷ front) name more [] e none = cc e
no_other_name size (f ∷ front) name more (x ∷ xs) e none =
    let tail : map (base_in size) (front ++ name ∷ more) ≡ map (λ (e : Entry). Some e.0) xs = cc e in
    no_other_name size front name more xs tail none

-- a good file is not bad
no_bad_bundle : (size : ℕ) (files : Files) (kept : Option (List ℕ)) (before : Option BlockRef) (x : Bundle) (base : ℕ) (name : List ℕ) (fault : FileFault)
    → IsBundleOn size (Some files) kept before x → IsBadBundle size (Some files) kept before base name fault → base ≡ x.base → name ≡ x.name → fault ≡ Mem
no_bad_bundle size files kept before x base name fault good bad base_is name_is =
    let P : ℕ → Type 0 = λ n. BundleRefused size n bad.text kept before fault in
    let Q : List ℕ → Type 0 = λ t. BundleRefused size x.base t kept before fault in
    taken_bundle size x.base x.text kept before x.block_type x.blocks good.bundle fault
    (subst Q (one_text files name x.name bad.text x.text bad.there good.there name_is) (subst P base_is bad.refused))

module _ (size : ℕ) (files : Files) (bundles : List Bundle) (good : IsMerged size (Some files) bundles) where
  -- the same files, listed again
  merged_same : (others : List Bundle) → IsMerged size (Some files) others → map entry_of bundles ≡ map entry_of others
  merged_same others m = map_turned entry_of bundles others (ordered_same size good.names m.names (entries_of bundles) (entries_of others) good.ordered m.ordered (good.listed.all ∙ sym m.listed.all))

  kept_merged : (others : List Bundle) → IsMerged size (Some files) others → KeepAlike bundles others
  kept_merged others m = keep_alike size files bundles others good.good m.good (merged_same others m)

  no_fault_merged : (name : List ℕ) (fault : FileFault) → IsFirstInMerged size (Some files) name fault → fault ≡ Mem
  no_fault_merged name fault bad = by_cause bad.first
    where
      names_same : good.names ≡ bad.names
      names_same = good.listed.all ∙ sym bad.listed.all

      by_cause : IsOtherName size bad.names name fault ⊎ IsFirstBased size (Some files) bad.names name fault → fault ≡ Mem
      by_cause (inl o) = absurd (no_other_name size (map (λ (e : Entry). e.1) o.entries) name o.more good.ordered.found (sym (ap (map (base_in size)) (names_same ∙ o.names_are)) ∙ good.ordered.based.bases) o.other)
      by_cause (inr b) = no_bad_bundle size files (kept_of s.older) (tip_of s.older) s.x b.first.base name fault parts.0 at_older (ap (λ (e : Entry). e.0) (sym s.item)) (ap (λ (e : Entry). e.1) (sym s.item))
        where
          s : Split entry_of bundles (b.first.base, name) b.first.bundles
          s = split_at entry_of bundles b.first.bundles (b.first.base, name) b.first.more (ordered_same size good.names bad.names (entries_of bundles) b.entries good.ordered b.ordered names_same ∙ b.first.entries_are)

          parts : AreBundles size (Some files) (s.x ∷ s.older)
          parts = older_bundles size (Some files) s.newer s.x s.older (subst (AreBundles size (Some files)) s.whole good.good)

          alike : KeepAlike s.older b.first.bundles
          alike = keep_alike size files s.older b.first.bundles parts.1 b.first.good s.same

          at_older : IsBadBundle size (Some files) (kept_of s.older) (tip_of s.older) b.first.base name fault
          at_older =
              let P : Option (List ℕ) → Type 0 = λ k. IsBadBundle size (Some files) k (tip_of b.first.bundles) b.first.base name fault in
              let Q : Option BlockRef → Type 0 = λ t. IsBadBundle size (Some files) (kept_of s.older) t b.first.base name fault in
              subst Q (sym alike.tip) (subst P (sym alike.kept) b.first.bad)

-- ---- the whole shelf

-- told files have one layout
layout_same : (files : Files) (a b : Result ℕ ℕ) → HasLayout (Some files) a → HasLayout (Some files) b → a ≡ b
layout_same files a b h k = sym h.told_is ∙ ap layout_size (sym h.there ∙ k.there) ∙ k.told_is

module _ (files : Files) (report : Report) (good : IsGood (Some files) report) where
  one_size : (size : ℕ) → HasLayout (Some files) (Ok size) → size ≡ good.size
  one_size size layout = let e : (let r : Result ℕ ℕ = Ok size in r) ≡ Ok good.size = layout_same files (Ok size) (Ok good.size) layout good.layout in cc e

  as_merged : (size : ℕ) (others : List Bundle) → HasLayout (Some files) (Ok size) → IsMerged size (Some files) others → IsMerged good.size (Some files) others
  as_merged size others layout m = let P : ℕ → Type 0 = λ n. IsMerged n (Some files) others in subst P (one_size size layout) m

  -- a first fault in `one/`, after the kept type of the good files
  in_one : (others : List Bundle) (name : List ℕ) (fault : FileFault) → IsMerged good.size (Some files) others → IsFirstInFolder One (Some files) (kept_of others) name fault → fault ≡ Mem
  in_one others name fault m first =
      no_fault_in_folder One files (kept_of good.bundles) good.one name fault good.one_folder
      (subst (λ k. IsFirstInFolder One (Some files) k name fault) (sym (kept_merged good.size files good.bundles good.merged_folder others m).kept) first)

  kept_one : (others : List Bundle) (ones : List Single) → IsMerged good.size (Some files) others → IsFolder One (Some files) (kept_of others) ones → kept_after (kept_of good.bundles) good.one ≡ kept_after (kept_of others) ones
  kept_one others ones m o =
      let k = (kept_merged good.size files good.bundles good.merged_folder others m).kept in
      kept_in One files (kept_of good.bundles) good.one ones good.one_folder (subst (λ t. IsFolder One (Some files) t ones) (sym k) o) ∙ ap (λ t. kept_after t ones) k

  -- and in `forked/`
  in_forked : (others : List Bundle) (ones : List Single) (name : List ℕ) (fault : FileFault) → IsMerged good.size (Some files) others → IsFolder One (Some files) (kept_of others) ones
      → IsFirstInFolder Forked (Some files) (kept_after (kept_of others) ones) name fault → fault ≡ Mem
  in_forked others ones name fault m o first =
      no_fault_in_folder Forked files (kept_after (kept_of good.bundles) good.one) good.forked name fault good.forked_folder
      (subst (λ k. IsFirstInFolder Forked (Some files) k name fault) (sym (kept_one others ones m o)) first)

  no_fault : (name : List ℕ) (fault : FileFault) → IsFirstFault (Some files) name fault → fault ≡ Mem
  no_fault name fault (inl bad) = absurd (let clash : (let r : Result ℕ ℕ = Err bad.at in r) ≡ Ok good.size = layout_same files (Err bad.at) (Ok good.size) bad.layout good.layout in cc clash)
  no_fault name fault (inr (inl f)) =
      let P : ℕ → Type 0 = λ n. IsFirstInMerged n (Some files) name fault in
      no_fault_merged good.size files good.bundles good.merged_folder name fault (subst P (one_size f.size f.layout) f.first)
  no_fault name fault (inr (inr (inl f))) = in_one f.bundles name fault (as_merged f.size f.bundles f.layout f.merged_folder) f.first
  no_fault name fault (inr (inr (inr f))) = in_forked f.bundles f.one name fault (as_merged f.size f.bundles f.layout f.merged_folder) f.one_folder f.first

  length_same : {A B : Type 0} (f : A → B) (xs ys : List A) → map f xs ≡ map f ys → length xs ≡ length ys
  length_same f xs ys e = sym (length-map xs f) ∙ ap length e ∙ length-map ys f

  one_report : (other : Report) → IsGood (Some files) other → other ≡ report
  one_report other o =
      o.counts ∙ sym (counts_same (length_same entry_of good.bundles o.bundles bundles_same) alike.count (length_same (λ (x : Single). x.name) good.one o.one ones_same) (length_same (λ (x : Single). x.name) good.forked o.forked forked_same)) ∙ sym good.counts
    where
      merged : IsMerged good.size (Some files) o.bundles
      merged = as_merged o.size o.bundles o.layout o.merged_folder

      bundles_same : map entry_of good.bundles ≡ map entry_of o.bundles
      bundles_same = merged_same good.size files good.bundles good.merged_folder o.bundles merged

      alike : KeepAlike good.bundles o.bundles
      alike = kept_merged good.size files good.bundles good.merged_folder o.bundles merged

      ones_same : map (λ x. x.name) good.one ≡ map (λ x. x.name) o.one
      ones_same = folder_same One files (kept_of good.bundles) good.one o.one good.one_folder (subst (λ t. IsFolder One (Some files) t o.one) (sym alike.kept) o.one_folder)

      forked_same : map (λ x. x.name) good.forked ≡ map (λ x. x.name) o.forked
      forked_same =
          folder_same Forked files (kept_after (kept_of good.bundles) good.one) good.forked o.forked good.forked_folder
          (subst (λ t. IsFolder Forked (Some files) t o.forked) (sym (kept_one o.bundles o.one merged o.one_folder)) o.forked_folder)

      counts_same : length good.bundles ≡ length o.bundles → block_count good.bundles ≡ block_count o.bundles → length good.one ≡ length o.one → length good.forked ≡ length o.forked → report_of good.bundles good.one good.forked ≡ report_of o.bundles o.one o.forked
      counts_same a b c d = rw (a, b, c, d) refl

-- no fault but want of memory is a first fault, so no file is a cause of a refusal
good_refusal : (files : Files) (report : Report) → IsGood (Some files) report → (before now : ℕ) (fault : LoadFault) → Refused (λ name f. IsFirstFault (Some files) name f) before now fault → Refused (λ name f. ⊥) before now fault
good_refusal files report good before now (Store store.ShelfFault) r = r
good_refusal files report good before now (Store (store.ShelfBad name at)) r = let clash = no_fault files report good name (Bad at) r in cc clash
good_refusal files report good before now (Store (store.Missing name)) r = r
good_refusal files report good before now (Store (store.StoredOther kept read)) r = r
good_refusal files report good before now (Store (store.NameClash held offered)) r = r
good_refusal files report good before now (Store store.Mem) r = tt
good_refusal files report good before now (KindClash held offered) r = absurd (let clash = no_fault files report good r.0 (OtherType held offered) r.1 in cc clash)
good_refusal files report good before now (HistoryFull len need) r = r

-- what is answered to a shelf, where it is good
pub good_answer : (files : Option Files) (before now : ℕ) (result : Result Report LoadFault) → CheckAnswers files before now result → (report : Report) → IsGoodShelf files report → IsReported report before now result
good_answer None before now result answers report good = absurd good
good_answer (Some files) before now (Ok found) answers report good = one_report files report good found answers
good_answer (Some files) before now (Err fault) answers report good = good_refusal files report good before now fault answers
