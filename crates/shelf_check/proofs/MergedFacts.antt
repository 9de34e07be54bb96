-- Files of merged blocks, one after another.
use Rattle.std.proofs.Common.{arith, ◌≡◌, ◌<◌, ◌≤◌, ◌+◌, ◌-◌, ◌^◌, min, ℕ, suc, List, [], ◌∷◌, ◌++◌, length, map, reverse, take, drop, get_or, Option, Some, None, refl, sym, ap, subst, ◌∙◌}
use Rattle.std.proofs.lemmas.List.{length-map, length-reverse, take_more, take_all, map-append}
use Rattle.block_record.specs.declared.blocks.BlockRef.{BlockRef}
use Rattle.dbin_file.specs.Contents.{told}
use Rattle.one_block.specs.Files.{base_in}
use Rattle.outer_world.specs.Files.{Files}
use Rattle.one_block.specs.declared.file_faults.FileFault.{FileFault}
use Rattle.one_block.specs.declared.file_faults.FileFault.TheVariants.{Bad}
use Rattle.shelf_check.specs.declared.merged.MergedRead.{MergedRead}
use Rattle.shelf_check.specs.declared.bundles.BundleRead.{BundleRead}
use Rattle.shelf_check.specs.Bundles.{tip_after, IsBundleRead}
use Rattle.file_reader.specs.Reading.{HasText}
use Rattle.shelf_check.specs.Merged.{Entry, AreBased, IsOtherName, Bundle, IsBundleOn, kept_of, block_count, entries_of, IsBadBundle, IsFirstOf, IsNextRead, IsRefusedBundle, AreRead}
use Rattle.shelf_check.proofs.ListFacts.{taken_more, cut_at}

pub based_none : (size : ℕ) (names : List (List ℕ)) → AreBased size (take 0 names) []
based_none size names = record { names_are = refl; bases = refl }

based_bases : (size : ℕ) (front : List (List ℕ)) (entries : List Entry) (name : List ℕ) (base : ℕ) → AreBased size front entries → Some base ≡ base_in size name → AreBased size (front ++ name ∷ []) (entries ++ (base, name) ∷ [])
based_bases size front entries name base b is = record {
  names_are = ap (λ (l : List (List ℕ)). l ++ name ∷ []) b.names_are ∙ sym (map-append (λ (e : Entry). e.1) entries ((base, name) ∷ []));
  bases =
      map-append (base_in size) front (name ∷ []) ∙ ap (λ (l : List (Option ℕ)). l ++ base_in size name ∷ []) b.bases
      ∙ ap (λ (o : Option ℕ). map (λ (e : Entry). Some e.0) entries ++ o ∷ []) (sym is) ∙ sym (map-append (λ (e : Entry). Some e.0) entries ((base, name) ∷ []));
}

-- one more name
pub based_more : (size : ℕ) (names : List (List ℕ)) (entries entries' : List Entry) (i : ℕ) (name : List ℕ) (base : ℕ) → i < length names → name ≡ get_or names i name → AreBased size (take i names) entries → Some base ≡ base_in size name
    → entries' ≡ entries ++ (base, name) ∷ [] → AreBased size (take (i + 1) names) entries'
based_more size names entries entries' i name base within item b is grown =
    let taken : take (i + 1) names ≡ take i names ++ name ∷ [] = take_more names i name within ∙ ap (λ (n : List ℕ). take i names ++ n ∷ []) (sym item) in
    let P : List (List ℕ) → Type 0 = λ ns. AreBased size ns entries' in
    let Q : List Entry → Type 0 = λ es. AreBased size (take i names ++ name ∷ []) es in
    subst P (sym taken) (subst Q (sym grown) (based_bases size (take i names) entries name base b is))

-- a name of another form
pub other_name : (size : ℕ) (names : List (List ℕ)) (entries : List Entry) (i : ℕ) (name : List ℕ) → i < length names → name ≡ get_or names i name → AreBased size (take i names) entries → None ≡ base_in size name → IsOtherName size names name (Bad 0)
other_name size names entries i name within item b none = record {
  entries = entries;
  more = drop (suc i) names;
  names_are = cut_at names (map (λ e. e.1) entries) i name within item b.names_are;
  bases = ap (map (base_in size)) (sym b.names_are) ∙ b.bases;
  other = sym none;
  place = refl;
}

-- ---- the files

pub read_none : (size : ℕ) (files : Option Files) (entries : List Entry) (read : MergedRead) → read.kept ≡ None → read.tip ≡ None → read.blocks ≡ 0 → AreRead size files (take 0 entries) read
read_none size files entries read kept tip blocks = record { bundles = []; entries_are = refl; good = tt; kept = kept; tip = tip; blocks = omega (arith, blocks) }

told_more : (x y : ℕ) → min (min x (2 ^ 64 - 1) + y) (2 ^ 64 - 1) ≡ min (x + y) (2 ^ 64 - 1)
told_more x y = omega arith

pub read_more : (size : ℕ) (files now : Option Files) (entries : List Entry) (i : ℕ) (entry : Entry) (old new : MergedRead) → i < length entries → entry ≡ get_or entries i entry → now ≡ files
    → AreRead size files (take i entries) old → IsNextRead size now entry.0 entry.1 old new → AreRead size files (take (i + 1) entries) new
read_more size files now entries i entry old new within item same r n = record {
  bundles = n.x ∷ r.bundles;
  entries_are = taken_more (λ (x : Bundle). (x.base, x.name)) n.x r.bundles entries i entry within item (pair_is n.x.base entry.0 n.x.name entry.1 n.base_is n.name_is) r.entries_are;
  good =
      let P : Option Files → Type 0 = λ fs. IsBundleOn size fs old.kept old.tip n.x in
      let Q : Option (List ℕ) → Type 0 = λ k. IsBundleOn size files k old.tip n.x in
      let R : Option BlockRef → Type 0 = λ t. IsBundleOn size files (kept_of r.bundles) t n.x in
      (subst R r.tip (subst Q r.kept (subst P same n.good)), r.good);
  kept = n.kept;
  tip = n.tip ∙ ap (λ (t : Option BlockRef). tip_after t n.x.blocks) r.tip;
  blocks = n.blocks ∙ ap (λ b. told (b + length n.x.blocks)) r.blocks ∙ told_more (block_count r.bundles) (length n.x.blocks);
}
  where
    pair_is : (a b : ℕ) (p q : List ℕ) → a ≡ b → p ≡ q → (let e : Entry = (b, q) in e) ≡ (a, p)
    pair_is a b p q e f = cc

pub read_first : (size : ℕ) (files now : Option Files) (entries : List Entry) (i : ℕ) (entry : Entry) (old : MergedRead) → i < length entries → entry ≡ get_or entries i entry → now ≡ files
    → AreRead size files (take i entries) old → (name : List ℕ) (fault : FileFault) → IsRefusedBundle size now entry.0 entry.1 old name fault → IsFirstOf size files entries name fault
read_first size files now entries i entry old within item same r name fault f = record {
  bundles = r.bundles;
  base = entry.0;
  more = drop (suc i) entries;
  entries_are = cut_at entries (entries_of r.bundles) i entry within item r.entries_are ∙ ap (λ (n : List ℕ). entries_of r.bundles ++ (entry.0, n) ∷ drop (suc i) entries) (sym f.told_is);
  good = r.good;
  bad =
      let P : Option Files → Type 0 = λ fs. IsBadBundle size fs old.kept old.tip entry.0 name fault in
      let Q : Option (List ℕ) → Type 0 = λ k. IsBadBundle size files k old.tip entry.0 name fault in
      let R : List ℕ → Type 0 = λ n. IsBadBundle size now old.kept old.tip entry.0 n fault in
      let T : Option BlockRef → Type 0 = λ t. IsBadBundle size files (kept_of r.bundles) t entry.0 name fault in
      subst T r.tip (subst Q r.kept (subst P same (subst R (sym f.told_is) f.bad)));
}

-- all files were read
pub read_all : (size : ℕ) (files : Option Files) (entries : List Entry) (read : MergedRead) (n : ℕ) → n ≡ length entries → AreRead size files (take n entries) read → AreRead size files entries read
read_all size files entries read n all r = record { bundles = r.bundles; entries_are = sym (take_all n entries (by_length n all)) ∙ r.entries_are; good = r.good; kept = r.kept; tip = r.tip; blocks = r.blocks }
  where
    by_length : (k : ℕ) → k ≡ length entries → length entries ≤ k
    by_length k e = omega arith

-- as many files as bases
pub as_many : (entries : List Entry) (bundles : List Bundle) → entries ≡ entries_of bundles → length entries ≡ length bundles
as_many entries bundles is = ap length is ∙ length-map (reverse bundles) (λ x. (x.base, x.name)) ∙ length-reverse bundles

-- a file that was read
pub bundle_read : (size : ℕ) (files : Option Files) (base : ℕ) (name text : List ℕ) (old new : MergedRead) (x : BundleRead) → HasText files name text → IsBundleRead size base text old.kept old.tip x
    → new.kept ≡ Some x.block_type → new.tip ≡ Some x.tip → new.blocks ≡ told (old.blocks + x.blocks) → IsNextRead size files base name old new
bundle_read size files base name text old new x there r kept tip blocks = record {
  x = record { base = base; name = name; text = text; block_type = x.block_type; blocks = r.blocks };
  base_is = refl;
  name_is = refl;
  good = record { there = there; bundle = r.bundle };
  kept = kept;
  tip = tip ∙ r.tip;
  blocks = blocks ∙ ap (λ n. told (old.blocks + n)) r.count;
}
