-- Files that were taken in their order are those that the shelf shows.
use Rattle.std.proofs.Common.{arith, ◌≡◌, inl, inr, ℕ, true, List, [], ◌∷◌, ◌++◌, map, reverse, Option, Some, None, refl, sym, ap, subst, ◌∙◌, append-nil}
use Rattle.std.specs.Prelude.{codes, IsPermutation}
use Rattle.std.specs.Option.{unwrap_or}
use Rattle.std.specs.List.{AllByRecursion, filter_map}
use Rattle.std.proofs.lemmas.Bool.{both_ways}
use Rattle.std.proofs.lemmas.Grind.{flat_map-append}
use Rattle.std.proofs.lemmas.List.{map-append, reverse-append, reverse-reverse}
use Rattle.std.proofs.lemmas.List.Sorted.{All-permutation, IsPermutation-sym, IsPermutation-map, IsPermutation-append_comm}
use Rattle.std.proofs.lemmas.List.Elements.{All-from_recursion, recursion_from_All}
use Rattle.std.proofs.lemmas.Simd.{map-map}
use Rattle.block_record.specs.declared.blocks.Block.{Block}
use Rattle.block_record.specs.declared.blocks.Slip.{Slip}
use Rattle.block_record.specs.Slips.{slip}
use Rattle.block_record.proofs.public.ListFacts.{map_reverse}
use Rattle.dbin_file.proofs.public.FurtherFacts.{no_messages}
use Rattle.outer_world.specs.Files.{Files, AreInOrder, names_of, file_at, is_in}
use Rattle.one_block.specs.Files.{folder_of_size, base_in}
use Rattle.one_block.specs.declared.forms.Folder.{Folder}
use Rattle.one_block.specs.declared.forms.Folder.TheVariants.{One, Forked}
use Rattle.shelf_check.specs.Folders.{folder_text}
use Rattle.shelf_check.specs.Merged.{Entry}
use Rattle.relay_model.specs.Soundness.{IsBlock}
use Rattle.bundle_model.specs.Members.{Among}
use Rattle.bundle_model.specs.Bundles.{Bundle, blocks_of}
use Rattle.bundle_model.proofs.public.BundleFacts.{blocks_append}
use Rattle.bundle_model.proofs.public.MemberFacts.{among_all, all_among, among_left, among_right, among_parts, among_reverse, reverse_among, among_map, map_among, all_append}
use Rattle.store_model.specs.Shown.{Single, slips}
use Rattle.store_model.specs.Loads.{in_order}
use Rattle.store_model.specs.Loads.{taken as taken_of}
use Rattle.store_files.specs.Texts.{slip_in, slips_in}
use Rattle.store_files.specs.Folders.{in_folder, singles_of, merged_of, size_of, shown_of}
use Rattle.store_files.proofs.public.TextFacts.{holds_shows}
use Rattle.store_files.proofs.public.FolderFacts.{slips_has, slips_parts, of_folder, to_folder, apart, at_among, file_at_among}
use Rattle.shelf_load.specs.declared.put_by.Origin.{Origin}
use Rattle.shelf_load.specs.declared.put_by.Origin.TheVariants.{OwnFile, StoredFile}
use Rattle.shelf_load.specs.Sweeps.{text_at}
use Rattle.shelf_load.specs.Taking.{Taken, taken}
use Rattle.shelf_load.specs.LoadLaws.{slips_taken, slips_by, stored_taken, AreTaken}
use Rattle.shelf_load.specs.Loading.{TakenFile, file_taken, all_taken_of, entries_of, IsBundleTaken, origin_of, IsSingleTaken, AreOrdered, AreBundlesTaken, AreSinglesTaken}
use Rattle.shelf_load.proofs.EntryFacts.{placed_are, placed_behind, is_behind, key, order_keys, order_all, shown_under, IsAlone, IsShownAlone, single_keys, bundle_of, merged_placed, folder_texts, folder_names, singles_append}
use Rattle.shelf_load.proofs.PlaceFacts.{placed}
use Rattle.shelf_load.proofs.FilesFacts.{entries_more}

-- ---- lists of files that were taken

abbrev entry_of : TakenFile → Entry
entry_of x = (x.num, x.name)

entries_back : (xs : List TakenFile) → reverse (entries_of xs) ≡ map entry_of xs
entries_back xs = sym (map_reverse entry_of (reverse xs)) ∙ ap (map entry_of) (reverse-reverse xs)

entries_all : (P : Entry → Type 0) (xs : List TakenFile) → AllByRecursion (λ x. P (entry_of x)) xs → AllByRecursion P (entries_of xs)
entries_all P xs all = all_among P (entries_of xs) (λ e h.
    let m = map_among entry_of (reverse xs) e h in
    subst P m.2 (among_all (λ x. P (entry_of x)) xs all m.0 (reverse_among xs m.0 m.1)))

-- what holds of each of the files holds of each that was found
found_all : (P : Entry → Type 0) (names : List (List ℕ)) (xs : List TakenFile) → (o : AreOrdered names xs) → AllByRecursion (λ x. P (entry_of x)) xs → AllByRecursion P o.found
found_all P names xs o all =
    recursion_from_All P o.found (All-permutation P (entries_of xs) o.found (IsPermutation-sym o.found (entries_of xs) o.all) (All-from_recursion P (entries_of xs) (entries_all P xs all)))

-- the file of a name
pub record IsNamed (xs : List TakenFile) (name : List ℕ) : Type 0 where
  pub x : TakenFile
  pub there : Among xs x
  pub name_is : x.name ≡ name

pub named_file : (names : List (List ℕ)) (xs : List TakenFile) → AreOrdered names xs → (name : List ℕ) → Among names name → IsNamed xs name
named_file names xs o name h =
    let e = map_among (λ (e : Entry). e.1) o.found name (subst (λ (l : List (List ℕ)). Among l name) o.names_are h) in
    let each : AllByRecursion (λ x. IsNamed xs (entry_of x).1) xs = all_among (λ x. IsNamed xs (entry_of x).1) xs (λ x k. record { x = x; there = k; name_is = refl }) in
    subst (IsNamed xs) e.2 (among_all (λ d. IsNamed xs d.1) o.found (found_all (λ d. IsNamed xs d.1) names xs o each) e.0 e.1)

-- the slips of a file's blocks, the last first
slips_file : (x : TakenFile) → slips_taken (file_taken x) ≡ map slip x.blocks
slips_file x = map-map (λ (t : Taken). t.slip) (λ (b : Block). taken (slip b) x.origin) x.blocks

slips_more : (x : TakenFile) (older : List TakenFile) → slips_taken (all_taken_of (x ∷ older)) ≡ map slip x.blocks ++ slips_taken (all_taken_of older)
slips_more x older = map-append (λ (t : Taken). t.slip) (file_taken x) (all_taken_of older) ∙ ap (λ (l : List Slip). l ++ slips_taken (all_taken_of older)) (slips_file x)

-- a block of a file that was taken
record IsTakenIn (xs : List TakenFile) (t : Taken) : Type 0 where
  x : TakenFile
  there : Among xs x
  block : Block
  has : Among x.blocks block
  is : taken (slip block) x.origin ≡ t

taken_in : (xs : List TakenFile) (t : Taken) → Among (all_taken_of xs) t → IsTakenIn xs t
taken_in [] t h = absurd h
taken_in (x ∷ older) t h =
    elim (among_parts (file_taken x) (all_taken_of older) t h) [
      | inl own ↦ let b = map_among (λ (b : Block). taken (slip b) x.origin) x.blocks t own in record { x = x; there = inl refl; block = b.0; has = b.1; is = b.2 }
      | inr rest ↦ let r = taken_in older t rest in record { x = r.x; there = inr r.there; block = r.block; has = r.has; is = r.is }
    ]

in_taken : (xs : List TakenFile) (x : TakenFile) (b : Block) → Among xs x → Among x.blocks b → Among (all_taken_of xs) (taken (slip b) x.origin)
in_taken [] x b h k = absurd h
in_taken (y ∷ older) x b (inl e) k =
    let own : Among (file_taken x) (taken (slip b) x.origin) = among_map (λ (c : Block). taken (slip c) x.origin) x.blocks b k in
    among_left (file_taken y) (all_taken_of older) (taken (slip b) x.origin) (subst (λ (z : TakenFile). Among (file_taken z) (taken (slip b) x.origin)) (sym e) own)
in_taken (y ∷ older) x b (inr h) k = among_right (file_taken y) (all_taken_of older) (taken (slip b) x.origin) (in_taken older x b h k)

-- those of stored files
record IsStoredIn (ts : List Taken) (s : Slip) : Type 0 where
  t : Taken
  there : Among ts t
  origin_is : t.origin ≡ StoredFile
  slip_is : t.slip ≡ s

stored_in : (ts : List Taken) (s : Slip) → Among (stored_taken ts) s → IsStoredIn ts s
stored_in [] s h = absurd h
stored_in (t ∷ ts) s h = go t.origin refl h (λ k. stored_in ts s k)
  where
    later : IsStoredIn ts s → IsStoredIn (t ∷ ts) s
    later r = record { t = r.t; there = inr r.there; origin_is = r.origin_is; slip_is = r.slip_is }

    go : (o : Origin) → t.origin ≡ o → Among (slips_by o t.slip (stored_taken ts)) s → (Among (stored_taken ts) s → IsStoredIn ts s) → IsStoredIn (t ∷ ts) s
    go OwnFile e k rest = later (rest k)
    go StoredFile e (inl same) rest = record { t = t; there = inl refl; origin_is = e; slip_is = same }
    go StoredFile e (inr k) rest = later (rest k)

in_stored : (ts : List Taken) (t : Taken) → Among ts t → t.origin ≡ StoredFile → Among (stored_taken ts) t.slip
in_stored [] t h e = absurd h
in_stored (u ∷ ts) t (inl same) e =
    let origin : u.origin ≡ StoredFile = ap (λ (x : Taken). x.origin) same ∙ e in
    subst (λ (o : Origin). Among (slips_by o u.slip (stored_taken ts)) t.slip) (sym origin) (inl (ap (λ (x : Taken). x.slip) same))
in_stored (u ∷ ts) t (inr h) e = go u.origin (in_stored ts t h e)
  where
    go : (o : Origin) → Among (stored_taken ts) t.slip → Among (slips_by o u.slip (stored_taken ts)) t.slip
    go OwnFile k = k
    go StoredFile k = inr k

stored_block : (xs : List TakenFile) (x : TakenFile) (b : Block) → Among xs x → Among x.blocks b → x.origin ≡ StoredFile → Among (stored_taken (all_taken_of xs)) (slip b)
stored_block xs x b h k e = in_stored (all_taken_of xs) (taken (slip b) x.origin) (in_taken xs x b h k) e

-- ---- files of merged blocks

bundle_shows : (size : ℕ) (files : Files) (x : TakenFile) → IsBundleTaken size (Some files) x → shown_under files x.name ≡ map slip (reverse x.blocks)
bundle_shows size files x t = ap slips_in t.read.there ∙ holds_shows x.text x.block_type x.blocks t.read.holds

-- turned over, what they show is what was taken
bundles_taken : (size : ℕ) (files : Files) (xs : List TakenFile) → AllByRecursion (IsBundleTaken size (Some files)) xs → reverse (blocks_of (map (bundle_of files) (entries_of xs))) ≡ slips_taken (all_taken_of xs)
bundles_taken size files [] each = refl
bundles_taken size files (x ∷ older) each =
    let last : Bundle = bundle_of files (entry_of x) in
    let before : List Bundle = map (bundle_of files) (entries_of older) in
    let own : reverse (shown_under files x.name) ≡ map slip x.blocks =
    ap reverse (bundle_shows size files x each.0) ∙ sym (map_reverse slip (reverse x.blocks)) ∙ ap (map slip) (reverse-reverse x.blocks) in
    let parted : map (bundle_of files) (entries_of (x ∷ older)) ≡ before ++ last ∷ [] =
    ap (map (bundle_of files)) (entries_more older x) ∙ map-append (bundle_of files) (entries_of older) (entry_of x ∷ []) in
    let blocks : blocks_of (map (bundle_of files) (entries_of (x ∷ older))) ≡ blocks_of before ++ shown_under files x.name =
    ap blocks_of parted ∙ blocks_append before (last ∷ []) ∙ ap (λ (l : List Slip). blocks_of before ++ l) (append-nil (shown_under files x.name)) in
    ap reverse blocks ∙ reverse-append (blocks_of before) (shown_under files x.name)
    ∙ ap (λ (l : List Slip). l ++ reverse (blocks_of before)) own
    ∙ ap (λ (l : List Slip). map slip x.blocks ++ l) (bundles_taken size files older each.1)
    ∙ sym (slips_more x older)

-- the bundles that are shown are those that were taken
pub bundles_shown : (size : ℕ) (files : Files) (xs : List TakenFile) → AreInOrder (names_of files) → AreBundlesTaken size (Some files) xs
    → reverse (blocks_of (merged_of size (in_folder (folder_of_size size) files))) ≡ slips_taken (all_taken_of xs)
bundles_shown size files xs order t =
    let folder : List ℕ = folder_of_size size in
    let part : Files = in_folder folder files in
    let same : t.names ≡ names_of part = t.listed.all ∙ sym (folder_names folder files) in
    let bases = found_all (λ e. base_in size e.1 ≡ Some e.0) t.names xs t.ordered (all_among (λ x. base_in size x.name ≡ Some x.num) xs (λ x h. (among_all (IsBundleTaken size (Some files)) xs t.each x h).based)) in
    let merged = merged_placed files part size t.ordered.found (sym same ∙ t.ordered.names_are) bases (folder_texts folder files order) (subst AreInOrder same t.listed.in_order) in
    ap (λ (l : List Bundle). reverse (blocks_of l)) merged
    ∙ ap (λ (l : List Entry). reverse (blocks_of (map (bundle_of files) l))) (placed_are t.ordered.found (entries_of xs) t.ordered.all t.ordered.in_order)
    ∙ bundles_taken size files xs t.each

-- ---- files of one block

single_shows : (files : Files) (x : TakenFile) → (t : IsSingleTaken (Some files) x) → shown_under files x.name ≡ slip t.block ∷ []
single_shows files x t = ap slips_in t.there ∙ holds_shows x.text x.block_type (t.block ∷ []) t.single.holds

alone : (files : Files) (x : TakenFile) → IsSingleTaken (Some files) x → IsAlone files (entry_of x)
alone files x t = record { slip = slip t.block; shown = single_shows files x t; num = sym t.num_is }

first_same : (a b : Entry) (l m : List Entry) → (let x : List Entry = a ∷ l in x) ≡ b ∷ m → a ≡ b
first_same a b l m e = cc e

rest_same : (a b : Entry) (l m : List Entry) → (let x : List Entry = a ∷ l in x) ≡ b ∷ m → l ≡ m
rest_same a b l m e = cc e

-- files that are shown in the order in which files were taken have the slips of these
slips_same : (files : Files) (zs : List Single) (xs : List TakenFile) → map key zs ≡ map entry_of xs → AllByRecursion (IsShownAlone files) zs → AllByRecursion (IsSingleTaken (Some files)) xs → slips zs ≡ slips_taken (all_taken_of xs)
slips_same files [] [] keys shown each = refl
slips_same files [] (x ∷ xs) keys shown each = absurd (cc keys)
slips_same files (z ∷ zs) [] keys shown each = absurd (cc keys)
slips_same files (z ∷ zs) (x ∷ xs) keys shown each =
    let name : z.name ≡ x.name = ap (λ (e : Entry). e.1) (first_same (key z) (entry_of x) (map key zs) (map entry_of xs) keys) in
    let rest : map key zs ≡ map entry_of xs = rest_same (key z) (entry_of x) (map key zs) (map entry_of xs) keys in
    let one : z.slip ∷ [] ≡ slip each.0.block ∷ [] = sym shown.0 ∙ ap (shown_under files) name ∙ single_shows files x each.0 in
    let blocks : map slip x.blocks ≡ slip each.0.block ∷ [] = ap (map slip) each.0.blocks_are in
    ap (λ (l : List Slip). l ++ slips zs) (one ∙ sym blocks) ∙ ap (λ (l : List Slip). map slip x.blocks ++ l) (slips_same files zs xs rest shown.1 each.1) ∙ sym (slips_more x xs)

-- the files of one block that are shown, in their order, are those that were taken
pub singles_shown : (files : Files) (xs : List TakenFile) → AreInOrder (names_of files) → AreSinglesTaken (Some files) xs
    → slips (in_order (singles_of (in_folder (codes "one") files) ++ singles_of (in_folder (codes "forked") files))) ≡ slips_taken (all_taken_of xs)
singles_shown files xs order t = slips_same files (in_order shown) xs keys (order_all (IsShownAlone files) shown alones) t.each
  where
    forked : Files
    forked = in_folder (codes "forked") files

    one : Files
    one = in_folder (codes "one") files

    shown : List Single
    shown = singles_of one ++ singles_of forked

    names : names_of (forked ++ one) ≡ map (λ e. e.1) t.ordered.found
    names =
        map-append (λ (f : List ℕ × List ℕ). f.0) forked one
        ∙ ap (λ (l : List (List ℕ)). l ++ names_of one) (folder_names (codes "forked") files ∙ sym t.forked_listed.all)
        ∙ ap (λ (l : List (List ℕ)). t.forked ++ l) (folder_names (codes "one") files ∙ sym t.one_listed.all)
        ∙ t.ordered.names_are

    listed : (map key (singles_of (forked ++ one)) ≡ t.ordered.found) × AllByRecursion (IsShownAlone files) (singles_of (forked ++ one))
    listed =
        single_keys files (forked ++ one) t.ordered.found names
        (found_all (IsAlone files) (t.forked ++ t.one) xs t.ordered (all_among (λ x. IsAlone files (entry_of x)) xs (λ x h. alone files x (among_all (IsSingleTaken (Some files)) xs t.each x h))))
        (all_append (λ f. text_at f.0 files ≡ f.1) forked one (folder_texts (codes "forked") files order) (folder_texts (codes "one") files order))

    alones : AllByRecursion (IsShownAlone files) shown
    alones = all_among (IsShownAlone files) shown (λ z h.
        among_all (IsShownAlone files) (singles_of (forked ++ one)) listed.1 z
        (subst (λ (l : List Single). Among l z) (sym (singles_append forked one)) (elim (among_parts (singles_of one) (singles_of forked) z h) [
          | inl k ↦ among_right (singles_of forked) (singles_of one) z k
          | inr k ↦ among_left (singles_of forked) (singles_of one) z k
        ])))

    shuffled : IsPermutation t.ordered.found (map key shown)
    shuffled =
        subst (λ (l : List Entry). IsPermutation l (map key shown)) (ap (map key) (sym (singles_append forked one)) ∙ listed.0)
        (IsPermutation-map key (singles_of forked ++ singles_of one) shown (IsPermutation-append_comm (singles_of forked) (singles_of one)))

    keys : map key (in_order shown) ≡ map entry_of xs
    keys =
        order_keys shown ∙ sym (reverse-reverse (placed is_behind (map key shown)))
        ∙ ap reverse (placed_behind t.ordered.found (map key shown) (entries_of xs) shuffled t.ordered.all t.ordered.in_order)
        ∙ entries_back xs

-- ---- what is stored

forked_of : (folder : Folder) (o : Origin) (name : List ℕ) → o ≡ StoredFile → o ≡ origin_of folder → is_in (folder_text folder) name ≡ true → is_in (codes "forked") name ≡ true
forked_of One o name stored is inside = let clash : OwnFile ≡ StoredFile = sym is ∙ stored in absurd (cc clash)
forked_of Forked o name stored is inside = inside

not_both : (name : List ℕ) → is_in (codes "one") name ≡ true → is_in (codes "forked") name ≡ true → ⊥
not_both name one forked = both_ways _ (apart 111 102 (110 ∷ 101 ∷ []) (111 ∷ 114 ∷ 107 ∷ 101 ∷ 100 ∷ []) name (λ h. omega (arith, h)) one) forked

-- a name is in one folder
pub one_folder : (f g : Folder) (name : List ℕ) → is_in (folder_text f) name ≡ true → is_in (folder_text g) name ≡ true → f ≡ g
one_folder One One name a b = refl
one_folder One Forked name a b = absurd (not_both name a b)
one_folder Forked One name a b = absurd (not_both name b a)
one_folder Forked Forked name a b = refl

-- a file that shows a slip is there
shown_there : (files : Files) (name : List ℕ) (s : Slip) → shown_under files name ≡ s ∷ [] → file_at name files ≡ Some (text_at name files)
shown_there files name s e = go (file_at name files) e
  where
    go : (o : Option (List ℕ)) → slips_in (unwrap_or o []) ≡ s ∷ [] → o ≡ Some (unwrap_or o [])
    go None shows = let clash : (let l : List Slip = [] in l) ≡ s ∷ [] = sym (ap (filter_map slip_in) no_messages) ∙ shows in absurd (cc clash)
    go (Some text) shows = refl

only_block : (x : TakenFile) (b c : Block) → x.blocks ≡ c ∷ [] → Among x.blocks b → slip c ≡ slip b
only_block x b c e h = go (subst (λ (l : List Block). Among l b) e h)
  where
    go : Among (c ∷ []) b → slip c ≡ slip b
    go (inl same) = ap slip same
    go (inr none) = absurd none

the_block : (x : TakenFile) (c : Block) → x.blocks ≡ c ∷ [] → Among x.blocks c
the_block x c e = subst (λ (l : List Block). Among l c) (sym e) (inl refl)

-- a file of one block that was read as a stored one is shown in `forked/`
forked_shown : (files : Files) (x : TakenFile) (b : Block) → IsSingleTaken (Some files) x → Among x.blocks b → x.origin ≡ StoredFile → Among (slips (singles_of (in_folder (codes "forked") files))) (slip b)
forked_shown files x b t h stored =
    let inside : is_in (codes "forked") x.name ≡ true = forked_of t.folder x.origin x.name stored t.origin_is t.inside in
    let shows : shown_under files x.name ≡ slip t.block ∷ [] = single_shows files x t in
    let at : Among files (x.name, text_at x.name files) = at_among files x.name (text_at x.name files) (shown_there files x.name (slip t.block) shows) in
    let own : Among (shown_under files x.name) (slip b) = subst (λ (l : List Slip). Among l (slip b)) (sym shows) (inl (only_block x b t.block t.blocks_are h)) in
    slips_has (in_folder (codes "forked") files) x.name (slip b) (record { text = text_at x.name files; there = to_folder (codes "forked") files (x.name, text_at x.name files) at inside; shows = own })

-- and the other way about
shown_forked : (files : Files) (xs : List TakenFile) → AreInOrder (names_of files) → AreSinglesTaken (Some files) xs → (s : Slip) → Among (slips (singles_of (in_folder (codes "forked") files))) s
    → Among (stored_taken (all_taken_of xs)) s
shown_forked files xs order t s h =
    let part : Files = in_folder (codes "forked") files in
    let y = slips_parts part s h in
    let f = of_folder (codes "forked") files (y.0, y.1.text) y.1.there in
    let name : Among t.forked y.0 =
    subst (λ (l : List (List ℕ)). Among l y.0) (folder_names (codes "forked") files ∙ sym t.forked_listed.all) (among_map (λ (g : List ℕ × List ℕ). g.0) part (y.0, y.1.text) y.1.there) in
    let n = named_file (t.forked ++ t.one) xs t.ordered y.0 (among_left t.forked t.one y.0 name) in
    let own : IsSingleTaken (Some files) n.x = among_all (IsSingleTaken (Some files)) xs t.each n.x n.there in
    let inside : is_in (codes "forked") n.x.name ≡ true = subst (λ (l : List ℕ). is_in (codes "forked") l ≡ true) (sym n.name_is) f.1 in
    let at : text_at y.0 files ≡ y.1.text = ap (λ (o : Option (List ℕ)). unwrap_or o []) (file_at_among files (y.0, y.1.text) order f.0) in
    let shows : slips_in y.1.text ≡ slip own.block ∷ [] = ap slips_in (sym at) ∙ ap (shown_under files) (sym n.name_is) ∙ single_shows files n.x own in
    let stored : Among (stored_taken (all_taken_of xs)) (slip own.block) =
    stored_block xs n.x own.block n.there (the_block n.x own.block own.blocks_are) (own.origin_is ∙ ap origin_of (one_folder own.folder Forked n.x.name own.inside inside)) in
    elim (subst (λ (l : List Slip). Among l s) shows y.1.shows) [ inl e ↦ subst (Among (stored_taken (all_taken_of xs))) e stored | inr none ↦ absurd none ]

-- ---- all files

blocks_taken : (xs : List TakenFile) → AllByRecursion IsBlock (slips_taken (all_taken_of xs))
blocks_taken xs = all_among IsBlock (slips_taken (all_taken_of xs)) (λ s h.
    let t = map_among (λ (t : Taken). t.slip) (all_taken_of xs) s h in
    let b = taken_in xs t.0 t.1 in
    subst IsBlock (ap (λ (u : Taken). u.slip) b.is ∙ t.2) b.block.parent_first)

stored_singles : (files : Files) (xs : List TakenFile) → AllByRecursion (IsSingleTaken (Some files)) xs → (x : TakenFile) → Among xs x → (b : Block) → Among x.blocks b → x.origin ≡ StoredFile
    → Among (slips (singles_of (in_folder (codes "forked") files))) (slip b)
stored_singles files xs each x h b k stored = forked_shown files x b (among_all (IsSingleTaken (Some files)) xs each x h) k stored

-- files that were all taken in their order are those that the shelf shows
pub shown_taken : (files : Files) (bundles singles : List TakenFile) → AreInOrder (names_of files) → AreBundlesTaken (size_of files) (Some files) bundles → AreSinglesTaken (Some files) singles
    → AreTaken (shown_of files) (all_taken_of (singles ++ bundles))
shown_taken files bundles singles order b s = record { all = all; blocks = blocks_taken (singles ++ bundles); stored = stored; told = told }
  where
    merged : List Bundle
    merged = merged_of (size_of files) (in_folder (folder_of_size (size_of files)) files)

    forked : List Slip
    forked = slips (singles_of (in_folder (codes "forked") files))

    parts : all_taken_of (singles ++ bundles) ≡ all_taken_of singles ++ all_taken_of bundles
    parts = flat_map-append file_taken singles bundles

    shown : reverse (blocks_of merged) ≡ slips_taken (all_taken_of bundles)
    shown = bundles_shown (size_of files) files bundles order b

    all : slips_taken (all_taken_of (singles ++ bundles)) ≡ taken_of (shown_of files)
    all =
        ap slips_taken parts ∙ map-append (λ (t : Taken). t.slip) (all_taken_of singles) (all_taken_of bundles)
        ∙ ap (λ (l : List Slip). l ++ slips_taken (all_taken_of bundles)) (sym (singles_shown files singles order s))
        ∙ ap (λ (l : List Slip). taken_singles ++ l) (sym shown)
      where
        taken_singles : List Slip
        taken_singles = slips (in_order (singles_of (in_folder (codes "one") files) ++ singles_of (in_folder (codes "forked") files)))

    stored : (x : Slip) → Among (stored_taken (all_taken_of (singles ++ bundles))) x → Among (blocks_of merged ++ forked) x
    stored x h =
        let r = stored_in (all_taken_of (singles ++ bundles)) x h in
        let t = taken_in (singles ++ bundles) r.t r.there in
        let same : slip t.block ≡ x = ap (λ (u : Taken). u.slip) t.is ∙ r.slip_is in
        let origin : t.x.origin ≡ StoredFile = ap (λ (u : Taken). u.origin) t.is ∙ r.origin_is in
        elim (among_parts singles bundles t.x t.there) [
          | inl k ↦ among_right (blocks_of merged) forked x (subst (Among forked) same (stored_singles files singles s.each t.x k t.block t.has origin))
          | inr k ↦
              let own : Among (slips_taken (all_taken_of bundles)) (slip t.block) = among_map (λ (u : Taken). u.slip) (all_taken_of bundles) (taken (slip t.block) t.x.origin) (in_taken bundles t.x t.block k t.has) in
              let back : Among (blocks_of merged) (slip t.block) = reverse_among (blocks_of merged) (slip t.block) (subst (λ (l : List Slip). Among l (slip t.block)) (sym shown) own) in
              among_left (blocks_of merged) forked x (subst (Among (blocks_of merged)) same back)
        ]

    told : (x : Slip) → Among (blocks_of merged ++ forked) x → Among (stored_taken (all_taken_of (singles ++ bundles))) x
    told x h =
        elim (among_parts (blocks_of merged) forked x h) [
          | inl k ↦
              let m = map_among (λ (u : Taken). u.slip) (all_taken_of bundles) x (subst (λ (l : List Slip). Among l x) shown (among_reverse (blocks_of merged) x k)) in
              let t = taken_in bundles m.0 m.1 in
              let origin : t.x.origin ≡ StoredFile = (among_all (IsBundleTaken (size_of files) (Some files)) bundles b.each t.x t.there).read.origin_is in
              subst (Among (stored_taken (all_taken_of (singles ++ bundles)))) (ap (λ (u : Taken). u.slip) t.is ∙ m.2)
              (stored_block (singles ++ bundles) t.x t.block (among_right singles bundles t.x t.there) t.has origin)
          | inr k ↦
              let r = stored_in (all_taken_of singles) x (shown_forked files singles order s x k) in
              let t = taken_in singles r.t r.there in
              subst (Among (stored_taken (all_taken_of (singles ++ bundles)))) (ap (λ (u : Taken). u.slip) t.is ∙ r.slip_is)
              (stored_block (singles ++ bundles) t.x t.block (among_left singles bundles t.x t.there) t.has (ap (λ (u : Taken). u.origin) t.is ∙ r.origin_is))
        ]
