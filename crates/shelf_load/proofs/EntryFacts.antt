-- What the files of a folder show, in the order of their numbers and names.
use Rattle.std.proofs.Common.{arith, ◌≡◌, ◌<◌, inl, inr, ℕ, Bool, true, false, cond, List, [], ◌∷◌, ◌++◌, map, reverse, Option, Some, refl, sym, ap, subst, ◌∙◌, IsTrue, append_assoc}
use Rattle.std.specs.Prelude.{IsPermutation, IsSorted}
use Rattle.std.specs.Option.{unwrap_or}
use Rattle.std.specs.List.{AllByRecursion}
use Rattle.std.specs.Cmp.{IsTotalOrder, then_total, on_total, nat_cmp_total}
use Rattle.std.specs.Cmp.Lexicographic.{slice_cmp, nat_list_cmp_total}
use Rattle.std.specs.Ordering.{nat_cmp, is_lt, ordering_then}
use Rattle.std.specs.declared.cmp.Ordering.{Ordering}
use Rattle.std.specs.declared.cmp.Ordering.TheVariants as order
use Rattle.std.proofs.lemmas.Bool.{both_ways, lt-ltb, eq-eqb, ne_eqb}
use Rattle.std.proofs.lemmas.List.MinMax.{ranks_by}
use Rattle.std.proofs.lemmas.List.Sorted.{IsPermutation-trans, IsPermutation-reverse}
use Rattle.std.proofs.lemmas.Map.Lookups.{exact_unsigned, exact_bytes}
use Rattle.std.proofs.lemmas.Slice.Eq.{bytes_eq-Decides}
use Rattle.block_record.specs.declared.blocks.Slip.{Slip}
use Rattle.outer_world.specs.Files.{Files, AreInOrder, names_of, comes_before, is_in, names_in}
use Rattle.outer_world.proofs.public.FileFacts.{before_other}
use Rattle.one_block.specs.Files.{base_in}
use Rattle.one_block.proofs.public.FileFacts.{one_base_name}
use Rattle.shelf_check.specs.Merged.{Entry, entry_order}
use Rattle.shelf_check.proofs.public.SortedFacts.{sorted_same}
use Rattle.bundle_model.specs.Members.{Among}
use Rattle.bundle_model.specs.Bundles.{Bundle}
use Rattle.bundle_model.proofs.public.Climbs.{ltb_no}
use Rattle.bundle_model.proofs.public.MemberFacts.{among_all, all_among, among_map}
use Rattle.store_model.specs.Shown.{Single}
use Rattle.store_model.specs.Loads.{is_after, insert, in_order}
use Rattle.store_model.specs.Steps.{with_bundle}
use Rattle.store_files.specs.Texts.{slips_in}
use Rattle.store_files.specs.Folders.{in_folder, single, singles_of, with_base, merged_of}
use Rattle.store_files.proofs.public.BundleFacts.{three}
use Rattle.store_files.proofs.public.FolderFacts.{File, of_folder, file_at_among}
use Rattle.shelf_load.specs.Sweeps.{text_at}
use Rattle.shelf_load.proofs.PlaceFacts.{place, placed, placed_shuffles, placed_all, placed_sorted, reverse_sorted}

-- ---- the order of numbers and names

entry_total : IsTotalOrder entry_order
entry_total = then_total (on_total (λ (e : Entry). e.0) nat_cmp_total) (on_total (λ (e : Entry). e.1) nat_list_cmp_total)

pair_is : (m n : ℕ) (p q : List ℕ) → m ≡ n → p ≡ q → (let x : Entry = (m, p) in x) ≡ (n, q)
pair_is m n p q i j = cc

entry_exact : (a b : Entry) → entry_order a b ≡ order.Equal → a ≡ b
entry_exact a b e = by_order (nat_cmp a.0 b.0) (slice_cmp nat_cmp a.1 b.1) refl refl e
  where
    by_order : (r t : Ordering) → nat_cmp a.0 b.0 ≡ r → slice_cmp nat_cmp a.1 b.1 ≡ t → ordering_then r t ≡ order.Equal → a ≡ b
    by_order order.Less t r_is t_is same = absurd (cc same)
    by_order order.Equal t r_is t_is same = pair_is a.0 b.0 a.1 b.1 (exact_unsigned a.0 b.0 r_is) (exact_bytes a.1 b.1 (t_is ∙ same))
    by_order order.Greater t r_is t_is same = absurd (cc same)

abbrev pub is_before : Entry → Entry → Bool
is_before a b = is_lt (entry_order a b)

-- the other way about, the last first
abbrev pub is_behind : Entry → Entry → Bool
is_behind a b = is_before b a

one_way : (a b : Entry) → is_before a b ≡ true → is_before b a ≡ false
one_way a b e = (ranks_by entry_total (λ (x : Entry). x)).one_way a b e

lower_before : (a b : Entry) → a.0 < b.0 → is_before a b ≡ true
lower_before a b less = let e = lt-ltb a.0 b.0 less in rw e refl

higher_not : (a b : Entry) → b.0 < a.0 → is_before a b ≡ false
higher_not a b less =
    let e = ltb_no a.0 b.0 (omega (arith, less)) in
    let f = ne_eqb a.0 b.0 (λ h. omega (arith, h, less)) in
    rw (e, f) refl

-- sorted entries are those that are in order
pub placed_are : (found entries : List Entry) → IsPermutation found entries → IsSorted entry_order entries → placed is_before found ≡ entries
placed_are found entries all up =
    sorted_same entry_order entry_total entry_exact found (placed is_before found) entries (placed_shuffles is_before found) all (placed_sorted is_before one_way found) up

-- and so are those that are sorted the other way about, once turned over
pub placed_behind : (found keys entries : List Entry) → IsPermutation found keys → IsPermutation found entries → IsSorted entry_order entries → reverse (placed is_behind keys) ≡ entries
placed_behind found keys entries shuffled all up =
    sorted_same entry_order entry_total entry_exact found (reverse (placed is_behind keys)) entries
    (IsPermutation-trans found keys (reverse (placed is_behind keys)) shuffled (IsPermutation-trans keys (placed is_behind keys) (reverse (placed is_behind keys)) (placed_shuffles is_behind keys) (IsPermutation-reverse (placed is_behind keys)))) all
    (reverse_sorted is_before (placed is_behind keys) (placed_sorted is_behind (λ a b e. one_way b a e) keys)) up

-- ---- files of one block

-- the number and the name by which a file is taken
abbrev pub key : Single → Entry
key z = (z.slip.num, z.name)

after_behind : (x y : Single) → is_after x y ≡ is_behind (key x) (key y)
after_behind x y =
    elim (three y.slip.num x.slip.num) [
      | inl less ↦ let e = lt-ltb y.slip.num x.slip.num less in rw e refl
      | inr other ↦ elim other [
        | inl same ↦
            let e = ltb_no y.slip.num x.slip.num (omega (arith, same)) in
            let f = eq-eqb y.slip.num x.slip.num same in
            let g = eq-eqb x.slip.num y.slip.num (sym same) in
            rw (e, f, g) refl
        | inr more ↦
            let e = ltb_no y.slip.num x.slip.num (omega (arith, more)) in
            let f = ne_eqb y.slip.num x.slip.num (λ h. omega (arith, h, more)) in
            let g = ne_eqb x.slip.num y.slip.num (λ h. omega (arith, h, more)) in
            rw (e, f, g) refl
      ]
    ]

insert_key : (x : Single) (ys : List Single) → map key (insert x ys) ≡ place is_behind (key x) (map key ys)
insert_key x [] = refl
insert_key x (y ∷ ys) =
    let rest = insert_key x ys in
    let P : Bool → Type 0 = λ b. map key (cond b (x ∷ y ∷ ys) (y ∷ insert x ys)) ≡ cond b (key x ∷ key y ∷ map key ys) (key y ∷ place is_behind (key x) (map key ys)) in
    let each : P (is_after x y) = elim (is_after x y) as P [ true ↦ refl | false ↦ ap (λ (l : List Entry). key y ∷ l) rest ] in
    each ∙ ap (λ (b : Bool). cond b (key x ∷ key y ∷ map key ys) (key y ∷ place is_behind (key x) (map key ys))) (after_behind x y)

-- files in the order in which they are taken, by their numbers and names
pub order_keys : (xs : List Single) → map key (in_order xs) ≡ placed is_behind (map key xs)
order_keys [] = refl
order_keys (x ∷ xs) = insert_key x (in_order xs) ∙ ap (place is_behind (key x)) (order_keys xs)

insert_placed : (x : Single) (ys : List Single) → insert x ys ≡ place is_after x ys
insert_placed x [] = refl
insert_placed x (y ∷ ys) = ap (λ (l : List Single). cond (is_after x y) (x ∷ y ∷ ys) (y ∷ l)) (insert_placed x ys)

order_placed : (xs : List Single) → in_order xs ≡ placed is_after xs
order_placed [] = refl
order_placed (x ∷ xs) = insert_placed x (in_order xs) ∙ ap (place is_after x) (order_placed xs)

-- what holds of each file holds of each in that order
pub order_all : (P : Single → Type 0) (xs : List Single) → AllByRecursion P xs → AllByRecursion P (in_order xs)
order_all P xs all = subst (AllByRecursion P) (sym (order_placed xs)) (placed_all is_after P xs all)

-- the slips that the file of a name shows
abbrev pub shown_under : Files → List ℕ → List Slip
shown_under files name = slips_in (text_at name files)

-- the file of this number and name shows one slip, which has the number
pub record IsAlone (files : Files) (e : Entry) : Type 0 where
  pub slip : Slip
  pub shown : shown_under files e.1 ≡ slip ∷ []
  pub num : slip.num ≡ e.0

-- the files have the texts of their names
abbrev pub HaveTexts : Files → Files → Type 0
HaveTexts files part = AllByRecursion (λ (f : File). text_at f.0 files ≡ f.1) part

abbrev pub IsShownAlone : Files → Single → Type 0
IsShownAlone files z = shown_under files z.name ≡ z.slip ∷ []

-- files of one block each, by their numbers and names
pub single_keys : (files part : Files) (found : List Entry) → names_of part ≡ map (λ e. e.1) found → AllByRecursion (IsAlone files) found → HaveTexts files part
    → (map key (singles_of part) ≡ found) × AllByRecursion (IsShownAlone files) (singles_of part)
single_keys files [] [] names alone texts = (refl, tt)
single_keys files [] (e ∷ found) names alone texts = absurd (cc names)
single_keys files (f ∷ part) [] names alone texts = absurd (cc names)
single_keys files (f ∷ part) (e ∷ found) names alone texts =
    let name : f.0 ≡ e.1 = cc names in
    let rest : names_of part ≡ map (λ x. x.1) found = cc names in
    let ih = single_keys files part found rest alone.1 texts.1 in
    let s : Slip = alone.0.slip in
    let under : shown_under files f.0 ≡ s ∷ [] = ap (shown_under files) name ∙ alone.0.shown in
    let shows : slips_in f.1 ≡ s ∷ [] = ap slips_in (sym texts.0) ∙ under in
    let first : (let x : Entry = (s.num, f.0) in x) ≡ e = pair_is s.num e.0 f.0 e.1 alone.0.num name in
    let keys : (let l : List Entry = (s.num, f.0) ∷ map key (singles_of part) in l) ≡ e ∷ found = ap (λ (x : Entry). x ∷ map key (singles_of part)) first ∙ ap (λ (l : List Entry). e ∷ l) ih.0 in
    let P : List Slip → Type 0 = λ l. (map key (map (single f.0) l ++ singles_of part) ≡ e ∷ found) × AllByRecursion (IsShownAlone files) (map (single f.0) l ++ singles_of part) in
    subst P (sym shows) (keys, (under, ih.1))

-- ---- files of merged blocks

-- the bundle that the file of this base and name shows
abbrev pub bundle_of : Files → Entry → Bundle
bundle_of files e = record { base = e.0; blocks = shown_under files e.1 }

bundle_place : (files : Files) (e : Entry) (l : List Entry) → AllByRecursion (λ d. d.0 ≡ e.0 → ⊥) l → with_bundle (bundle_of files e) (map (bundle_of files) l) ≡ map (bundle_of files) (place is_before e l)
bundle_place files e [] others = refl
bundle_place files e (d ∷ l) others =
    elim (three d.0 e.0) [
      | inl less ↦
          let t = lt-ltb d.0 e.0 less in
          let u = higher_not e d less in
          rw (t, u) (ap (λ (bs : List Bundle). bundle_of files d ∷ bs) (bundle_place files e l others.1))
      | inr other ↦ elim other [
        | inl same ↦ absurd (others.0 same)
        | inr more ↦
            let t = ltb_no d.0 e.0 (omega (arith, more)) in
            let u = ne_eqb d.0 e.0 others.0 in
            let v = lower_before e d more in
            rw (t, u, v) refl
      ]
    ]

-- bundles in the order of their bases
pub merged_placed : (files part : Files) (size : ℕ) (found : List Entry) → names_of part ≡ map (λ e. e.1) found → AllByRecursion (λ e. base_in size e.1 ≡ Some e.0) found → HaveTexts files part → AreInOrder (names_of part)
    → merged_of size part ≡ map (bundle_of files) (placed is_before found)
merged_placed files [] size [] names bases texts order = refl
merged_placed files [] size (e ∷ found) names bases texts order = absurd (cc names)
merged_placed files (f ∷ part) size [] names bases texts order = absurd (cc names)
merged_placed files (f ∷ part) size (e ∷ found) names bases texts order =
    let name : f.0 ≡ e.1 = cc names in
    let rest : names_of part ≡ map (λ x. x.1) found = cc names in
    let base : base_in size f.0 ≡ Some e.0 = ap (base_in size) name ∙ bases.0 in
    let shows : slips_in f.1 ≡ shown_under files e.1 = ap slips_in (sym texts.0) ∙ ap (shown_under files) name in
    ap (λ (o : Option ℕ). with_base o (slips_in f.1) (merged_of size part)) base
    ∙ ap (λ (l : List Slip). with_bundle (record { base = e.0; blocks = l }) (merged_of size part)) shows
    ∙ ap (with_bundle (bundle_of files e)) (merged_placed files part size found rest bases.1 texts.1 order.1)
    ∙ bundle_place files e (placed is_before found) (placed_all is_before (λ d. d.0 ≡ e.0 → ⊥) found (all_among (λ d. d.0 ≡ e.0 → ⊥) found (other name rest)))
  where
    -- a later file has another base
    other : f.0 ≡ e.1 → names_of part ≡ map (λ x. x.1) found → (d : Entry) → Among found d → d.0 ≡ e.0 → ⊥
    other name rest d there same =
        let based : base_in size d.1 ≡ Some e.0 = among_all (λ x. base_in size x.1 ≡ Some x.0) found bases.1 d there ∙ ap (λ (n : ℕ). Some n) same in
        let one : d.1 ≡ e.1 = one_base_name size d.1 e.1 e.0 based bases.0 in
        let named : Among (names_of part) d.1 = subst (λ (l : List (List ℕ)). Among l d.1) (sym rest) (among_map (λ (x : Entry). x.1) found d there) in
        let before : comes_before f.0 d.1 ≡ true = among_all (λ later. IsTrue (comes_before f.0 later)) (names_of part) order.0 d.1 named in
        both_ways _ (before_other f.0 d.1 before) ((bytes_eq-Decides f.0 d.1).1 (name ∙ sym one))

-- ---- the files of a folder

pub folder_texts : (folder : List ℕ) (files : Files) → AreInOrder (names_of files) → HaveTexts files (in_folder folder files)
folder_texts folder files order =
    all_among (λ (f : File). text_at f.0 files ≡ f.1) (in_folder folder files) (λ f h. ap (λ (o : Option (List ℕ)). unwrap_or o []) (file_at_among files f order (of_folder folder files f h).0))

pub folder_names : (folder : List ℕ) (files : Files) → names_of (in_folder folder files) ≡ names_in folder files
folder_names folder [] = refl
folder_names folder (f ∷ files) =
    let rest = folder_names folder files in
    let P : Bool → Type 0 = λ b. names_of (cond b (f ∷ in_folder folder files) (in_folder folder files)) ≡ cond b (f.0 ∷ names_in folder files) (names_in folder files) in
    elim (is_in folder f.0) as P [ true ↦ ap (λ (l : List (List ℕ)). f.0 ∷ l) rest | false ↦ rest ]

pub singles_append : (xs ys : Files) → singles_of (xs ++ ys) ≡ singles_of xs ++ singles_of ys
singles_append [] ys = refl
singles_append (f ∷ xs) ys =
    ap (λ (l : List Single). map (single f.0) (slips_in f.1) ++ l) (singles_append xs ys) ∙ sym (append_assoc (map (single f.0) (slips_in f.1)) (singles_of xs) (singles_of ys))
