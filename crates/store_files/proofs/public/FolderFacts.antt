-- What the files of folders show, as files come and go.
use Rattle.std.proofs.Common.{arith, ◌≡◌, ◌⊎◌, inl, inr, ℕ, Bool, true, false, not, cond, List, [], ◌∷◌, length, take, drop, map, Option, Some, None, refl, sym, ◌∙◌, ap, subst, eqb, ltb, IsTrue, zero, suc}
use Rattle.std.specs.Str.{bytes_eq}
use Rattle.std.proofs.lemmas.Bool.{and_parts, both_ways, false_from_ne_true}
use Rattle.std.proofs.lemmas.Option.{same_Some}
use Rattle.std.proofs.lemmas.Slice.Eq.{bytes_eq-Decides}
use Rattle.block_record.specs.declared.blocks.Slip.{Slip}
use Rattle.outer_world.specs.Files.{Files, file_at, with_file, without_file, put_before, comes_before, is_in, is_last_part, AreInOrder, names_of}
use Rattle.outer_world.proofs.public.FileFacts.{before_other}
use Rattle.bundle_model.specs.Members.{Among}
use Rattle.bundle_model.specs.Bundles.{Bundle, blocks_of}
use Rattle.bundle_model.proofs.public.DoneFacts.{of_bundle}
use Rattle.bundle_model.proofs.public.MemberFacts.{among_all, among_left, among_right, among_parts, among_map, map_among, among_filter, filter_among}
use Rattle.store_model.specs.Shown.{Single, slips}
use Rattle.store_model.specs.Steps.{with_bundle}
use Rattle.store_files.specs.Texts.{slips_in}
use Rattle.one_block.specs.Files.{base_in}
use Rattle.store_files.specs.Folders.{single, singles_of, with_base, merged_of, in_folder}

abbrev pub File : Type 0
File = List ℕ × List ℕ

-- a slip that some of the files shows
pub record ShownBy (files : Files) (name : List ℕ) (s : Slip) : Type 0 where
  pub text : List ℕ
  pub there : Among files (name, text)
  pub shows : Among (slips_in text) s

pub named_has : (files : Files) (name text : List ℕ) (s : Slip) → Among files (name, text) → Among (slips_in text) s → Among (singles_of files) (single name s)
named_has [] name text s h k = absurd h
named_has (f ∷ files) name text s (inl e) k =
    let own : Among (map (single f.0) (slips_in f.1)) (single f.0 s) = among_map (single f.0) (slips_in f.1) s (subst (λ (g : File). Among (slips_in g.1) s) (sym e) k) in
    among_left (map (single f.0) (slips_in f.1)) (singles_of files) (single name s) (subst (λ (g : File). Among (map (single f.0) (slips_in f.1)) (single g.0 s)) e own)
named_has (f ∷ files) name text s (inr h) k = among_right (map (single f.0) (slips_in f.1)) (singles_of files) (single name s) (named_has files name text s h k)

pub named_parts : (files : Files) (z : Single) → Among (singles_of files) z → ShownBy files z.name z.slip
named_parts [] z h = absurd h
named_parts (f ∷ files) z h =
    elim (among_parts (map (single f.0) (slips_in f.1)) (singles_of files) z h) [
      | inl own ↦
          let s = map_among (single f.0) (slips_in f.1) z own in
          let at : ShownBy (f ∷ files) f.0 s.0 = record { text = f.1; there = inl refl; shows = s.1 } in
          subst (λ (y : Single). ShownBy (f ∷ files) y.name y.slip) s.2 at
      | inr rest ↦ let r = named_parts files z rest in record { text = r.text; there = inr r.there; shows = r.shows }
    ]

pub slips_has : (files : Files) (name : List ℕ) (s : Slip) → ShownBy files name s → Among (slips (singles_of files)) s
slips_has files name s h = among_map (λ (file : Single). file.slip) (singles_of files) (single name s) (named_has files name h.text s h.there h.shows)

pub slips_parts : (files : Files) (s : Slip) → Among (slips (singles_of files)) s → (name : List ℕ) × ShownBy files name s
slips_parts files s h =
    let z = map_among (λ (file : Single). file.slip) (singles_of files) s h in
    (z.0.name, subst (ShownBy files z.0.name) z.2 (named_parts files z.0 z.1))

-- blocks of files of bundles
with_among : (b : Bundle) (bundles : List Bundle) (c : Bundle) → Among (with_bundle b bundles) c → (b ≡ c) ⊎ Among bundles c
with_among b [] c (inl e) = inl e
with_among b [] c (inr h) = absurd h
with_among b (d ∷ rest) c h = go (ltb d.base b.base) (eqb d.base b.base) h (λ k. with_among b rest c k)
  where
    go : (t u : Bool) → Among (cond t (d ∷ with_bundle b rest) (cond u (b ∷ rest) (b ∷ d ∷ rest))) c → (Among (with_bundle b rest) c → (b ≡ c) ⊎ Among rest c) → (b ≡ c) ⊎ Among (d ∷ rest) c
    go true u (inl e) ih = inr (inl e)
    go true u (inr k) ih = elim (ih k) [ inl e ↦ inl e | inr m ↦ inr (inr m) ]
    go false true (inl e) ih = inl e
    go false true (inr k) ih = inr (inr k)
    go false false (inl e) ih = inl e
    go false false (inr k) ih = inr k

bundle_from : (size : ℕ) (files : Files) (b : Bundle) → Among (merged_of size files) b → (s : Slip) → Among b.blocks s → (name : List ℕ) × ShownBy files name s
bundle_from size [] b h s k = absurd h
bundle_from size (f ∷ files) b h s k = go (base_in size f.0) h (λ m. bundle_from size files b m s k)
  where
    later : (name : List ℕ) × ShownBy files name s → (name : List ℕ) × ShownBy (f ∷ files) name s
    later r = (r.0, record { text = r.1.text; there = inr r.1.there; shows = r.1.shows })

    go : (o : Option ℕ) → Among (with_base o (slips_in f.1) (merged_of size files)) b → (Among (merged_of size files) b → (name : List ℕ) × ShownBy files name s) → (name : List ℕ) × ShownBy (f ∷ files) name s
    go None m ih = later (ih m)
    go (Some base) m ih =
        elim (with_among (record { base = base; blocks = slips_in f.1 }) (merged_of size files) b m) [
          | inl e ↦ (f.0, record { text = f.1; there = inl refl; shows = subst (λ (c : Bundle). Among c.blocks s) (sym e) k })
          | inr rest ↦ later (ih rest)
        ]

pub merged_from : (size : ℕ) (files : Files) (s : Slip) → Among (blocks_of (merged_of size files)) s → (name : List ℕ) × ShownBy files name s
merged_from size files s h = let b = of_bundle (merged_of size files) s h in bundle_from size files b.0 b.1 s b.2

-- a file of a folder is a file
pub of_folder : (folder : List ℕ) (files : Files) (f : File) → Among (in_folder folder files) f → Among files f × (is_in folder f.0 ≡ true)
of_folder folder files f h = filter_among (λ (file : File). is_in folder file.0) files f h

pub to_folder : (folder : List ℕ) (files : Files) (f : File) → Among files f → is_in folder f.0 ≡ true → Among (in_folder folder files) f
to_folder folder files f h e = among_filter (λ (file : File). is_in folder file.0) files f h e

-- the first byte of a name in a folder
pub first_byte : (b : ℕ) (folder name : List ℕ) → is_in (b ∷ folder) name ≡ true → (rest : List ℕ) × (name ≡ b ∷ rest)
first_byte b folder [] e =
    let p = (and_parts (bytes_eq (take (length (b ∷ folder)) []) (b ∷ folder)) (is_last_part (drop (length (b ∷ folder)) [])) e).0 in
    let same : take (length (b ∷ folder)) [] ≡ b ∷ folder = (bytes_eq-Decides (take (length (b ∷ folder)) []) (b ∷ folder)).0 p in
    absurd (empty (length (b ∷ folder)) same)
  where
    empty : (n : ℕ) → take n [] ≡ b ∷ folder → ⊥
    empty zero h = grind (arith, h)
    empty (suc n) h = grind (arith, h)
first_byte b folder (c ∷ rest) e =
    let p = (and_parts (bytes_eq (take (length (b ∷ folder)) (c ∷ rest)) (b ∷ folder)) (is_last_part (drop (length (b ∷ folder)) (c ∷ rest))) e).0 in
    let same : take (length (b ∷ folder)) (c ∷ rest) ≡ b ∷ folder = (bytes_eq-Decides (take (length (b ∷ folder)) (c ∷ rest)) (b ∷ folder)).0 p in
    let step : take (length (b ∷ folder)) (c ∷ rest) ≡ c ∷ take (length folder) rest = refl in
    let cons : c ∷ take (length folder) rest ≡ b ∷ folder = sym step ∙ same in
    let first : c ≡ b = grind (arith, cons) in
    (rest, ap (λ (x : ℕ). x ∷ rest) first)

pub apart : (a b : ℕ) (x y name : List ℕ) → (a ≡ b → ⊥) → is_in (a ∷ x) name ≡ true → is_in (b ∷ y) name ≡ false
apart a b x y name other e = false_from_ne_true _ (λ h.
    let p = first_byte a x name e in
    let q = first_byte b y name h in
    let same : a ∷ p.0 ≡ b ∷ q.0 = sym p.1 ∙ q.1 in
    let one : a ≡ b = grind (arith, same) in
    other one)

-- a file is put: what is another's name stays
pub among_with : (name text : List ℕ) (files : Files) (f : File) → Among files f → bytes_eq f.0 name ≡ false → Among (with_file name text files) f
among_with name text [] f h other = absurd h
among_with name text (g ∷ files) f h other = go (comes_before g.0 name) (bytes_eq g.0 name) refl h (λ k. among_with name text files f k other)
  where
    go : (t u : Bool) → bytes_eq g.0 name ≡ u → Among (g ∷ files) f → (Among files f → Among (with_file name text files) f) → Among (cond t (g ∷ with_file name text files) ((name, text) ∷ cond u files (g ∷ files))) f
    go true u e (inl same) ih = inl same
    go true u e (inr k) ih = inr (ih k)
    go false true e (inl same) ih = absurd (both_ways _ other (ap (λ (x : File). bytes_eq x.0 name) (sym same) ∙ e))
    go false true e (inr k) ih = inr k
    go false false e k ih = inr k

pub with_has : (name text : List ℕ) (files : Files) → Among (with_file name text files) (name, text)
with_has name text [] = inl refl
with_has name text (g ∷ files) = go (comes_before g.0 name) (with_has name text files)
  where
    go : (t : Bool) → Among (with_file name text files) (name, text) → Among (cond t (g ∷ with_file name text files) (put_before name text (g ∷ files))) (name, text)
    go true ih = inr ih
    go false ih = inl refl

pub with_from : (name text : List ℕ) (files : Files) (f : File) → Among (with_file name text files) f → ((name, text) ≡ f) ⊎ Among files f
with_from name text [] f (inl e) = inl e
with_from name text [] f (inr h) = absurd h
with_from name text (g ∷ files) f h = go (comes_before g.0 name) (bytes_eq g.0 name) h (λ k. with_from name text files f k)
  where
    go : (t u : Bool) → Among (cond t (g ∷ with_file name text files) ((name, text) ∷ cond u files (g ∷ files))) f → (Among (with_file name text files) f → ((name, text) ≡ f) ⊎ Among files f) → ((name, text) ≡ f) ⊎ Among (g ∷ files) f
    go true u (inl same) ih = inr (inl same)
    go true u (inr k) ih = elim (ih k) [ inl e ↦ inl e | inr m ↦ inr (inr m) ]
    go false true (inl e) ih = inl e
    go false true (inr k) ih = inr (inr k)
    go false false (inl e) ih = inl e
    go false false (inr k) ih = inr k

-- and other folders stay
pub folder_with : (folder name text : List ℕ) (files : Files) → is_in folder name ≡ false → in_folder folder (with_file name text files) ≡ in_folder folder files
folder_with folder name text [] out = rw out refl
folder_with folder name text (g ∷ files) out = go (comes_before g.0 name) (bytes_eq g.0 name) refl (folder_with folder name text files out)
  where
    keep : Bool → Files → Files
    keep b fs = cond b (g ∷ fs) fs

    go : (t u : Bool) → bytes_eq g.0 name ≡ u → in_folder folder (with_file name text files) ≡ in_folder folder files
        → in_folder folder (cond t (g ∷ with_file name text files) ((name, text) ∷ cond u files (g ∷ files))) ≡ cond (is_in folder g.0) (g ∷ in_folder folder files) (in_folder folder files)
    go true u e ih = ap (λ (fs : Files). cond (is_in folder g.0) (g ∷ fs) fs) ih
    go false true e ih =
        let same : g.0 ≡ name = (bytes_eq-Decides g.0 name).0 e in
        let out' : is_in folder g.0 ≡ false = ap (is_in folder) same ∙ out in
        rw (out, out') refl
    go false false e ih = rw out refl

-- without a file of another folder
pub folder_without : (folder name : List ℕ) (files : Files) → is_in folder name ≡ false → in_folder folder (without_file name files) ≡ in_folder folder files
folder_without folder name [] out = refl
folder_without folder name (g ∷ files) out = go (bytes_eq g.0 name) refl (folder_without folder name files out)
  where
    go : (u : Bool) → bytes_eq g.0 name ≡ u → in_folder folder (without_file name files) ≡ in_folder folder files
        → in_folder folder (cond (not u) (g ∷ without_file name files) (without_file name files)) ≡ cond (is_in folder g.0) (g ∷ in_folder folder files) (in_folder folder files)
    go true e ih =
        let same : g.0 ≡ name = (bytes_eq-Decides g.0 name).0 e in
        let out' : is_in folder g.0 ≡ false = ap (is_in folder) same ∙ out in
        rw out' ih
    go false e ih = ap (λ (fs : Files). cond (is_in folder g.0) (g ∷ fs) fs) ih

-- the file of a name is one of the files
pub at_among : (files : Files) (name text : List ℕ) → file_at name files ≡ Some text → Among files (name, text)
at_among [] name text e = absurd (none e)
  where
    none : None ≡ Some text → ⊥
    none k = grind (arith, k)
at_among (g ∷ files) name text e = go (bytes_eq g.0 name) refl e (λ k. at_among files name text k)
  where
    go : (u : Bool) → bytes_eq g.0 name ≡ u → cond u (Some g.1) (file_at name files) ≡ Some text → (file_at name files ≡ Some text → Among files (name, text)) → Among (g ∷ files) (name, text)
    go true is k ih =
        let one : g.0 ≡ name = (bytes_eq-Decides g.0 name).0 is in
        let same : g.1 ≡ text = same_Some g.1 text k in
        inl (λ i. (one i, same i))
    go false is k ih = inr (ih k)

-- the file of a name in a list of distinct names
pub file_at_among : (files : Files) (f : File) → AreInOrder (names_of files) → Among files f → file_at f.0 files ≡ Some f.1
file_at_among [] f order h = absurd h
file_at_among (g ∷ files) f order (inl e) =
    let same : bytes_eq g.0 f.0 ≡ true = (bytes_eq-Decides g.0 f.0).1 (ap (λ (x : File). x.0) e) in
    rw same (ap (λ (x : File). Some x.1) e)
file_at_among (g ∷ files) f order (inr h) =
    let before : IsTrue (comes_before g.0 f.0) = among_all (λ later. IsTrue (comes_before g.0 later)) (names_of files) order.0 f.0 (among_map (λ (file : File). file.0) files f h) in
    let other = before_other g.0 f.0 before in
    rw other (file_at_among files f order.1 h)

pub none_among : (files : Files) (name : List ℕ) → file_at name files ≡ None → (f : File) → Among files f → bytes_eq f.0 name ≡ false
none_among [] name e f h = absurd h
none_among (g ∷ files) name e f h = go (bytes_eq g.0 name) refl e h (λ k l. none_among files name k f l)
  where
    go : (u : Bool) → bytes_eq g.0 name ≡ u → cond u (Some g.1) (file_at name files) ≡ None → Among (g ∷ files) f → (file_at name files ≡ None → Among files f → bytes_eq f.0 name ≡ false) → bytes_eq f.0 name ≡ false
    go true is k m ih = absurd (filled k)
      where
        filled : Some g.1 ≡ None → ⊥
        filled k' = grind (arith, k')
    go false is k (inl same) ih = ap (λ (x : File). bytes_eq x.0 name) (sym same) ∙ is
    go false is k (inr m) ih = ih k m
