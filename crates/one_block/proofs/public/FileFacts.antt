-- Whole names are read as their names and bases, and what is read is made so.
use Rattle.std.proofs.Common.{◌≡◌, ℕ, ◌-◌, ◌%◌, ◌^◌, ◌<◌, ◌⊎◌, inl, inr, Bool, true, false, cond, eqb, List, [], ◌∷◌, ◌++◌, length, take, drop, Option, None, Some, refl, sym, ap, subst, ◌∙◌, arith, option_and_then}
use Rattle.std.specs.Prelude.{codes, slice_get}
use Rattle.std.specs.Option.{option_or}
use Rattle.std.specs.Str.{bytes_eq}
use Rattle.std.proofs.lemmas.Bool.{eqb-true, eq-eqb}
use Rattle.std.proofs.lemmas.List.{take_at, drop_at, take-append-drop, length-append}
use Rattle.std.proofs.lemmas.Slice.Eq.{bytes_eq-Decides}
use Rattle.one_block.specs.Numerals.{padded, filled_number}
use Rattle.one_block.specs.Files.{whole_text, after_slash, without_ending, without_front, bare_text, IsSize, folder_of_size, merged_text, base_of, base_in, merged_base_of}
use Rattle.one_block.specs.Laws.{LacksSlash, IsInFolder, IsBase, IsMergedFile, WholeNamesAreRead, BasesAreRead, FilesAreRead}
use Rattle.one_block.proofs.public.NumeralFacts.{filled_number-padded, padded-filled_number}
use Rattle.one_block.proofs.public.OptionFacts.{some_is}

pub after_slash-append : (folder rest : List ℕ) → LacksSlash folder → after_slash (folder ++ 47 ∷ rest) ≡ Some rest
after_slash-append [] rest lacks = refl
after_slash-append (b ∷ folder) rest lacks =
    let first = lacks.0 in
    let later = after_slash-append folder rest lacks.1 in
    rw first later

-- a text before the first slash, and the rest
record IsCut (file rest : List ℕ) : Type 0 where
  folder : List ℕ
  plain : LacksSlash folder
  file_is : file ≡ folder ++ 47 ∷ rest

one_longer : (b : ℕ) (more rest : List ℕ) → eqb b 47 ≡ false → IsCut more rest → IsCut (b ∷ more) rest
one_longer b more rest other cut = record { folder = b ∷ cut.folder; plain = (other, cut.plain); file_is = ap (λ (l : List ℕ). b ∷ l) cut.file_is }

cut_by : (b : ℕ) (more rest : List ℕ) → (after_slash more ≡ Some rest → IsCut more rest) → (t : Bool) → eqb b 47 ≡ t → cond t (Some more) (after_slash more) ≡ Some rest → IsCut (b ∷ more) rest
cut_by b more rest later true is e =
    let first : b ≡ 47 = eqb-true b 47 is in
    let same : more ≡ rest = some_is more rest e in
    record { folder = []; plain = tt; file_is = rw (first, same) refl }
cut_by b more rest later false is e = one_longer b more rest is (later e)

after_slash-cut : (file rest : List ℕ) → after_slash file ≡ Some rest → IsCut file rest
after_slash-cut [] rest e = absurd (cc e)
after_slash-cut (b ∷ more) rest e = cut_by b more rest (after_slash-cut more rest) (eqb b 47) refl e

pub without_ending-append : (ending text : List ℕ) → without_ending ending (text ++ ending) ≡ Some text
without_ending-append ending text =
    let at : length (text ++ ending) - length ending ≡ length text = omega (arith, length-append text ending) in
    let end : drop (length text) (text ++ ending) ≡ ending = drop_at text ending (length text) refl in
    let front : take (length text) (text ++ ending) ≡ text = take_at text ending (length text) refl in
    let same : bytes_eq ending ending ≡ true = (bytes_eq-Decides ending ending).1 refl in
    rw (at, end, front, same) refl

pub without_ending-is : (ending text front : List ℕ) → without_ending ending text ≡ Some front → text ≡ front ++ ending
without_ending-is ending text front e = by_test (bytes_eq (drop (length text - length ending) text) ending) refl e
  where
    by_test : (t : Bool) → bytes_eq (drop (length text - length ending) text) ending ≡ t → (let none : Option (List ℕ) = None in cond t (Some (take (length text - length ending) text)) none) ≡ Some front → text ≡ front ++ ending
    by_test false is e = absurd (cc e)
    by_test true is e =
        let end : drop (length text - length ending) text ≡ ending = (bytes_eq-Decides _ _).0 is in
        let same : take (length text - length ending) text ≡ front = some_is _ front e in
        sym (take-append-drop (length text - length ending) text) ∙ ap (λ (l : List ℕ). take (length text - length ending) text ++ l) end ∙ ap (λ (l : List ℕ). l ++ ending) same

pub without_front-append : (front text : List ℕ) → without_front front (front ++ text) ≡ Some text
without_front-append front text =
    let start : take (length front) (front ++ text) ≡ front = take_at front text (length front) refl in
    let rest : drop (length front) (front ++ text) ≡ text = drop_at front text (length front) refl in
    let same : bytes_eq front front ≡ true = (bytes_eq-Decides front front).1 refl in
    rw (start, rest, same) refl

pub without_front-is : (front text rest : List ℕ) → without_front front text ≡ Some rest → text ≡ front ++ rest
without_front-is front text rest e = by_test (bytes_eq (take (length front) text) front) refl e
  where
    by_test : (t : Bool) → bytes_eq (take (length front) text) front ≡ t → (let none : Option (List ℕ) = None in cond t (Some (drop (length front) text)) none) ≡ Some rest → text ≡ front ++ rest
    by_test false is e = absurd (cc e)
    by_test true is e =
        let start : take (length front) text ≡ front = (bytes_eq-Decides _ _).0 is in
        let same : drop (length front) text ≡ rest = some_is _ rest e in
        sym (take-append-drop (length front) text) ∙ ap (λ (l : List ℕ). take (length front) text ++ l) same ∙ ap (λ (l : List ℕ). l ++ rest) start

pub then_is : {A B : Type 0} (f : A → Option B) (o : Option A) (x : A) → o ≡ Some x → option_and_then f o ≡ f x
then_is f o x e = ap (option_and_then f) e

pub then_took : {A B : Type 0} (f : A → Option B) (o : Option A) (y : B) → option_and_then f o ≡ Some y → (x : A) × ((o ≡ Some x) × (f x ≡ Some y))
then_took f None y e = absurd (cc e)
then_took f (Some x) y e = (x, (refl, e))

pub bare_again : (folder name : List ℕ) → LacksSlash folder → bare_text (whole_text folder name) ≡ Some name
bare_again folder name lacks =
    then_is (without_ending (codes ".dbin")) (after_slash (whole_text folder name)) (name ++ codes ".dbin") (after_slash-append folder (name ++ codes ".dbin") lacks)
    ∙ without_ending-append (codes ".dbin") name

pub bare_whole : (file name : List ℕ) → bare_text file ≡ Some name → IsInFolder file name
bare_whole file name e =
    let rest = then_took (without_ending (codes ".dbin")) (after_slash file) name e in
    let cut = after_slash-cut file rest.0 rest.1.0 in
    record {
      folder = cut.folder;
      plain = cut.plain;
      file_is = cut.file_is ∙ ap (λ (l : List ℕ). cut.folder ++ 47 ∷ l) (without_ending-is (codes ".dbin") rest.0 name rest.1.1);
    }

pub based_again : (size base : ℕ) → base < 2 ^ 64 → base % size ≡ 0 → base_in size (merged_text size base) ≡ Some base
based_again size base small even =
    let name : List ℕ = padded 10 base in
    let folder : List ℕ = folder_of_size size in
    let front = without_front-append folder (47 ∷ (name ++ codes ".dbin")) in
    let slash = without_front-append (codes "/") (name ++ codes ".dbin") in
    let end = without_ending-append (codes ".dbin") name in
    let test : eqb (base % size) 0 ≡ true = eq-eqb _ _ even in
    let last : base_of size base ≡ Some base = rw test refl in
    let rest = then_is (without_front (codes "/")) (without_front folder (merged_text size base)) (47 ∷ (name ++ codes ".dbin")) front ∙ slash in
    let bare = then_is (without_ending (codes ".dbin")) _ (name ++ codes ".dbin") rest ∙ end in
    ap (option_and_then (base_of size)) (ap (option_and_then (filled_number 10)) bare ∙ filled_number-padded 10 base small) ∙ last

base_is : (size n base : ℕ) → base_of size n ≡ Some base → (base % size ≡ 0) × (n ≡ base)
base_is size n base e = by_test (eqb (n % size) 0) refl e
  where
    by_test : (t : Bool) → eqb (n % size) 0 ≡ t → (let none : Option ℕ = None in cond t (Some n) none) ≡ Some base → (base % size ≡ 0) × (n ≡ base)
    by_test false is e = absurd (cc e)
    by_test true is e =
        let same : n ≡ base = some_is n base e in
        (ap (λ k. k % size) (sym same) ∙ eqb-true (n % size) 0 is, same)

-- what is read of a name, with a number of 64 bits
pub merged_is : (size : ℕ) (file : List ℕ) (base : ℕ) → base_in size file ≡ Some base → (base < 2 ^ 64) × ((base % size ≡ 0) × (file ≡ merged_text size base))
merged_is size file base e =
    let folder : List ℕ = folder_of_size size in
    let n = then_took (base_of size) _ base e in
    let name = then_took (filled_number 10) _ n.0 n.1.0 in
    let rest = then_took (without_ending (codes ".dbin")) _ name.0 name.1.0 in
    let slash = then_took (without_front (codes "/")) (without_front folder file) rest.0 rest.1.0 in
    let last = base_is size n.0 base n.1.1 in
    let front = without_front-is folder file slash.0 slash.1.0 in
    let after = without_front-is (codes "/") slash.0 rest.0 slash.1.1 in
    let end = without_ending-is (codes ".dbin") rest.0 name.0 rest.1.1 in
    let number = padded-filled_number 10 name.0 n.0 name.1.1 in
    let whole : file ≡ merged_text size n.0 = front ∙ ap (λ (l : List ℕ). folder ++ l) (after ∙ ap (λ (l : List ℕ). 47 ∷ l) (end ∙ ap (λ (l : List ℕ). l ++ codes ".dbin") number.1)) in
    (subst (λ (k : ℕ). k < 2 ^ 64) last.1 number.0, (last.0, whole ∙ ap (merged_text size) last.1))

-- no two names of files of one size tell one base
pub one_base_name : (size : ℕ) (a b : List ℕ) (base : ℕ) → base_in size a ≡ Some base → base_in size b ≡ Some base → a ≡ b
one_base_name size a b base ea eb = (merged_is size a base ea).1.1 ∙ sym (merged_is size b base eb).1.1

-- no name is of both folders
two_folders : (a b : List ℕ) → codes "merged" ++ 47 ∷ a ≡ codes "merged1000" ++ 47 ∷ b → ⊥
two_folders a b e = absurd (let h = some_is 47 49 (ap (λ (l : List ℕ). slice_get l 6) e) in omega (arith, h))

pub apart : (a b : ℕ) (file : List ℕ) → base_in 100 file ≡ Some a → base_in 1000 file ≡ Some b → ⊥
apart a b file ea eb =
    two_folders (padded 10 a ++ codes ".dbin") (padded 10 b ++ codes ".dbin") (sym (merged_is 100 file a ea).1.1 ∙ (merged_is 1000 file b eb).1.1)

is_made : (size base : ℕ) (file : List ℕ) → IsSize size → base_in size file ≡ Some base → IsBase size base × (file ≡ merged_text size base)
is_made size base file sized e =
    let is = merged_is size file base e in
    (record { sized = sized; small = is.0; multiple = is.1.0 }, is.1.1)

-- what is read of either size is read of one
first_or_second : (a b : Option ℕ) (x : ℕ) → option_or a b ≡ Some x → (a ≡ Some x) ⊎ (b ≡ Some x)
first_or_second None b x e = inr e
first_or_second (Some y) b x e = inl e

pub is_merged : (base : ℕ) (file : List ℕ) → merged_base_of file ≡ Some base → IsMergedFile file base
is_merged base file e = by_size (first_or_second (base_in 100 file) (base_in 1000 file) base e)
  where
    by_size : (base_in 100 file ≡ Some base) ⊎ (base_in 1000 file ≡ Some base) → IsMergedFile file base
    by_size (inl of) = let made = is_made 100 base file (inl refl) of in record { size = 100; is_base = made.0; file_is = made.1 }
    by_size (inr of) = let made = is_made 1000 base file (inr refl) of in record { size = 1000; is_base = made.0; file_is = made.1 }

first_is : (a b : Option ℕ) (x : ℕ) → a ≡ Some x → option_or a b ≡ Some x
first_is a b x e = rw e refl

second_is : (a b : Option ℕ) (x : ℕ) → ((y : ℕ) → a ≡ Some y → ⊥) → b ≡ Some x → option_or a b ≡ Some x
second_is None b x none e = e
second_is (Some y) b x none e = absurd (none y refl)

pub either_again : (size base : ℕ) → IsBase size base → merged_base_of (merged_text size base) ≡ Some base
either_again size base is = by_size is.sized (based_again size base is.small is.multiple)
  where
    by_size : IsSize size → base_in size (merged_text size base) ≡ Some base → merged_base_of (merged_text size base) ≡ Some base
    by_size (inl hundred) of = first_is (base_in 100 (merged_text size base)) (base_in 1000 (merged_text size base)) base (subst (λ (s : ℕ). base_in s (merged_text size base) ≡ Some base) hundred of)
    by_size (inr thousand) of =
        let there : base_in 1000 (merged_text size base) ≡ Some base = subst (λ (s : ℕ). base_in s (merged_text size base) ≡ Some base) thousand of in
        second_is (base_in 100 (merged_text size base)) (base_in 1000 (merged_text size base)) base (λ y other. apart y base (merged_text size base) other there) there

-- one file, one base and one size
same_size : (file : List ℕ) (size size' base base' : ℕ) → IsSize size → IsSize size' → base_in size file ≡ Some base → base_in size' file ≡ Some base' → size ≡ size'
same_size file size size' base base' (inl a) (inl b) e e' = a ∙ sym b
same_size file size size' base base' (inr a) (inr b) e e' = a ∙ sym b
same_size file size size' base base' (inl a) (inr b) e e' = absurd (apart base base' file (subst (λ (s : ℕ). base_in s file ≡ Some base) a e) (subst (λ (s : ℕ). base_in s file ≡ Some base') b e'))
same_size file size size' base base' (inr a) (inl b) e e' = absurd (apart base' base file (subst (λ (s : ℕ). base_in s file ≡ Some base') b e') (subst (λ (s : ℕ). base_in s file ≡ Some base) a e))

pub one_file : (size base size' base' : ℕ) → IsBase size base → IsBase size' base' → merged_text size base ≡ merged_text size' base' → (size ≡ size') × (base ≡ base')
one_file size base size' base' is is' e =
    let file : List ℕ = merged_text size' base' in
    let here : base_in size file ≡ Some base = ap (base_in size) (sym e) ∙ based_again size base is.small is.multiple in
    let there : base_in size' file ≡ Some base' = based_again size' base' is'.small is'.multiple in
    let same : size ≡ size' = same_size file size size' base base' is.sized is'.sized here there in
    (same, some_is base base' (sym here ∙ ap (λ (s : ℕ). base_in s file) same ∙ there))

pub whole_names_are_read : WholeNamesAreRead
whole_names_are_read = record { bare = bare_again; whole = bare_whole }

pub bases_are_read : BasesAreRead
bases_are_read = record {
  based = λ size base is. based_again size base is.small is.multiple;
  either = either_again;
  made = is_made;
  merged = is_merged;
  apart = apart;
  one = one_file;
}

pub files_are_read : FilesAreRead
files_are_read = (whole_names_are_read, bases_are_read)
