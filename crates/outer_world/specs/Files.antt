-- Files by name.
use Rattle.std.specs.Prelude.{ℕ, Bool, false, not, ◌&&◌, IsTrue, List, [], ◌∷◌, map, length, take, drop, Option, Some, None, ⊤, if◌then◌else◌, nat_eq}
use Rattle.std.specs.List.{filter, list_any, AllByRecursion}
use Rattle.std.specs.Str.{bytes_eq}
use Rattle.std.specs.Ordering.{nat_cmp, is_lt}
use Rattle.std.specs.Cmp.Lexicographic.{slice_cmp}

-- files: the whole name and the bytes of each, in the order of their names
abbrev pub Files : Type 0
Files = List (List ℕ × List ℕ)

-- the first name comes before the second, by their bytes
abbrev pub comes_before : List ℕ → List ℕ → Bool
comes_before first second = is_lt (slice_cmp nat_cmp first second)

-- each name comes before all that follow it
abbrev pub AreInOrder : List (List ℕ) → Type 0
AreInOrder [] = ⊤
AreInOrder (name ∷ names) = AllByRecursion (λ later. IsTrue (comes_before name later)) names × AreInOrder names

-- the names of the files
abbrev pub names_of : Files → List (List ℕ)
names_of files = map (λ file. file.0) files

-- the bytes of the file of this name
abbrev pub file_at : List ℕ → Files → Option (List ℕ)
file_at name [] = None
file_at name (file ∷ files) = if bytes_eq file.0 name then Some file.1 else file_at name files

-- the files without the one of this name
abbrev pub without_file : List ℕ → Files → Files
without_file name files = filter (λ file. not (bytes_eq file.0 name)) files

-- a file where it stands by the order of names, in place of one of its name
abbrev pub put_before : List ℕ → List ℕ → Files → Files
put_before name text [] = (name, text) ∷ []
put_before name text (file ∷ files) = (name, text) ∷ (if bytes_eq file.0 name then files else file ∷ files)

-- the files with this text as the file of this name
abbrev pub with_file : List ℕ → List ℕ → Files → Files
with_file name text [] = (name, text) ∷ []
with_file name text (file ∷ files) = if comes_before file.0 name then file ∷ with_file name text files else put_before name text (file ∷ files)

-- a '/', and none after it
abbrev pub is_last_part : List ℕ → Bool
is_last_part [] = false
is_last_part (byte ∷ bytes) = nat_eq byte 47 && not (list_any (λ b. nat_eq b 47) bytes)

-- the name is one of this folder: the folder, a '/', and a last part
abbrev pub is_in : List ℕ → List ℕ → Bool
is_in folder name = bytes_eq (take (length folder) name) folder && is_last_part (drop (length folder) name)

-- the names of a folder
abbrev pub names_in : List ℕ → Files → List (List ℕ)
names_in folder files = filter (is_in folder) (names_of files)
