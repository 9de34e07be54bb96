-- What the calls of a shelf do to what it tells.
use Rattle.std.specs.Str.{bytes_eq}
use Rattle.std.specs.Prelude.{ℕ, ◌≡◌, ◌<◌, ◌≤◌, ◌⊎◌, IsTrue, IsFalse, List, [], ◌++◌, length, take, drop, Option, None, Some, ⊤, Result, IfErr}
use Rattle.std.specs.Option.{option_map, unwrap_or}
use Rattle.std.specs.List.{AllByRecursion}
use mathlib.Core.List.{IsPrefix}
use Rattle.outer_world.specs.Causes.{Rose}
use Rattle.outer_world.specs.Files.{Files, AreInOrder, file_at, with_file, without_file, is_in, names_in}
use Rattle.outer_world.specs.declared.shelves.ShelfFail.{ShelfFail}
use Rattle.outer_world.specs.declared.shelves.ShelfFail.TheVariants.{Failed, Mem}

-- what each refusal rests on: the count of faults, or memory, which is free
abbrev pub RefusesBy : ShelfFail → ℕ → ℕ → Type 0
RefusesBy Failed before now = Rose before now
RefusesBy Mem before now = ⊤

-- a count never falls, and has risen where a call of a shelf failed
pub record HasShelfCause {T : Type 0} (before now : ℕ) (result : Result T ShelfFail) : Type 0 where
  pub later : before ≤ now
  pub failed : IfErr result (λ fail. RefusesBy fail before now)

-- these are all the names of the folder, where the files are told
abbrev pub AreAllNames : Option Files → List ℕ → List (List ℕ) → Type 0
AreAllNames None folder names = ⊤
AreAllNames (Some files) folder names = names ≡ names_in folder files

-- these are names of the folder, in order, and all of them
pub record AreNamesOf (files : Option Files) (folder : List ℕ) (names : List (List ℕ)) : Type 0 where
  pub in_order : AreInOrder names
  pub inside : AllByRecursion (λ name. IsTrue (is_in folder name)) names
  pub all : AreAllNames files folder names

-- the names of the folder were added to a list
abbrev pub Lists : Option Files → List ℕ → List (List ℕ) → List (List ℕ) → Type 0
Lists files folder old new = (names : List (List ℕ)) × (new ≡ old ++ names) × AreNamesOf files folder names

-- this is what stands under a name, where the files are told
abbrev pub Holds : Option Files → List ℕ → Option (List ℕ) → Type 0
Holds None name found = ⊤
Holds (Some files) name found = file_at name files ≡ found

-- this is the length of what stands under a name, where the files are told
abbrev pub HasSize : Option Files → List ℕ → Option ℕ → Type 0
HasSize None name size = ⊤
HasSize (Some files) name size = size ≡ option_map length (file_at name files)

-- so many bytes of a text from a place on stand in a buffer: at least one, where there is one and room for it
pub record ReadsText (text : List ℕ) (at count : ℕ) (buf : List ℕ) : Type 0 where
  pub front : take count buf ≡ take count (drop at text)
  pub within : count ≤ length (drop at text)
  pub some : 0 < length buf → 0 < length (drop at text) → 0 < count

-- so many bytes of a file were read, where the files are told. A file that is not there has none
abbrev pub ReadsFile : Option Files → List ℕ → ℕ → ℕ → List ℕ → Type 0
ReadsFile None name at count buf = ⊤
ReadsFile (Some files) name at count buf = ReadsText (unwrap_or (file_at name files) []) at count buf

-- a staged text with a piece more
abbrev pub with_piece : Option (List ℕ) → List ℕ → Option (List ℕ)
with_piece staged piece = option_map (λ text. text ++ piece) staged

-- a front of the piece was staged
abbrev pub StagesFront : Option (List ℕ) → Option (List ℕ) → List ℕ → Type 0
StagesFront old new piece = (front : List ℕ) × IsPrefix front piece × (new ≡ with_piece old front)

-- a staged text that was given up, or put in place
abbrev pub emptied : Option (List ℕ) → Option (List ℕ)
emptied staged = option_map (λ _. []) staged

-- told files with this text under this name
abbrev pub told_with : List ℕ → List ℕ → Option Files → Option Files
told_with name text files = option_map (with_file name text) files

-- told files without this name
abbrev pub told_without : List ℕ → Option Files → Option Files
told_without name files = option_map (without_file name) files

-- the staged text, which is told where the files are, was put in place under this name
abbrev pub Commits : Option Files → Option (List ℕ) → List ℕ → Option Files → Type 0
Commits None staged name new = new ≡ None
Commits (Some files) None name new = ⊥
Commits (Some files) (Some text) name new = new ≡ Some (with_file name text files)

-- what stands after a commit was refused: the file is the old one or the new one, and for want of memory nothing changed
abbrev pub CommitRefused : ShelfFail → Option Files → Option (List ℕ) → List ℕ → Option Files → Option (List ℕ) → Type 0
CommitRefused Failed files staged name files' staged' = ((files' ≡ files) ⊎ Commits files staged name files') × ((staged' ≡ staged) ⊎ (staged' ≡ emptied staged))
CommitRefused Mem files staged name files' staged' = (files' ≡ files) × (staged' ≡ staged)

-- what stands after a removal was refused: the file is there or not, and for want of memory nothing changed
abbrev pub RemoveRefused : ShelfFail → List ℕ → Option Files → Option Files → Type 0
RemoveRefused Failed name old new = (new ≡ old) ⊎ (new ≡ told_without name old)
RemoveRefused Mem name old new = new ≡ old

-- the file of this name is the only one that may have changed
abbrev pub KeepsOthers : List ℕ → Option Files → Option Files → Type 0
KeepsOthers name None new = new ≡ None
KeepsOthers name (Some files) None = ⊥
KeepsOthers name (Some files) (Some now) = (other : List ℕ) → IsFalse (bytes_eq name other) → file_at other now ≡ file_at other files

-- what stands after a file was not written: the file is the old one or the new one, and for want of memory no file changed
abbrev pub WriteRefused : ShelfFail → List ℕ → List ℕ → Option Files → Option Files → Type 0
WriteRefused Failed name text old new = (new ≡ old) ⊎ (new ≡ told_with name text old)
WriteRefused Mem name text old new = new ≡ old
