-- The files of one reader, and what stays while only those change.
use Rattle.std.specs.Prelude.{ℕ, ◌≡◌, ◌⊎◌, IsFalse, List, Option, None, Some}
use Rattle.std.specs.List.{AllByRecursion}
use Rattle.std.specs.Str.{bytes_eq}
use Rattle.block_record.specs.declared.blocks.Slip.{Slip}
use Rattle.outer_world.specs.Files.{Files, file_at}
use Rattle.one_block.specs.Names.{own_file}
use Rattle.bundle_model.specs.Members.{Among}
use Rattle.block_reader.specs.declared.own.OwnFile.{OwnFile}
use Rattle.block_reader.specs.Own.{own_by}
use Rattle.block_reader.specs.Changes.{Shelved, refused_file}

-- a file is the own file of some block by this reader
pub record IsBy (by : List ℕ) (file : OwnFile) : Type 0 where
  pub slip : Slip
  pub is : file ≡ own_by slip by

-- each of them is
abbrev pub AreBy : List ℕ → List OwnFile → Type 0
AreBy by own = AllByRecursion (IsBy by) own

-- a name is that of none of these own files, and that of no block's file by this reader, in `one/` or in `refused/`
pub record IsAway (by : List ℕ) (own : List OwnFile) (name : List ℕ) : Type 0 where
  pub listed : AllByRecursion (λ file. IsFalse (bytes_eq file.name name)) own
  pub one : (s : Slip) → IsFalse (bytes_eq (own_file s by) name)
  pub refused : (s : Slip) → IsFalse (bytes_eq (refused_file s by) name)

-- where the files are told, the file of each such name is as before
abbrev pub KeepsAway : List ℕ → List OwnFile → Option Files → Option Files → Type 0
KeepsAway by own None new = new ≡ None
KeepsAway by own (Some files) None = ⊥
KeepsAway by own (Some files) (Some now) = (name : List ℕ) → IsAway by own name → file_at name now ≡ file_at name files

-- no files changed but those of one reader, and each of its own files is one from before or by the reader
pub record TakesAway (by : List ℕ) (old new : Shelved) : Type 0 where
  pub files : KeepsAway by old.own old.files new.files
  pub own : AllByRecursion (λ file. Among old.own file ⊎ IsBy by file) new.own
