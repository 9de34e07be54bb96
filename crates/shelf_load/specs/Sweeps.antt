-- What a sweep of a shelf removes, and what it is answered.
use Rattle.std.specs.Prelude.{ℕ, ◌≡◌, ◌⊎◌, ⊤, Bool, IsTrue, not, ◌&&◌, List, [], ◌∷◌, length, filter, codes, if◌then◌else◌, Option, None, Some, Result, Ok, Err}
use Rattle.std.specs.Option.{option_map, unwrap_or}
use Rattle.std.specs.List.{list_any}
use Rattle.std.specs.Str.{bytes_eq}
use Rattle.outer_world.specs.Causes.{Rose}
use Rattle.outer_world.specs.Files.{Files, file_at, is_in, names_in}
use Rattle.one_block.specs.declared.faults.StoreFault.{StoreFault}
use Rattle.one_block.specs.declared.faults.StoreFault.TheVariants.{ShelfFault, ShelfBad, Missing, StoredOther, NameClash, Mem}
use Rattle.relay_model.specs.Worlds.{World}
use Rattle.bundle_model.specs.Members.{Among}
use Rattle.bundle_model.specs.Shedding.{may_sweep}
use Rattle.store_files.specs.Texts.{slips_in}
use Rattle.store_files.specs.Kept.{IsWholeKept}
use Rattle.shelf_load.specs.Owns.{IsBadOwn, ReadRefused}

-- whether a text shows a block whose own file may be removed
abbrev pub may_go : World → List ℕ → Bool
may_go w text = list_any (λ s. may_sweep w s.num s.id) (slips_in text)

-- whether a file is one of `one/` that may be removed
abbrev pub is_swept : World → (List ℕ × List ℕ) → Bool
is_swept w file = is_in (codes "one") file.0 && may_go w file.1

-- the files without those of `one/` that may be removed
abbrev pub swept : World → Files → Files
swept w files = filter (λ file. not (is_swept w file)) files

-- the files without those of them that have one of these names
abbrev pub swept_of : World → List (List ℕ) → Files → Files
swept_of w names files = filter (λ file. not (is_swept w file && list_any (bytes_eq file.0) names)) files

-- told files without those
abbrev pub told_swept : World → List (List ℕ) → Option Files → Option Files
told_swept w names files = option_map (swept_of w names) files

-- the text under a name; a file that is not there has none
abbrev pub text_at : List ℕ → Files → List ℕ
text_at name files = unwrap_or (file_at name files) []

-- how many of the files of these names may be removed, where the files are told
abbrev pub IsCounted : World → Option Files → List (List ℕ) → ℕ → Type 0
IsCounted w None names count = ⊤
IsCounted w (Some files) names count = count ≡ length (filter (λ name. may_go w (text_at name files)) names)

-- a file that was removed counts for one
abbrev pub one_if : Bool → ℕ
one_if removed = if removed then 1 else 0

-- whether the file of this name may be removed, where the files are told
abbrev pub IsJudged : World → Option Files → List ℕ → Bool → Type 0
IsJudged w None name removed = ⊤
IsJudged w (Some files) name removed = removed ≡ may_go w (text_at name files)

-- no other file has this name, where the files are told
abbrev pub IsOnly : Option Files → List ℕ → Type 0
IsOnly None name = ⊤
IsOnly (Some files) name = (file : List ℕ × List ℕ) → Among files file → IsTrue (bytes_eq file.0 name) → file_at name files ≡ Some file.1

-- why a sweep was refused: the shelf failed, a file of `one/` is bad, or there was no memory
abbrev pub SweepRefused : Option Files → ℕ → ℕ → StoreFault → Type 0
SweepRefused files before now ShelfFault = Rose before now
SweepRefused files before now (ShelfBad name at) = IsTrue (is_in (codes "one") name) × IsBadOwn files name at
SweepRefused files before now (Missing name) = ⊥
SweepRefused files before now (StoredOther kept read) = ⊥
SweepRefused files before now (NameClash held offered) = ⊥
SweepRefused files before now Mem = ⊤

-- a file was removed where it may be
pub record IsFileSwept (w : World) (name : List ℕ) (old new : Option Files) (removed : Bool) : Type 0 where
  pub files : new ≡ told_swept w (name ∷ []) old
  pub judged : IsJudged w old name removed

-- a file was not, or perhaps
pub record IsFileKept (w : World) (name : List ℕ) (old new : Option Files) (before now : ℕ) (fault : StoreFault) : Type 0 where
  pub files : (new ≡ old) ⊎ (new ≡ told_swept w (name ∷ []) old)
  pub cause : ReadRefused old name before now fault

-- what is answered to one file
abbrev pub FileAnswers : World → List ℕ → Option Files → Option Files → ℕ → ℕ → Result Bool StoreFault → Type 0
FileAnswers w name old new before now (Ok removed) = IsFileSwept w name old new removed
FileAnswers w name old new before now (Err fault) = IsFileKept w name old new before now fault

-- the files of these names were removed where they may be, and so many were
pub record AreSwept (w : World) (names : List (List ℕ)) (old new : Option Files) (count : ℕ) : Type 0 where
  pub files : new ≡ told_swept w names old
  pub counted : IsCounted w old names count

-- some of them were
pub record AreKept (w : World) (old new : Option Files) (before now : ℕ) (fault : StoreFault) : Type 0 where
  pub names : List (List ℕ)
  pub files : new ≡ told_swept w names old
  pub cause : SweepRefused old before now fault

-- what is answered to the files of these names
abbrev pub NamesAnswer : World → List (List ℕ) → Option Files → Option Files → ℕ → ℕ → Result ℕ StoreFault → Type 0
NamesAnswer w names old new before now (Ok count) = AreSwept w names old new count
NamesAnswer w names old new before now (Err fault) = AreKept w old new before now fault

-- all files of `one/` that may be removed were, and so many were
abbrev pub IsSwept : World → Option Files → Option Files → ℕ → Type 0
IsSwept w None new count = new ≡ None
IsSwept w (Some files) new count = (new ≡ Some (swept w files)) × (count ≡ length (filter (λ name. may_go w (text_at name files)) (names_in (codes "one") files)))

-- what is answered to a sweep
abbrev pub SweepAnswers : World → Option Files → Option Files → ℕ → ℕ → Result ℕ StoreFault → Type 0
SweepAnswers w old new before now (Ok count) = IsSwept w old new count
SweepAnswers w old new before now (Err fault) = AreKept w old new before now fault

-- what the files keep of the world, with the stored blocks, they go on to keep, where they are told
abbrev pub StaysKept : World → Option Files → Option Files → Type 0
StaysKept w None new = ⊤
StaysKept w (Some old) None = ⊥
StaysKept w (Some old) (Some new) = IsWholeKept old w → IsWholeKept new w
