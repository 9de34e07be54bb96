-- What the files hold that are loaded one after another.
use Rattle.std.specs.Prelude.{ℕ, List, Option}
use Rattle.outer_world.specs.Files.{Files}
use Rattle.shelf_check.specs.Merged.{Entry}
use Rattle.shelf_load.specs.declared.entries.FileContent.{FileContent}
use Rattle.shelf_load.specs.declared.entries.FileContent.TheVariants.{MergedBlocks, OneBlock}
use Rattle.shelf_load.specs.Loading.{TakenFile, IsBundleRead, IsBundleTaken, IsSingleTaken, IsBadBundle}
use Rattle.shelf_load.specs.Merging.{HasBase}
use Rattle.shelf_load.specs.Singling.{IsEntry, IsSingleRead, IsBadSingle}

-- a file stands among them with its number
abbrev pub IsEntryOf : FileContent → ℕ → Entry → Type 0
IsEntryOf MergedBlocks size = HasBase size
IsEntryOf OneBlock size = IsEntry

-- a file was read whole
abbrev pub IsReadOf : FileContent → Option Files → TakenFile → Type 0
IsReadOf MergedBlocks files = IsBundleRead files
IsReadOf OneBlock files = IsSingleRead files

-- the same, and its number is its own
abbrev pub IsTakenOf : FileContent → ℕ → Option Files → TakenFile → Type 0
IsTakenOf MergedBlocks size files = IsBundleTaken size files
IsTakenOf OneBlock size files = IsSingleTaken files

-- the file of this name is bad first at this place
abbrev pub IsBadOf : FileContent → Option Files → List ℕ → ℕ → Type 0
IsBadOf MergedBlocks files = IsBadBundle files
IsBadOf OneBlock files = IsBadSingle files
