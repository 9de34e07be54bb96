-- What files keep of a relay's world, and files that do not contradict it.
use Rattle.std.specs.Prelude.{ℕ, ◌≡◌, IsTrue, nat_lt, List, length, codes, None, Some, Ok}
use Rattle.std.specs.List.{AllByRecursion}
use Rattle.block_record.specs.declared.blocks.Block.{Block}
use Rattle.block_record.specs.declared.blocks.Slip.{Slip}
use Rattle.outer_world.specs.Files.{Files, AreInOrder, names_of, is_in}
use Rattle.one_block.specs.declared.forms.Folder.{Folder}
use Rattle.one_block.specs.declared.forms.Folder.TheVariants.{One, Forked}
use Rattle.one_block.specs.declared.forms.Form.{Form}
use Rattle.one_block.specs.Files.{IsSize, folder_of_size, base_in}
use Rattle.one_block.specs.Forms.{form_of}
use Rattle.one_block.specs.Heads.{HoldsBlocks}
use Rattle.one_block.specs.Layout.{HasLayout}
use Rattle.one_block.specs.Singles.{IsSingleOf}
use Rattle.relay_model.specs.Worlds.{World}
use Rattle.store_model.specs.Kept.{Keeps, IsKeeping}
use Rattle.store_model.specs.Loads.{Loaded, loaded}
use Rattle.store_model.specs.Clean as shown
use Rattle.store_files.specs.Folders.{size_of, shown_of}

-- a file of `one/` or `forked/` holds one block and nothing else, under a name of that block
pub record IsSingleFile (folder : Folder) (name text : List ℕ) : Type 0 where
  pub form : Form
  pub formed : form_of folder name ≡ Some form
  pub block_type : List ℕ
  pub block : Block
  pub is_of : IsSingleOf form name text None block_type block

-- a file of merged blocks holds some and nothing else, under the name of a base
pub record IsBundleFile (size : ℕ) (name text : List ℕ) : Type 0 where
  pub base : ℕ
  pub based : base_in size name ≡ Some base
  pub block_type : List ℕ
  pub blocks : List Block
  pub holds : HoldsBlocks text block_type blocks
  pub some : IsTrue (nat_lt 0 (length blocks))

-- a file has the form of its folder, if it is in one of the four that are read
pub record HasForm (file : List ℕ × List ℕ) : Type 0 where
  pub one : IsTrue (is_in (codes "one") file.0) → IsSingleFile One file.0 file.1
  pub forked : IsTrue (is_in (codes "forked") file.0) → IsSingleFile Forked file.0 file.1
  pub merged : (size : ℕ) → IsSize size → IsTrue (is_in (folder_of_size size) file.0) → IsBundleFile size file.0 file.1

-- the files are in the order of their names, the layout tells a size, and every file of the four folders has the form of its folder
pub record AreFormed (files : Files) : Type 0 where
  pub ordered : AreInOrder (names_of files)
  pub layout : HasLayout (Some files) (Ok (size_of files))
  pub forms : AllByRecursion HasForm files

-- and what they show keeps the world
pub record IsKept (files : Files) (w : World) : Type 0 where
  pub formed : AreFormed files
  pub keeps : Keeps (shown_of files) w

-- beside that each stored block is shown where stored blocks are looked for
pub record IsWholeKept (files : Files) (w : World) : Type 0 where
  pub formed : AreFormed files
  pub keeping : IsKeeping (shown_of files) w

-- the files do not contradict the history
abbrev pub IsClean : ℕ → Files → List Slip → Type 0
IsClean first files newest = shown.IsClean first (shown_of files) newest

-- what loading the files gives a world that is empty
abbrev pub loaded_from : Files → World → Loaded
loaded_from files w = loaded (shown_of files) w
