-- What is asked of a file decides whether it is refused, as a law.
use Rattle.std.specs.Prelude.{ℕ, ◌≡◌, List, Option}
use Rattle.block_record.specs.declared.blocks.Block.{Block}
use Rattle.block_record.specs.declared.blocks.BlockRef.{BlockRef}
use Rattle.one_block.specs.declared.file_faults.FileFault.{FileFault}
use Rattle.one_block.specs.declared.file_faults.FileFault.TheVariants.{Mem}
use Rattle.one_block.specs.declared.forms.Form.{Form}
use Rattle.shelf_check.specs.Bundles.{IsBundle, BundleRefused}
use Rattle.one_block.specs.Singles.{IsSingleOf, FormedRefused}

-- a good file is refused for want of memory alone
pub record GoodFilesAreTaken : Type 0 where
  pub bundle : (size base : ℕ) (text : List ℕ) (kept : Option (List ℕ)) (before : Option BlockRef) (block_type : List ℕ) (blocks : List Block) (fault : FileFault)
      → IsBundle size base text kept before block_type blocks → BundleRefused size base text kept before fault → fault ≡ Mem
  pub single : (form : Form) (name text : List ℕ) (kept : Option (List ℕ)) (block_type : List ℕ) (block : Block) (fault : FileFault)
      → IsSingleOf form name text kept block_type block → FormedRefused form name text kept fault → fault ≡ Mem
