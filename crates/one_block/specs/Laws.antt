-- What names have to do with their texts, as laws.
use Rattle.std.specs.Prelude.{ℕ, ◌≡◌, ◌==◌, ◌<◌, ◌^◌, ◌%◌, false, List, Some, Ok}
use Rattle.std.specs.List.{AllByRecursion}
use Rattle.block_record.specs.declared.blocks.Slip.{Slip}
use Rattle.one_block.specs.declared.names.NameParts.{NameParts}
use Rattle.one_block.specs.Names.{name_text, name_parts, parts_of, one_block_name, IsName, IsNamed}
use Rattle.one_block.specs.Files.{whole_text, bare_text, IsSize, merged_text, base_in, merged_base_of}
use Rattle.one_block.specs.Layout.{layout_text, size_told}

-- the text of a name's parts is read as the parts; a text that is read is the text of its parts; and the name of a block's file tells the block's number, time, ids, lib number and reader
pub record NamesAreRead : Type 0 where
  pub again : (p : NameParts) → IsName p → name_parts (name_text p) ≡ Some p
  pub spelled : (text : List ℕ) (p : NameParts) → name_parts text ≡ Some p → IsName p × (text ≡ name_text p)
  pub block : (s : Slip) (reader : List ℕ) → IsNamed s reader → name_parts (one_block_name s reader) ≡ Some (parts_of s reader)

-- no byte of the text is a slash
abbrev pub LacksSlash : List ℕ → Type 0
LacksSlash text = AllByRecursion (λ b. (b == 47) ≡ false) text

-- a file is this name in a folder
pub record IsInFolder (file name : List ℕ) : Type 0 where
  pub folder : List ℕ
  pub plain : LacksSlash folder
  pub file_is : file ≡ whole_text folder name

-- a base of files of this size: a number of 64 bits, and a multiple of the size
pub record IsBase (size base : ℕ) : Type 0 where
  pub sized : IsSize size
  pub small : base < 2 ^ 64
  pub multiple : base % size ≡ 0

-- a file is that of this base and of one of the sizes
pub record IsMergedFile (file : List ℕ) (base : ℕ) : Type 0 where
  pub size : ℕ
  pub is_base : IsBase size base
  pub file_is : file ≡ merged_text size base

-- a whole name has its bare name, and a file with a bare name is that name in a folder
pub record WholeNamesAreRead : Type 0 where
  pub bare : (folder name : List ℕ) → LacksSlash folder → bare_text (whole_text folder name) ≡ Some name
  pub whole : (file name : List ℕ) → bare_text file ≡ Some name → IsInFolder file name

-- the file of a size and a base is read as the base, in the folder of this size and among both; what is read is such a file; no file is of both folders; and no two sizes or bases have one file
pub record BasesAreRead : Type 0 where
  pub based : (size base : ℕ) → IsBase size base → base_in size (merged_text size base) ≡ Some base
  pub either : (size base : ℕ) → IsBase size base → merged_base_of (merged_text size base) ≡ Some base
  pub made : (size base : ℕ) (file : List ℕ) → IsSize size → base_in size file ≡ Some base → IsBase size base × (file ≡ merged_text size base)
  pub merged : (base : ℕ) (file : List ℕ) → merged_base_of file ≡ Some base → IsMergedFile file base
  pub apart : (a b : ℕ) (file : List ℕ) → base_in 100 file ≡ Some a → base_in 1000 file ≡ Some b → ⊥
  pub one : (size base size' base' : ℕ) → IsBase size base → IsBase size' base' → merged_text size base ≡ merged_text size' base' → (size ≡ size') × (base ≡ base')

-- both of these
abbrev pub FilesAreRead : Type 0
FilesAreRead = WholeNamesAreRead × BasesAreRead

-- the text of the layout of a size is read as the size, and no other text is
pub record LayoutsAreRead : Type 0 where
  pub again : (size : ℕ) → IsSize size → size_told (layout_text size) ≡ Ok size
  pub spelled : (size : ℕ) (text : List ℕ) → size_told text ≡ Ok size → IsSize size × (text ≡ layout_text size)
