-- The folders of a shelf, and what their files show.
use Rattle.std.specs.Prelude.{ℕ, ◌==◌, List, [], ◌∷◌, ◌++◌, map, codes, Option, None, Some, if◌then◌else◌}
use Rattle.std.specs.Result.{result_unwrap_or}
use Rattle.std.specs.List.{filter}
use Rattle.block_record.specs.declared.blocks.Slip.{Slip}
use Rattle.outer_world.specs.Files.{Files, file_at, is_in}
use Rattle.one_block.specs.Files.{folder_of_size, base_in}
use Rattle.one_block.specs.Layout.{layout_file, layout_size}
use Rattle.bundle_model.specs.Bundles.{Bundle}
use Rattle.store_model.specs.Shown.{Single, Shown}
use Rattle.store_model.specs.Steps.{with_bundle}
use Rattle.store_files.specs.Texts.{slips_in}

-- the files of a folder
abbrev pub in_folder : List ℕ → Files → Files
in_folder folder files = filter (λ file. is_in folder file.0) files

-- a block's slip under a name
abbrev pub single : List ℕ → Slip → Single
single name s = record { name = name; slip = s }

-- what files of one block each show
abbrev pub singles_of : Files → List Single
singles_of [] = []
singles_of (file ∷ files) = map (single file.0) (slips_in file.1) ++ singles_of files

-- a bundle of a base, where there is one, among others
abbrev pub with_base : Option ℕ → List Slip → List Bundle → List Bundle
with_base None slips others = others
with_base (Some base) slips others = with_bundle (record { base = base; blocks = slips }) others

-- what files of merged blocks of a size show, by rising base
abbrev pub merged_of : ℕ → Files → List Bundle
merged_of size [] = []
merged_of size (file ∷ files) = with_base (base_in size file.0) (slips_in file.1) (merged_of size files)

-- the size that the text of a layout tells; a bad one counts as 100
abbrev pub size_by : Option (List ℕ) → ℕ
size_by text = result_unwrap_or (layout_size text) 100

-- the size of a shelf's files of merged blocks
abbrev pub size_of : Files → ℕ
size_of files = size_by (file_at layout_file files)

-- the other one
abbrev pub other_size : ℕ → ℕ
other_size size = if size == 1000 then 100 else 1000

-- what the files show, where this is the size
abbrev pub shown_by : ℕ → Files → Shown
shown_by size files = record {
  size = size;
  merged = merged_of size (in_folder (folder_of_size size) files);
  other = merged_of (other_size size) (in_folder (folder_of_size (other_size size)) files);
  one = singles_of (in_folder (codes "one") files);
  forked = singles_of (in_folder (codes "forked") files);
}

-- what the files show
abbrev pub shown_of : Files → Shown
shown_of files = shown_by (size_of files) files
