-- The file of a single block, as it is written.
use Rattle.std.specs.Prelude.{ℕ, List, [], ◌∷◌}
use Rattle.block_record.specs.declared.blocks.Block.{Block}
use Rattle.block_record.specs.declared.blocks.Kind.{Kind}
use Rattle.block_record.specs.Records.{record_text}
use Rattle.dbin_file.specs.Contents.{container_text}

-- the file of a block: a container of the kind's type with the block's record
abbrev pub one_file_text : Kind → Block → List ℕ
one_file_text kind b = container_text kind.block_type (record_text b ∷ [])
