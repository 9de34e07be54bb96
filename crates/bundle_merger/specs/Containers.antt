-- Containers of several blocks.
use Rattle.std.specs.Prelude.{ℕ, List, map}
use Rattle.std.specs.List.{flat_map}
use Rattle.std.specs.Arc.{arc_value}
use Rattle.std.specs.declared.sync.Arc.{Arc}
use Rattle.block_record.specs.declared.blocks.Block.{Block}
use Rattle.block_record.specs.declared.blocks.Kind.{Kind}
use Rattle.block_record.specs.Records.{record_text}
use Rattle.dbin_file.specs.Contents.{container_text}
use Rattle.dbin_file.specs.Messages.{message_text}

-- the blocks that are shared
abbrev pub blocks_of : {Z : Type 0} → List (Arc Block Z) → List Block
blocks_of shared = map arc_value shared

-- the file of a bundle: a container of the kind's type with the record of each block
abbrev pub bundle_text : Kind → List Block → List ℕ
bundle_text kind blocks = container_text kind.block_type (map record_text blocks)

-- the messages of the records, one after another
abbrev pub messages_text : List Block → List ℕ
messages_text blocks = flat_map message_text (map record_text blocks)
