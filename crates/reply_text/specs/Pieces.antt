-- The text of a piece of a line.
use Rattle.std.specs.Prelude.{ℕ, List}
use Rattle.std.specs.List.{flat_map}
use Rattle.std.specs.Option.{option_copied}
use Rattle.text_parts.specs.Parts.{part_text}
use Rattle.reply_text.specs.declared.pieces.Piece.{Piece}
use Rattle.reply_text.specs.declared.pieces.Piece.TheVariants as piece
use Rattle.reply_text.specs.Lines.{ref_text}

-- the text of a piece
abbrev pub piece_text : Piece → List ℕ
piece_text (piece.Plain part) = part_text part
piece_text (piece.Ref block) = ref_text (option_copied block)

-- the texts of the pieces, one after another
abbrev pub pieces_text : List Piece → List ℕ
pieces_text pieces = flat_map piece_text pieces
