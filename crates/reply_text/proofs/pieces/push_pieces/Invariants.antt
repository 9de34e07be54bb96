use Rattle.std.proofs.Common.{◌≡◌, ◌++◌, take}
use Rattle.reply_text.specs.Pieces.{pieces_text}
use Rattle.reply_text.proofs.pieces.push_pieces.Given as goal

abbrev pub invariant-loop-piece : goal.invariant-loop-piece
invariant-loop-piece l = l.line.items ≡ l.initial.line.items ++ pieces_text (take l.piece-index l.pieces)
