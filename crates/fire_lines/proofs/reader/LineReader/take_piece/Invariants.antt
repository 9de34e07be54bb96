use Rattle.std.proofs.Common.{◌≡◌, ℕ, List, map, length}
use Rattle.block_record.specs.Slips.{slip}
use Rattle.fire_lines.specs.Reader.{state_after}
use Rattle.fire_lines.proofs.LineFacts.{IsReading}
use Rattle.fire_lines.proofs.reader.LineReader.take_piece.Given as goal

abbrev pub invariant-loop-front : goal.invariant-loop-front
invariant-loop-front l = record {
  reading : (text : List ℕ) → l.fn.self ≡ state_after l.fn.self.max text
      → IsReading l.fn.self.max text l.fn.piece (map slip l.fn.out.items) l.self (map slip l.out.items) l.rest;
  limit : l.self.max ≡ l.fn.self.max;
}

abbrev pub decreases-loop-front : goal.decreases-loop-front
decreases-loop-front l = length l.rest
