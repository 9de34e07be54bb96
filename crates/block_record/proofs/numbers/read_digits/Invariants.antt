use Rattle.std.proofs.Common.{◌≡◌, drop}
use Rattle.block_record.specs.Number.{number_after}
use Rattle.block_record.proofs.numbers.read_digits.Given as goal

abbrev pub invariant-loop-byte : goal.invariant-loop-byte
invariant-loop-byte l = number_after l.number (drop l.byte-index l.text) ≡ number_after 0 l.text
