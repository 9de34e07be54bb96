use Rattle.std.proofs.Common.{◌≡◌, ◌++◌, take}
use Rattle.text_parts.specs.Parts.{escaped}
use Rattle.text_parts.proofs.escape.push_each.Given as goal

abbrev pub invariant-loop-byte : goal.invariant-loop-byte
invariant-loop-byte l = l.text.items ≡ l.initial.text.items ++ escaped (take l.byte-index l.bytes)
