use Rattle.std.proofs.Common.{◌≡◌, ◌-◌, length}
use Rattle.reply_reader.specs.Parts.{quoted, quoted_in}
use Rattle.reply_reader.proofs.public.QuotedFacts.{prepended}
use Rattle.reply_reader.proofs.quoted.quoted.Given as goal

abbrev pub invariant-loop : goal.invariant-loop
invariant-loop l = quoted l.text ≡ prepended l.bytes.items (quoted_in (length l.text - l.counter) l.left)
