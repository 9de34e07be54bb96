use Rattle.std.proofs.Common.{◌++◌}
use Rattle.fire_lines.proofs.FrontFacts.{is_long_enough, is_too_short}
use Rattle.fire_lines.proofs.words.is_long.Goals as goal

pub returns-then-count-ge5 : goal.returns-then-count-ge5
returns-then-count-ge5 c = is_long_enough _ _ (c.args.kept.now ++ c.args.bytes.now) c.requires c.count_without_cr-count.ensures c.if-count-ge5.true

pub returns-else-count-ge5 : goal.returns-else-count-ge5
returns-else-count-ge5 c = is_too_short _ _ (c.args.kept.now ++ c.args.bytes.now) c.requires c.count_without_cr-count.ensures c.if-count-ge5.false
