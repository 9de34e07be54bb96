use Rattle.std.proofs.Common.{◌≡◌, ◌++◌, take}
use Rattle.replay_text.specs.Lines.{dropped_lines}
use Rattle.replay_text.proofs.answers.push_dropped.Given as goal

abbrev pub invariant-loop-conflict : goal.invariant-loop-conflict
invariant-loop-conflict l = l.out.items ≡ l.initial.out.items ++ dropped_lines l.reader (take l.conflict-index l.dropped)
