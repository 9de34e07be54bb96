use Rattle.std.proofs.Common.{◌≡◌, ◌++◌, take}
use Rattle.request_text.specs.Members.{members_seen}
use Rattle.request_text.proofs.members.push_members.Given as goal

abbrev pub invariant-loop-member : goal.invariant-loop-member
invariant-loop-member l = l.line.items ≡ l.initial.line.items ++ members_seen (take l.member-index l.members)
