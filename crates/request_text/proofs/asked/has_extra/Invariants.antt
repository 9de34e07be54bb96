use Rattle.std.proofs.Common.{◌≡◌}
use Rattle.serde_json.specs.View.{members_view}
use Rattle.request_text.specs.Asked.{has_extra}
use Rattle.request_text.proofs.asked.has_extra.Given as goal

abbrev pub invariant-loop-name : goal.invariant-loop-name
invariant-loop-name l = has_extra (members_view l.members.entries) ≡ has_extra (members_view l.name-iterator)
