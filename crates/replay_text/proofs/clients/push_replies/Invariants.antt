use Rattle.std.proofs.Common.{◌≡◌, ◌++◌, List, ℕ, length}
use Rattle.replay_text.specs.Replies.{client_lines}
use Rattle.replay_text.proofs.clients.push_replies.Given as goal

abbrev pub invariant-loop-rest : goal.invariant-loop-rest
invariant-loop-rest l = (added : List ℕ) × (l.out.items ≡ l.initial.out.items ++ added) × (added ++ client_lines l.client l.rest ≡ client_lines l.client l.fn.text)

abbrev pub decreases-loop-rest : goal.decreases-loop-rest
decreases-loop-rest l = length l.rest
