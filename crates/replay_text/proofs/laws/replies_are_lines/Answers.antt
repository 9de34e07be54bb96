use Rattle.replay_text.proofs.ReplyFacts.{replies_are_lines as law}
use Rattle.replay_text.proofs.laws.replies_are_lines.Goals as goal

pub returns : goal.returns
returns c = law
