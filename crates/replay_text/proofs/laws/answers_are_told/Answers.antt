use Rattle.replay_text.proofs.AnswerFacts.{answers_are_told as law}
use Rattle.replay_text.proofs.laws.answers_are_told.Goals as goal

pub returns : goal.returns
returns c = law
