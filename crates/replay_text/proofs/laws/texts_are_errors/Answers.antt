use Rattle.replay_text.proofs.AnswerFacts.{texts_are_errors as law}
use Rattle.replay_text.proofs.laws.texts_are_errors.Goals as goal

pub returns : goal.returns
returns c = law
