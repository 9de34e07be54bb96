use Rattle.request_text.proofs.AnswerFacts.{one_answer}
use Rattle.request_text.proofs.laws.one_answer.Goals as goal

pub returns : goal.returns
returns c = one_answer
