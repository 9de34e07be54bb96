mod AnswerFacts
mod CutFacts
mod ReplyFacts
mod TableFacts
