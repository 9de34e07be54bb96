mod AnswerFacts
mod GivenFacts
