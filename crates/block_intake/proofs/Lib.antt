pub mod public
pub mod JudgedFacts
pub mod CountFacts
pub mod TakingFacts
