mod ServedFacts
mod LookFacts
mod NextFacts
mod GivenFacts
pub mod public
