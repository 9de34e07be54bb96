pub mod PathFacts
pub mod LookFacts
