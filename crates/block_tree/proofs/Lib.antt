pub mod public
pub mod SlipFacts
