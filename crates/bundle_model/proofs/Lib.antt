mod TableFacts
pub mod public
