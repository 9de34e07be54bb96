pub mod public
mod TableFacts
