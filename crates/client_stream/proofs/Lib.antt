mod Told
mod TextFacts
pub mod public
