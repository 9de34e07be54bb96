-- The lemmas that other crates may cite.
pub mod OptionFacts
