-- The lemmas that other crates may cite.
pub mod ListFacts
pub mod NumberTexts
pub mod RecordFacts
pub mod RecordSizes
pub mod SlipFacts
