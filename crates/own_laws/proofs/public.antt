-- Lemmas that other crates cite.
pub mod ReaderNames
pub mod AwayFacts
pub mod TakeFacts
pub mod MergeFacts
