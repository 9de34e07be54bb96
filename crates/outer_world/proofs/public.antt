-- The lemmas that other crates may cite.
pub mod Fronts
pub mod TakenFacts
pub mod FileFacts
pub mod NameOrder
