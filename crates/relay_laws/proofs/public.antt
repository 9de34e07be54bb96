-- The lemmas that other crates may cite.
pub mod TwoHistories
pub mod RunFacts
pub mod OrderFacts
pub mod RunSteps
pub mod Scratch
pub mod FromScratch
