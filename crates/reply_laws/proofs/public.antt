-- The lemmas that other crates may cite.
pub mod Readers
pub mod Values
