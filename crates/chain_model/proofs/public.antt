-- The lemmas that other crates may cite.
pub mod ScanFacts
pub mod StandardFacts
pub mod RefFacts
