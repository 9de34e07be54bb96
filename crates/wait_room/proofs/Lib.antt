pub mod public
pub mod TurnedFacts
pub mod ScanFacts
pub mod CountFacts
pub mod NumberFacts
