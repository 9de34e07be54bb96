pub mod ReadFacts
pub mod MapFacts
