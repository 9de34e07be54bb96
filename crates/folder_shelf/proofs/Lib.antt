pub mod InsideFacts
pub mod SortedFacts
