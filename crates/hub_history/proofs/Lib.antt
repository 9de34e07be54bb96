pub mod DrawnFacts
pub mod Keeps
pub mod Prefixes
pub mod Stays
