pub mod Feeding
pub mod Growing
pub mod Outcomes
pub mod Readers
