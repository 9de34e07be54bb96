pub mod public
pub mod EitherTest
pub mod Moves
pub mod Keys
pub mod Times
pub mod Drains
pub mod Growing
pub mod OrderRuns
pub mod Sorted
pub mod SortedRuns
mod TableFacts
