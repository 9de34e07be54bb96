pub mod NodeWords
pub mod NodeRuns
pub mod Growth
