pub mod Own
pub mod Changes
pub mod Takes
pub mod Kept
