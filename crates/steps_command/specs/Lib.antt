pub mod Following
pub mod ErrorLines
pub mod Telling
pub mod Runs
pub mod Pieces
