pub mod Ancestry
pub mod Finality
pub mod Steps
pub mod Places
pub mod Fold
pub mod Seen
