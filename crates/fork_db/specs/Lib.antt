pub mod Held
pub mod Claims
pub mod Verdicts
pub mod Forks
pub mod Heads
pub mod Batches
