-- Lemmas that other crates cite.
pub mod Batches
pub mod Batch
pub mod Sent
