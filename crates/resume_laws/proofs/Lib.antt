pub mod public
mod CursorFacts
mod Traces
mod Chains
mod Batches
mod Dones
mod Counts
mod Lengths
mod SmallSessions
