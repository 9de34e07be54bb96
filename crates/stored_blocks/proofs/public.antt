-- The lemmas that crates above cite: places whose blocks pass a test, counts along a path, and which blocks are stored by the payloads that are held.
pub mod PassingFacts
pub mod PathFacts
pub mod HeldFacts
