-- The lemmas that crates above cite: blocks by place, their parents, and their paths.
pub mod PlaceFacts
pub mod ParentFacts
pub mod WalkFacts
pub mod PathFacts
