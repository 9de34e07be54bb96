-- The lemmas that crates above cite: reads of lists, paths of a tree, and climbs by far links.
pub mod ListFacts
pub mod TreeFacts
pub mod Walks
pub mod Meets
