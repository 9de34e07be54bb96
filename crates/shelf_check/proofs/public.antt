-- The lemmas that crates above cite: lists in order that have the same elements are one.
pub mod SortedFacts
