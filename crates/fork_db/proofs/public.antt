-- The lemmas that crates above cite: what blocks claim, and the final tip.
pub mod ClaimFacts
