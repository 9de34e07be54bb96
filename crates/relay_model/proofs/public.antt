-- The lemmas that crates above cite: blocks that are admitted, worlds that stay sound, entries, and looks.
pub mod Admits
pub mod Intakes
pub mod Judged
pub mod Sound
pub mod Entries
pub mod Given
pub mod Fitting
