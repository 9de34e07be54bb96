-- The lemmas that crates above cite: which blocks are taken, what loading brings back, what each step keeps, what is held, and what stays known of the stored blocks.
pub mod TakenFacts
pub mod ReloadFacts
pub mod StepFacts
pub mod HeldFacts
pub mod FrontFacts
pub mod PlacesFacts
