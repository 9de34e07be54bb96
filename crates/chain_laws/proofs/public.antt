-- The lemmas that crates above cite, from the paths of a history to the steps between places.
pub mod Lines
pub mod Growth
pub mod LinkedLists
pub mod ClosedLists
pub mod Reach
pub mod LineFacts
pub mod Meeting
pub mod Settling
pub mod Walks
pub mod Roots
pub mod Starts
pub mod Ends
pub mod Later
pub mod Orders
pub mod Tips
