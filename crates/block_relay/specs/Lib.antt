pub mod Chronicle
pub mod Done
pub mod Held
pub mod Memory
