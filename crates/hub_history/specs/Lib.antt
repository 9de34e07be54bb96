pub mod Chronicles
pub mod Passes
pub mod Turns
pub mod Tells
