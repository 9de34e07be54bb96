mod Lengths
mod Looks
pub mod public
