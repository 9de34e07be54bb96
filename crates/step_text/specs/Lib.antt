pub mod Limits
pub mod StepText
pub mod Taken
pub mod Tables
