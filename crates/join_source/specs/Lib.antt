pub mod Items
pub mod Answers
