pub mod Answers
pub mod Judged
pub mod Taking
pub mod Intakes
