pub mod Lines
pub mod Pieces
pub mod Replies
pub mod Values
