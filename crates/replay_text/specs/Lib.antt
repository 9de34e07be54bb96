pub mod Laws
pub mod Lines
pub mod Replies
pub mod Tables
pub mod Texts
