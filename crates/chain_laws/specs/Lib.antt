pub mod Standing
pub mod Oldest
pub mod Marks
pub mod Laws
