pub mod Bundles
pub mod Singles
pub mod Steps
pub mod Refusals
pub mod Folders
pub mod Merged
pub mod Shelf
pub mod Laws
