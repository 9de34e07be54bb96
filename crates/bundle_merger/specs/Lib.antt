pub mod Containers
pub mod Writes
pub mod ReadBack
pub mod Merging
pub mod MergedFiles
