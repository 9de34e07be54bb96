pub mod Members
pub mod Bundles
pub mod Plans
pub mod Shedding
pub mod Retained
pub mod Laws
pub mod Tables
