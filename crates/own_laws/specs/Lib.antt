pub mod Away
pub mod Laws
