pub mod Header
pub mod Messages
pub mod Contents
pub mod Reader
pub mod Laws
