pub mod Clients
pub mod Opening
pub mod Looking
pub mod Serving
pub mod Laws
