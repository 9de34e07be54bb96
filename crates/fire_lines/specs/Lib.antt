pub mod Parts
pub mod Fields
pub mod Line
pub mod Text
pub mod Reader
pub mod Printed
pub mod Laws
