pub mod Asked
pub mod Members
pub mod RequestLine
