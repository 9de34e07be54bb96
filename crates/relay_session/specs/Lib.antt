pub mod Serving
pub mod Turns
pub mod Asking
pub mod Sending
pub mod Growing
