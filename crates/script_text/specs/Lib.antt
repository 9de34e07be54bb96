pub mod Lines
pub mod Names
pub mod Reading
pub mod Scripts
pub mod Settings
pub mod Words
