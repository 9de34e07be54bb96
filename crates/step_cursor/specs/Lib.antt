pub mod CursorText
pub mod CursorParts
pub mod Fitting
pub mod Reading
pub mod Laws
