pub mod Children
pub mod Keys
pub mod Numbers
pub mod Rooms
