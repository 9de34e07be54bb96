pub mod Memory
pub mod Pieces
pub mod Plans
pub mod ShelfStates
pub mod Guards
