pub mod public
pub mod ShelfFacts
