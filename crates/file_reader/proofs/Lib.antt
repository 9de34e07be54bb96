pub mod public
mod PieceFacts
