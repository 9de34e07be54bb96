pub mod public
