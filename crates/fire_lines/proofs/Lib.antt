pub mod public
pub mod FrontFacts
pub mod LineFacts
pub mod PartFacts
pub mod PayloadFacts
pub mod PieceFacts
pub mod GrowthFacts
pub mod PrintFacts
