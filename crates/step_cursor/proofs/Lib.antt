mod SplitFacts
mod WordFacts
mod ReadFacts
mod FaultFacts
mod PrintFacts
pub mod public
