pub mod public
mod MessageFacts
mod PieceFacts
mod HeaderFacts
mod StopFacts
mod LawFacts
mod SpelledFacts
