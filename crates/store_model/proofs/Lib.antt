pub mod public
mod OfferFacts
mod RootFacts
mod SizeFacts
mod LoadFacts
mod WithinFacts
mod PassedFacts
mod RoundFacts
mod ScratchFacts
mod TableFacts
