mod EventFacts
mod FeedFacts
mod PlantFacts
mod ReaderFacts
mod ReplayFacts
mod RunFacts
