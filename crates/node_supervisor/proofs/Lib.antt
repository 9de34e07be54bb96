pub mod WaitFacts
pub mod TableFacts
pub mod RunFacts
