-- The lemmas that other crates may cite.
pub mod RoomFacts
pub mod LinkedFacts
