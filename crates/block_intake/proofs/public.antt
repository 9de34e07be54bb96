-- The lemmas that other crates may cite.
pub mod AlikeFacts
pub mod IntakeFacts
