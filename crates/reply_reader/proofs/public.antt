-- The lemmas that other crates may cite.
pub mod BlockFacts
pub mod CutFacts
pub mod CursorFacts
pub mod ErrorFacts
pub mod EscapedFacts
pub mod MemberFacts
pub mod LineFacts
pub mod QuotedFacts
pub mod ReplyFacts
pub mod StepFacts
