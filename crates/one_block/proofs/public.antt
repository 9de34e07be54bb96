-- The lemmas that other crates may cite.
pub mod OptionFacts
pub mod NumeralFacts
pub mod NameFacts
pub mod FileFacts
pub mod FolderFacts
pub mod LayoutFacts
pub mod ContainerFacts
pub mod HeadFacts
pub mod RecordFacts
