-- The lemmas that crates above cite: what texts and folders show, and what loading and each change of a file keep.
pub mod TextFacts
pub mod FolderFacts
pub mod KeptFacts
pub mod BundleFacts
