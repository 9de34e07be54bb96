pub mod public
mod ListFacts
mod BundleFacts
mod RefusalFacts
mod FolderFacts
mod MergedFacts
mod ShelfFacts
mod LawFacts
mod WholeFacts
mod NamedFacts
