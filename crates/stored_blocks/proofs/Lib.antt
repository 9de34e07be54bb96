mod PlaceLists
mod OnceFacts
mod IndexFacts
mod BundleLists
mod RisingFacts
mod PlanFacts
pub mod public
