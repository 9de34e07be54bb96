-- The lemmas that crates above cite: what is one of a list, paths that climb, bundles, plans, what is stored, and how plans come to an end.
pub mod MemberFacts
pub mod Climbs
pub mod BundleFacts
pub mod PlanFacts
pub mod DoneFacts
pub mod RetainedFacts
pub mod StoredFacts
pub mod MergeFacts
