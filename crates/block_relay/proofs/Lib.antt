pub mod KeptFacts
pub mod DoneFacts
pub mod AdmissionFacts
pub mod HeldFacts
mod StoredFacts
mod ResizeFacts
mod HoldsFacts
