mod OwnFacts
mod ChangeFacts
mod TextFacts
mod HeldFacts
mod KeptFacts
mod PutFacts
mod TakeFacts
mod StepFacts
