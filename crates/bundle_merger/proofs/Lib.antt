mod WriteFacts
mod MessageFacts
mod DeadFacts
mod HeldFacts
mod StepFacts
mod ShedFacts
mod KeptFacts
mod AllFacts
