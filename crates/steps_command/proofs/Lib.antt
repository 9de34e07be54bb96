mod TellFacts
mod ProgressFacts
mod StepsFacts
