pub mod public
mod CalendarFacts
mod JoinFacts
mod MomentFacts
mod WordFacts
mod SingleFacts
mod PutFacts
