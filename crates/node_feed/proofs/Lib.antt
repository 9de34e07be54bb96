mod FrontFacts
mod GrowFacts
mod KindFacts
mod ListFacts
mod ReadFacts
mod SingleFacts
