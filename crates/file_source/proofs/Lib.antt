mod SearchFacts
mod FetchFacts
