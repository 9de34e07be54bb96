mod NameFacts
