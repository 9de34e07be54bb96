mod CheckFacts
