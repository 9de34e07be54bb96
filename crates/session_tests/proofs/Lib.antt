mod ServingFacts
