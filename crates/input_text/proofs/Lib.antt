mod ReadFacts
