mod ComingFacts
