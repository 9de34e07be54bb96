mod CursorFacts
