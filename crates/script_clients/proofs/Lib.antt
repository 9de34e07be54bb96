mod ClientFacts
mod LookFacts
