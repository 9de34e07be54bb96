use Rattle.fork_db.proofs.public.ClaimFacts.{claim_place}
use Rattle.fork_db.proofs.claims.claim_place.Goals as goal

pub returns-clause-value : goal.returns-clause-value
returns-clause-value c = λ slip link. (claim_place _ slip _ _ _ link.claim link.range c.len.ensures.len c.unwrap_or.ensures).0

pub returns-clause-range : goal.returns-clause-range
returns-clause-range c = λ slip link. (claim_place _ slip _ _ _ link.claim link.range c.len.ensures.len c.unwrap_or.ensures).1
