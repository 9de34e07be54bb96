use Rattle.std.proofs.Common.{arith}
use Rattle.fork_db.proofs.public.ClaimFacts.{self_claim, below_claim}
use Rattle.fork_db.proofs.claims.claim_below.Goals as goal

pub returns-then-num-limit-clause-value : goal.returns-then-num-limit-clause-value
returns-then-num-limit-clause-value c = λ s p h ep ei en el. self_claim _ s _ _ _ (omega (arith, c.requires)) c.claim_limit-limit.ensures c.if-num-limit.true en el

pub returns-clause-value : goal.returns-clause-value
returns-clause-value c = λ s p h ep ei en el. below_claim _ s p _ _ _ _ _ h ep ei c.claim_limit-limit.ensures c.if-num-limit.false en el (c.last_up_to.ensures.value p ep)
