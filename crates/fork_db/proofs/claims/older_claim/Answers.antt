use Rattle.std.proofs.Common.{sym, ◌∙◌, refl}
use Rattle.block_tree.proofs.public.PlaceFacts.{place_range, place_slip}
use Rattle.fork_db.proofs.public.ClaimFacts.{orphan_claim}
use Rattle.fork_db.proofs.claims.older_claim.Goals as goal

pub returns-in-None-clause-value : goal.returns-in-None-clause-value
returns-in-None-clause-value c = orphan_claim _ _ c.requires.sound (c.requires.parent ∙ c.in-None.is)

pub claim_below-requires : goal.claim_below-requires
claim_below-requires c = place_range _ _ _ (c.requires.parent ∙ c.in-Some.is)

pub returns-in-Some-clause-value : goal.returns-in-Some-clause-value
returns-in-Some-clause-value c =
    let q = place_slip _ _ _ (c.requires.parent ∙ c.in-Some.is) in
    c.claim_below.ensures.value _ q.0 c.requires.sound q.1 (sym q.2) refl refl
