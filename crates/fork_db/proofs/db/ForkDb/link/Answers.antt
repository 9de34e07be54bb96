use Rattle.std.proofs.Common.{sym, subst, ◌≡◌}
use Rattle.block_tree.specs.Places.{place_of}
use Rattle.fork_db.specs.Claims.{IsLinkOf}
use Rattle.fork_db.specs.Verdicts.{verdict_of, fits}
use Rattle.fork_db.proofs.VerdictFacts.{IsNext, fits_next}
use Rattle.fork_db.proofs.db.ForkDb.link.Goals as goal

pub older_claim-claim-requires-clause-sound : goal.older_claim-claim-requires-clause-sound
older_claim-claim-requires-clause-sound c =
    let next : IsNext c.args.slip.now c.self.inside.tree.history = fits_next _ _ c.len.ensures.sound (subst (λ v. verdict_of v.history c.args.slip.now ≡ fits) (sym c.self.view_is) c.requires.fits) in
    next.history

pub older_claim-claim-requires-clause-parent : goal.older_claim-claim-requires-clause-parent
older_claim-claim-requires-clause-parent c = subst (λ v. place_of v.history c.args.slip.now.parent_id ≡ c.args.parent) (sym c.self.view_is) c.requires.parent

pub returns : goal.returns
returns c =
    subst (λ v. IsLinkOf v.history c.args.slip.now (record { parent = c.args.parent; claim = c.older_claim-claim.result })) c.self.view_is
    (record {
      parent = subst (λ v. place_of v.history c.args.slip.now.parent_id ≡ c.args.parent) (sym c.self.view_is) c.requires.parent;
      claim = c.older_claim-claim.ensures.value;
      range = c.older_claim-claim.ensures.range;
    })
