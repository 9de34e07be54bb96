use Rattle.std.proofs.Common.{sym, subst, ◌<◌, ◌≡◌, length, Some, reverse}
use Rattle.block_record.specs.declared.blocks.Slip.{Slip}
use Rattle.chain_model.specs.Finality.{claim}
use Rattle.block_tree.specs.Places.{slip_at}
use Rattle.fork_db.proofs.public.ClaimFacts.{claims_room, claim_kept_at, claim_item, claim_within}
use Rattle.fork_db.proofs.db.ForkDb.claim.Goals as goal

pub index-requires : goal.index-requires
index-requires c = claims_room _ _ _ _ c.self.inside.claims.ok.0 c.self.invariant.0 (subst (λ v. c.args.at < length v.history) (sym c.self.view_is) c.requires)

pub returns-clause-value : goal.returns-clause-value
returns-clause-value c =
    let room = claims_room _ _ _ _ c.self.inside.claims.ok.0 c.self.invariant.0 (subst (λ v. c.args.at < length v.history) (sym c.self.view_is) c.requires) in
    subst (λ v. (s : Slip) → slip_at v.history c.args.at ≡ Some s → slip_at v.history c.index.result.now ≡ claim v.history s) c.self.view_is
    (λ s e. claim_kept_at c.self.inside.tree.history (reverse c.self.inside.claims.items) c.args.at c.index.result.now s c.self.invariant.9 c.self.invariant.0 e
    (claim_item _ _ _ (subst (λ n. c.args.at < n) c.self.inside.claims.ok.0 room) c.index.ensures))

pub returns-clause-range : goal.returns-clause-range
returns-clause-range c =
    let room = claims_room _ _ _ _ c.self.inside.claims.ok.0 c.self.invariant.0 (subst (λ v. c.args.at < length v.history) (sym c.self.view_is) c.requires) in
    subst (λ v. c.index.result.now < length v.history) c.self.view_is
    (claim_within c.self.inside.tree.history (reverse c.self.inside.claims.items) c.args.at c.index.result.now c.self.invariant.0 (claim_item _ _ _ (subst (λ n. c.args.at < n) c.self.inside.claims.ok.0 room) c.index.ensures))
