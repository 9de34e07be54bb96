use Rattle.std.proofs.Common.{arith, ap, sym, ◌∙◌}
use Rattle.block_tree.proofs.public.PlaceFacts.{place_range}
use Rattle.block_tree.specs.Places.{slip_of}
use Rattle.chain_model.specs.Ancestry.{has_id}
use Rattle.chain_model.specs.Finality.{ancestry_of}
use Rattle.relay_look.proofs.PathFacts.{off_path, on_path_by, past_path}
use Rattle.relay_look.proofs.paths.is_on_path.Goals as goal

pub returns-in_default : goal.returns-in_default
returns-in_default c = off_path _ _ _ (sym c.find.ensures ∙ c.in_default.is)

pub returns-then-last-len : goal.returns-then-last-len
returns-then-last-len c =
    past_path c.args.db.now.history c.in-Some-last.last c.args.id.now (omega (arith, c.len.ensures.len, c.if-last-len.true))
    ∙ ap (λ o. has_id (ancestry_of c.args.db.now.history (slip_of c.args.db.now.history o)) c.args.id.now) (sym c.in-Some-last.is)

pub on_path-requires-clause-a_range : goal.on_path-requires-clause-a_range
on_path-requires-clause-a_range c = place_range _ _ _ (sym c.find.ensures ∙ c.in-Some.is)

pub returns : goal.returns
returns c =
    on_path_by c.args.db.now.history c.args.id.now c.in-Some.at c.in-Some-last.last _ (sym c.find.ensures ∙ c.in-Some.is) (omega (arith, c.len.ensures.len, c.if-last-len.false)) c.on_path.ensures
    ∙ ap (λ o. has_id (ancestry_of c.args.db.now.history (slip_of c.args.db.now.history o)) c.args.id.now) (sym c.in-Some-last.is)
