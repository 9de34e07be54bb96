use Rattle.std.proofs.Common.{ap, sym, ◌∙◌, max}
use Rattle.fork_db.proofs.public.ClaimFacts.{root_at}
use Rattle.fork_db.proofs.claims.claim_limit.Goals as goal

pub returns : goal.returns
returns c = c.max.ensures ∙ ap (max c.args.lib_num) (sym (root_at c.args.tree.now.history _ c.slip.ensures))
