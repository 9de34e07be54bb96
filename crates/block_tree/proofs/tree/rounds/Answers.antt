use Rattle.std.proofs.Common.{arith, ℕ, ◌<◌, ◌≤◌, ◌*◌, ◌^◌}
use Rattle.std.proofs.Math.Pow.{pow_mono}
use Rattle.block_tree.proofs.tree.rounds.Goals as goal

least_of : (d a b p q : ℕ) → b < a → p ≤ q → (0 < a → q ≤ 2 * d) → 0 < b → p ≤ 2 * d
least_of d a b p q lt le least pos = let h : q ≤ 2 * d = least (omega arith) in omega arith

pub returns-else-deep-near-clause-least : goal.returns-else-deep-near-clause-least
returns-else-deep-near-clause-least c = λ pos.
    least_of c.args.depth c.digits-deep.result c.digits-near.result (2 ^ c.digits-near.result) (2 ^ c.digits-deep.result) c.if-deep-near.false (pow_mono (omega arith)) c.digits-deep.ensures.least pos
