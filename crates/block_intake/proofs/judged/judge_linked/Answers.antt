use Rattle.std.proofs.Common.{arith, ◌≡◌, ◌<◌, Some, None, ap, sym, ◌∙◌}
use Rattle.block_record.specs.SlipRefs.{slip_seen}
use Rattle.chain_model.specs.Ancestry.{find_id}
use Rattle.chain_model.specs.Finality.{root_num}
use Rattle.block_tree.proofs.public.PlaceFacts.{find_none, place_slip}
use Rattle.relay_model.specs.Offers.{judge_parent}
use Rattle.block_intake.proofs.JudgedFacts.{above_root, late_root, root_first, root_link}
use Rattle.block_intake.proofs.judged.judge_linked.Goals as goal

pub returns-then-len-eq0-clause-linked : goal.returns-then-len-eq0-clause-linked
returns-then-len-eq0-clause-linked c = root_link c.args.db.now.history (slip_seen c.args.slip) (sym c.if-len-eq0.true ∙ c.len.ensures.len)

pub returns-then-slip-clause-rule : goal.returns-then-slip-clause-rule
returns-then-slip-clause-rule c =
    λ w parts. late_root w (slip_seen c.args.slip) c.args.db.now.history parts.history (omega arith)
    (let root = root_first c.args.db.now.history c.slip.result.now c.slip.ensures in omega (arith, root))

pub returns-in-Some-clause-rule : goal.returns-in-Some-clause-rule
returns-in-Some-clause-rule c =
    λ w parts.
    let s = slip_seen c.args.slip in
    let newest = c.args.db.now.history in
    let root = root_first newest c.slip.result.now c.slip.ensures in
    let high : root_num newest < s.num = omega (arith, root) in
    let q = place_slip newest s.parent_id c.in-Some.parent (sym c.find.ensures ∙ c.in-Some.is) in
    let found : find_id w.history s.parent_id ≡ Some q.0 = ap (λ l. find_id l s.parent_id) parts.history ∙ q.3 in
    c.judge_new_child.ensures.rule w parts.history ∙ ap (judge_parent w s) (sym found) ∙ above_root w s newest parts.history (omega arith) high

pub returns-in-None-clause-rule : goal.returns-in-None-clause-rule
returns-in-None-clause-rule c =
    λ w parts.
    let s = slip_seen c.args.slip in
    let newest = c.args.db.now.history in
    let root = root_first newest c.slip.result.now c.slip.ensures in
    let high : root_num newest < s.num = omega (arith, root) in
    let found : find_id w.history s.parent_id ≡ None = ap (λ l. find_id l s.parent_id) parts.history ∙ find_none newest s.parent_id (sym c.find.ensures ∙ c.in-None.is) in
    c.judge_orphan.ensures.rule w parts ∙ ap (judge_parent w s) (sym found) ∙ above_root w s newest parts.history (omega arith) high
