use Rattle.std.proofs.Common.{arith, ap, sym, refl, ◌∙◌, cond, ◌≡◌, ◌<◌}
use Rattle.block_record.specs.SlipRefs.{slip_seen}
use Rattle.block_tree.proofs.public.PlaceFacts.{place_range}
use Rattle.fork_db.specs.declared.db.Verdict.TheVariants as verdict
use Rattle.fork_db.proofs.VerdictFacts.{child_of, child_verdict}
use Rattle.fork_db.proofs.claims.judge_child.Goals as goal

pub slip-held-requires : goal.slip-held-requires
slip-held-requires c = place_range _ _ _ c.requires.parent

pub claim_below-claim-requires : goal.claim_below-claim-requires
claim_below-claim-requires c = place_range _ _ _ c.requires.parent

pub agrees_with_tip-requires-clause-parent : goal.agrees_with_tip-requires-clause-parent
agrees_with_tip-requires-clause-parent c = place_range _ _ _ c.requires.parent

pub returns-then-agrees_with_tip-clause-verdict : goal.returns-then-agrees_with_tip-clause-verdict
returns-then-agrees_with_tip-clause-verdict c =
    let s = slip_seen c.args.slip in
    let same : c.slip-held.result.now.num ≡ s.parent_num = grind (arith, c.if-held-slip.false) in
    let less : c.slip-held.result.now.num < s.num = grind (arith, c.if-held-slip-2.false) in
    let child = child_of _ s c.slip-held.result.now _ c.requires.sound c.requires.fresh c.requires.parent c.slip-held.ensures same less in
    let claims = c.claim_below-claim.ensures.value s c.slip-held.result.now child.history c.slip-held.ensures child.id refl refl in
    let agrees = c.agrees_with_tip.ensures s c.slip-held.result.now child.history c.slip-held.ensures child.id c.requires.tip_is claims in
    child_verdict _ s c.slip-held.result.now _ _ c.slip-held.ensures same less (ap (λ b. cond b verdict.Fits verdict.Disagrees) (sym c.if-agrees_with_tip.true ∙ agrees))

pub returns-then-agrees_with_tip-clause-linked : goal.returns-then-agrees_with_tip-clause-linked
returns-then-agrees_with_tip-clause-linked c =
    let s = slip_seen c.args.slip in
    let same : c.slip-held.result.now.num ≡ s.parent_num = grind (arith, c.if-held-slip.false) in
    let less : c.slip-held.result.now.num < s.num = grind (arith, c.if-held-slip-2.false) in
    let child = child_of _ s c.slip-held.result.now _ c.requires.sound c.requires.fresh c.requires.parent c.slip-held.ensures same less in
    record {
      parent = c.requires.parent;
      claim = c.claim_below-claim.ensures.value s c.slip-held.result.now child.history c.slip-held.ensures child.id refl refl;
      range = c.claim_below-claim.ensures.range;
    }

pub returns-else-agrees_with_tip-clause-verdict : goal.returns-else-agrees_with_tip-clause-verdict
returns-else-agrees_with_tip-clause-verdict c =
    let s = slip_seen c.args.slip in
    let same : c.slip-held.result.now.num ≡ s.parent_num = grind (arith, c.if-held-slip.false) in
    let less : c.slip-held.result.now.num < s.num = grind (arith, c.if-held-slip-2.false) in
    let child = child_of _ s c.slip-held.result.now _ c.requires.sound c.requires.fresh c.requires.parent c.slip-held.ensures same less in
    let claims = c.claim_below-claim.ensures.value s c.slip-held.result.now child.history c.slip-held.ensures child.id refl refl in
    let agrees = c.agrees_with_tip.ensures s c.slip-held.result.now child.history c.slip-held.ensures child.id c.requires.tip_is claims in
    child_verdict _ s c.slip-held.result.now _ _ c.slip-held.ensures same less (ap (λ b. cond b verdict.Fits verdict.Disagrees) (sym c.if-agrees_with_tip.false ∙ agrees))
