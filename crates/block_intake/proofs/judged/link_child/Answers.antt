use Rattle.std.proofs.Common.{arith, ◌≡◌, Err, ap, sym, ◌∙◌}
use Rattle.block_record.specs.SlipRefs.{slip_seen}
use Rattle.block_tree.proofs.public.PlaceFacts.{place_range, place_slip}
use Rattle.fork_db.specs.Verdicts.{verdict_by, verdict_of}
use Rattle.fork_db.specs.declared.db.Verdict.TheVariants as forks
use Rattle.relay_model.specs.declared.answers.ConflictKind.TheVariants as kind
use Rattle.block_intake.specs.Judged.{clash_at}
use Rattle.block_intake.proofs.JudgedFacts.{clash_none, clash_num, clash_tip, num_differs, num_same}
use Rattle.block_intake.proofs.judged.link_child.Goals as goal
use Rattle.block_tree.proofs.public.WalkFacts.{slip_there}

pub returns-in-Ok-clause-clash : goal.returns-in-Ok-clause-clash
returns-in-Ok-clause-clash c =
    let h = c.args.db.now.history in
    let s = slip_seen c.args.slip in
    let q = place_slip h s.parent_id c.args.parent c.requires.parent in
    let fits : verdict_of h s ≡ forks.Fits = sym c.can_append_on.ensures.verdict ∙ ap verdict_by c.in-Ok.is in
    sym (clash_none h s q.0 q.3 (num_same h s q.0 q.3 c.requires.fresh (λ e. absurd (grind (arith, fits, e)))) c.requires.rises c.requires.fresh (λ e. absurd (grind (arith, fits, e))))

pub returns-in-Err-ParentNumber-clause-clash : goal.returns-in-Err-ParentNumber-clause-clash
returns-in-Err-ParentNumber-clause-clash c =
    let h = c.args.db.now.history in
    let s = slip_seen c.args.slip in
    let q = place_slip h s.parent_id c.args.parent c.requires.parent in
    let number : verdict_of h s ≡ forks.ParentNumber = sym c.can_append_on.ensures.verdict ∙ ap verdict_by c.in-Err-ParentNumber.is ∙ ap (λ f. verdict_by (Err f)) c.in-Err-ParentNumber.field-0-is in
    ap (clash_at s kind.Parent) q.1 ∙ sym (clash_num h s q.0 q.3 (num_differs h s q.0 q.3 c.requires.rises c.requires.fresh number))

pub returns-in-Err-ParentNumber-clause-range : goal.returns-in-Err-ParentNumber-clause-range
returns-in-Err-ParentNumber-clause-range c = place_range _ _ _ c.requires.parent

pub returns-in-Err-Disagrees-clause-clash : goal.returns-in-Err-Disagrees-clause-clash
returns-in-Err-Disagrees-clause-clash c =
    let h = c.args.db.now.history in
    let s = slip_seen c.args.slip in
    let q = place_slip h s.parent_id c.args.parent c.requires.parent in
    let t = slip_there h c.tip_place.result c.tip_place.ensures.range in
    let verdict : verdict_of h s ≡ forks.Disagrees = sym c.can_append_on.ensures.verdict ∙ ap verdict_by c.in-Err-Disagrees.is ∙ ap (λ f. verdict_by (Err f)) c.in-Err-Disagrees.field-0-is in
    ap (clash_at s kind.Finality) t.1
    ∙ sym (clash_tip h s q.0 t.0 q.3 (num_same h s q.0 q.3 c.requires.fresh (λ e. absurd (grind (arith, verdict, e)))) c.requires.rises c.requires.fresh verdict (sym c.tip_place.ensures.tip ∙ t.1))
