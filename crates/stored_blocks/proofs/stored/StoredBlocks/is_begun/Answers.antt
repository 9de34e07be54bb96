use Rattle.std.proofs.Common.{arith, ◌≡◌, ◌<◌, ◌-◌, Some, None, sym, ap, ◌∙◌}
use Rattle.std.specs.List.{slice_get}
use Rattle.block_tree.specs.Places.{slip_of}
use Rattle.bundle_model.specs.Bundles.{finals_up}
use Rattle.stored_blocks.proofs.PlanFacts.{begun_is, begun_there}
use Rattle.stored_blocks.proofs.stored.StoredBlocks.is_begun.Goals as goal

pub returns-in-Some : goal.returns-in-Some
returns-in-Some c =
    let f = c.args.db.now in
    let i = c.args.self.now in
    let some : 0 < i.front = omega (arith, c.if-front-eq0.false, c.front.ensures) in
    let e : slice_get (finals_up f.history) (i.front - 1) ≡ Some c.slip.result.now =
    ap (λ n. slice_get (finals_up f.history) (n - 1)) (sym c.front-2.ensures) ∙ sym c.in-Some.ensures.value ∙ c.slip.ensures in
    sym (begun_is f i c.args.base c.slip.result.now c.len.ensures.sound some e)

pub returns-in-None : goal.returns-in-None
returns-in-None c =
    let f = c.args.db.now in
    let i = c.args.self.now in
    let some : 0 < i.front = omega (arith, c.if-front-eq0.false, c.front.ensures) in
    let e : slice_get (finals_up f.history) (i.front - 1) ≡ None =
    ap (λ n. slice_get (finals_up f.history) (n - 1)) (sym c.front-2.ensures) ∙ sym c.final_at.ensures.value ∙ ap (slip_of f.history) c.in-None.is in
    absurd (begun_there f i c.requires.index some e)
