use Rattle.std.proofs.Common.{arith, sym, ap, ◌∙◌}
use Rattle.block_tree.proofs.public.WalkFacts.{slip_there}
use Rattle.bundle_model.specs.Bundles.{finals_up}
use Rattle.stored_blocks.specs.Stored.{is_given_up, is_gone}
use Rattle.stored_blocks.proofs.public.PathFacts.{count_low, count_step, count_stop}
use Rattle.stored_blocks.proofs.public.HeldFacts.{given_up_at, held_gone, none_gone}
use Rattle.stored_blocks.proofs.stored.front_from.Goals as goal

pub returns-then-is_some : goal.returns-then-is_some
returns-then-is_some c =
    let f = c.args.db.now in
    let s = slip_there f.history c.in-Some.at c.in-Some.ensures.range in
    let e = sym c.in-Some.ensures.value ∙ s.1 in
    let open' = given_up_at f c.in-Some.at s.0 c.len.ensures.sound s.1 ∙ ap is_gone c.held.ensures.value ∙ held_gone _ c.held.result (sym c.is_some.ensures ∙ c.if-is_some.true) in
    count_stop (is_given_up f) (finals_up f.history) c.loop-index.index s.0 c.loop-index.invariant e open'

pub loop-index-preserved : goal.loop-index-preserved
loop-index-preserved c =
    let f = c.args.db.now in
    let s = slip_there f.history c.in-Some.at c.in-Some.ensures.range in
    let e = sym c.in-Some.ensures.value ∙ s.1 in
    let gone = given_up_at f c.in-Some.at s.0 c.len.ensures.sound s.1 ∙ ap is_gone c.held.ensures.value ∙ none_gone _ c.held.result (sym c.is_some.ensures ∙ c.if-is_some.false) in
    let more = count_step (is_given_up f) (finals_up f.history) c.loop-index.index s.0 c.loop-index.invariant e gone in
    omega (arith, more)

pub returns : goal.returns
returns c =
    let f = c.args.db.now in
    let low = count_low (is_given_up f) (finals_up f.history) in
    omega (arith, low, c.requires.front, c.requires.finals, c.loop-index.invariant, c.loop-index.auto.index-end, c.loop-index-test.false)
