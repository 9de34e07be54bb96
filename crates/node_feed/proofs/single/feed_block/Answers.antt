use Rattle.std.proofs.Common.{◌∙◌, ◌++◌, List, ℕ, ap}
use Rattle.std.proofs.lemmas.Result.{err_from_is_err_and}
use Rattle.replay_text.specs.Lines.{taken_lines}
use Rattle.node_feed.specs.Outcomes.{outside}
use Rattle.node_feed.proofs.SingleFacts.{answered, untold, taken_grown}
use Rattle.block_reader.specs.Changes.{shelved}
use Rattle.own_laws.proofs.public.AwayFacts.{nothing_stays_away}
use Rattle.own_laws.proofs.public.TakeFacts.{take_stays_away}
use Rattle.node_feed.proofs.single.feed_block.Goals as goal

pub returns-in_err-push_taken-clause-answer : goal.returns-in_err-push_taken-clause-answer
returns-in_err-push_taken-clause-answer g c =
    let p = err_from_is_err_and c.from_residual-in_err-push_taken.result c.from_residual-in_err-push_taken.ensures.1 in
    rw (p.1, p.2)
    (untold c.args.name.now c.args.kind.now c.args.block
    (outside c.args.relay.now (g.S.Shelf.files c.args.shelf.now) c.args.own.now (g.S.Shelf.shelf_faults c.args.shelf.now) c.args.out.now.items)
    (outside c.take_owned-answer.new.relay (g.S.Shelf.files c.take_owned-answer.new.shelf) c.take_owned-answer.new.own (g.S.Shelf.shelf_faults c.take_owned-answer.new.shelf) c.push_taken.new.out.items)
    c.take_owned-answer.result c.take_owned-answer.ensures.said c.take_owned-answer.ensures.store c.in_err-push_taken.ensures.err)

pub returns-in_err-push_taken-clause-grows : goal.returns-in_err-push_taken-clause-grows
returns-in_err-push_taken-clause-grows g c =
    taken_grown c.args.kind.now c.args.block c.args.name.now c.args.relay.now c.take_owned-answer.new.relay _ _ _ _ c.take_owned-answer.result c.take_owned-answer.ensures.said c.take_owned-answer.ensures.store

pub returns-clause-answer : goal.returns-clause-answer
returns-clause-answer g c =
    rw c.refuses_reader.ensures
    (answered c.answers_are_told.ensures c.args.name.now c.args.kind.now c.args.block
    (outside c.args.relay.now (g.S.Shelf.files c.args.shelf.now) c.args.own.now (g.S.Shelf.shelf_faults c.args.shelf.now) c.args.out.now.items)
    (outside c.take_owned-answer.new.relay (g.S.Shelf.files c.take_owned-answer.new.shelf) c.take_owned-answer.new.own (g.S.Shelf.shelf_faults c.take_owned-answer.new.shelf) c.push_taken.new.out.items)
    c.take_owned-answer.result c.take_owned-answer.ensures.said c.take_owned-answer.ensures.store
    (c.in_ok-push_taken.ensures.ok
    ∙ ap (λ (name : List ℕ). c.args.out.now.items ++ taken_lines name c.args.block.num c.in_ok-id.id c.take_owned-answer.result) c.as_bytes.ensures.text
    ∙ ap (λ (id : List ℕ). c.args.out.now.items ++ taken_lines c.args.name.now c.args.block.num id c.take_owned-answer.result) c.in_ok-id.ensures))

pub returns-clause-grows : goal.returns-clause-grows
returns-clause-grows g c =
    taken_grown c.args.kind.now c.args.block c.args.name.now c.args.relay.now c.take_owned-answer.new.relay _ _ _ _ c.take_owned-answer.result c.take_owned-answer.ensures.said c.take_owned-answer.ensures.store

pub returns-in_err-push_taken-clause-away : goal.returns-in_err-push_taken-clause-away
returns-in_err-push_taken-clause-away g c =
    take_stays_away c.args.relay.now c.take_owned-answer.new.relay c.args.kind.now c.args.block c.args.name.now
    (shelved (g.S.Shelf.files c.args.shelf.now) c.args.own.now) (shelved (g.S.Shelf.files c.take_owned-answer.new.shelf) c.take_owned-answer.new.own)
    (g.S.Shelf.shelf_faults c.args.shelf.now) (g.S.Shelf.shelf_faults c.take_owned-answer.new.shelf) c.take_owned-answer.result c.take_owned-answer.ensures.placed c.take_owned-answer.ensures.store

pub returns-clause-away : goal.returns-clause-away
returns-clause-away g c =
    take_stays_away c.args.relay.now c.take_owned-answer.new.relay c.args.kind.now c.args.block c.args.name.now
    (shelved (g.S.Shelf.files c.args.shelf.now) c.args.own.now) (shelved (g.S.Shelf.files c.take_owned-answer.new.shelf) c.take_owned-answer.new.own)
    (g.S.Shelf.shelf_faults c.args.shelf.now) (g.S.Shelf.shelf_faults c.take_owned-answer.new.shelf) c.take_owned-answer.result c.take_owned-answer.ensures.placed c.take_owned-answer.ensures.store

pub returns-in_err-id-clause-away : goal.returns-in_err-id-clause-away
returns-in_err-id-clause-away g c = nothing_stays_away c.args.name.now (shelved (g.S.Shelf.files c.args.shelf.now) c.args.own.now)
