use Rattle.std.proofs.Common.{◌≡◌, ℕ, List, Ok, Err, ap, map, subst}
use Rattle.std.proofs.lemmas.Result.{err_from_is_err_and}
use Rattle.std.specs.Option.{option_copied}
use Rattle.block_record.specs.Slips.{slip}
use Rattle.fire_lines.specs.Reader.{state_after}
use Rattle.node_feed.specs.Outcomes.{outside}
use Rattle.node_feed.specs.Readers.{NodeState, PieceAnswers, node_state}
use Rattle.node_feed.proofs.ReadFacts.{piece_answered}
use Rattle.block_reader.specs.Changes.{shelved}
use Rattle.own_laws.proofs.public.AwayFacts.{nothing_stays_away}
use Rattle.node_feed.proofs.reader.NodeReader.feed_piece.Goals as goal

pub returns-in_err-is_over-clause-answer : goal.returns-in_err-is_over-clause-answer
returns-in_err-is_over-clause-answer g c =
    let old = outside c.args.relay.now (g.S.Shelf.files c.args.shelf.now) c.args.own.now (g.S.Shelf.shelf_faults c.args.shelf.now) c.args.out.now.items in
    let new = outside c.feed_read.new.relay (g.S.Shelf.files c.feed_read.new.shelf) c.feed_read.new.own (g.S.Shelf.shelf_faults c.feed_read.new.shelf) c.feed_read.new.out.items in
    let was = node_state c.self.inside.name c.self.inside.lines c.self.inside.is_over in
    let now = node_state c.self.inside.name c.read_piece.new.lines c.self.inside.is_over in
    let p = err_from_is_err_and c.from_residual-in_err-is_over.result c.from_residual-in_err-is_over.ensures.1 in
    rw (p.1, p.2)
    (subst (λ (r : NodeState). (text : List ℕ) → r.lines ≡ state_after r.lines.max text → PieceAnswers text c.args.piece.now r now old new (Err c.in_err-is_over.field-0.0)) c.self.view_is
    (λ text h.
    piece_answered text c.args.piece.now was now (option_copied c.kind.result) c.in_ok-bad.bad (map slip c.clear.new.self.items) (map slip c.read_piece.new.blocks.items) old new
    (c.in_ok-bad.ensures.read text h) (ap (map slip) c.clear.ensures.items) c.kind.ensures (Err c.in_err-is_over.field-0.0) c.in_err-is_over.ensures.answer))

pub returns-clause-answer : goal.returns-clause-answer
returns-clause-answer g c =
    let old = outside c.args.relay.now (g.S.Shelf.files c.args.shelf.now) c.args.own.now (g.S.Shelf.shelf_faults c.args.shelf.now) c.args.out.now.items in
    let new = outside c.feed_read.new.relay (g.S.Shelf.files c.feed_read.new.shelf) c.feed_read.new.own (g.S.Shelf.shelf_faults c.feed_read.new.shelf) c.feed_read.new.out.items in
    let was = node_state c.self.inside.name c.self.inside.lines c.self.inside.is_over in
    let now = node_state c.self.inside.name c.read_piece.new.lines c.self.inside.is_over in
    subst (λ (r : NodeState). (text : List ℕ) → r.lines ≡ state_after r.lines.max text → PieceAnswers text c.args.piece.now r now old new (Ok c.in_ok-is_over.is_over)) c.self.view_is
    (λ text h.
    piece_answered text c.args.piece.now was now (option_copied c.kind.result) c.in_ok-bad.bad (map slip c.clear.new.self.items) (map slip c.read_piece.new.blocks.items) old new
    (c.in_ok-bad.ensures.read text h) (ap (map slip) c.clear.ensures.items) c.kind.ensures (Ok c.in_ok-is_over.is_over) c.in_ok-is_over.ensures.answer)

pub returns-in_err-bad-clause-away : goal.returns-in_err-bad-clause-away
returns-in_err-bad-clause-away g c = nothing_stays_away c.args.self.now.name (shelved (g.S.Shelf.files c.args.shelf.now) c.args.own.now)
