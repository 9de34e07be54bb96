use Rattle.std.proofs.Common.{map, sym, ◌∙◌}
use Rattle.command_io.specs.Streams.{shelf_at, source_at}
use Rattle.fire_tool.proofs.WordFacts.{check_words, other_words}
use Rattle.fire_tool.proofs.run.run_plain.Goals as goal

pub returns-then-is_check-clause-run : goal.returns-then-is_check-clause-run
returns-then-is_check-clause-run g c =
    check_words (map (λ w. w.items) c.args.words.now) (shelf_at g.S.Shelf c.args.shelf.now) (shelf_at g.S.Shelf c.run_check.new.shelf) _ _ _
    (sym c.is_check.ensures ∙ c.if-is_check.true) (c.run_check.ensures.run (source_at g.I.Source c.args.input.now))

pub returns-clause-run : goal.returns-clause-run
returns-clause-run g c =
    other_words (map (λ w. w.items) c.args.words.now) (shelf_at g.S.Shelf c.args.shelf.now) (shelf_at g.S.Shelf c.args.shelf.now) _ _ _
    (sym c.is_check.ensures ∙ c.if-is_check.false) c.run_streams.ensures
