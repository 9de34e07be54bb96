use Rattle.std.proofs.Common.{map}
use Rattle.command_io.specs.Streams.{source_at}
use Rattle.fire_tool.proofs.WordFacts.{cursor_words, node_words}
use Rattle.fire_tool.proofs.run.run_streams.Goals as goal

pub returns-in-Some : goal.returns-in-Some
returns-in-Some g c = node_words (map (λ w. w.items) c.args.words.now) c.in-Some.options _ _ _ c.in-Some.ensures.options (c.run_node.ensures (source_at g.I.Source c.args.input.now))

pub returns-in-Some-cursor_value : goal.returns-in-Some-cursor_value
returns-in-Some-cursor_value g c =
    cursor_words (map (λ w. w.items) c.args.words.now) c.in-Some-cursor_value.text.now _ _ _ c.in-None.ensures.options c.in-Some-cursor_value.ensures (c.run_cursor.ensures (source_at g.I.Source c.args.input.now))
