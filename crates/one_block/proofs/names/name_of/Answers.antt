use Rattle.std.specs.Fmt.{decimal}
use Rattle.one_block.specs.Numerals.{padded}
use Rattle.one_block.specs.Moments.{moment_of, moment_text}
use Rattle.one_block.specs.Names.{id_end}
use Rattle.std.proofs.Common.{◌/◌}
use Rattle.one_block.proofs.JoinFacts.{joined}
use Rattle.one_block.proofs.names.name_of.Goals as goal

pub returns-clause-text : goal.returns-clause-text
returns-clause-text c =
    let s = c.args.slip.now in
    rw (c.from_vec.ensures, c.in_ok-push_word-3.ensures, c.in_ok-push_number.ensures, c.in_ok-push-2.ensures.items, c.in_ok-push_word-2.ensures, c.in_ok-push_word.ensures, c.in_ok-push_moment.ensures, c.in_ok-push.ensures.items, c.in_ok-push_padded.ensures, c.new-text.ensures.items, c.id_end.ensures, c.id_end-2.ensures, c.as_bytes.ensures.text, c.as_bytes-2.ensures.text, c.as_bytes-3.ensures.text, c.moment_of.ensures)
    (joined (padded 10 s.num) (moment_text (moment_of (s.time / 100_000_000))) (id_end s.id) (id_end s.parent_id) (decimal s.lib_num) c.args.reader.now)
