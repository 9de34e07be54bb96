use Rattle.std.proofs.Common.{◌++◌}
use Rattle.file_source.proofs.search.next_block.Goals as goal

pub returns-clause-answer : goal.returns-clause-answer
returns-clause-answer g c = λ front given h.
    let on = c.in_ok-fill.ensures.read (λ e. cc e) front given h in
    c.block_at.ensures.answer (g.S.Shelf.files c.args.shelf.now) (front ++ on.more) given on.read c.in_ok-fill.ensures.stands
