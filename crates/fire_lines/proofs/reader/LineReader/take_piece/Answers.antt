use Rattle.std.proofs.Common.{◌≡◌, ◌≢◌, map, Err, Result, sym, ap, ◌∙◌, refl}
use Rattle.block_record.specs.Slips.{slip}
use Rattle.fire_lines.specs.declared.faults.LineFault.{LineFault}
use Rattle.fire_lines.specs.declared.faults.LineFault.TheVariants.{Mem}
use Rattle.fire_lines.proofs.LineFacts.{starts_reading, reads_line, stops_reading, ends_reading, is_read, cut_short, same_fault, answers_fault}
use Rattle.fire_lines.proofs.reader.LineReader.take_piece.Goals as goal

pub loop-front-init : goal.loop-front-init
loop-front-init c = record { reading = λ text is. starts_reading _ text c.args.piece.now _ c.args.self.now is c.requires; limit = refl }

pub returns-in_err-end_line-clause-read : goal.returns-in_err-end_line-clause-read
returns-in_err-end_line-clause-read c = λ text is apart.
    let same = same_fault c.from_residual.result c.in_err-end_line.field-0.0 c.from_residual.ensures.1 in
    let other : (let q : Result Unit LineFault = Err c.in_err-end_line.field-0.0 in q ≢ Err Mem) = λ q. apart (same ∙ q) in
    let reading = c.loop-front.invariant.reading text is in
    let bad = c.in_err-end_line.ensures in
    let done = stops_reading _ text c.args.piece.now _ c.loop-front.self _ _ _ c.loop-front.rest.now c.in-Some.front.now c.in-Some.more.now _ reading c.in-Some.ensures.parts
    (bad.answer reading.tail reading.keeps other) (bad.state reading.tail reading.keeps other) (bad.grows reading.tail reading.keeps other) in
    is_read _ text c.args.piece.now _ _ _ _ _ done (answers_fault _ _ _ same refl)

pub returns-in_err-end_line-clause-memory : goal.returns-in_err-end_line-clause-memory
returns-in_err-end_line-clause-memory c = λ text is mem.
    let same = same_fault c.from_residual.result c.in_err-end_line.field-0.0 c.from_residual.ensures.1 in
    let none : (let q : Result Unit LineFault = Err c.in_err-end_line.field-0.0 in q ≡ Err Mem) = sym same ∙ mem in
    let reading = c.loop-front.invariant.reading text is in
    let bad = c.in_err-end_line.ensures in
    cut_short _ text c.args.piece.now _ c.loop-front.self _ _ _ c.loop-front.rest.now reading (bad.memory reading.tail reading.keeps none) (ap (map slip) (bad.none none).1)

pub returns-in_err-end_line-clause-limit : goal.returns-in_err-end_line-clause-limit
returns-in_err-end_line-clause-limit c = c.in_err-end_line.ensures.limit ∙ c.loop-front.invariant.limit

pub loop-front-preserved : goal.loop-front-preserved
loop-front-preserved c =
    let good = c.in_ok-end_line.ensures in
    record {
      reading = λ text is.
          let reading = c.loop-front.invariant.reading text is in
          reads_line _ text c.args.piece.now _ c.loop-front.self c.end_line.new.self _ _ c.loop-front.rest.now c.in-Some.front.now c.in-Some.more.now reading c.in-Some.ensures.parts
          (good.answer reading.tail reading.keeps (λ e. cc)) (good.state reading.tail reading.keeps (λ e. cc)) (good.grows reading.tail reading.keeps (λ e. cc));
      limit = good.limit ∙ c.loop-front.invariant.limit;
    }

pub returns-clause-read : goal.returns-clause-read
returns-clause-read c = λ text is apart.
    let reading = c.loop-front.invariant.reading text is in
    let done = ends_reading _ text c.args.piece.now _ c.loop-front.self c.keep.new.self _ c.loop-front.rest.now reading c.in_default.ensures.parts (c.keep.ensures.state reading.tail reading.keeps apart) in
    is_read _ text c.args.piece.now _ _ _ _ _ done (c.keep.ensures.answer reading.tail reading.keeps apart)

pub returns-clause-memory : goal.returns-clause-memory
returns-clause-memory c = λ text is mem.
    cut_short _ text c.args.piece.now _ c.loop-front.self _ _ _ c.loop-front.rest.now (c.loop-front.invariant.reading text is) (c.keep.ensures.memory mem) refl

pub returns-clause-limit : goal.returns-clause-limit
returns-clause-limit c = c.keep.ensures.limit ∙ c.loop-front.invariant.limit
