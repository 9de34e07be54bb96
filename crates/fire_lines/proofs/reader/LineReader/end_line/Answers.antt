use Rattle.std.proofs.Common.{◌++◌, map, sym, ap, subst, ◌∙◌}
use Rattle.block_record.specs.Slips.{slip}
use Rattle.fire_lines.specs.Line.{Saying}
use Rattle.block_record.specs.Words.{Answers, GrowsBy}
use Rattle.fire_lines.specs.Reader.{ReaderState, fault_of, slips_of, without_memory}
use Rattle.fire_lines.proofs.LineFacts.{same_fault, with_tail-good, line_says-kept, with_line-kept}
use Rattle.fire_lines.proofs.reader.LineReader.end_line.Goals as goal

pub returns-clause-answer : goal.returns-clause-answer
returns-clause-answer c = λ tail is apart.
    let q = tail ++ c.args.front.now in
    let good = c.in_ok-keep.ensures in
    let kept_on = with_tail-good c.args.self.now c.keep.new.self q (good.answer tail is (λ e. cc)) (good.state tail is (λ e. cc)) in
    subst (λ (s : Saying). Answers c.take_kept.result (fault_of s)) (line_says-kept c.args.self.now _ q _ kept_on)
    (c.take_kept.ensures.answer q (ap (λ (s : ReaderState). s.partial) kept_on) apart)

pub returns-clause-state : goal.returns-clause-state
returns-clause-state c = λ tail is apart.
    let q = tail ++ c.args.front.now in
    let good = c.in_ok-keep.ensures in
    let kept_on = with_tail-good c.args.self.now c.keep.new.self q (good.answer tail is (λ e. cc)) (good.state tail is (λ e. cc)) in
    c.take_kept.ensures.state q (ap (λ (s : ReaderState). s.partial) kept_on) apart ∙ with_line-kept c.args.self.now _ q _ kept_on

pub returns-clause-grows : goal.returns-clause-grows
returns-clause-grows c = λ tail is apart.
    let q = tail ++ c.args.front.now in
    let good = c.in_ok-keep.ensures in
    let kept_on = with_tail-good c.args.self.now c.keep.new.self q (good.answer tail is (λ e. cc)) (good.state tail is (λ e. cc)) in
    subst (λ (s : Saying). GrowsBy (map slip c.args.out.now.items) (map slip c.take_kept.new.out.items) (slips_of s)) (line_says-kept c.args.self.now _ q _ kept_on)
    (c.take_kept.ensures.grows q (ap (λ (s : ReaderState). s.partial) kept_on) apart)

pub returns-in_err-keep-clause-memory : goal.returns-in_err-keep-clause-memory
returns-in_err-keep-clause-memory c = λ tail is mem.
    let same = same_fault c.from_residual.result c.in_err-keep.field-0.0 c.from_residual.ensures.1 in
    c.in_err-keep.ensures.memory (sym same ∙ mem)

pub returns-clause-memory : goal.returns-clause-memory
returns-clause-memory c = λ tail is mem.
    let q = tail ++ c.args.front.now in
    let good = c.in_ok-keep.ensures in
    let kept_on = with_tail-good c.args.self.now c.keep.new.self q (good.answer tail is (λ e. cc)) (good.state tail is (λ e. cc)) in
    c.take_kept.ensures.memory mem ∙ ap without_memory kept_on
