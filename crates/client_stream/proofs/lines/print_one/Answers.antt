use Rattle.std.proofs.Common.{◌++◌, sym, ap, ◌∙◌}
use Rattle.std.proofs.lemmas.List.{append-nil}
use Rattle.block_record.specs.declared.blocks.Block.{Block}
use Rattle.reply_text.specs.Lines.{step_line}
use Rattle.client_stream.proofs.lines.print_one.Goals as goal

pub returns-clause-ok : goal.returns-clause-ok
returns-clause-ok c =
    let old = c.args.out.now.items in
    let x = c.args.step.now in
    c.in_ok-print_step.ensures.ok ∙ ap (λ (b : Block). old ++ step_line x.step b x.place c.args.tail) c.deref.ensures
    ∙ ap (λ l. old ++ l) (sym (append-nil (step_line x.step x.block.value x.place c.args.tail)))
