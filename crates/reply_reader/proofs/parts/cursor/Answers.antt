use Rattle.std.proofs.Common.{arith, Err, ap, ◌∙◌}
use Rattle.reply_reader.proofs.public.CursorFacts.{cursor_again, no_cursor}
use Rattle.reply_reader.proofs.parts.cursor.Goals as goal

pub returns-in-Ok : goal.returns-in-Ok
returns-in-Ok c = cursor_again c.args.text.now _ (λ i. let f = c.type_inv.text i in omega arith) c.in-Ok.ensures.printable c.in-Ok.ensures.spelled

pub returns-in-Err-Malformed : goal.returns-in-Err-Malformed
returns-in-Err-Malformed c =
    no_cursor c.args.text.now c.parse_cursor.result c.in-Err-Malformed.field-0-0 (λ i. let f = c.type_inv.text i in omega arith) c.parse_cursor.ensures.reads (c.in-Err-Malformed.is ∙ ap Err c.in-Err-Malformed.field-0-is)
