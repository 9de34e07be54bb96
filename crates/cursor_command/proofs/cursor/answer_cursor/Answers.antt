use Rattle.cursor_command.proofs.cursor.answer_cursor.Goals as goal

pub returns-in-Ok : goal.returns-in-Ok
returns-in-Ok g c = c.tell_cursor.ensures c.args.text.now (record { printable = c.in-Ok.ensures.printable; text_is = c.in-Ok.ensures.spelled })
