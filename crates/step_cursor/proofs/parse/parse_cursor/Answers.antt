use Rattle.std.proofs.Common.{Ok, Err, sym, subst, arith}
use Rattle.step_cursor.proofs.public.TextFacts.{IsAnswerTo, answered_at, not_decoded, handed_on}
use Rattle.step_cursor.proofs.parse.parse_cursor.Goals as goal

pub returns-in_err-plain-clause-reads : goal.returns-in_err-plain-clause-reads
returns-in_err-plain-clause-reads c = (subst (IsAnswerTo c.args.text.now) (sym (handed_on _ c.in_err-plain.field-0.0 c.from_residual.ensures.1)) (not_decoded c.args.text.now c.in_err-plain.field-0.0 c.in_err-plain.ensures.fault)).reads

pub returns-in_err-cursor-clause-reads : goal.returns-in_err-cursor-clause-reads
returns-in_err-cursor-clause-reads c =
    (subst (IsAnswerTo c.args.text.now) (sym (handed_on _ c.in_err-cursor.field-0.0 c.from_residual-in_err-cursor.ensures.1))
    (answered_at c.args.text.now c.in_ok-plain.plain.items c.as_slice.result.now (Err c.in_err-cursor.field-0.0) (λ i. let f = c.type_inv.text i in omega arith) c.in_ok-plain.ensures.decoded c.as_slice.ensures.value c.in_err-cursor.ensures)).reads

pub returns-in_err-cursor-clause-fault : goal.returns-in_err-cursor-clause-fault
returns-in_err-cursor-clause-fault c =
    (subst (IsAnswerTo c.args.text.now) (sym (handed_on _ c.in_err-cursor.field-0.0 c.from_residual-in_err-cursor.ensures.1))
    (answered_at c.args.text.now c.in_ok-plain.plain.items c.as_slice.result.now (Err c.in_err-cursor.field-0.0) (λ i. let f = c.type_inv.text i in omega arith) c.in_ok-plain.ensures.decoded c.as_slice.ensures.value c.in_err-cursor.ensures)).fault

pub returns-clause-spelled : goal.returns-clause-spelled
returns-clause-spelled c = (answered_at c.args.text.now c.in_ok-plain.plain.items c.as_slice.result.now (Ok c.in_ok-cursor.cursor) (λ i. let f = c.type_inv.text i in omega arith) c.in_ok-plain.ensures.decoded c.as_slice.ensures.value c.in_ok-cursor.ensures).spelled

pub returns-clause-printable : goal.returns-clause-printable
returns-clause-printable c = (answered_at c.args.text.now c.in_ok-plain.plain.items c.as_slice.result.now (Ok c.in_ok-cursor.cursor) (λ i. let f = c.type_inv.text i in omega arith) c.in_ok-plain.ensures.decoded c.as_slice.ensures.value c.in_ok-cursor.ensures).printable

pub returns-clause-reads : goal.returns-clause-reads
returns-clause-reads c = (answered_at c.args.text.now c.in_ok-plain.plain.items c.as_slice.result.now (Ok c.in_ok-cursor.cursor) (λ i. let f = c.type_inv.text i in omega arith) c.in_ok-plain.ensures.decoded c.as_slice.ensures.value c.in_ok-cursor.ensures).reads

pub returns-clause-fault : goal.returns-clause-fault
returns-clause-fault c = (answered_at c.args.text.now c.in_ok-plain.plain.items c.as_slice.result.now (Ok c.in_ok-cursor.cursor) (λ i. let f = c.type_inv.text i in omega arith) c.in_ok-plain.ensures.decoded c.as_slice.ensures.value c.in_ok-cursor.ensures).fault
