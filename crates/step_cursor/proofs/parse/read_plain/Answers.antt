use Rattle.std.proofs.Common.{[], Ok, sym, ap, ◌∙◌}
use Rattle.std.specs.Prelude.{slice_get, unwrap_or}
use Rattle.step_cursor.specs.Reading.{seen, answer, cursor_seen}
use Rattle.step_cursor.proofs.ReadFacts.{plain_read}
use Rattle.step_cursor.proofs.public.TextFacts.{cut_so}
use Rattle.step_cursor.proofs.parse.read_plain.Goals as goal

pub to_cursor-requires : goal.to_cursor-requires
to_cursor-requires c =
    let cut = cut_so c.args.plain.now c.front.result.now (seen c.as_slice-2.result.now) (seen c.as_slice-3.result.now) (ap seen c.as_slice-3.ensures.value ∙ c.in_ok-parts.ensures)
    (c.front.ensures ∙ ap (λ l. unwrap_or (slice_get (seen l) 0) []) (c.as_slice.ensures.value ∙ sym c.as_slice-3.ensures.value)) (ap seen c.as_slice-2.ensures.value ∙ c.in_ok-words.ensures) in
    (plain_read c.args.plain.now (cursor_seen c.in-Ok.read) (sym (c.in-Ok.ensures ∙ cut))).1

pub returns-in-Ok : goal.returns-in-Ok
returns-in-Ok c =
    let cut = cut_so c.args.plain.now c.front.result.now (seen c.as_slice-2.result.now) (seen c.as_slice-3.result.now) (ap seen c.as_slice-3.ensures.value ∙ c.in_ok-parts.ensures)
    (c.front.ensures ∙ ap (λ l. unwrap_or (slice_get (seen l) 0) []) (c.as_slice.ensures.value ∙ sym c.as_slice-3.ensures.value)) (ap seen c.as_slice-2.ensures.value ∙ c.in_ok-words.ensures) in
    λ apart. ap Ok c.in_ok-cursor-in-Ok.ensures ∙ ap answer (c.in-Ok.ensures ∙ cut)

pub returns : goal.returns
returns c =
    let cut = cut_so c.args.plain.now c.front.result.now (seen c.as_slice-2.result.now) (seen c.as_slice-3.result.now) (ap seen c.as_slice-3.ensures.value ∙ c.in_ok-parts.ensures)
    (c.front.ensures ∙ ap (λ l. unwrap_or (slice_get (seen l) 0) []) (c.as_slice.ensures.value ∙ sym c.as_slice-3.ensures.value)) (ap seen c.as_slice-2.ensures.value ∙ c.in_ok-words.ensures) in
    λ apart. ap answer (c.in-Err.ensures ∙ cut)
