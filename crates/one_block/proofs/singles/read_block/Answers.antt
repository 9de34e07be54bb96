use Rattle.std.proofs.Common.{ap, sym, ◌∙◌, ◌+◌, List, ℕ, length}
use Rattle.std.specs.Prelude.{slice_get}
use Rattle.std.proofs.lemmas.Result.{err_from_is_err_and}
use Rattle.one_block.proofs.SingleFacts.{formed_ok, formed_refused}
use Rattle.one_block.proofs.singles.read_block.Goals as goal

pub returns-in_err-block-in-Some : goal.returns-in_err-block-in-Some
returns-in_err-block-in-Some c =
    let p = err_from_is_err_and c.from_residual-in_err-block-in-Some.result c.from_residual-in_err-block-in-Some.ensures.1 in
    rw (p.1, p.2)
    (formed_refused c.args.form.now c.args.name.now c.args.text.now c.args.kept.now c.in_ok-file.file c.end_place-end.result c.in_ok-file.ensures c.end_place-end.ensures
    c.in_ok-block_type.block_type c.in_ok-block_type.ensures.0 c.in_ok-block_type.ensures.1 c.in-Some.first.now (11 + length c.as_bytes.result.now) c.goes_on-goes_on.result
    (ap (λ (l : List (List ℕ)). slice_get l 0) (sym c.deref.ensures.value) ∙ sym c.in-Some.ensures.value)
    (ap (λ (l : List ℕ). 11 + length l) c.as_bytes.ensures.text)
    c.goes_on-goes_on.ensures c.in_err-block-in-Some.field-0.0 c.in_err-block-in-Some.ensures)

pub returns-in-Some : goal.returns-in-Some
returns-in-Some c =
    formed_ok c.args.form.now c.args.name.now c.args.text.now c.args.kept.now c.in_ok-file.file c.end_place-end.result c.in_ok-file.ensures c.end_place-end.ensures
    c.in_ok-block_type.block_type c.in_ok-block_type.ensures.0 c.in_ok-block_type.ensures.1 c.in-Some.first.now (11 + length c.as_bytes.result.now) c.goes_on-goes_on.result
    (ap (λ (l : List (List ℕ)). slice_get l 0) (sym c.deref.ensures.value) ∙ sym c.in-Some.ensures.value)
    (ap (λ (l : List ℕ). 11 + length l) c.as_bytes.ensures.text)
    c.goes_on-goes_on.ensures c.in_ok-block-in-Some.block c.in_ok-block-in-Some.ensures
