use Rattle.std.proofs.lemmas.Result.{err_from_is_err_and}
use Rattle.one_block.proofs.public.ContainerFacts.{decoded, not_read}
use Rattle.one_block.proofs.containers.read_record.Goals as goal

pub returns-in_err-block : goal.returns-in_err-block
returns-in_err-block c =
    let p = err_from_is_err_and c.from_residual.result c.from_residual.ensures.1 in
    rw (p.1, p.2)
    (not_read c.args.bytes.now c.in_err-block.field-0.0 c.in_err-block.ensures.back c.in_err-block.ensures.fault)

pub returns : goal.returns
returns c = decoded c.args.bytes.now c.in_ok-block.block c.in_ok-block.ensures.text c.show_recordable.ensures c.in_ok-block.ensures.back
