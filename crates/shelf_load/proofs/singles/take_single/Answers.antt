use Rattle.std.proofs.Common.{inl, inr, subst}
use Rattle.std.proofs.lemmas.Result.{err_from_is_err_and}
use Rattle.block_record.specs.Slips.{slip}
use Rattle.block_relay.specs.Chronicle.{world_told}
use Rattle.shelf_load.specs.declared.put_by.Origin.{Origin}
use Rattle.shelf_load.specs.Taking.{stage, taken, IsTaken, TakeRefused}
use Rattle.shelf_load.proofs.singles.take_single.Goals as goal

pub returns-in_err-hello : goal.returns-in_err-hello
returns-in_err-hello c =
    let p = err_from_is_err_and c.from_residual.result c.from_residual.ensures.1 in
    rw (p.1, p.2) (inl c.in_err-hello.ensures.1)

pub returns-in_err-take_block : goal.returns-in_err-take_block
returns-in_err-take_block c =
    let p = err_from_is_err_and c.from_residual-in_err-take_block.result c.from_residual-in_err-take_block.ensures.1 in
    let T : Origin → Type 0 = λ o. TakeRefused (stage (world_told c.hello.new.relay) c.args.left.now) (taken (slip c.args.block) o) c.in_err-take_block.field-0.0 in
    rw (p.1, p.2) (inr (record { told = world_told c.hello.new.relay; greeted = c.in_ok-hello.ensures; why = subst T c.origin_of.ensures c.in_err-take_block.ensures }))

pub returns : goal.returns
returns c =
    let T : Origin → Type 0 = λ o. IsTaken (stage (world_told c.hello.new.relay) c.args.left.now) (stage (world_told c.take_block.new.relay) c.take_block.new.left) (taken (slip c.args.block) o) in
    record { told = world_told c.hello.new.relay; greeted = c.in_ok-hello.ensures; taken = subst T c.origin_of.ensures c.in_ok-take_block.ensures }
