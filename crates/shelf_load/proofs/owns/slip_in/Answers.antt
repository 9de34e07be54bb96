use Rattle.std.proofs.Common.{sym, ◌∙◌}
use Rattle.shelf_load.proofs.owns.slip_in.Goals as goal

pub returns-in_ok-read-in-Some : goal.returns-in_ok-read-in-Some
returns-in_ok-read-in-Some c =
    let r = c.in_ok-read-in-Some.ensures in
    record { form = c.in-Some.form; formed = sym c.in_ok-form.ensures ∙ c.in-Some.is; block_type = c.in_ok-read-in-Some.read.block_type; block = r.block; is_of = r.single; slip_is = r.slip_is }
