use Rattle.std.proofs.Common.{sym, ap, ◌∙◌}
use Rattle.block_record.specs.Number.{number_of}
use Rattle.reply_reader.specs.Parts.{member}
use Rattle.reply_reader.proofs.public.BlockFacts.{block_is}
use Rattle.reply_reader.proofs.lines.block_at.Goals as goal

pub returns-clause-value : goal.returns-clause-value
returns-clause-value c =
    block_is c.args.text.now c.in_ok-names.rest.now c.in_ok-lib_num.rest.now c.in_ok-time.rest.now c.in_ok-payload.rest.now c.in_ok-names.names c.in_ok-lib_num.lib_num c.in_ok-time.time c.in_ok-payload.payload
    c.in_ok-names.ensures.value (ap (λ f. member f 44 number_of c.in_ok-names.rest.now) (sym c.as_slice.ensures) ∙ c.in_ok-lib_num.ensures) (ap (λ f. member f 44 number_of c.in_ok-lib_num.rest.now) (sym c.as_slice-2.ensures) ∙ c.in_ok-time.ensures) c.in_ok-payload.ensures.value
