use Rattle.std.proofs.Common.{sym, ap, ◌∙◌}
use Rattle.block_record.specs.Number.{number_of}
use Rattle.fire_lines.specs.Fields.{id_of}
use Rattle.reply_reader.specs.Parts.{member}
use Rattle.reply_reader.proofs.public.BlockFacts.{any_names_are}
use Rattle.reply_reader.proofs.lines.any_names_at.Goals as goal

pub returns : goal.returns
returns c =
    any_names_are c.args.text.now c.in_ok-num.rest.now c.in_ok-id.rest.now c.in_ok-parent_num.rest.now c.in_ok-parent_id.rest.now c.in_ok-num.num c.in_ok-id.id c.in_ok-parent_num.parent_num c.in_ok-parent_id.parent_id
    (ap (λ f. member f 44 number_of c.args.text.now) (sym c.as_slice.ensures) ∙ c.in_ok-num.ensures) (ap (λ f. member f 34 id_of c.in_ok-num.rest.now) (sym c.as_slice-2.ensures) ∙ c.in_ok-id.ensures)
    (ap (λ f. member f 44 number_of c.in_ok-id.rest.now) (sym c.as_slice-3.ensures) ∙ c.in_ok-parent_num.ensures) (ap (λ f. member f 34 id_of c.in_ok-parent_num.rest.now) (sym c.as_slice-4.ensures) ∙ c.in_ok-parent_id.ensures)
