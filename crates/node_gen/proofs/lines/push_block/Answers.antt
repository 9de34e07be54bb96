use Rattle.std.proofs.Common.{◌-◌, List, [], ◌∷◌, ◌++◌, ap, ◌∙◌}
use Rattle.std.specs.Prelude.{codes}
use Rattle.std.specs.Fmt.{decimal}
use Rattle.std.specs.List.{concat}
use Rattle.base64.specs.GeneralPurpose.{encode_of}
use Rattle.base64.specs.Engines.{standard}
use Rattle.text_parts.specs.declared.parts.Part.{Part}
use Rattle.text_parts.specs.Parts.{parts_text}
use Rattle.node_gen.proofs.lines.push_block.Goals as goal

pub returns-clause-ok : goal.returns-clause-ok
returns-clause-ok c =
    let old = c.args.out.now.items in
    let num = c.args.num in
    c.in_ok-push_parts.ensures.ok ∙ ap (λ (l : List Part). old ++ parts_text l) c.as_slice-4.ensures
    ∙ (λ i. old
    ++ concat (
    codes "FIRE BLOCK " ∷ decimal num ∷ codes " " ∷ c.as_slice.ensures i ∷ decimal num ∷ codes " " ∷ decimal (num - 1)
    ∷ codes " " ∷ c.as_slice-2.ensures i ∷ decimal (num - 1) ∷ codes " " ∷ decimal (c.lib_of.ensures i)
    ∷ codes " " ∷ decimal (c.time_of.ensures i) ∷ codes " " ∷ encode_of standard ((c.as_slice-3.ensures ∙ c.to_be_bytes-payload.ensures) i) ∷ codes "\n" ∷ []
    ))
