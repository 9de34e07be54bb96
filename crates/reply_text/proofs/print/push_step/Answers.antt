use Rattle.std.proofs.Common.{List, [], ◌∷◌, ◌++◌, ap, ◌∙◌}
use Rattle.std.specs.Prelude.{codes}
use Rattle.std.specs.Fmt.{decimal}
use Rattle.std.specs.List.{concat}
use Rattle.base64.specs.GeneralPurpose.{encode_of}
use Rattle.base64.specs.Engines.{standard}
use Rattle.hex.specs.Hex.{encode_lower}
use Rattle.text_parts.specs.declared.parts.Part.{Part}
use Rattle.text_parts.specs.Parts.{parts_text}
use Rattle.reply_text.proofs.print.push_step.Goals as goal

pub returns-clause-ok : goal.returns-clause-ok
returns-clause-ok c =
    let old = c.args.out.now.items in
    let b = c.args.block.now in
    c.in_ok-push_parts.ensures.ok ∙ ap (λ (l : List Part). old ++ parts_text l) c.as_slice.ensures
    ∙ (λ i. old
    ++ concat (
    codes "{\"step\":\"" ∷ c.word.ensures i ∷ codes "\",\"num\":" ∷ decimal b.num ∷ codes ",\"id\":\"" ∷ c.as_bytes.ensures.text i
    ∷ codes "\",\"parent_num\":" ∷ decimal b.parent_num ∷ codes ",\"parent_id\":\"" ∷ c.as_bytes-2.ensures.text i
    ∷ codes "\",\"lib_num\":" ∷ decimal b.lib_num ∷ codes ",\"time\":" ∷ decimal b.time
    ∷ codes ",\"payload\":\"" ∷ encode_of standard (c.as_bytes-3.ensures i) ∷ codes "\",\"digest\":\"" ∷ encode_lower b.digest
    ∷ codes "\",\"cursor\":\"" ∷ []
    ))
