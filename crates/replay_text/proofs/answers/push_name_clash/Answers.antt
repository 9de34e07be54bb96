use Rattle.std.proofs.Common.{List, [], ◌∷◌, ◌++◌, ap, ◌∙◌}
use Rattle.std.specs.Prelude.{codes}
use Rattle.std.specs.Fmt.{decimal}
use Rattle.std.specs.List.{concat}
use Rattle.text_parts.specs.declared.parts.Part.{Part}
use Rattle.text_parts.specs.Parts.{parts_text}
use Rattle.replay_text.proofs.answers.push_name_clash.Goals as goal

pub returns-clause-ok : goal.returns-clause-ok
returns-clause-ok c =
    let old = c.args.out.now.items in
    let held = c.args.held.now in
    let offered = c.args.offered.now in
    c.in_ok-push_parts.ensures.ok ∙ ap (λ (l : List Part). old ++ parts_text l) c.as_slice.ensures
    ∙ (λ i. old
    ++ concat (
    c.args.reader.now ∷ codes " fault name clash " ∷ decimal held.num ∷ codes " " ∷ c.as_bytes.ensures.text i
    ∷ codes " " ∷ decimal offered.num ∷ codes " " ∷ c.as_bytes-2.ensures.text i ∷ codes "\n" ∷ []
    ))
