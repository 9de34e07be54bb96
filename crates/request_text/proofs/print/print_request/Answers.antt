use Rattle.std.proofs.Common.{◌&&◌, Bool, List, [], ◌∷◌, ◌++◌, ap, ◌∙◌}
use Rattle.std.specs.Prelude.{codes}
use Rattle.std.specs.Fmt.{decimal}
use Rattle.std.specs.List.{concat}
use Rattle.std.specs.Option.{option_map}
use Rattle.request_text.specs.declared.members.Member.{Member}
use Rattle.request_text.specs.Members.{members_seen}
use Rattle.request_text.specs.RequestLine.{member_text, truth, closing}
use Rattle.request_text.proofs.GivenFacts.{none_is, none_seen}
use Rattle.request_text.proofs.print.print_request.Goals as goal

pub returns-clause-ok : goal.returns-clause-ok
returns-clause-ok c =
    let old = c.args.out.now.items in
    let no_cursor = none_is c.args.cursor c.is_none-no_cursor.result c.is_none-no_cursor.ensures ∙ none_seen c.args.cursor in
    let no_final = none_is c.args.final_only c.is_none-no_final.result c.is_none-no_final.ensures in
    let no_start = none_is c.args.start c.is_none-no_start.result c.is_none-no_start.ensures in
    let no_stop = none_is c.args.stop c.is_none-no_stop.result c.is_none-no_stop.ensures in
    let two = c.both-none_of_two.ensures ∙ (λ i. no_cursor i && no_final i) in
    let three = c.both-none_of_three.ensures ∙ (λ i. two i && no_start i) in
    let four = c.both-none_of_four.ensures ∙ (λ i. three i && no_stop i) in
    let final_is = c.truth_member.ensures ∙ ap (λ (b : Bool). member_text b (codes "\"final_blocks_only\":") (option_map truth c.args.final_only)) no_cursor in
    let start_is = c.number_member.ensures ∙ ap (λ (b : Bool). member_text b (codes "\"start_block_num\":") (option_map decimal c.args.start)) two in
    let stop_is = c.number_member-2.ensures ∙ ap (λ (b : Bool). member_text b (codes "\"stop_block_num\":") (option_map decimal c.args.stop)) three in
    let end_is = c.closing.ensures ∙ ap closing four in
    c.in_ok-push_members.ensures.ok ∙ ap (λ (l : List Member). old ++ members_seen l) c.as_slice.ensures
    ∙ (λ i. old ++ concat (c.text_member.ensures i ∷ final_is i ∷ start_is i ∷ stop_is i ∷ end_is i ∷ []))
