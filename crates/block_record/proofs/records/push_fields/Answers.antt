use Rattle.std.proofs.Common.{◌≡◌, ap, ◌∙◌, List, [], ◌∷◌, ◌++◌, ℕ}
use Rattle.block_record.specs.Records.{number_text, id_text, payload_text}
use Rattle.block_record.specs.Reading.{version_number}
use Rattle.block_record.proofs.AppendFacts.{more, four_more}
use Rattle.block_record.proofs.records.push_fields.Goals as goal

pub returns-clause-text : goal.returns-clause-text
returns-clause-text c =
    let b = c.args.block.now in
    let old : List ℕ = c.args.bytes.now.items in
    let version : List ℕ = version_number c.args.form ∷ [] in
    let head : List ℕ = version ++ number_text b.num ++ number_text b.parent_num ++ number_text b.lib_num ++ number_text b.time in
    let begun = c.in_ok-push.ensures.items ∙ ap (λ n. old ++ n ∷ []) c.version_byte.ensures in
    let headed = four_more old c.push.new.self.items version (number_text b.num) (number_text b.parent_num) (number_text b.lib_num) (number_text b.time) c.push_numbers.new.bytes.items begun c.in_ok-push_numbers.ensures.text in
    let id = more old c.push_numbers.new.bytes.items head (id_text b.id) c.push_id.new.bytes.items headed c.in_ok-push_id.ensures.text in
    let parent = more old c.push_id.new.bytes.items (head ++ id_text b.id) (id_text b.parent_id) c.push_id-2.new.bytes.items id c.in_ok-push_id-2.ensures.text in
    more old c.push_id-2.new.bytes.items (head ++ id_text b.id ++ id_text b.parent_id) (payload_text b.payload) c.push_payload.new.bytes.items parent c.in_ok-push_payload.ensures

pub returns-clause-recordable : goal.returns-clause-recordable
returns-clause-recordable c = record {
  id = c.in_ok-push_id.ensures.id;
  parent_id = c.in_ok-push_id-2.ensures.id;
  num = c.in_ok-push_numbers.ensures.num;
  lib_num = c.in_ok-push_numbers.ensures.lib_num;
  time = c.in_ok-push_numbers.ensures.time;
}
