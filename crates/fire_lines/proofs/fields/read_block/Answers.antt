use Rattle.std.proofs.Common.{ℕ, List, take, sym, ap, ◌∙◌}
use Rattle.block_record.specs.Number.{number_of}
use Rattle.fire_lines.specs.Parts.{words_left}
use Rattle.fire_lines.specs.Fields.{id_of, parent_num_of, payload_of}
use Rattle.fire_lines.proofs.public.FieldFacts.{none_read, one_more, one_bad, bad_field, too_many, all_read, short_payload, after_num, after_id, after_parent_num, after_parent_id, after_lib_num, after_time, after_payload}
use Rattle.fire_lines.proofs.fields.read_block.Goals as goal

pub returns-in_err-num : goal.returns-in_err-num
returns-in_err-num c =
    let ws = words_left c.args.words.now in
    let r0 = none_read ws in
    bad_field (ℕ) _ c.in_err-num.field-0.0 _ c.from_residual.ensures.1 (λ apart. one_bad ws ws 0 c.args.line 1 number_of (after_num ws) _ r0 c.in_err-num.ensures.value)

pub returns-in_err-id : goal.returns-in_err-id
returns-in_err-id c =
    let ws = words_left c.args.words.now in
    let r0 = none_read ws in
    let r1 = one_more ws ws _ 0 c.args.line 1 number_of (after_num ws) c.in_ok-num.num r0 c.in_ok-num.ensures.rest c.in_ok-num.ensures.value in
    bad_field (List ℕ) _ c.in_err-id.field-0.0 _ c.from_residual-in_err-id.ensures.1 (λ apart. one_bad ws (words_left c.number_field.new.words) 1 c.args.line 2 id_of (after_id ws c.in_ok-num.num) _ r1 (c.in_err-id.ensures.value apart))

pub returns-in_err-parent_num : goal.returns-in_err-parent_num
returns-in_err-parent_num c =
    let ws = words_left c.args.words.now in
    let r0 = none_read ws in
    let r1 = one_more ws ws _ 0 c.args.line 1 number_of (after_num ws) c.in_ok-num.num r0 c.in_ok-num.ensures.rest c.in_ok-num.ensures.value in
    let r2 = one_more ws (words_left c.number_field.new.words) _ 1 c.args.line 2 id_of (after_id ws c.in_ok-num.num) c.in_ok-id.id r1 c.in_ok-id.ensures.rest (c.in_ok-id.ensures.value (λ e. cc)) in
    bad_field (ℕ) _ c.in_err-parent_num.field-0.0 _ c.from_residual-in_err-parent_num.ensures.1 (λ apart. one_bad ws (words_left c.id_field.new.words) 2 c.args.line 3 (parent_num_of c.in_ok-num.num) (after_parent_num ws c.in_ok-num.num c.in_ok-id.id) _ r2 c.in_err-parent_num.ensures.value)

pub returns-in_err-parent_id : goal.returns-in_err-parent_id
returns-in_err-parent_id c =
    let ws = words_left c.args.words.now in
    let r0 = none_read ws in
    let r1 = one_more ws ws _ 0 c.args.line 1 number_of (after_num ws) c.in_ok-num.num r0 c.in_ok-num.ensures.rest c.in_ok-num.ensures.value in
    let r2 = one_more ws (words_left c.number_field.new.words) _ 1 c.args.line 2 id_of (after_id ws c.in_ok-num.num) c.in_ok-id.id r1 c.in_ok-id.ensures.rest (c.in_ok-id.ensures.value (λ e. cc)) in
    let r3 = one_more ws (words_left c.id_field.new.words) _ 2 c.args.line 3 (parent_num_of c.in_ok-num.num) (after_parent_num ws c.in_ok-num.num c.in_ok-id.id) c.in_ok-parent_num.parent_num r2 c.in_ok-parent_num.ensures.rest c.in_ok-parent_num.ensures.value in
    bad_field (List ℕ) _ c.in_err-parent_id.field-0.0 _ c.from_residual-in_err-parent_id.ensures.1 (λ apart. one_bad ws (words_left c.parent_num_field.new.words) 3 c.args.line 4 id_of (after_parent_id ws c.in_ok-num.num c.in_ok-id.id c.in_ok-parent_num.parent_num) _ r3 (c.in_err-parent_id.ensures.value apart))

pub returns-in_err-lib_num : goal.returns-in_err-lib_num
returns-in_err-lib_num c =
    let ws = words_left c.args.words.now in
    let r0 = none_read ws in
    let r1 = one_more ws ws _ 0 c.args.line 1 number_of (after_num ws) c.in_ok-num.num r0 c.in_ok-num.ensures.rest c.in_ok-num.ensures.value in
    let r2 = one_more ws (words_left c.number_field.new.words) _ 1 c.args.line 2 id_of (after_id ws c.in_ok-num.num) c.in_ok-id.id r1 c.in_ok-id.ensures.rest (c.in_ok-id.ensures.value (λ e. cc)) in
    let r3 = one_more ws (words_left c.id_field.new.words) _ 2 c.args.line 3 (parent_num_of c.in_ok-num.num) (after_parent_num ws c.in_ok-num.num c.in_ok-id.id) c.in_ok-parent_num.parent_num r2 c.in_ok-parent_num.ensures.rest c.in_ok-parent_num.ensures.value in
    let r4 = one_more ws (words_left c.parent_num_field.new.words) _ 3 c.args.line 4 id_of (after_parent_id ws c.in_ok-num.num c.in_ok-id.id c.in_ok-parent_num.parent_num) c.in_ok-parent_id.parent_id r3 c.in_ok-parent_id.ensures.rest (c.in_ok-parent_id.ensures.value (λ e. cc)) in
    bad_field (ℕ) _ c.in_err-lib_num.field-0.0 _ c.from_residual-in_err-lib_num.ensures.1 (λ apart. one_bad ws (words_left c.id_field-2.new.words) 4 c.args.line 5 number_of (after_lib_num ws c.in_ok-num.num c.in_ok-id.id c.in_ok-parent_num.parent_num c.in_ok-parent_id.parent_id) _ r4 c.in_err-lib_num.ensures.value)

pub returns-in_err-time : goal.returns-in_err-time
returns-in_err-time c =
    let ws = words_left c.args.words.now in
    let r0 = none_read ws in
    let r1 = one_more ws ws _ 0 c.args.line 1 number_of (after_num ws) c.in_ok-num.num r0 c.in_ok-num.ensures.rest c.in_ok-num.ensures.value in
    let r2 = one_more ws (words_left c.number_field.new.words) _ 1 c.args.line 2 id_of (after_id ws c.in_ok-num.num) c.in_ok-id.id r1 c.in_ok-id.ensures.rest (c.in_ok-id.ensures.value (λ e. cc)) in
    let r3 = one_more ws (words_left c.id_field.new.words) _ 2 c.args.line 3 (parent_num_of c.in_ok-num.num) (after_parent_num ws c.in_ok-num.num c.in_ok-id.id) c.in_ok-parent_num.parent_num r2 c.in_ok-parent_num.ensures.rest c.in_ok-parent_num.ensures.value in
    let r4 = one_more ws (words_left c.parent_num_field.new.words) _ 3 c.args.line 4 id_of (after_parent_id ws c.in_ok-num.num c.in_ok-id.id c.in_ok-parent_num.parent_num) c.in_ok-parent_id.parent_id r3 c.in_ok-parent_id.ensures.rest (c.in_ok-parent_id.ensures.value (λ e. cc)) in
    let r5 = one_more ws (words_left c.id_field-2.new.words) _ 4 c.args.line 5 number_of (after_lib_num ws c.in_ok-num.num c.in_ok-id.id c.in_ok-parent_num.parent_num c.in_ok-parent_id.parent_id) c.in_ok-lib_num.lib_num r4 c.in_ok-lib_num.ensures.rest c.in_ok-lib_num.ensures.value in
    bad_field (ℕ) _ c.in_err-time.field-0.0 _ c.from_residual-in_err-time.ensures.1 (λ apart. one_bad ws (words_left c.number_field-2.new.words) 5 c.args.line 6 number_of (after_time ws c.in_ok-num.num c.in_ok-id.id c.in_ok-parent_num.parent_num c.in_ok-parent_id.parent_id c.in_ok-lib_num.lib_num) _ r5 c.in_err-time.ensures.value)

pub returns-in_err-length : goal.returns-in_err-length
returns-in_err-length c =
    let ws = words_left c.args.words.now in
    let r0 = none_read ws in
    let r1 = one_more ws ws _ 0 c.args.line 1 number_of (after_num ws) c.in_ok-num.num r0 c.in_ok-num.ensures.rest c.in_ok-num.ensures.value in
    let r2 = one_more ws (words_left c.number_field.new.words) _ 1 c.args.line 2 id_of (after_id ws c.in_ok-num.num) c.in_ok-id.id r1 c.in_ok-id.ensures.rest (c.in_ok-id.ensures.value (λ e. cc)) in
    let r3 = one_more ws (words_left c.id_field.new.words) _ 2 c.args.line 3 (parent_num_of c.in_ok-num.num) (after_parent_num ws c.in_ok-num.num c.in_ok-id.id) c.in_ok-parent_num.parent_num r2 c.in_ok-parent_num.ensures.rest c.in_ok-parent_num.ensures.value in
    let r4 = one_more ws (words_left c.parent_num_field.new.words) _ 3 c.args.line 4 id_of (after_parent_id ws c.in_ok-num.num c.in_ok-id.id c.in_ok-parent_num.parent_num) c.in_ok-parent_id.parent_id r3 c.in_ok-parent_id.ensures.rest (c.in_ok-parent_id.ensures.value (λ e. cc)) in
    let r5 = one_more ws (words_left c.id_field-2.new.words) _ 4 c.args.line 5 number_of (after_lib_num ws c.in_ok-num.num c.in_ok-id.id c.in_ok-parent_num.parent_num c.in_ok-parent_id.parent_id) c.in_ok-lib_num.lib_num r4 c.in_ok-lib_num.ensures.rest c.in_ok-lib_num.ensures.value in
    let r6 = one_more ws (words_left c.number_field-2.new.words) _ 5 c.args.line 6 number_of (after_time ws c.in_ok-num.num c.in_ok-id.id c.in_ok-parent_num.parent_num c.in_ok-parent_id.parent_id c.in_ok-lib_num.lib_num) c.in_ok-time.time r5 c.in_ok-time.ensures.rest c.in_ok-time.ensures.value in
    bad_field (ℕ) _ c.in_err-length.field-0.0 _ c.from_residual-in_err-length.ensures.1 (λ apart. one_bad ws (words_left c.number_field-3.new.words) 6 c.args.line 7 payload_of (after_payload ws c.in_ok-num.num c.in_ok-id.id c.in_ok-parent_num.parent_num c.in_ok-parent_id.parent_id c.in_ok-lib_num.lib_num c.in_ok-time.time) _ r6 (c.in_err-length.ensures.value apart))

pub returns-then-is_some : goal.returns-then-is_some
returns-then-is_some c =
    let ws = words_left c.args.words.now in
    let r0 = none_read ws in
    let r1 = one_more ws ws _ 0 c.args.line 1 number_of (after_num ws) c.in_ok-num.num r0 c.in_ok-num.ensures.rest c.in_ok-num.ensures.value in
    let r2 = one_more ws (words_left c.number_field.new.words) _ 1 c.args.line 2 id_of (after_id ws c.in_ok-num.num) c.in_ok-id.id r1 c.in_ok-id.ensures.rest (c.in_ok-id.ensures.value (λ e. cc)) in
    let r3 = one_more ws (words_left c.id_field.new.words) _ 2 c.args.line 3 (parent_num_of c.in_ok-num.num) (after_parent_num ws c.in_ok-num.num c.in_ok-id.id) c.in_ok-parent_num.parent_num r2 c.in_ok-parent_num.ensures.rest c.in_ok-parent_num.ensures.value in
    let r4 = one_more ws (words_left c.parent_num_field.new.words) _ 3 c.args.line 4 id_of (after_parent_id ws c.in_ok-num.num c.in_ok-id.id c.in_ok-parent_num.parent_num) c.in_ok-parent_id.parent_id r3 c.in_ok-parent_id.ensures.rest (c.in_ok-parent_id.ensures.value (λ e. cc)) in
    let r5 = one_more ws (words_left c.id_field-2.new.words) _ 4 c.args.line 5 number_of (after_lib_num ws c.in_ok-num.num c.in_ok-id.id c.in_ok-parent_num.parent_num c.in_ok-parent_id.parent_id) c.in_ok-lib_num.lib_num r4 c.in_ok-lib_num.ensures.rest c.in_ok-lib_num.ensures.value in
    let r6 = one_more ws (words_left c.number_field-2.new.words) _ 5 c.args.line 6 number_of (after_time ws c.in_ok-num.num c.in_ok-id.id c.in_ok-parent_num.parent_num c.in_ok-parent_id.parent_id c.in_ok-lib_num.lib_num) c.in_ok-time.time r5 c.in_ok-time.ensures.rest c.in_ok-time.ensures.value in
    let r7 = one_more ws (words_left c.number_field-3.new.words) _ 6 c.args.line 7 payload_of (after_payload ws c.in_ok-num.num c.in_ok-id.id c.in_ok-parent_num.parent_num c.in_ok-parent_id.parent_id c.in_ok-lib_num.lib_num c.in_ok-time.time) (take c.in_ok-length.length c.payload_field.new.decoded.items) r6 c.in_ok-length.ensures.rest (c.in_ok-length.ensures.value (λ e. cc)) in
    λ apart. too_many c.args.line ws (words_left c.payload_field.new.words) c.in_ok-num.num c.in_ok-id.id c.in_ok-parent_num.parent_num c.in_ok-parent_id.parent_id c.in_ok-lib_num.lib_num c.in_ok-time.time (take c.in_ok-length.length c.payload_field.new.decoded.items) c.next_word.result r7 c.next_word.ensures.word (sym c.is_some.ensures ∙ c.if-is_some.true)

pub invariant_of-result-3-clause-digested : goal.invariant_of-result-3-clause-digested
invariant_of-result-3-clause-digested c = rw c.in_ok-new.ensures c.digest.ensures

pub invariant_of-result-3-clause-small : goal.invariant_of-result-3-clause-small
invariant_of-result-3-clause-small c = short_payload _ _ _ c.in_ok-new.ensures c.in_ok-length.ensures.small

pub invariant_of-result-3-clause-parent_first : goal.invariant_of-result-3-clause-parent_first
invariant_of-result-3-clause-parent_first c = c.in_ok-parent_num.ensures.first

pub returns : goal.returns
returns c =
    let ws = words_left c.args.words.now in
    let r0 = none_read ws in
    let r1 = one_more ws ws _ 0 c.args.line 1 number_of (after_num ws) c.in_ok-num.num r0 c.in_ok-num.ensures.rest c.in_ok-num.ensures.value in
    let r2 = one_more ws (words_left c.number_field.new.words) _ 1 c.args.line 2 id_of (after_id ws c.in_ok-num.num) c.in_ok-id.id r1 c.in_ok-id.ensures.rest (c.in_ok-id.ensures.value (λ e. cc)) in
    let r3 = one_more ws (words_left c.id_field.new.words) _ 2 c.args.line 3 (parent_num_of c.in_ok-num.num) (after_parent_num ws c.in_ok-num.num c.in_ok-id.id) c.in_ok-parent_num.parent_num r2 c.in_ok-parent_num.ensures.rest c.in_ok-parent_num.ensures.value in
    let r4 = one_more ws (words_left c.parent_num_field.new.words) _ 3 c.args.line 4 id_of (after_parent_id ws c.in_ok-num.num c.in_ok-id.id c.in_ok-parent_num.parent_num) c.in_ok-parent_id.parent_id r3 c.in_ok-parent_id.ensures.rest (c.in_ok-parent_id.ensures.value (λ e. cc)) in
    let r5 = one_more ws (words_left c.id_field-2.new.words) _ 4 c.args.line 5 number_of (after_lib_num ws c.in_ok-num.num c.in_ok-id.id c.in_ok-parent_num.parent_num c.in_ok-parent_id.parent_id) c.in_ok-lib_num.lib_num r4 c.in_ok-lib_num.ensures.rest c.in_ok-lib_num.ensures.value in
    let r6 = one_more ws (words_left c.number_field-2.new.words) _ 5 c.args.line 6 number_of (after_time ws c.in_ok-num.num c.in_ok-id.id c.in_ok-parent_num.parent_num c.in_ok-parent_id.parent_id c.in_ok-lib_num.lib_num) c.in_ok-time.time r5 c.in_ok-time.ensures.rest c.in_ok-time.ensures.value in
    let r7 = one_more ws (words_left c.number_field-3.new.words) _ 6 c.args.line 7 payload_of (after_payload ws c.in_ok-num.num c.in_ok-id.id c.in_ok-parent_num.parent_num c.in_ok-parent_id.parent_id c.in_ok-lib_num.lib_num c.in_ok-time.time) (take c.in_ok-length.length c.payload_field.new.decoded.items) r6 c.in_ok-length.ensures.rest (c.in_ok-length.ensures.value (λ e. cc)) in
    λ apart. all_read c.args.line ws (words_left c.payload_field.new.words) c.in_ok-num.num c.in_ok-id.id c.in_ok-parent_num.parent_num c.in_ok-parent_id.parent_id c.in_ok-lib_num.lib_num c.in_ok-time.time (take c.in_ok-length.length c.payload_field.new.decoded.items) c.next_word.result r7 c.next_word.ensures.word _ _ _ (sym c.is_some.ensures ∙ c.if-is_some.false) c.id.view_is c.parent_id.view_is (c.in_ok-new.ensures ∙ ap (take c.in_ok-length.length) c.deref.ensures.value)
