use Rattle.std.proofs.Common.{arith, ◌≡◌, ◌∙◌, ap, length, length-append, refl}
use Rattle.block_record.specs.Records.{record_text}
use Rattle.block_record.proofs.public.RecordSizes.{record_small}
use Rattle.bundle_merger.proofs.MessageFacts.{back_is, framed}
use Rattle.bundle_merger.proofs.messages.frame.Goals as goal

pub overflow_cast-record : goal.overflow_cast-record
overflow_cast-record c =
    let back : c.split_at_mut-length.result.1.now ≡ record_text c.args.block.now =
    back_is c.split_at_mut-length.result.0.now c.split_at_mut-length.result.1.now c.as_mut_slice.result.now c.push_record.new.bytes.items c.extend_from_slice.new.self.items c.clear.new.self.items _ (record_text c.args.block.now)
    c.split_at_mut-length.ensures.value c.as_mut_slice.ensures.value c.in_ok-push_record.ensures.text c.in_ok-extend_from_slice.ensures.items c.clear.ensures.items refl c.split_at_mut-length.ensures.front_len in
    grind (arith, ap length back, record_small c.args.block.now c.in_ok-push_record.ensures.recordable)

pub returns : goal.returns
returns c =
    let back : c.split_at_mut-length.result.1.now ≡ record_text c.args.block.now =
    back_is c.split_at_mut-length.result.0.now c.split_at_mut-length.result.1.now c.as_mut_slice.result.now c.push_record.new.bytes.items c.extend_from_slice.new.self.items c.clear.new.self.items _ (record_text c.args.block.now)
    c.split_at_mut-length.ensures.value c.as_mut_slice.ensures.value c.in_ok-push_record.ensures.text c.in_ok-extend_from_slice.ensures.items c.clear.ensures.items refl c.split_at_mut-length.ensures.front_len in
    framed c.push_record.new.bytes.len c.copy_from_slice.new.self c.split_at_mut-length.result.1.now _ (record_text c.args.block.now) (c.copy_from_slice.ensures.after ∙ c.to_be_bytes.ensures) back
    (omega (arith, c.as_mut_slice.ensures.len, ap length c.split_at_mut-length.ensures.value, length-append c.split_at_mut-length.result.0.now c.split_at_mut-length.result.1.now, c.split_at_mut-length.ensures.front_len))
