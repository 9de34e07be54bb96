use Rattle.std.proofs.Common.{◌≡◌, length, drop, arith}
use Rattle.base64.specs.GeneralPurpose.{encode_of}
use Rattle.text_parts.proofs.RoomFacts.{replaced}
use Rattle.text_parts.proofs.encode.encode_tail.Goals as goal

pub returns-clause-ok : goal.returns-clause-ok
returns-clause-ok c =
    let end : c.len-end.result ≡ length c.args.text.now.items = omega arith in
    replaced c.args.text.now.items c.push_again.new.text.items (encode_of c.args.engine.now (drop c.args.from c.args.text.now.items)) c.cut_out.new.text.items c.args.from c.len-end.result
    c.requires end c.in_ok-push_again.ensures.ok c.cut_out.ensures
