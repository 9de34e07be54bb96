use Rattle.std.proofs.Common.{ap, ◌∙◌, arith}
use Rattle.base64.specs.GeneralPurpose.{encoded_size_of, config_padding}
use Rattle.base64.specs.Rfc4648.{encoded_size}
use Rattle.text_parts.proofs.RoomFacts.{size_is, zeros}
use Rattle.text_parts.proofs.encode.add_room.Goals as goal

pub returns-clause-ok : goal.returns-clause-ok
returns-clause-ok c =
    let padding = c.encode_padding.ensures ∙ ap config_padding c.config.ensures in
    let size =
    size_is c.encoded_len.result c.in-Some.size (encoded_size c.args.len c.encode_padding.result) c.encoded_len.ensures.fits c.encoded_len.ensures.too_long c.in-Some.is
    ∙ ap (encoded_size c.args.len) padding in
    zeros c.args.text.now.items c.resize.new.self.items c.in-Some.size (encoded_size_of c.args.engine.now c.args.len) c.in-Some-checked_add.end c.args.text.now.len
    size (omega (arith, c.in-Some-checked_add.ensures)) (omega arith) c.in_ok-resize.ensures.items
