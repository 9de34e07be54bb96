use Rattle.std.proofs.Common.{length, ◌++◌, ap, ◌∙◌, arith, append-nil}
use Rattle.std.proofs.lemmas.List.{drop_all}
use Rattle.base64.specs.GeneralPurpose.{encode_of, encoded_size_of}
use Rattle.text_parts.proofs.encode.fill.Goals as goal

pub returns : goal.returns
returns c =
    let size = encoded_size_of c.args.engine.now (length c.args.bytes.now) in
    let fits = c.encode_slice.ensures.fits (omega (arith, c.requires)) in
    let written = rw fits at c.encode_slice.ensures.written in
    written ∙ ap (λ l. encode_of c.args.engine.now c.args.bytes.now ++ l) (drop_all size c.args.room.now (omega (arith, c.requires)))
    ∙ append-nil (encode_of c.args.engine.now c.args.bytes.now)
