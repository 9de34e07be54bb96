-- The lines of a small session, byte by byte, so that a wrong definition does not check.
use Rattle.std.proofs.Common.{arith, ◌≡◌, ◌∙◌, ◌++◌, ap, ℕ, true, false, List, [], ◌∷◌, Some, refl}
use Rattle.std.proofs.lemmas.Fmt.{decimal_digit, decimal_step}
use Rattle.std.specs.Prelude.{codes}
use Rattle.std.specs.Fmt.{decimal}
use Rattle.base64.specs.GeneralPurpose.{encode_of}
use Rattle.base64.specs.Rfc4648.{encode_symbols}
use Rattle.block_record.specs.Ids.{same_id}
use Rattle.hex.specs.Hex.{encode_with, encode_lower}
use Rattle.std.specs.List.{concat, join_with_byte}
use Rattle.base64.specs.Engines.{standard, url_safe_no_pad}
use Rattle.step_cursor.specs.declared.cursor.Cursor.{Cursor}
use Rattle.step_cursor.specs.CursorText.{plain_text, cursor_text}
use Rattle.block_record.specs.declared.blocks.Block.{Block}
use Rattle.block_record.specs.declared.blocks.BlockRef.{BlockRef}
use Rattle.chain_model.specs.declared.places.Step.TheVariants as step
use Rattle.chain_model.specs.declared.places.Place.{Place}
use Rattle.chain_model.specs.Places.{no_place}
use Rattle.step_cursor.specs.declared.cursor.MisfitField.TheVariants as misfit
use Rattle.reply_text.specs.declared.errors.RequestField.TheVariants as field
use Rattle.reply_text.specs.declared.errors.ErrorLine.TheVariants as fault
use Rattle.reply_text.specs.Lines.{cursor_after, open_line, step_line, head_line, end_line, error_line}

zero_text : decimal 0 ≡ codes "0"
zero_text = decimal_digit 0 (omega arith)

one_text : decimal 1 ≡ codes "1"
one_text = decimal_digit 1 (omega arith)

three_text : decimal 3 ≡ codes "3"
three_text = decimal_digit 3 (omega arith)

seventeen_text : decimal 17 ≡ codes "17"
seventeen_text = decimal_step 17 (omega arith) (omega arith) ∙ ap (λ l. l ++ 55 ∷ []) one_text

seventy_text : decimal 70 ≡ codes "70"
seventy_text = decimal_step 70 (omega arith) (omega arith) ∙ ap (λ l. l ++ 48 ∷ []) (decimal_digit 7 (omega arith))

run_text : decimal 700 ≡ codes "700"
run_text = decimal_step 700 (omega arith) (omega arith) ∙ ap (λ l. l ++ 48 ∷ []) seventy_text

abbrev a1 : BlockRef
a1 = record { num = 1; id = codes "a1" }

abbrev at_a1 : Place
at_a1 = record { end = Some a1; lib = Some a1 }

opens : open_line (codes "test.Block") 700 no_place ≡ codes "{\"open\":\"test.Block\",\"run\":700,\"end\":null,\"lib\":null}\n"
opens = rw run_text refl

opens_at : open_line (codes "a\"b\\c") 700 at_a1 ≡ codes "{\"open\":\"a\\\"b\\\\c\",\"run\":700,\"end\":{\"num\":1,\"id\":\"a1\"},\"lib\":{\"num\":1,\"id\":\"a1\"}}\n"
opens_at = rw (run_text, one_text) refl

heads : head_line (Some a1) 1 ≡ codes "{\"head\":{\"num\":1,\"id\":\"a1\"},\"seen\":1}\n"
heads = rw one_text refl

done : end_line true ≡ codes "{\"end\":\"done\"}\n"
done = refl

closing : end_line false ≡ codes "{\"end\":\"closing\"}\n"
closing = refl

bad_start : error_line (fault.BadRequest field.Start) ≡ codes "{\"error\":\"bad_request\",\"field\":\"start_block_num\"}\n"
bad_start = refl

stop_below : error_line (fault.StopBelow 3) ≡ codes "{\"error\":\"stop_below\",\"end\":3}\n"
stop_below = rw three_text refl

malformed : error_line (fault.Malformed 0) ≡ codes "{\"error\":\"malformed\",\"at\":0}\n"
malformed = rw zero_text refl

unknown : error_line (fault.Unknown (codes "zz")) ≡ codes "{\"error\":\"unknown\",\"id\":\"zz\"}\n"
unknown = refl

bad_lib : error_line (fault.Misfit misfit.Lib) ≡ codes "{\"error\":\"misfit\",\"field\":\"lib\"}\n"
bad_lib = refl

missing : error_line (fault.Missing (codes "merged/0000000000.dbin")) ≡ codes "{\"error\":\"missing\",\"name\":\"merged/0000000000.dbin\"}\n"
missing = refl

-- the SHA-256 of the byte 1
abbrev digest : List ℕ
digest =
    0x4b ∷ 0xf5 ∷ 0x12 ∷ 0x2f ∷ 0x34 ∷ 0x45 ∷ 0x54 ∷ 0xc5 ∷ 0x3b ∷ 0xde ∷ 0x2e ∷ 0xbb ∷ 0x8c ∷ 0xd2 ∷ 0xb7 ∷ 0xe3
    ∷ 0xd1 ∷ 0x60 ∷ 0x0a ∷ 0xd6 ∷ 0x31 ∷ 0xc3 ∷ 0x85 ∷ 0xa5 ∷ 0xd7 ∷ 0xcc ∷ 0xe2 ∷ 0x3c ∷ 0x77 ∷ 0x85 ∷ 0x45 ∷ 0x9a ∷ []

-- 1/a1(a0, 0) with the payload 1
record IsFirst (b : Block) : Type 0 where
  num : b.num ≡ 1
  id : b.id ≡ codes "a1"
  parent_num : b.parent_num ≡ 0
  parent_id : b.parent_id ≡ codes "a0"
  lib_num : b.lib_num ≡ 0
  time : b.time ≡ 0
  payload : b.payload ≡ 1 ∷ []
  digest_is : b.digest ≡ digest

-- the cursor after it
abbrev first_cursor : Cursor
first_cursor = record { step = step.NewFinal; block = a1; place = at_a1; tail = Some (record { run = 700; seen = 1 }) }

plain : plain_text first_cursor ≡ codes "c1:17:1:a1:1:a1/700/1"
unfolding same_id
plain = λ i. join_with_byte 47 (join_with_byte 58 (codes "c1" ∷ seventeen_text i ∷ one_text i ∷ codes "a1" ∷ one_text i ∷ codes "a1" ∷ []) ∷ run_text i ∷ one_text i ∷ [])

encoded : encode_of url_safe_no_pad (codes "c1:17:1:a1:1:a1/700/1") ≡ codes "YzE6MTc6MTphMToxOmExLzcwMC8x"
unfolding encode_symbols
encoded = refl

cursor_is : (b : Block) → IsFirst b → cursor_text (cursor_after step.NewFinal b at_a1 (record { run = 700; seen = 1 })) ≡ codes "YzE6MTc6MTphMToxOmExLzcwMC8x"
cursor_is b h =
    let same : cursor_after step.NewFinal b at_a1 (record { run = 700; seen = 1 }) ≡ first_cursor = λ i. record { step = step.NewFinal; block = record { num = h.num i; id = h.id i }; place = at_a1; tail = Some (record { run = 700; seen = 1 }) } in
    ap cursor_text same ∙ ap (encode_of url_safe_no_pad) plain ∙ encoded

payload_is : encode_of standard (1 ∷ []) ≡ codes "AQ=="
unfolding encode_symbols
payload_is = refl

digest_text : encode_lower digest ≡ codes "4bf5122f344554c53bde2ebb8cd2b7e3d1600ad631c385a5d7cce23c7785459a"
unfolding encode_with
digest_text = refl

-- a step line by its texts
abbrev line_by : List ℕ → List ℕ → List ℕ → List ℕ → List ℕ → List ℕ → List ℕ → List ℕ → List ℕ → List ℕ
line_by num id parent_num parent_id lib_num time payload hex cursor =
    concat (
    concat (
    codes "{\"step\":\"" ∷ codes "newfinal" ∷ codes "\",\"num\":" ∷ num ∷ codes ",\"id\":\"" ∷ id
    ∷ codes "\",\"parent_num\":" ∷ parent_num ∷ codes ",\"parent_id\":\"" ∷ parent_id
    ∷ codes "\",\"lib_num\":" ∷ lib_num ∷ codes ",\"time\":" ∷ time
    ∷ codes ",\"payload\":\"" ∷ payload ∷ codes "\",\"digest\":\"" ∷ hex
    ∷ codes "\",\"cursor\":\"" ∷ []
    )
    ∷ cursor ∷ codes "\"}\n" ∷ []
    )

steps : (b : Block) → IsFirst b → step_line step.NewFinal b at_a1 (record { run = 700; seen = 1 })
    ≡ codes "{\"step\":\"newfinal\",\"num\":1,\"id\":\"a1\",\"parent_num\":0,\"parent_id\":\"a0\",\"lib_num\":0,\"time\":0,\"payload\":\"AQ==\",\"digest\":\"4bf5122f344554c53bde2ebb8cd2b7e3d1600ad631c385a5d7cce23c7785459a\",\"cursor\":\"YzE6MTc6MTphMToxOmExLzcwMC8x\"}\n"
steps b h =
    let num : decimal b.num ≡ codes "1" = ap decimal h.num ∙ one_text in
    let parent_num : decimal b.parent_num ≡ codes "0" = ap decimal h.parent_num ∙ zero_text in
    let lib_num : decimal b.lib_num ≡ codes "0" = ap decimal h.lib_num ∙ zero_text in
    let time : decimal b.time ≡ codes "0" = ap decimal h.time ∙ zero_text in
    let payload : encode_of standard b.payload ≡ codes "AQ==" = ap (encode_of standard) h.payload ∙ payload_is in
    let hex : encode_lower b.digest ≡ codes "4bf5122f344554c53bde2ebb8cd2b7e3d1600ad631c385a5d7cce23c7785459a" = ap encode_lower h.digest_is ∙ digest_text in
    let cursor = cursor_is b h in
    λ i. line_by (num i) (h.id i) (parent_num i) (h.parent_id i) (lib_num i) (time i) (payload i) (hex i) (cursor i)
