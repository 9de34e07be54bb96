-- How long the text of a payload is.
use Rattle.std.proofs.Common.{◌≡◌, ◌+◌, ◌<◌, ◌≤◌, ℕ, Bool, true, false, List, length, None, Some, Result, Ok, Err, cond, refl, ◌∙◌, ap, arith, leb, option_and_then, replicate, length-append}
use Rattle.std.specs.Result.{result_ok}
use Rattle.std.proofs.lemmas.Bool.{leb-true}
use Rattle.std.proofs.lemmas.List.{length-replicate}
use Rattle.base64.specs.declared.decode.DecodeError.{DecodeError}
use Rattle.base64.specs.GeneralPurpose.{decode_of, encode_of, IsBytes}
use Rattle.base64.specs.Engines.{standard}
use Rattle.base64.specs.Rfc4648.{encode_symbols, unpadded_len, padding_len}
use Rattle.base64.proofs.EngineFacts.{decode_of_strict}
use Rattle.base64.proofs.RoundTrip.{length-encode_symbols}
use Rattle.fire_lines.specs.Fields.{payload_of}

-- so many bytes, encoded, are at most as many as the longest text
short_enough : (n : ℕ) → n ≤ 50_000_000 → unpadded_len n + padding_len n ≤ 66_666_668
short_enough n small = omega arith

-- the text of a payload has at most as many bytes as the longest
length-text : (text bytes : List ℕ) → text ≡ encode_of standard bytes → length bytes ≤ 50_000_000 → length text ≤ 66_666_668
length-text text bytes is small =
    let symbols = encode_symbols standard.encode_table bytes in
    let padding = replicate {A = ℕ} (padding_len (length bytes)) 61 in
    let whole : length text ≡ length symbols + length padding = ap length is ∙ length-append symbols padding in
    omega (arith, length-encode_symbols standard.encode_table bytes, length-replicate {A = ℕ} (padding_len (length bytes)) 61, short_enough (length bytes) small)

-- a longer text is no payload
pub payload_of-long : (text : List ℕ) → IsBytes text → 66_666_668 < length text → None ≡ payload_of text
unfolding payload_of
payload_of-long text bytes long = none_of (decode_of standard text) refl
  where
    none_of : (r : Result (List ℕ) DecodeError) → decode_of standard text ≡ r → None ≡ option_and_then (λ bs. cond (leb (length bs) 50_000_000) (Some bs) None) (result_ok r)
    none_of (Err e) is = refl
    none_of (Ok bs) is =
        let P : Bool → Type 0 = λ t. leb (length bs) 50_000_000 ≡ t → None ≡ cond t (Some bs) None in
        let both : (t : Bool) → P t = λ t. elim t as P [ true ↦ λ small. absurd (omega (arith, length-text text bs (decode_of_strict standard text bs (refl, refl) bytes is) (leb-true _ _ small))) | false ↦ λ _. refl ] in
        both (leb (length bs) 50_000_000) refl
