-- What printed lines are read as.
use Rattle.std.proofs.Common.{◌≡◌, ◌+◌, ◌-◌, ◌<◌, ◌≤◌, ◌^◌, ℕ, zero, suc, Bool, true, false, ◌&&◌, ◌||◌, eqb, cond, List, [], ◌∷◌, ◌++◌, length, drop, get_or, Option, None, Some, Result, Ok, refl, sym, ◌∙◌, ap, arith, append_assoc, length-append, replicate, option_and_then, leb, map}
use Rattle.std.specs.Prelude.{codes, nat_lt, nat_le, ◌==◌}
use Rattle.std.specs.List.{list_all, flat_map, AllByRecursion}
use Rattle.std.specs.Fmt.{decimal}
use Rattle.std.specs.Result.{result_ok}
use Rattle.std.specs.Char.{is_ascii_digit}
use Rattle.std.proofs.lemmas.Bool.{and_parts, ne_eqb, le-ltb, le-leb, ltb-true, eqb-true, false≢true}
use Rattle.base64.specs.declared.decode.DecodeError.{DecodeError}
use Rattle.base64.specs.GeneralPurpose.{decode_of, encode_of, IsBytes}
use Rattle.base64.specs.Engines.{standard}
use Rattle.base64.specs.Rfc4648.{encode_symbols}
use Rattle.base64.proofs.EngineFacts.{decode_of-encode_of}
use Rattle.sha2.specs.Sha256.{sha256}
use Rattle.block_record.specs.declared.blocks.Block.{Block}
use Rattle.block_record.specs.declared.blocks.Kind.{Kind}
use Rattle.block_record.specs.declared.blocks.Slip.{Slip}
use Rattle.block_record.specs.declared.blocks.Version.{Version}
use Rattle.block_record.specs.declared.blocks.Version.TheVariants.{V1, V3}
use Rattle.block_record.specs.Number.{number_of}
use Rattle.block_record.specs.Parents.{is_parent_num}
use Rattle.block_record.proofs.public.NumberTexts.{decimal_digits, number_of-decimal}
use Rattle.block_record.specs.Slips.{slip}
use Rattle.block_record.specs.Texts.{is_id_text, is_id_byte, is_type_text, is_visible_byte}
use Rattle.fire_lines.specs.Parts.{parts, words, without_cr}
use Rattle.fire_lines.specs.Fields.{slip_of_fields, id_of, parent_num_of, payload_of, at_line}
use Rattle.fire_lines.specs.Line.{opens, brings, says, words_say, fields_say, is_fire}
use Rattle.fire_lines.specs.Text.{Received, ends, after, then_receive, next_line, receive, received}
use Rattle.fire_lines.specs.Printed.{version_text, init_line, block_line, IsPrintable}
use Rattle.fire_lines.specs.Laws.{IsWithin, run_text, IsRun, PrintedIsRead}
use Rattle.fire_lines.proofs.PieceFacts.{parts_some, receive-cons}

-- no byte of the text is this one
abbrev NoneIs : ℕ → List ℕ → Type 0
NoneIs s text = AllByRecursion (λ b. eqb b s ≡ false) text

none-append : (s : ℕ) (a b : List ℕ) → NoneIs s a → NoneIs s b → NoneIs s (a ++ b)
none-append s [] b ha hb = hb
none-append s (x ∷ a) b ha hb = (ha.0, none-append s a b ha.1 hb)

-- two texts with a space between
none-spaced : (s : ℕ) (a b : List ℕ) → eqb 32 s ≡ false → NoneIs s a → NoneIs s b → NoneIs s (a ++ 32 ∷ b)
none-spaced s a b space ha hb = none-append s a (32 ∷ b) ha (space, hb)

none-test : (p : ℕ → Bool) (s : ℕ) (l : List ℕ) → p s ≡ false → list_all p l ≡ true → NoneIs s l
none-test p s [] isnt all = tt
none-test p s (x ∷ l) isnt all =
    let both : (p x ≡ true) × (list_all p l ≡ true) = and_parts (p x) (list_all p l) all in
    (ne_eqb x s (λ (e : x ≡ s). false≢true (sym isnt ∙ ap p (sym e) ∙ both.0)), none-test p s l isnt both.1)

none-get_or : (s : ℕ) (l : List ℕ) (i : ℕ) → NoneIs s l → eqb 0 s ≡ false → eqb (get_or l i 0) s ≡ false
none-get_or s [] i none past = past
none-get_or s (x ∷ l) zero none past = none.0
none-get_or s (x ∷ l) (suc i) none past = none-get_or s l i none.1 past

parts-none : (s : ℕ) (l : List ℕ) → NoneIs s l → parts s l ≡ l ∷ []
parts-none s [] none = refl
parts-none s (x ∷ l) none =
    let first = none.0 in
    let later = parts-none s l none.1 in
    rw (first, later) refl

-- a text up to its first separator
parts-first : (s : ℕ) (l rest : List ℕ) → eqb s s ≡ true → NoneIs s l → parts s (l ++ s ∷ rest) ≡ l ∷ parts s rest
parts-first s [] rest same none = rw same refl
parts-first s (x ∷ l) rest same none =
    let first = none.0 in
    let later = parts-first s l rest same none.1 in
    rw (first, later) refl

-- a text that may stand between the spaces of a line
record IsWord (text : List ℕ) : Type 0 where
  no_space : NoneIs 32 text
  no_lf : NoneIs 10 text
  no_cr : NoneIs 13 text

word-test : (p : ℕ → Bool) (text : List ℕ) → p 32 ≡ false → p 10 ≡ false → p 13 ≡ false → list_all p text ≡ true → IsWord text
word-test p text space lf cr all = record {
  no_space = none-test p 32 text space all;
  no_lf = none-test p 10 text lf all;
  no_cr = none-test p 13 text cr all;
}

word-decimal : (n : ℕ) → n < 2 ^ 64 → IsWord (decimal n)
word-decimal n small = word-test is_ascii_digit (decimal n) refl refl refl (decimal_digits n small)

word-id : (text : List ℕ) → is_id_text text ≡ true → IsWord text
word-id text is = word-test is_id_byte text refl refl refl (and_parts _ _ is).1

word-type : (text : List ℕ) → is_type_text text ≡ true → IsWord text
word-type text is = word-test is_visible_byte text refl refl refl (and_parts _ _ is).1

none-encode_symbols : (s : ℕ) (t m : List ℕ) → NoneIs s t → eqb 0 s ≡ false → NoneIs s (encode_symbols t m)
unfolding encode_symbols
none-encode_symbols s t [] none past = tt
none-encode_symbols s t (a ∷ []) none past = (none-get_or s t _ none past, (none-get_or s t _ none past, tt))
none-encode_symbols s t (a ∷ b ∷ []) none past = (none-get_or s t _ none past, (none-get_or s t _ none past, (none-get_or s t _ none past, tt)))
none-encode_symbols s t (a ∷ b ∷ c ∷ rest) none past =
    (none-get_or s t _ none past, (none-get_or s t _ none past, (none-get_or s t _ none past, (none-get_or s t _ none past, none-encode_symbols s t rest none past))))

none-replicate : (s n pad : ℕ) → eqb pad s ≡ false → NoneIs s (replicate n pad)
none-replicate s zero pad isnt = tt
none-replicate s (suc n) pad isnt = (isnt, none-replicate s n pad isnt)

none-encoded : (s : ℕ) (m : List ℕ) → nat_lt 32 s ≡ false → eqb 0 s ≡ false → eqb 61 s ≡ false → NoneIs s (encode_of standard m)
none-encoded s m low past pad =
    none-append s (encode_symbols standard.encode_table m) _
    (none-encode_symbols s standard.encode_table m (none-test (nat_lt 32) s standard.encode_table low refl) past) (none-replicate s _ 61 pad)

word-encoded : (m : List ℕ) → IsWord (encode_of standard m)
word-encoded m = record {
  no_space = none-encoded 32 m refl refl refl;
  no_lf = none-encoded 10 m refl refl refl;
  no_cr = none-encoded 13 m refl refl refl;
}

-- a line with no CR keeps all of its bytes
keeps_all : (line : List ℕ) → NoneIs 13 line → without_cr line ≡ line
keeps_all line none =
    let other = none-get_or 13 line (length line - 1) none refl in
    rw other refl

-- a line with its LF, of a text that has no other
line-parts : (line text rest : List ℕ) → line ≡ text ++ 10 ∷ [] → NoneIs 10 text → parts 10 (line ++ rest) ≡ text ∷ parts 10 rest
line-parts line text rest ends none = ap (λ l. parts 10 (l ++ rest)) ends ∙ ap (parts 10) (append_assoc text (10 ∷ []) rest) ∙ parts-first 10 text rest refl none

line-within : (max : ℕ) (line text : List ℕ) → line ≡ text ++ 10 ∷ [] → IsWithin max line → length text ≤ max
line-within max line text ends within = omega (arith, ap length ends, length-append text (10 ∷ []), within)

-- ---- the opening line

-- an opening line of these words
abbrev init_text : List ℕ → List ℕ → List ℕ
init_text version block_type = codes "FIRE INIT " ++ (version ++ 32 ∷ block_type)

word-version : (v : Version) → IsWord (version_text v)
word-version V1 = word-test (nat_lt 32) (codes "1.0") refl refl refl refl
word-version V3 = word-test (nat_lt 32) (codes "3.0") refl refl refl refl

none-init : (s : ℕ) (version block_type : List ℕ) → nat_le 32 s ≡ false → eqb 32 s ≡ false → NoneIs s version → NoneIs s block_type → NoneIs s (init_text version block_type)
none-init s version block_type low space hv ht =
    none-append s (codes "FIRE INIT ") (version ++ 32 ∷ block_type) (none-test (nat_le 32) s (codes "FIRE INIT ") low refl) (none-spaced s version block_type space hv ht)

words-init : (version block_type : List ℕ) → IsWord version → IsWord block_type → words (drop 5 (init_text version block_type)) ≡ codes "INIT" ∷ version ∷ block_type ∷ []
words-init version block_type hv ht =
    ap (λ ps. codes "INIT" ∷ ps) (parts-first 32 version block_type refl hv.no_space ∙ ap (λ ps. version ∷ ps) (parts-none 32 block_type ht.no_space))

-- ---- the line of a block

-- a block line of these words
abbrev block_text : List ℕ → List ℕ → List ℕ → List ℕ → List ℕ → List ℕ → List ℕ → List ℕ
block_text num id parent_num parent_id lib_num time payload =
    codes "FIRE BLOCK " ++ (num ++ 32 ∷ (id ++ 32 ∷ (parent_num ++ 32 ∷ (parent_id ++ 32 ∷ (lib_num ++ 32 ∷ (time ++ 32 ∷ payload))))))

module _ (num id parent_num parent_id lib_num time payload : List ℕ) where
  ends-block : codes "FIRE BLOCK " ++ num ++ 32 ∷ id ++ 32 ∷ parent_num ++ 32 ∷ parent_id ++ 32 ∷ lib_num ++ 32 ∷ time ++ 32 ∷ payload ++ 10 ∷ []
      ≡ block_text num id parent_num parent_id lib_num time payload ++ 10 ∷ []
  ends-block = simp append_assoc refl

  none-block : (s : ℕ) → nat_le 32 s ≡ false → eqb 32 s ≡ false → NoneIs s num → NoneIs s id → NoneIs s parent_num → NoneIs s parent_id → NoneIs s lib_num → NoneIs s time → NoneIs s payload
      → NoneIs s (block_text num id parent_num parent_id lib_num time payload)
  none-block s low space h1 h2 h3 h4 h5 h6 h7 =
      none-append s (codes "FIRE BLOCK ") _ (none-test (nat_le 32) s (codes "FIRE BLOCK ") low refl)
      (none-spaced s num _ space h1 (none-spaced s id _ space h2 (none-spaced s parent_num _ space h3 (none-spaced s parent_id _ space h4 (none-spaced s lib_num _ space h5 (none-spaced s time payload space h6 h7))))))

  words-block : NoneIs 32 num → NoneIs 32 id → NoneIs 32 parent_num → NoneIs 32 parent_id → NoneIs 32 lib_num → NoneIs 32 time → NoneIs 32 payload
      → words (drop 5 (block_text num id parent_num parent_id lib_num time payload)) ≡ codes "BLOCK" ∷ num ∷ id ∷ parent_num ∷ parent_id ∷ lib_num ∷ time ∷ payload ∷ []
  words-block h1 h2 h3 h4 h5 h6 h7 =
      ap (λ ps. codes "BLOCK" ∷ ps) (parts-first 32 num (id ++ 32 ∷ (parent_num ++ 32 ∷ (parent_id ++ 32 ∷ (lib_num ++ 32 ∷ (time ++ 32 ∷ payload))))) refl h1 ∙ ap (λ ps. num ∷ ps) (parts-first 32 id (parent_num ++ 32 ∷ (parent_id ++ 32 ∷ (lib_num ++ 32 ∷ (time ++ 32 ∷ payload)))) refl h2 ∙ ap (λ ps. id ∷ ps) (parts-first 32 parent_num (parent_id ++ 32 ∷ (lib_num ++ 32 ∷ (time ++ 32 ∷ payload))) refl h3
      ∙ ap (λ ps. parent_num ∷ ps) (parts-first 32 parent_id (lib_num ++ 32 ∷ (time ++ 32 ∷ payload)) refl h4 ∙ ap (λ ps. parent_id ∷ ps) (parts-first 32 lib_num (time ++ 32 ∷ payload) refl h5 ∙ ap (λ ps. lib_num ∷ ps) (parts-first 32 time payload refl h6
      ∙ ap (λ ps. time ∷ ps) (parts-none 32 payload h7)))))))

  slip-block : (n p l t : ℕ) (bytes : List ℕ) → number_of num ≡ Some n → id_of id ≡ Some id → parent_num_of n parent_num ≡ Some p → id_of parent_id ≡ Some parent_id
      → number_of lib_num ≡ Some l → number_of time ≡ Some t → payload_of payload ≡ Some bytes
      → (let s : Slip = record { num = n; id = id; parent_num = p; parent_id = parent_id; lib_num = l; time = t; length = length bytes; digest = sha256 bytes } in
      slip_of_fields (num ∷ id ∷ parent_num ∷ parent_id ∷ lib_num ∷ time ∷ payload ∷ []) ≡ Ok s)
  unfolding slip_of_fields
  slip-block n p l t bytes e1 e2 e3 e4 e5 e6 e7 = rw (e1, e2, e3, e4, e5, e6, e7) refl

-- the payload that was encoded
payload-encoded : (bytes : List ℕ) → IsBytes bytes → length bytes ≤ 50_000_000 → payload_of (encode_of standard bytes) ≡ Some bytes
unfolding payload_of
payload-encoded bytes are small = some_of (decode_of standard (encode_of standard bytes)) (decode_of-encode_of standard bytes refl are)
  where
    some_of : (r : Result (List ℕ) DecodeError) → r ≡ Ok bytes → option_and_then (λ bs. cond (leb (length bs) 50_000_000) (Some bs) None) (result_ok r) ≡ Some bytes
    some_of r is =
        let fits = le-leb (length bytes) 50_000_000 small in
        rw (is, fits) refl

-- the id that is one
id-same : (text : List ℕ) → is_id_text text ≡ true → id_of text ≡ Some text
id-same text is = rw is refl

parent-same : (n p : ℕ) → p < 2 ^ 64 → is_parent_num p n ≡ true → parent_num_of n (decimal p) ≡ Some p
parent-same n p small is =
    let read = number_of-decimal p small in
    rw (read, is) refl

-- ---- what the lines say

ends-init : (version : Version) (block_type : List ℕ) → codes "FIRE INIT " ++ version_text version ++ 32 ∷ block_type ++ 10 ∷ [] ≡ init_text (version_text version) block_type ++ 10 ∷ []
ends-init V1 block_type = refl
ends-init V3 block_type = refl

says-words : (max number : ℕ) (held : Option Kind) (text : List ℕ) (ws : List (List ℕ)) → is_fire text ≡ true → length text ≤ max → words (drop 5 text) ≡ ws → says max number held text ≡ words_say number held ws
says-words max number held text ws fire fits cut =
    let short = le-ltb max (length text) fits in
    rw (fire, short, cut) refl

words_say-init : (number : ℕ) (version : Version) (block_type : List ℕ) → is_type_text block_type ≡ true
    → words_say number None (codes "INIT" ∷ version_text version ∷ block_type ∷ []) ≡ opens (record { version = version; block_type = block_type })
words_say-init number V1 block_type is = rw is refl
words_say-init number V3 block_type is = rw is refl

says-init : (max number : ℕ) (version : Version) (block_type : List ℕ) → is_type_text block_type ≡ true → length (init_text (version_text version) block_type) ≤ max
    → says max number None (init_text (version_text version) block_type) ≡ opens (record { version = version; block_type = block_type })
says-init max number version block_type is fits =
    says-words max number None (init_text (version_text version) block_type) _ refl fits (words-init (version_text version) block_type (word-version version) (word-type block_type is))
    ∙ words_say-init number version block_type is

says-block : (max number : ℕ) (kind : Kind) (num id parent_num parent_id lib_num time payload : List ℕ) (s : Slip)
    → words (drop 5 (block_text num id parent_num parent_id lib_num time payload)) ≡ codes "BLOCK" ∷ num ∷ id ∷ parent_num ∷ parent_id ∷ lib_num ∷ time ∷ payload ∷ []
    → slip_of_fields (num ∷ id ∷ parent_num ∷ parent_id ∷ lib_num ∷ time ∷ payload ∷ []) ≡ Ok s
    → length (block_text num id parent_num parent_id lib_num time payload) ≤ max
    → says max number (Some kind) (block_text num id parent_num parent_id lib_num time payload) ≡ brings s
says-block max number kind num id parent_num parent_id lib_num time payload s cut is fits =
    says-words max number (Some kind) (block_text num id parent_num parent_id lib_num time payload) _ refl fits cut
    ∙ ap (λ r. fields_say (at_line number r)) is

-- the text of a block's line without its LF
abbrev text_of : Block → List ℕ
text_of b = block_text (decimal b.num) b.id (decimal b.parent_num) b.parent_id (decimal b.lib_num) (decimal b.time) (encode_of standard b.payload)

small_parent : (p n : ℕ) → is_parent_num p n ≡ true → n < 2 ^ 64 → p < 2 ^ 64
small_parent p n is small =
    let P : Bool → Type 0 = λ t. nat_lt p n ≡ t → (t || (eqb n 0 && eqb p 0)) ≡ true → p < 2 ^ 64 in
    let both : (t : Bool) → P t = λ t. elim t as P [
      | true ↦ λ less _. omega (arith, ltb-true p n less)
      | false ↦ λ _ zeros. omega (arith, eqb-true p 0 (and_parts (eqb n 0) (eqb p 0) zeros).1)
    ] in
    both (nat_lt p n) refl is

module _ (b : Block) (printable : IsPrintable b) where
  parent_small : b.parent_num < 2 ^ 64
  parent_small = small_parent b.parent_num b.num b.parent_first printable.num

  none_of : (s : ℕ) → nat_le 32 s ≡ false → eqb 32 s ≡ false → ((l : List ℕ) → IsWord l → NoneIs s l) → NoneIs s (text_of b)
  none_of s low space each =
      none-block (decimal b.num) b.id (decimal b.parent_num) b.parent_id (decimal b.lib_num) (decimal b.time) (encode_of standard b.payload) s low space
      (each _ (word-decimal b.num printable.num)) (each _ (word-id b.id printable.id)) (each _ (word-decimal b.parent_num parent_small)) (each _ (word-id b.parent_id printable.parent_id))
      (each _ (word-decimal b.lib_num printable.lib_num)) (each _ (word-decimal b.time printable.time)) (each _ (word-encoded b.payload))

  ends_line : block_line b ≡ text_of b ++ 10 ∷ []
  ends_line = ends-block (decimal b.num) b.id (decimal b.parent_num) b.parent_id (decimal b.lib_num) (decimal b.time) (encode_of standard b.payload)

  says_line : (max number : ℕ) (kind : Kind) → IsWithin max (block_line b) → says max number (Some kind) (without_cr (text_of b)) ≡ brings (slip b)
  says_line max number kind within =
      ap (says max number (Some kind)) (keeps_all (text_of b) (none_of 13 refl refl (λ l w. w.no_cr)))
      ∙ says-block max number kind (decimal b.num) b.id (decimal b.parent_num) b.parent_id (decimal b.lib_num) (decimal b.time) (encode_of standard b.payload) (slip b)
      (words-block (decimal b.num) b.id (decimal b.parent_num) b.parent_id (decimal b.lib_num) (decimal b.time) (encode_of standard b.payload)
      (word-decimal b.num printable.num).no_space (word-id b.id printable.id).no_space (word-decimal b.parent_num parent_small).no_space (word-id b.parent_id printable.parent_id).no_space
      (word-decimal b.lib_num printable.lib_num).no_space (word-decimal b.time printable.time).no_space (word-encoded b.payload).no_space)
      (slip-block (decimal b.num) b.id (decimal b.parent_num) b.parent_id (decimal b.lib_num) (decimal b.time) (encode_of standard b.payload) b.num b.parent_num b.lib_num b.time b.payload
      (number_of-decimal b.num printable.num) (id-same b.id printable.id) (parent-same b.num b.parent_num parent_small b.parent_first) (id-same b.parent_id printable.parent_id)
      (number_of-decimal b.lib_num printable.lib_num) (number_of-decimal b.time printable.time) (payload-encoded b.payload printable.payload b.small))
      (line-within max (block_line b) (text_of b) ends_line within)

  parts_line : (rest : List ℕ) → parts 10 (block_line b ++ rest) ≡ text_of b ∷ parts 10 rest
  parts_line rest = line-parts (block_line b) (text_of b) rest ends_line (none_of 10 refl refl (λ l w. w.no_lf))

-- ---- a whole run

next_line-small : (lines : ℕ) → lines + 1 < 2 ^ 64 → next_line lines ≡ lines + 1
unfolding next_line
next_line-small lines small = omega arith

blocks_received : (max lines : ℕ) (kind : Kind) (blocks : List Block) → AllByRecursion IsPrintable blocks → AllByRecursion (λ b. IsWithin max (block_line b)) blocks → lines + length blocks < 2 ^ 64
    → receive max lines (Some kind) (parts 10 (flat_map block_line blocks)) ≡ record { kind = Some kind; slips = map slip blocks; lines = lines + length blocks; fault = None }
blocks_received max lines kind [] printable within small =
    let same : lines ≡ lines + 0 = omega arith in
    ap (λ n. ends (Some kind) n None) same
blocks_received max lines kind (b ∷ bs) printable within small =
    let rest : List ℕ = flat_map block_line bs in
    let one : next_line lines ≡ lines + 1 = next_line-small lines (omega arith) in
    let later = blocks_received max (next_line lines) kind bs printable.1 within.1 (omega (arith, one, small)) in
    let count : next_line lines + length bs ≡ lines + length (b ∷ bs) = omega (arith, one) in
    ap (receive max lines (Some kind)) (parts_line b printable.0 rest)
    ∙ receive-cons max lines (Some kind) (text_of b) (parts 10 rest) (parts_some 10 rest)
    ∙ ap (λ s. then_receive s lines (Some kind) (λ k. receive max (next_line lines) k (parts 10 rest))) (says_line b printable.0 max (next_line lines) kind within.0)
    ∙ ap (after (slip b ∷ [])) later
    ∙ ap (λ n. let r : Received = record { kind = Some kind; slips = slip b ∷ map slip bs; lines = n; fault = None } in r) count

run_received : (max : ℕ) (kind : Kind) (blocks : List Block) → IsRun max kind blocks → received max (run_text kind blocks) ≡ record { kind = Some kind; slips = map slip blocks; lines = 1 + length blocks; fault = None }
run_received max kind blocks run =
    let rest : List ℕ = flat_map block_line blocks in
    let text : List ℕ = init_text (version_text kind.version) kind.block_type in
    let version = word-version kind.version in
    let block_type = word-type kind.block_type run.named in
    let ends : init_line kind ≡ text ++ 10 ∷ [] = ends-init kind.version kind.block_type in
    let one : next_line 0 ≡ 1 = next_line-small 0 (omega arith) in
    ap (receive max 0 None) (line-parts (init_line kind) text rest ends (none-init 10 (version_text kind.version) kind.block_type refl refl version.no_lf block_type.no_lf))
    ∙ receive-cons max 0 None text (parts 10 rest) (parts_some 10 rest)
    ∙ ap (λ s. then_receive s 0 None (λ k. receive max (next_line 0) k (parts 10 rest)))
    (ap (says max (next_line 0) None) (keeps_all text (none-init 13 (version_text kind.version) kind.block_type refl refl version.no_cr block_type.no_cr))
    ∙ says-init max (next_line 0) kind.version kind.block_type run.named (line-within max (init_line kind) text ends run.opening))
    ∙ ap (λ n. receive max n (Some kind) (parts 10 rest)) one
    ∙ blocks_received max 1 kind blocks run.printable run.within run.counted

pub printed_is_read : PrintedIsRead
printed_is_read max kind blocks run =
    let all = run_received max kind blocks run in
    record {
      kind_is = ap (λ (r : Received). r.kind) all;
      slips = ap (λ (r : Received). r.slips) all;
      lines = ap (λ (r : Received). r.lines) all;
      fault = ap (λ (r : Received). r.fault) all;
    }
