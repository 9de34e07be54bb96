-- Texts that begin in one way: where a part ends, and what follows it.
use Rattle.std.proofs.Common.{arith, ◌≡◌, ◌<◌, ◌^◌, ◌+◌, ◌*◌, ◌/◌, ◌%◌, ℕ, zero, suc, Bool, true, false, ◌||◌, cond, eqb, List, [], ◌∷◌, ◌++◌, get_or, replicate, Option, Some, None, refl, sym, ◌∙◌, ap, append_assoc}
use Rattle.std.specs.Prelude.{codes, nat_lt, slice_index}
use Rattle.std.specs.List.{list_all, concat, AllByRecursion}
use Rattle.std.specs.Option.{unwrap_or}
use Rattle.std.specs.Fmt.{decimal}
use Rattle.std.specs.Char.{is_ascii_digit}
use Rattle.std.proofs.lemmas.Bool.{and_parts, eqb-false, ne_eqb, ltb-true, false≢true}
use Rattle.std.proofs.Math.Dec.{ltb}
use Rattle.std.proofs.lemmas.List.{append_cancel_left}
use Rattle.std.proofs.lemmas.Option.{same_Some}
use Rattle.base64.specs.GeneralPurpose.{encode_of}
use Rattle.base64.specs.Engines.{standard, url_safe_no_pad}
use Rattle.base64.specs.Rfc4648.{encode_symbols}
use Rattle.hex.specs.Hex.{encode_lower, encode_with, hex_digit_value, lower_digits}
use Rattle.hex.proofs.HexLemmas.{IsDigits-lower_digits}
use Rattle.block_record.specs.declared.blocks.BlockRef.{BlockRef}
use Rattle.block_record.specs.Number.{number_of}
use Rattle.block_record.specs.Texts.{is_id_byte, IsId}
use Rattle.block_record.proofs.public.NumberTexts.{decimal_digits, number_of-decimal}
use Rattle.step_cursor.specs.CursorText.{IsRefIfAny}
use Rattle.text_parts.specs.Parts.{escaped_byte, escaped}
use Rattle.reply_text.specs.Lines.{ref_text}

-- texts one after another, and what follows them
abbrev pub right : List (List ℕ) → List ℕ → List ℕ
right [] more = more
right (p ∷ ps) more = p ++ right ps more

pub whole_right : (ps : List (List ℕ)) (more : List ℕ) → concat ps ++ more ≡ right ps more
whole_right [] more = refl
whole_right (p ∷ ps) more = append_assoc p (concat ps) more ∙ ap (λ l. p ++ l) (whole_right ps more)

-- no byte of the text is this one
abbrev pub NoneIs : ℕ → List ℕ → Type 0
NoneIs s text = AllByRecursion (λ b. eqb b s ≡ false) text

pub none-append : (s : ℕ) (a b : List ℕ) → NoneIs s a → NoneIs s b → NoneIs s (a ++ b)
none-append s [] b ha hb = hb
none-append s (x ∷ a) b ha hb = (ha.0, none-append s a b ha.1 hb)

pub none-test : (p : ℕ → Bool) (s : ℕ) (l : List ℕ) → p s ≡ false → list_all p l ≡ true → NoneIs s l
none-test p s [] isnt all = tt
none-test p s (x ∷ l) isnt all =
    let both : (p x ≡ true) × (list_all p l ≡ true) = and_parts (p x) (list_all p l) all in
    (ne_eqb x s (λ (e : x ≡ s). false≢true (sym isnt ∙ ap p (sym e) ∙ both.0)), none-test p s l isnt both.1)

none-get_or : (s : ℕ) (l : List ℕ) (i : ℕ) → NoneIs s l → eqb 0 s ≡ false → eqb (get_or l i 0) s ≡ false
none-get_or s [] i none past = past
none-get_or s (x ∷ l) zero none past = none.0
none-get_or s (x ∷ l) (suc i) none past = none-get_or s l i none.1 past

none-encode_symbols : (s : ℕ) (t m : List ℕ) → NoneIs s t → eqb 0 s ≡ false → NoneIs s (encode_symbols t m)
unfolding encode_symbols
none-encode_symbols s t [] none past = tt
none-encode_symbols s t (a ∷ []) none past = (none-get_or s t _ none past, (none-get_or s t _ none past, tt))
none-encode_symbols s t (a ∷ b ∷ []) none past = (none-get_or s t _ none past, (none-get_or s t _ none past, (none-get_or s t _ none past, tt)))
none-encode_symbols s t (a ∷ b ∷ c ∷ rest) none past =
    (none-get_or s t _ none past, (none-get_or s t _ none past, (none-get_or s t _ none past, (none-get_or s t _ none past, none-encode_symbols s t rest none past))))

none-replicate : (s n pad : ℕ) → eqb pad s ≡ false → NoneIs s (replicate n pad)
none-replicate s zero pad isnt = tt
none-replicate s (suc n) pad isnt = (isnt, none-replicate s n pad isnt)

-- a byte of base64
abbrev pub is_symbol : ℕ → Bool
is_symbol b = nat_lt 42 b

pub none-standard : (m : List ℕ) → NoneIs 34 (encode_of standard m)
none-standard m =
    none-append 34 (encode_symbols standard.encode_table m) _
    (none-encode_symbols 34 standard.encode_table m (none-test is_symbol 34 standard.encode_table refl refl) refl) (none-replicate 34 _ 61 refl)

pub none-url_safe : (m : List ℕ) → NoneIs 34 (encode_of url_safe_no_pad m)
none-url_safe m =
    none-append 34 (encode_symbols url_safe_no_pad.encode_table m) _
    (none-encode_symbols 34 url_safe_no_pad.encode_table m (none-test is_symbol 34 url_safe_no_pad.encode_table refl refl) refl) tt

-- two texts that end at the first byte of a kind
pub split_at : (s : ℕ) (a b more rest : List ℕ) → NoneIs s a → NoneIs s b → a ++ s ∷ more ≡ b ++ s ∷ rest → (a ≡ b) × (more ≡ rest)
split_at s [] [] more rest ha hb e = (refl, cc)
split_at s [] (y ∷ b) more rest ha hb e = let same : y ≡ s = cc in absurd (eqb-false y s hb.0 same)
split_at s (x ∷ a) [] more rest ha hb e = let same : x ≡ s = cc in absurd (eqb-false x s ha.0 same)
split_at s (x ∷ a) (y ∷ b) more rest ha hb e =
    let same : x ≡ y = cc in
    let later : a ++ s ∷ more ≡ b ++ s ∷ rest = cc in
    let split = split_at s a b more rest ha.1 hb.1 later in
    (λ i. same i ∷ split.0 i, split.1)

-- numbers

pub none-decimal : (s n : ℕ) → is_ascii_digit s ≡ false → n < 2 ^ 64 → NoneIs s (decimal n)
none-decimal s n isnt small = none-test is_ascii_digit s (decimal n) isnt (decimal_digits n small)

pub same_number : (m n : ℕ) → m < 2 ^ 64 → n < 2 ^ 64 → decimal m ≡ decimal n → m ≡ n
same_number m n hm hn e = same_Some m n (sym (number_of-decimal m hm) ∙ ap number_of e ∙ number_of-decimal n hn)

pub split_number : (s m n : ℕ) (more rest : List ℕ) → is_ascii_digit s ≡ false → m < 2 ^ 64 → n < 2 ^ 64 → decimal m ++ s ∷ more ≡ decimal n ++ s ∷ rest → (m ≡ n) × (more ≡ rest)
split_number s m n more rest isnt hm hn e =
    let split = split_at s (decimal m) (decimal n) more rest (none-decimal s m isnt hm) (none-decimal s n isnt hn) e in
    (same_number m n hm hn split.0, split.1)

-- ids

pub none-id : (id : List ℕ) → IsId id → NoneIs 34 id
none-id id is = none-test is_id_byte 34 id refl (and_parts _ _ is).1

-- blocks by number and id, or `null`

ref_parts : (r : BlockRef) (more : List ℕ) → ref_text (Some r) ++ more ≡ codes "{\"num\":" ++ (decimal r.num ++ 44 ∷ (codes "\"id\":\"" ++ (r.id ++ 34 ∷ (codes "}" ++ more))))
ref_parts r more = whole_right (codes "{\"num\":" ∷ decimal r.num ∷ codes ",\"id\":\"" ∷ r.id ∷ codes "\"}" ∷ []) more

pub split_ref : (a b : Option BlockRef) (more rest : List ℕ) → IsRefIfAny a → IsRefIfAny b → ref_text a ++ more ≡ ref_text b ++ rest → (a ≡ b) × (more ≡ rest)
split_ref None None more rest ha hb e = (refl, append_cancel_left (codes "null") more rest e)
split_ref None (Some r) more rest ha hb e = absurd (eqb-false 110 123 refl (ap (λ l. get_or l 0 0) (e ∙ ref_parts r rest)))
split_ref (Some r) None more rest ha hb e = absurd (eqb-false 123 110 refl (ap (λ l. get_or l 0 0) (sym (ref_parts r more) ∙ e)))
split_ref (Some r) (Some q) more rest ha hb e =
    let parts = sym (ref_parts r more) ∙ e ∙ ref_parts q rest in
    let num = split_number 44 r.num q.num (codes "\"id\":\"" ++ (r.id ++ 34 ∷ (codes "}" ++ more))) (codes "\"id\":\"" ++ (q.id ++ 34 ∷ (codes "}" ++ rest))) refl ha.num hb.num
    (append_cancel_left (codes "{\"num\":") _ _ parts) in
    let id = split_at 34 r.id q.id (codes "}" ++ more) (codes "}" ++ rest) (none-id r.id ha.id) (none-id q.id hb.id) (append_cancel_left (codes "\"id\":\"") _ _ num.1) in
    (λ i. Some (record { num = num.0 i; id = id.0 i }), append_cancel_left (codes "}") more rest id.1)

-- escaped texts

-- the value of a hexadecimal digit
abbrev value_of : ℕ → ℕ
value_of c = unwrap_or (hex_digit_value c) 0

-- the byte whose escaped form a text begins with
abbrev byte_in : List ℕ → ℕ
byte_in l = cond (eqb (get_or l 0 0) 92) (cond (eqb (get_or l 1 0) 117) (value_of (get_or l 4 0) * 16 + value_of (get_or l 5 0)) (get_or l 1 0)) (get_or l 0 0)

-- whether a byte has a backslash before it
abbrev is_quoted : ℕ → Bool
is_quoted b = eqb b 34 || eqb b 92

byte_again : (x : ℕ) (u : List ℕ) → byte_in (escaped_byte x ++ u) ≡ x
unfolding encode_with
byte_again x u = go (is_quoted x) (ltb x 32) refl refl
  where
    go : (t v : Bool) → is_quoted x ≡ t → ltb x 32 ≡ v → byte_in (cond t (92 ∷ x ∷ []) (cond v (codes "\\u00" ++ encode_lower (x ∷ [])) (x ∷ [])) ++ u) ≡ x
    go true v k j =
        let other : eqb x 117 ≡ false = ne_eqb x 117 (λ (e : x ≡ 117). false≢true (ap is_quoted (sym e) ∙ k)) in
        rw other refl
    go false true k j =
        let small : x < 32 = ltb-true x 32 j in
        let high : value_of (slice_index lower_digits (x / 16)) ≡ x / 16 = ap (λ o. unwrap_or o 0) (IsDigits-lower_digits (x / 16) (omega arith)) in
        let low : value_of (slice_index lower_digits (x % 16)) ≡ x % 16 = ap (λ o. unwrap_or o 0) (IsDigits-lower_digits (x % 16) (omega arith)) in
        let whole : x / 16 * 16 + x % 16 ≡ x = omega arith in
        ap (λ n. n * 16 + value_of (slice_index lower_digits (x % 16))) high ∙ ap (λ n. x / 16 * 16 + n) low ∙ whole
    go false false k j =
        let other : eqb x 92 ≡ false = ne_eqb x 92 (λ (e : x ≡ 92). false≢true (sym k ∙ ap is_quoted e)) in
        rw other refl

pub never_quote : (x : ℕ) (u : List ℕ) → get_or (escaped_byte x ++ u) 0 0 ≡ 34 → ⊥
never_quote x u = go (is_quoted x) (ltb x 32) refl
  where
    go : (t v : Bool) → is_quoted x ≡ t → get_or (cond t (92 ∷ x ∷ []) (cond v (codes "\\u00" ++ encode_lower (x ∷ [])) (x ∷ [])) ++ u) 0 0 ≡ 34 → ⊥
    go true v k h = eqb-false 92 34 refl h
    go false true k h = eqb-false 92 34 refl h
    go false false k h = false≢true (sym k ∙ ap is_quoted h)

pub split_escaped : (a b more rest : List ℕ) → escaped a ++ 34 ∷ more ≡ escaped b ++ 34 ∷ rest → (a ≡ b) × (more ≡ rest)
split_escaped [] [] more rest e = (refl, cc)
split_escaped [] (y ∷ b) more rest e =
    absurd (never_quote y (escaped b ++ 34 ∷ rest) (sym (ap (λ l. get_or l 0 0) (e ∙ append_assoc (escaped_byte y) (escaped b) (34 ∷ rest)))))
split_escaped (x ∷ a) [] more rest e =
    absurd (never_quote x (escaped a ++ 34 ∷ more) (ap (λ l. get_or l 0 0) (sym (append_assoc (escaped_byte x) (escaped a) (34 ∷ more)) ∙ e)))
split_escaped (x ∷ a) (y ∷ b) more rest e =
    let both : escaped_byte x ++ (escaped a ++ 34 ∷ more) ≡ escaped_byte y ++ (escaped b ++ 34 ∷ rest)
    = sym (append_assoc (escaped_byte x) (escaped a) (34 ∷ more)) ∙ e ∙ append_assoc (escaped_byte y) (escaped b) (34 ∷ rest) in
    let same : x ≡ y = sym (byte_again x (escaped a ++ 34 ∷ more)) ∙ ap byte_in both ∙ byte_again y (escaped b ++ 34 ∷ rest) in
    let later : escaped a ++ 34 ∷ more ≡ escaped b ++ 34 ∷ rest
    = append_cancel_left (escaped_byte y) _ _ (ap (λ z. escaped_byte z ++ (escaped a ++ 34 ∷ more)) (sym same) ∙ both) in
    let split = split_escaped a b more rest later in
    (λ i. same i ∷ split.0 i, split.1)
