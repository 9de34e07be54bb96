-- A text of bytes whose header is whole is the container of its messages, and what follows them.
use Rattle.std.proofs.Common.{◌≡◌, ℕ, zero, suc, ◌+◌, ◌≤◌, ◌<◌, Bool, true, false, ◌&&◌, not, cond, ltb, eqb, List, [], ◌∷◌, ◌++◌, length, get_or, take, drop, refl, sym, ap, subst, ◌∙◌, append_assoc, inl, inr, arith, length-append, length-drop, length-take, Option, Some, None}
use Rattle.std.specs.Prelude.{codes}
use Rattle.std.specs.Option.{option_map}
use Rattle.std.specs.List.{position, position_or_len, flat_map, zip}
use Rattle.block_record.specs.Texts.{IsBytes, is_type_text}
use Rattle.block_record.proofs.public.ListFacts.{IsBytes-drop, IsBytes-take}
use Rattle.std.specs.Int.{w16, w32, to_be_bytes}
use Rattle.std.proofs.lemmas.Bool.{le-ltb, ltb-false, eqb-true, cases_lt}
use Rattle.std.proofs.lemmas.List.{append-nil, nil_from_length, take-append-drop, drop-drop, get_or-drop, get_or-take, get_or_past}
use Rattle.std.proofs.lemmas.List.Concat.{flat_map-cons}
use Rattle.std.proofs.lemmas.Nat.{be_bytes_2, be_bytes_4}
use Rattle.dbin_file.specs.declared.faults.DbinFault.{DbinFault}
use Rattle.dbin_file.specs.declared.faults.DbinFault.TheVariants.{NotDbin, BadVersion, Truncated}
use Rattle.dbin_file.specs.Header.{header_text, type_length, type_bytes, mark_fault, version_fault, length_fault, type_fault, header_fault, header_size, is_other, first_of}
use Rattle.dbin_file.specs.Messages.{AreMessages, message_max, message_text, message_length, has_message, first_message, Split, onto, split_after, split}
use Rattle.dbin_file.specs.Contents.{Contents, contents, container_text, with_messages, place}
use Rattle.dbin_file.specs.Reader.{ReaderState, kept, cut_fault}
use Rattle.dbin_file.specs.Laws.{IsSpelled, ReadIsSpelled, IsContainer, WholeIsContainer}
use Rattle.dbin_file.proofs.MessageFacts.{has}
use Rattle.dbin_file.proofs.HeaderFacts.{Whole, whole, typed, is_whole, is_cut, is_bad, first_none, none_before}

-- ---- the messages

-- some bytes after so many of them are their messages and the rest, and no message is too long
record AreSpelled (n : ℕ) (bytes : List ℕ) : Type 0 where
  text_is : drop n bytes ≡ flat_map message_text (split_after n bytes).0 ++ (split_after n bytes).1
  small : AreMessages (split_after n bytes).0

-- the message that some bytes begin with, and what follows it
message_is : (bytes : List ℕ) → IsBytes bytes → has_message bytes ≡ true → bytes ≡ message_text (first_message bytes) ++ drop (message_length bytes) (drop 4 bytes)
message_is bytes is e =
    let h = has bytes e in
    let n = message_length bytes in
    let len : length (first_message bytes) ≡ n = omega (arith, length-take n (drop 4 bytes), length-drop 4 bytes, h.whole) in
    let head : to_be_bytes w32 n ≡ take 4 bytes = be_bytes_4 (take 4 bytes) n (omega (arith, length-take 4 bytes, h.four)) (IsBytes-take 4 bytes is) refl in
    let text : message_text (first_message bytes) ≡ take 4 bytes ++ first_message bytes = ap (λ (k : ℕ). to_be_bytes w32 k ++ first_message bytes) len ∙ ap (λ (l : List ℕ). l ++ first_message bytes) head in
    sym (ap (λ (l : List ℕ). l ++ drop n (drop 4 bytes)) text ∙ append_assoc (take 4 bytes) (first_message bytes) (drop n (drop 4 bytes))
    ∙ ap (λ (l : List ℕ). take 4 bytes ++ l) (take-append-drop n (drop 4 bytes)) ∙ take-append-drop 4 bytes)

messages_are : (n : ℕ) (bytes : List ℕ) → IsBytes bytes → n ≤ length bytes → AreSpelled n bytes
messages_are zero [] is fits = record { text_is = refl; small = tt }
messages_are (suc n) [] is fits = absurd (omega (arith, fits))
messages_are (suc n) (b ∷ bytes) is fits =
    let more = messages_are n bytes (λ i. is (suc i)) (omega (arith, fits)) in
    record { text_is = more.text_is; small = more.small }
messages_are zero (b ∷ bytes) is fits = by_test (λ n within. messages_are n bytes (λ i. is (suc i)) within) (has_message (b ∷ bytes)) refl
  where
    by_test : ((n : ℕ) → n ≤ length bytes → AreSpelled n bytes) → (t : Bool) → has_message (b ∷ bytes) ≡ t → AreSpelled 0 (b ∷ bytes)
    by_test more true e =
        let h = has (b ∷ bytes) e in
        let n = message_length (b ∷ bytes) in
        let m : List ℕ = first_message (b ∷ bytes) in
        let later = more (3 + n) (omega (arith, h.whole)) in
        let s = split_after (3 + n) bytes in
        let after : drop n (drop 3 bytes) ≡ flat_map message_text s.0 ++ s.1 = drop-drop n 3 bytes ∙ later.text_is in
        let len : length m ≤ message_max = omega (arith, length-take n (drop 4 (b ∷ bytes)), h.small) in
        let joined : b ∷ bytes ≡ flat_map message_text (m ∷ s.0) ++ s.1 =
        message_is (b ∷ bytes) is e ∙ ap (λ (l : List ℕ). message_text m ++ l) after ∙ sym (append_assoc (message_text m) (flat_map message_text s.0) s.1)
        ∙ ap (λ (l : List ℕ). l ++ s.1) (sym (flat_map-cons message_text m s.0)) in
        let here : split_after 0 (b ∷ bytes) ≡ onto m s = rw e refl in
        record {
          text_is = joined ∙ sym (ap (λ (p : Split). flat_map message_text p.0 ++ p.1) here);
          small = subst (λ (p : Split). AreMessages p.0) (sym here) (len, later.small);
        }
    by_test more false e =
        let here : split_after 0 (b ∷ bytes) ≡ ([], b ∷ bytes) = rw e refl in
        record {
          text_is = sym (ap (λ (p : Split). flat_map message_text p.0 ++ p.1) here);
          small = subst (λ (p : Split). AreMessages p.0) (sym here) tt;
        }

-- ---- the header

-- the first of some pairs is no pair of two numbers, and none of the others is
same_first : (a b : ℕ) (l : List (ℕ × ℕ)) → length ((a, b) ∷ l) ≤ position_or_len is_other ((a, b) ∷ l) → (a ≡ b) × (length l ≤ position_or_len is_other l)
same_first a b l none = by_test (eqb a b) refl
  where
    by_test : (t : Bool) → eqb a b ≡ t → (a ≡ b) × (length l ≤ position_or_len is_other l)
    by_test true e = (eqb-true a b e, (let n = rw e at none in omega (arith, n)))
    by_test false e = absurd (let n = rw e at none in omega (arith, n))

zip_none : (l : List ℕ) → zip {X = ℕ} l (let none : List ℕ = [] in none) ≡ []
zip_none [] = refl
zip_none (x ∷ l) = refl

-- a good mark is the mark
mark_is : (a b c d : ℕ) (rest : List ℕ) → mark_fault (a ∷ b ∷ c ∷ d ∷ rest) ≡ None → a ∷ b ∷ c ∷ d ∷ [] ≡ codes "dbin"
mark_is a b c d rest good =
    let l : List (ℕ × ℕ) = (a, 100) ∷ (b, 98) ∷ (c, 105) ∷ (d, 110) ∷ [] in
    let none : option_map NotDbin (position is_other l) ≡ None = ap (λ (x : List (ℕ × ℕ)). option_map NotDbin (position is_other ((a, 100) ∷ (b, 98) ∷ (c, 105) ∷ (d, 110) ∷ x))) (sym (zip_none rest)) ∙ good in
    let one = same_first a 100 ((b, 98) ∷ (c, 105) ∷ (d, 110) ∷ []) (none_before is_other l (not_there (position is_other l) none)) in
    let two = same_first b 98 ((c, 105) ∷ (d, 110) ∷ []) one.1 in
    let three = same_first c 105 ((d, 110) ∷ []) two.1 in
    let four = same_first d 110 [] three.1 in
    ap (λ (x : ℕ). x ∷ b ∷ c ∷ d ∷ []) one.0 ∙ ap (λ (x : ℕ). 100 ∷ x ∷ c ∷ d ∷ []) two.0 ∙ ap (λ (x : ℕ). 100 ∷ 98 ∷ x ∷ d ∷ []) three.0 ∙ ap (λ (x : ℕ). 100 ∷ 98 ∷ 105 ∷ x ∷ []) four.0
  where
    not_there : (o : Option ℕ) → option_map NotDbin o ≡ None → o ≡ None
    not_there None e = refl
    not_there (Some i) e = absurd cc

one_is : (e : ℕ) → cond (eqb e 1) None (Some (BadVersion e)) ≡ None → e ≡ 1
one_is e good = by_test (eqb e 1) refl good
  where
    by_test : (t : Bool) → eqb e 1 ≡ t → cond t None (Some (BadVersion e)) ≡ None → e ≡ 1
    by_test true is good = eqb-true e 1 is
    by_test false is good = absurd cc

-- a good header that is all there is the header of its type
header_spelled : (text : List ℕ) (n : ℕ) → IsBytes text → header_fault text ≡ None → Whole text n → text ≡ header_text (type_bytes text) ++ drop n text
unfolding header_fault
header_spelled [] n is good w = absurd (omega (arith, w.seven))
header_spelled (a ∷ []) n is good w = absurd (omega (arith, w.seven))
header_spelled (a ∷ b ∷ []) n is good w = absurd (omega (arith, w.seven))
header_spelled (a ∷ b ∷ c ∷ []) n is good w = absurd (omega (arith, w.seven))
header_spelled (a ∷ b ∷ c ∷ d ∷ []) n is good w = absurd (omega (arith, w.seven))
header_spelled (a ∷ b ∷ c ∷ d ∷ e ∷ []) n is good w = absurd (omega (arith, w.seven))
header_spelled (a ∷ b ∷ c ∷ d ∷ e ∷ f ∷ []) n is good w = absurd (omega (arith, w.seven))
header_spelled (a ∷ b ∷ c ∷ d ∷ e ∷ f ∷ g ∷ rest) n is good w =
    let text : List ℕ = a ∷ b ∷ c ∷ d ∷ e ∷ f ∷ g ∷ rest in
    let one = first_none (mark_fault text) (version_fault text ∷ length_fault text ∷ type_fault text ∷ []) good in
    let two = first_none (version_fault text) (length_fault text ∷ type_fault text ∷ []) one.1 in
    let mark = mark_is a b c d (e ∷ f ∷ g ∷ rest) one.0 in
    let version : e ≡ 1 = one_is e two.0 in
    let k = type_length text in
    let t : List ℕ = type_bytes text in
    let len : length t ≡ k = omega (arith, length-take k rest, w.size, w.within) in
    let short : to_be_bytes w16 k ≡ f ∷ g ∷ [] = be_bytes_2 (f ∷ g ∷ []) k refl (IsBytes-take 2 (f ∷ g ∷ rest) (λ i. is (suc (suc (suc (suc (suc i))))))) refl in
    let dropped : drop n text ≡ drop k rest = ap (λ (j : ℕ). drop j text) w.size ∙ sym (drop-drop k 7 text) in
    let tail : f ∷ g ∷ rest ≡ to_be_bytes w16 (length t) ++ (t ++ drop n text) =
    sym (ap (λ (j : ℕ). to_be_bytes w16 j ++ (t ++ drop n text)) len ∙ ap (λ (l : List ℕ). l ++ (t ++ drop n text)) short ∙ ap (λ (l : List ℕ). f ∷ g ∷ (t ++ l)) dropped ∙ ap (λ (l : List ℕ). f ∷ g ∷ l) (take-append-drop k rest)) in
    let head : text ≡ codes "dbin" ++ (1 ∷ (f ∷ g ∷ rest)) = ap (λ (l : List ℕ). l ++ (e ∷ f ∷ g ∷ rest)) mark ∙ ap (λ (x : ℕ). codes "dbin" ++ (x ∷ f ∷ g ∷ rest)) version in
    head ∙ ap (λ (l : List ℕ). codes "dbin" ++ (1 ∷ l)) (tail ∙ sym (append_assoc (to_be_bytes w16 (length t)) t (drop n text)))

-- ---- all of a text

spelled_whole : (text : List ℕ) (n : ℕ) (block_type : List ℕ) → IsBytes text → header_fault text ≡ None → header_size text ≡ Some n → (contents text).block_type ≡ Some block_type → IsSpelled text block_type
spelled_whole text n block_type is good size named =
    let w = whole text n size in
    let c = is_whole text n good size in
    let s = split (drop n text) in
    let one : Option (List ℕ) = Some (type_bytes text) in
    let same : one ≡ Some block_type = sym (ap (λ (y : Contents). y.block_type) c) ∙ named in
    let type_is : type_bytes text ≡ block_type = cc same in
    let m = messages_are 0 (drop n text) (IsBytes-drop n text is) (omega arith) in
    let text_is : text ≡ (header_text (type_bytes text) ++ flat_map message_text s.0) ++ s.1 =
    header_spelled text n is good w ∙ ap (λ (l : List ℕ). header_text (type_bytes text) ++ l) m.text_is ∙ sym (append_assoc (header_text (type_bytes text)) (flat_map message_text s.0) s.1) in
    record {
      named = ap is_type_text (sym type_is) ∙ typed text n good w;
      small = subst AreMessages (sym (ap (λ (y : Contents). y.messages) c)) m.small;
      text_is = text_is ∙ ap (λ (l : List ℕ). container_text l s.0 ++ s.1) type_is ∙ ap (λ (y : Contents). container_text block_type y.messages ++ y.rest) (sym c);
    }

pub read_spelled : ReadIsSpelled
read_spelled text block_type is named = by_fault (header_fault text) refl
  where
    by_size : header_fault text ≡ None → (o : Option ℕ) → header_size text ≡ o → IsSpelled text block_type
    by_size good None e = absurd (let none = (is_cut text good e).state_is in let clash = sym (ap (λ (r : ReaderState). r.block_type) none) ∙ named in cc)
    by_size good (Some n) e = spelled_whole text n block_type is good e named

    by_fault : (o : Option DbinFault) → header_fault text ≡ o → IsSpelled text block_type
    by_fault None e = by_size e (header_size text) refl
    by_fault (Some f) e = absurd (let none = (is_bad text f e).state_is in let clash = sym (ap (λ (r : ReaderState). r.block_type) none) ∙ named in cc)

nothing_left : (at : ℕ) (partial : List ℕ) → cond (eqb (length partial) 0) None (Some (Truncated at)) ≡ None → partial ≡ []
nothing_left at partial none = by_test (eqb (length partial) 0) refl none
  where
    by_test : (t : Bool) → eqb (length partial) 0 ≡ t → cond t None (Some (Truncated at)) ≡ None → partial ≡ []
    by_test true e none = nil_from_length partial (eqb-true (length partial) 0 e)
    by_test false e none = absurd cc

pub whole_container : WholeIsContainer
whole_container text is none =
    by_type (contents text).block_type refl (first_none (cut_fault (contents text).block_type (place (length text) (contents text).rest) (kept (contents text).fault (contents text).rest)) [] fine.1).0
  where
    fine : ((contents text).fault ≡ None) × (first_of (cut_fault (contents text).block_type (place (length text) (contents text).rest) (kept (contents text).fault (contents text).rest) ∷ []) ≡ None)
    fine = first_none (contents text).fault (cut_fault (contents text).block_type (place (length text) (contents text).rest) (kept (contents text).fault (contents text).rest) ∷ []) none

    by_type : (o : Option (List ℕ)) → (contents text).block_type ≡ o → cut_fault o (place (length text) (contents text).rest) (kept (contents text).fault (contents text).rest) ≡ None → IsContainer text
    by_type None named e = absurd cc
    by_type (Some t) named e =
        let s = read_spelled text t is named in
        let empty : (contents text).rest ≡ [] = ap (λ (f : Option DbinFault). kept f (contents text).rest) (sym fine.0) ∙ nothing_left (place (length text) (contents text).rest) (kept (contents text).fault (contents text).rest) e in
        record {
          block_type = t;
          type_is = named;
          named = s.named;
          small = s.small;
          text_is = s.text_is ∙ ap (λ (l : List ℕ). container_text t (contents text).messages ++ l) empty ∙ append-nil (container_text t (contents text).messages);
        }
