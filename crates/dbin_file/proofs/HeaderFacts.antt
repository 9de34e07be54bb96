-- What a text says by its header, and with a further piece.
use Rattle.std.proofs.Common.{◌≡◌, ℕ, ◌+◌, ◌-◌, ◌≤◌, ◌<◌, Bool, true, false, ◌&&◌, cond, ltb, List, [], ◌∷◌, ◌++◌, length, take, drop, refl, sym, ap, subst, ◌∙◌, append_assoc, inl, inr, arith, length-append, length-drop, length-take, IsTrue, Option, Some, None, Result}
use Rattle.std.specs.Option.{is_some, option_map}
use Rattle.std.specs.Int.{w16, from_be_bytes}
use Rattle.std.specs.List.{position, position_or_len, list_all}
use Rattle.std.proofs.lemmas.Bool.{le-ltb, ltb-false, ltb-true, and_parts, and_from, lt-ltb, le-leb, cases_lt}
use Rattle.std.proofs.lemmas.List.{append-nil, take-append-le, drop-append-le, take-append-drop, drop-take, take_rest, take_at, drop_at}
use Rattle.block_record.specs.Texts.{is_visible_byte, is_type_text}
use Rattle.dbin_file.specs.declared.faults.DbinFault.{DbinFault}
use Rattle.dbin_file.specs.declared.faults.DbinFault.TheVariants.{NotDbin, Mem}
use Rattle.dbin_file.specs.Header.{type_length, type_bytes, mark_fault, version_fault, length_fault, type_fault, first_of, header_fault, header_size, is_hidden, IsInHeader}
use Rattle.dbin_file.specs.Messages.{split}
use Rattle.dbin_file.specs.Contents.{Contents, contents, with_header, with_messages, told, place, rest_fault}
use Rattle.block_record.specs.Words.{Answers, GrowsBy}
use Rattle.dbin_file.specs.Reader.{ReaderState, kept, state_of, state_after, found, at_after, message_fault, with_piece, without_memory, IsRead, IsCutShort, IsCutShortAt}
use Rattle.dbin_file.proofs.MessageFacts.{with_front, split-append, split-within}

-- a header that is all there
pub record Whole (text : List ℕ) (n : ℕ) : Type 0 where
  pub seven : 7 ≤ length text
  pub size : n ≡ 7 + type_length text
  pub within : n ≤ length text

some_is : (x y : ℕ) → (let o : Option ℕ = Some x in o) ≡ Some y → x ≡ y
some_is x y e = cc

pub whole : (text : List ℕ) (n : ℕ) → header_size text ≡ Some n → Whole text n
unfolding header_size
whole text n is = by_seven (ltb (length text) 7) refl is
  where
    by_size : (t : Bool) → ltb (length text) (7 + type_length text) ≡ t → 7 ≤ length text → cond t None (Some (7 + type_length text)) ≡ Some n → Whole text n
    by_size true e seven is = absurd cc
    by_size false e seven is =
        let size : n ≡ 7 + type_length text = sym (some_is (7 + type_length text) n is) in
        record { seven = seven; size = size; within = omega (arith, size, ltb-false _ _ e) }

    by_seven : (t : Bool) → ltb (length text) 7 ≡ t → cond t None (cond (ltb (length text) (7 + type_length text)) None (Some (7 + type_length text))) ≡ Some n → Whole text n
    by_seven true e is = absurd cc
    by_seven false e is = by_size (ltb (length text) (7 + type_length text)) refl (ltb-false _ _ e) is

pub size_from : (text : List ℕ) (n : ℕ) → Whole text n → header_size text ≡ Some n
unfolding header_size
size_from text n w =
    let seven : ltb (length text) 7 ≡ false = le-ltb _ _ w.seven in
    let fits : ltb (length text) (7 + type_length text) ≡ false = le-ltb _ _ (omega (arith, w.size, w.within)) in
    rw (seven, fits) (ap (λ (k : ℕ). let o : Option ℕ = Some k in o) (sym w.size))

-- a whole header says the same with a further piece
pub record Same (text piece : List ℕ) (n : ℕ) : Type 0 where
  pub fault : header_fault (text ++ piece) ≡ header_fault text
  pub size : header_size (text ++ piece) ≡ Some n
  pub type_is : type_bytes (text ++ piece) ≡ type_bytes text

pub same : (text piece : List ℕ) (n : ℕ) → Whole text n → Same text piece n
unfolding header_fault
same [] piece n w = absurd (omega (arith, w.seven))
same (a ∷ []) piece n w = absurd (omega (arith, w.seven))
same (a ∷ b ∷ []) piece n w = absurd (omega (arith, w.seven))
same (a ∷ b ∷ c ∷ []) piece n w = absurd (omega (arith, w.seven))
same (a ∷ b ∷ c ∷ d ∷ []) piece n w = absurd (omega (arith, w.seven))
same (a ∷ b ∷ c ∷ d ∷ e ∷ []) piece n w = absurd (omega (arith, w.seven))
same (a ∷ b ∷ c ∷ d ∷ e ∷ f ∷ []) piece n w = absurd (omega (arith, w.seven))
same (a ∷ b ∷ c ∷ d ∷ e ∷ f ∷ g ∷ rest) piece n w =
    let text : List ℕ = a ∷ b ∷ c ∷ d ∷ e ∷ f ∷ g ∷ rest in
    let k = type_length text in
    let fits : k ≤ length rest = omega (arith, w.size, w.within) in
    let types : type_bytes (text ++ piece) ≡ type_bytes text = take-append-le k rest piece fits in
    let long : ltb (length (text ++ piece)) 7 ≡ false = le-ltb _ _ (omega (arith, length-append rest piece)) in
    let short : ltb (length text) 7 ≡ false = le-ltb _ _ (omega arith) in
    let lengths : length_fault (text ++ piece) ≡ length_fault text = rw (long, short) refl in
    let faults : type_fault (text ++ piece) ≡ type_fault text = ap (λ (l : List ℕ). option_map (λ i. NotDbin (7 + i)) (position is_hidden l)) types in
    record {
      fault = ap (λ (o : Option DbinFault). first_of (mark_fault text ∷ version_fault text ∷ o ∷ type_fault (text ++ piece) ∷ [])) lengths
          ∙ ap (λ (o : Option DbinFault). first_of (mark_fault text ∷ version_fault text ∷ length_fault text ∷ o ∷ [])) faults;
      size = size_from (text ++ piece) n (record { seven = omega (arith, length-append rest piece); size = w.size; within = omega (arith, w.within, length-append rest piece) });
      type_is = types;
    }

-- ---- what a text says

says : (text : List ℕ) (f : Option DbinFault) (s : Option ℕ) → header_fault text ≡ f → header_size text ≡ s → contents text ≡ with_header f s text
says text f s ef es = ap (λ (o : Option DbinFault). with_header o (header_size text) text) ef ∙ ap (λ (o : Option ℕ). with_header f o text) es

zero_place : (text : List ℕ) → place (length text) text ≡ 0
zero_place text = ap told (let z : length text - length text ≡ 0 = omega arith in z)

-- the header is bad
pub record IsBad (text : List ℕ) (f : DbinFault) : Type 0 where
  pub messages_are : (contents text).messages ≡ []
  pub fault_is : (contents text).fault ≡ Some f
  pub state_is : state_after text ≡ record { block_type = None; fault = Some f; at = 0; partial = [] }

pub is_bad : (text : List ℕ) (f : DbinFault) → header_fault text ≡ Some f → IsBad text f
is_bad text f bad =
    let c : contents text ≡ record { block_type = None; messages = []; rest = text; fault = Some f } = says text (Some f) (header_size text) bad refl in
    record {
      messages_are = ap (λ (x : Contents). x.messages) c;
      fault_is = ap (λ (x : Contents). x.fault) c;
      state_is = ap (state_of (length text)) c ∙ ap (λ (n : ℕ). let s : ReaderState = record { block_type = None; fault = Some f; at = n; partial = [] } in s) (zero_place text);
    }

-- the header is cut
pub record IsCut (text : List ℕ) : Type 0 where
  pub messages_are : (contents text).messages ≡ []
  pub fault_is : (contents text).fault ≡ None
  pub state_is : state_after text ≡ record { block_type = None; fault = None; at = 0; partial = text }

pub is_cut : (text : List ℕ) → header_fault text ≡ None → header_size text ≡ None → IsCut text
is_cut text good none =
    let c : contents text ≡ record { block_type = None; messages = []; rest = text; fault = None } = says text None None good none in
    record {
      messages_are = ap (λ (x : Contents). x.messages) c;
      fault_is = ap (λ (x : Contents). x.fault) c;
      state_is = ap (state_of (length text)) c ∙ ap (λ (n : ℕ). let s : ReaderState = record { block_type = None; fault = None; at = n; partial = text } in s) (zero_place text);
    }

-- the header is whole
pub is_whole : (text : List ℕ) (n : ℕ) → header_fault text ≡ None → header_size text ≡ Some n → contents text ≡ with_messages (length text) (type_bytes text) (split (drop n text))
is_whole text n good size = says text None (Some n) good size

-- what a reader that begins with the messages after the header finds
pub record Begins (text : List ℕ) (r : ReaderState) (rest : List ℕ) : Type 0 where
  pub messages_are : (contents text).messages ≡ (found r rest).0
  pub fault_is : (contents text).fault ≡ message_fault r rest
  pub state_is : with_piece r rest ≡ state_after text

begin_at : (x n k : ℕ) → n ≤ x → k ≤ x - n → told (n + ((x - n) - k)) ≡ told (x - k)
begin_at x n k h1 h2 = ap told (let z : n + ((x - n) - k) ≡ x - k = omega (arith, h1, h2) in z)

pub begins : (text : List ℕ) (n : ℕ) (r : ReaderState) → header_fault text ≡ None → header_size text ≡ Some n
    → r ≡ record { block_type = Some (type_bytes text); fault = None; at = n; partial = [] } → Begins text r (drop n text)
begins text n r good size is =
    let w = whole text n size in
    let c = is_whole text n good size in
    let s = split (drop n text) in
    let start : ReaderState = record { block_type = Some (type_bytes text); fault = None; at = n; partial = [] } in
    let len : length (drop n text) ≡ length text - n = length-drop n text in
    let at_is : at_after start (drop n text) ≡ place (length text) s.1 = ap (λ (k : ℕ). told (n + (k - length s.1))) len
    ∙ begin_at (length text) n (length s.1) w.within (let z = split-within (drop n text) in omega (arith, z, len)) in
    let fault_is : message_fault start (drop n text) ≡ rest_fault (place (length text) s.1) s.1 = ap (λ (k : ℕ). rest_fault k s.1) at_is in
    let state : with_piece start (drop n text) ≡ state_of (length text) (with_messages (length text) (type_bytes text) s) =
    ap (λ (f : Option DbinFault). let q : ReaderState = record { block_type = Some (type_bytes text); fault = f; at = at_after start (drop n text); partial = kept f s.1 } in q) fault_is
    ∙ ap (λ (k : ℕ). let q : ReaderState = record { block_type = Some (type_bytes text); fault = rest_fault (place (length text) s.1) s.1; at = k; partial = kept (rest_fault (place (length text) s.1) s.1) s.1 } in q) at_is in
    subst (λ (q : ReaderState). Begins text q (drop n text)) (sym is) (record {
      messages_are = ap (λ (x : Contents). x.messages) c;
      fault_is = ap (λ (x : Contents). x.fault) c ∙ sym fault_is;
      state_is = state ∙ sym (ap (state_of (length text)) c);
    })

-- ---- a further piece

-- what a reader of a text finds in a further piece
pub record Finds (text piece : List ℕ) (r : ReaderState) : Type 0 where
  pub further : (contents (text ++ piece)).messages ≡ (contents text).messages ++ (found r piece).0
  pub fault_is : (contents (text ++ piece)).fault ≡ message_fault r piece
  pub state_is : with_piece r piece ≡ state_after (text ++ piece)

further_at : (x b rest later : ℕ) → rest ≤ x → later ≤ rest + b → told (told (x - rest) + ((rest + b) - later)) ≡ told ((x + b) - later)
further_at x b rest later h1 h2 = omega (arith, h1, h2)

finds_whole : (text piece : List ℕ) (n : ℕ) → header_fault text ≡ None → header_size text ≡ Some n → (state_after text).fault ≡ None → Finds text piece (state_after text)
finds_whole text piece n good size fine =
    let w = whole text n size in
    let c = is_whole text n good size in
    let sm = same text piece n w in
    let s = split (drop n text) in
    let t = split (s.1 ++ piece) in
    let x = length text in
    let fine' : rest_fault (place x s.1) s.1 ≡ None = sym (ap (λ (y : Contents). y.fault) c) ∙ fine in
    let r : ReaderState = record { block_type = Some (type_bytes text); fault = None; at = place x s.1; partial = s.1 } in
    let state : state_after text ≡ r = ap (state_of x) c ∙ ap (λ (f : Option DbinFault). let q : ReaderState = record { block_type = Some (type_bytes text); fault = f; at = place x s.1; partial = kept f s.1 } in q) fine' in
    let dropped : drop n (text ++ piece) ≡ drop n text ++ piece = drop-append-le n text piece w.within in
    let c' : contents (text ++ piece) ≡ with_messages (length (text ++ piece)) (type_bytes text) (with_front s.0 t) =
    is_whole (text ++ piece) n (sm.fault ∙ good) sm.size
    ∙ ap (λ (l : List ℕ). with_messages (length (text ++ piece)) l (split (drop n (text ++ piece)))) sm.type_is
    ∙ ap (λ (l : List ℕ). with_messages (length (text ++ piece)) (type_bytes text) (split l)) dropped
    ∙ ap (with_messages (length (text ++ piece)) (type_bytes text)) (split-append (drop n text) piece) in
    let s_fits : length s.1 ≤ x = (let z = split-within (drop n text) in omega (arith, z, length-drop n text)) in
    let t_fits : length t.1 ≤ length s.1 + length piece = (let z = split-within (s.1 ++ piece) in omega (arith, z, length-append s.1 piece)) in
    let at_is : at_after r piece ≡ place (length (text ++ piece)) t.1 =
    ap (λ (k : ℕ). told (place x s.1 + (k - length t.1))) (length-append s.1 piece) ∙ further_at x (length piece) (length s.1) (length t.1) s_fits t_fits
    ∙ ap (λ (k : ℕ). told (k - length t.1)) (sym (length-append text piece)) in
    let fault_is : message_fault r piece ≡ rest_fault (place (length (text ++ piece)) t.1) t.1 = ap (λ (k : ℕ). rest_fault k t.1) at_is in
    let done : with_piece r piece ≡ state_of (length (text ++ piece)) (with_messages (length (text ++ piece)) (type_bytes text) (with_front s.0 t)) =
    ap (λ (f : Option DbinFault). let q : ReaderState = record { block_type = Some (type_bytes text); fault = f; at = at_after r piece; partial = kept f t.1 } in q) fault_is
    ∙ ap (λ (k : ℕ). let q : ReaderState = record { block_type = Some (type_bytes text); fault = rest_fault (place (length (text ++ piece)) t.1) t.1; at = k; partial = kept (rest_fault (place (length (text ++ piece)) t.1) t.1) t.1 } in q) at_is in
    subst (λ (q : ReaderState). Finds text piece q) (sym state) (record {
      further = ap (λ (y : Contents). y.messages) c' ∙ ap (λ (y : Contents). y.messages ++ t.0) (sym c);
      fault_is = ap (λ (y : Contents). y.fault) c' ∙ sym fault_is;
      state_is = done ∙ sym (ap (state_of (length (text ++ piece))) c');
    })

-- a reader past its header
pub finds : (text piece : List ℕ) (r : ReaderState) → r ≡ state_after text → r.fault ≡ None → IsTrue (is_some r.block_type) → Finds text piece r
finds text piece r is fine named = by_fault (header_fault text) refl
  where
    named' : IsTrue (is_some (contents text).block_type)
    named' = subst (λ (q : ReaderState). IsTrue (is_some q.block_type)) is named

    fine' : (contents text).fault ≡ None
    fine' = sym (ap (λ (q : ReaderState). q.fault) is) ∙ fine

    by_size : header_fault text ≡ None → (o : Option ℕ) → header_size text ≡ o → Finds text piece r
    by_size good None e = absurd (let c = says text None None good e in let no : IsTrue (is_some (let q : Option (List ℕ) = None in q)) = subst (λ (y : Contents). IsTrue (is_some y.block_type)) c named' in cc)
    by_size good (Some n) e = subst (λ (q : ReaderState). Finds text piece q) (sym is) (finds_whole text piece n good e fine')

    by_fault : (o : Option DbinFault) → header_fault text ≡ o → Finds text piece r
    by_fault None e = by_size e (header_size text) refl
    by_fault (Some f) e = absurd (let b = (is_bad text f e).fault_is in let clash = sym fine' ∙ b in cc)

-- a reader in its header keeps all of its text
pub record Keeps (text : List ℕ) (r : ReaderState) : Type 0 where
  pub messages_are : (contents text).messages ≡ []
  pub partial_is : r.partial ≡ text
  pub header : IsInHeader text
  pub type_is : r.block_type ≡ None
  pub at_is : r.at ≡ 0

pub keeps : (text : List ℕ) (r : ReaderState) → r ≡ state_after text → r.fault ≡ None → is_some r.block_type ≡ false → Keeps text r
keeps text r is fine unnamed = by_fault (header_fault text) refl
  where
    unnamed' : is_some (contents text).block_type ≡ false
    unnamed' = subst (λ (q : ReaderState). is_some q.block_type ≡ false) is unnamed

    fine' : (contents text).fault ≡ None
    fine' = sym (ap (λ (q : ReaderState). q.fault) is) ∙ fine

    by_size : header_fault text ≡ None → (o : Option ℕ) → header_size text ≡ o → Keeps text r
    by_size good None e =
        let cut = is_cut text good e in
        let state = is ∙ cut.state_is in
        record {
          messages_are = cut.messages_are;
          partial_is = ap (λ (q : ReaderState). q.partial) state;
          header = record { good = good; cut = e };
          type_is = ap (λ (q : ReaderState). q.block_type) state;
          at_is = ap (λ (q : ReaderState). q.at) state;
        }
    by_size good (Some n) e = absurd (let c = is_whole text n good e in let no : is_some (let q : Option (List ℕ) = Some (type_bytes text) in q) ≡ false = subst (λ (y : Contents). is_some y.block_type ≡ false) c unnamed' in cc)

    by_fault : (o : Option DbinFault) → header_fault text ≡ o → Keeps text r
    by_fault None e = by_size e (header_size text) refl
    by_fault (Some f) e = absurd (let b = (is_bad text f e).fault_is in let clash = sym fine' ∙ b in cc)

-- all that a text and a piece have is further
pub all_further : (text piece : List ℕ) (r : ReaderState) → Keeps text r → (contents (text ++ piece)).messages ≡ (contents text).messages ++ (contents (text ++ piece)).messages
all_further text piece r k = sym (ap (λ (l : List (List ℕ)). l ++ (contents (text ++ piece)).messages) k.messages_are)

-- all of a text and a piece was read at once, where the text ends in its header
pub read_at_once : (text piece all : List ℕ) (r now : ReaderState) (result : Result Unit DbinFault) (before out : List (List ℕ)) → Keeps text r → all ≡ text ++ piece
    → Answers result (contents all).fault → now ≡ state_after all → GrowsBy before out (contents all).messages → IsRead text piece result now before out
read_at_once text piece all r now result before out k is answer state grows = record {
  answer = subst (λ (l : List ℕ). Answers result (contents l).fault) is answer;
  state = state ∙ ap state_after is;
  more = (contents (text ++ piece)).messages;
  further = all_further text piece r k;
  grows = grows ∙ ap (λ (l : List ℕ). before ++ (contents l).messages) is;
}

-- a reader that begins with the messages after the header
pub start_is : (text : List ℕ) (n : ℕ) (t : List ℕ) (f : Option DbinFault) (l : List ℕ) → t ≡ type_bytes text → f ≡ None → l ≡ []
    → (let r : ReaderState = record { block_type = Some t; fault = f; at = n; partial = l } in r) ≡ record { block_type = Some (type_bytes text); fault = None; at = n; partial = [] }
start_is text n t f l named fine empty =
    ap (λ (x : List ℕ). let q : ReaderState = record { block_type = Some x; fault = f; at = n; partial = l } in q) named
    ∙ ap (λ (x : Option DbinFault). let q : ReaderState = record { block_type = Some (type_bytes text); fault = x; at = n; partial = l } in q) fine
    ∙ ap (λ (x : List ℕ). let q : ReaderState = record { block_type = Some (type_bytes text); fault = None; at = n; partial = x } in q) empty

-- what a reader finds that begins with the messages
pub begins_here : (text rest : List ℕ) (n : ℕ) (t : List ℕ) (f : Option DbinFault) (l : List ℕ) → header_fault text ≡ None → header_size text ≡ Some n
    → t ≡ type_bytes text → f ≡ None → l ≡ [] → rest ≡ drop n text → (let r : ReaderState = record { block_type = Some t; fault = f; at = n; partial = l } in Begins text r rest)
begins_here text rest n t f l good size named fine empty is =
    let r : ReaderState = record { block_type = Some t; fault = f; at = n; partial = l } in
    subst (λ (x : List ℕ). Begins text r x) (sym is) (begins text n r good size (start_is text n t f l named fine empty))

-- ---- no memory

-- a reader past its header that was cut short is cut short after the text that it was fed
pub cut_short_past : (text piece : List ℕ) (r now : ReaderState) (before out : List (List ℕ)) → r ≡ state_after text → r.fault ≡ None → IsTrue (is_some r.block_type)
    → IsCutShortAt r piece now before out → IsCutShort text piece now before out
cut_short_past text piece r now before out is fine named s =
    let f = finds text s.front r is fine named in
    record {
      front = s.front;
      is_front = s.is_front;
      more = (found r s.front).0;
      further = f.further;
      grows = s.grows;
      state = s.state ∙ ap without_memory f.state_is;
    }

-- nothing was taken after a text that ends in its header
pub nothing_taken : (text piece : List ℕ) (t : Option (List ℕ)) (at : ℕ) (out : List (List ℕ)) → IsInHeader text → t ≡ None → at ≡ 0
    → (let r : ReaderState = record { block_type = t; fault = Some Mem; at = at; partial = [] } in IsCutShort text piece r out out)
nothing_taken text piece t at out h named start =
    let cut = is_cut text h.good h.cut in
    let r : ReaderState = record { block_type = t; fault = Some Mem; at = at; partial = [] } in
    let as_new : r ≡ record { block_type = None; fault = Some Mem; at = 0; partial = [] } =
    ap (λ (x : Option (List ℕ)). let q : ReaderState = record { block_type = x; fault = Some Mem; at = at; partial = [] } in q) named
    ∙ ap (λ (n : ℕ). let q : ReaderState = record { block_type = None; fault = Some Mem; at = n; partial = [] } in q) start in
    record {
      front = [];
      is_front = (piece, refl);
      more = [];
      further = ap (λ (l : List ℕ). (contents l).messages) (append-nil text) ∙ sym (append-nil (contents text).messages);
      grows = sym (append-nil out);
      state = as_new ∙ sym (ap without_memory (ap state_after (append-nil text) ∙ cut.state_is));
    }

-- the length of the type is that of every longer text
type_length-append : (text more : List ℕ) → 7 ≤ length text → type_length (text ++ more) ≡ type_length text
type_length-append text more seven =
    ap (from_be_bytes w16) (ap (take 2) (drop-append-le 5 text more (omega (arith, seven))) ∙ take-append-le 2 (drop 5 text) more (omega (arith, seven, length-drop 5 text)))

-- a header that a piece ends is longer than what came before
ends_later : (text piece : List ℕ) (n : ℕ) → header_size text ≡ None → Whole (text ++ piece) n → length text < n
ends_later text piece n none w = elim (cases_lt (length text) n) [
  | inl lt ↦ lt
  | inr le ↦ absurd (let seven : 7 ≤ length text = omega (arith, le, w.size) in
      let size : n ≡ 7 + type_length text = w.size ∙ ap (λ (k : ℕ). 7 + k) (type_length-append text piece seven) in
      let is = size_from text n (record { seven = seven; size = size; within = le }) in
      let clash = sym none ∙ is in
      cc)
]

-- of two fronts of a text the longer one begins with the other
front_past : (text piece longer rest : List ℕ) → text ++ piece ≡ longer ++ rest → length text ≤ length longer
    → (text ++ drop (length text) longer ≡ longer) × (drop (length text) longer ++ rest ≡ piece)
front_past text piece longer rest same fits =
    let k = length text in
    let front : text ≡ take k longer = sym (take_at text piece k refl) ∙ ap (take k) same ∙ take-append-le k longer rest fits in (
      ap (λ (l : List ℕ). l ++ drop k longer) front ∙ take-append-drop k longer,
      sym (drop-append-le k longer rest fits) ∙ ap (drop k) (sym same) ∙ drop_at text piece k refl,
    )

-- a reader that begins with the messages, and is cut short, is cut short in the piece that ended the header
pub cut_short_here : (text before piece tail : List ℕ) (n : ℕ) (r now : ReaderState) (old out : List (List ℕ)) → text ≡ before ++ piece → IsInHeader before → header_fault text ≡ None → header_size text ≡ Some n
    → r ≡ record { block_type = Some (type_bytes text); fault = None; at = n; partial = [] } → tail ≡ drop n text → IsCutShortAt r tail now old out → IsCutShort before piece now old out
cut_short_here text before piece tail n r now old out is h good size state tail_is s =
    let w = whole text n size in
    let part : List ℕ = take n text ++ s.front in
    let rest : List ℕ = s.is_front.0 in
    let whole_is : part ++ rest ≡ text = append_assoc (take n text) s.front rest ∙ ap (λ (l : List ℕ). take n text ++ l) (s.is_front.1 ∙ tail_is) ∙ take-append-drop n text in
    let head : length (take n text) ≡ n = omega (arith, length-take n text, w.within) in
    let long : n ≤ length part = omega (arith, head, length-append (take n text) s.front) in
    let seven : 7 ≤ length part = omega (arith, long, w.size) in
    let typed : type_length text ≡ type_length part = ap type_length (sym whole_is) ∙ type_length-append part rest seven in
    let w' : Whole part n = record { seven = seven; size = w.size ∙ ap (λ (k : ℕ). 7 + k) typed; within = long } in
    let sm = same part rest n w' in
    let good' : header_fault part ≡ None = sym sm.fault ∙ ap header_fault whole_is ∙ good in
    let types : type_bytes text ≡ type_bytes part = ap type_bytes (sym whole_is) ∙ sm.type_is in
    let b = begins part n r good' (size_from part n w') (state ∙ ap (λ (x : List ℕ). let q : ReaderState = record { block_type = Some x; fault = None; at = n; partial = [] } in q) types) in
    let dropped : drop n part ≡ s.front = drop_at (take n text) s.front n head in
    let late = ends_later before piece n h.cut (subst (λ (l : List ℕ). Whole l n) is w) in
    let f = front_past before piece part rest (sym is ∙ sym whole_is) (omega (arith, late, long)) in
    let cut = is_cut before h.good h.cut in
    record {
      front = drop (length before) part;
      is_front = (rest, f.1);
      more = (found r s.front).0;
      further = ap (λ (l : List ℕ). (contents l).messages) f.0 ∙ b.messages_are ∙ ap (λ (l : List ℕ). (found r l).0) dropped ∙ sym (ap (λ (l : List (List ℕ)). l ++ (found r s.front).0) cut.messages_are);
      grows = s.grows;
      state = s.state ∙ ap (λ (l : List ℕ). without_memory (with_piece r l)) (sym dropped) ∙ ap without_memory b.state_is ∙ ap (λ (l : List ℕ). without_memory (state_after l)) (sym f.0);
    }

-- ---- the type

-- the bytes after the first seven of a header are its type
pub type_text : (text h t : List ℕ) (n : ℕ) → Whole text n → h ≡ take n text → t ≡ take (length h - 7) (drop 7 h) → t ≡ type_bytes text
type_text text h t n w front is =
    is ∙ take_rest h 7 ∙ ap (drop 7) (front ∙ ap (λ (k : ℕ). take k text) w.size) ∙ drop-take 7 (type_length text) text

-- where no element passes a test, each stands before the first that does
pub none_before : {A : Type 0} (p : A → Bool) (l : List A) → position p l ≡ None → length l ≤ position_or_len p l
none_before p l none = by_test (ltb (position_or_len p l) (length l)) refl none
  where
    by_test : (t : Bool) → ltb (position_or_len p l) (length l) ≡ t → cond t (Some (position_or_len p l)) None ≡ None → length l ≤ position_or_len p l
    by_test true e none = absurd cc
    by_test false e none = ltb-false _ _ e

all_shown : (l : List ℕ) → length l ≤ position_or_len is_hidden l → list_all is_visible_byte l ≡ true
all_shown [] none = refl
all_shown (b ∷ l) none = by_test (all_shown l) (is_visible_byte b) refl
  where
    by_test : (length l ≤ position_or_len is_hidden l → list_all is_visible_byte l ≡ true) → (t : Bool) → is_visible_byte b ≡ t → list_all is_visible_byte (b ∷ l) ≡ true
    by_test more true e = and_from _ _ e (more (let n = rw e at none in omega (arith, n)))
    by_test more false e = absurd (let n = rw e at none in omega (arith, n))

none_hidden : (l : List ℕ) → position is_hidden l ≡ None → list_all is_visible_byte l ≡ true
none_hidden l none = all_shown l (none_before is_hidden l none)

pub first_none : (o : Option DbinFault) (more : List (Option DbinFault)) → first_of (o ∷ more) ≡ None → (o ≡ None) × (first_of more ≡ None)
first_none None more e = (refl, e)
first_none (Some f) more e = absurd cc

mapped_none : (o : Option ℕ) → option_map (λ i. NotDbin (7 + i)) o ≡ None → o ≡ None
mapped_none None e = refl
mapped_none (Some i) e = absurd cc

-- the type of a good header that is all there is one
pub typed : (text : List ℕ) (n : ℕ) → header_fault text ≡ None → Whole text n → is_type_text (type_bytes text) ≡ true
unfolding header_fault
typed text n good w =
    let a = first_none (mark_fault text) (version_fault text ∷ length_fault text ∷ type_fault text ∷ []) good in
    let b = first_none (version_fault text) (length_fault text ∷ type_fault text ∷ []) a.1 in
    let c = first_none (length_fault text) (type_fault text ∷ []) b.1 in
    let d = first_none (type_fault text) [] c.1 in
    let seven : ltb (length text) 7 ≡ false = le-ltb _ _ w.seven in
    let k = type_length text in
    let fits : k ≤ length (drop 7 text) = omega (arith, w.size, w.within, length-drop 7 text) in
    let len : length (type_bytes text) ≡ k = omega (arith, length-take k (drop 7 text), fits) in
    let bounds : (0 < k) × (k < 256) = by_seven (ltb (length text) 7) seven c.0 in
    let visible = none_hidden (type_bytes text) (mapped_none (position is_hidden (type_bytes text)) d.0) in
    let some : 0 < length (type_bytes text) = omega (arith, len, bounds.0) in
    let few : length (type_bytes text) ≤ 255 = omega (arith, len, bounds.1) in
    and_from _ _ (and_from _ _ (lt-ltb _ _ some) (le-leb _ _ few)) visible
  where
    by_range : (t : Bool) → (ltb 0 (type_length text) && ltb (type_length text) 256) ≡ t → cond t None (Some (NotDbin 5)) ≡ None → (0 < type_length text) × (type_length text < 256)
    by_range true e none =
        let p : (ltb 0 (type_length text) ≡ true) × (ltb (type_length text) 256 ≡ true) = and_parts _ _ e in
        (ltb-true _ _ p.0, ltb-true _ _ p.1)
    by_range false e none = absurd cc

    by_seven : (t : Bool) → t ≡ false → cond t None (cond (ltb 0 (type_length text) && ltb (type_length text) 256) None (Some (NotDbin 5))) ≡ None → (0 < type_length text) × (type_length text < 256)
    by_seven true e none = absurd cc
    by_seven false e none = by_range (ltb 0 (type_length text) && ltb (type_length text) 256) refl none
