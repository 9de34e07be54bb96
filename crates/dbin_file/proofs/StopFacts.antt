-- A fault that stays with a further piece.
use Rattle.std.proofs.Common.{◌≡◌, ℕ, zero, suc, ◌+◌, ◌-◌, ◌≤◌, ◌<◌, Bool, true, false, cond, ltb, List, [], ◌∷◌, ◌++◌, length, take, drop, refl, sym, ap, ◌∙◌, arith, length-append, length-drop, Option, Some, None, Result, Err}
use Rattle.std.specs.Prelude.{codes}
use Rattle.std.specs.Option.{option_map}
use Rattle.std.specs.List.{position, position_or_len, zip}
use Rattle.std.proofs.lemmas.Bool.{le-ltb, ltb-false, ltb-true, lt-ltb}
use Rattle.std.proofs.lemmas.List.{drop-append-le, append-nil}
use Rattle.dbin_file.specs.declared.faults.DbinFault.{DbinFault}
use Rattle.dbin_file.specs.declared.faults.DbinFault.TheVariants.{NotDbin, MessageTooLong, Mem}
use Rattle.dbin_file.specs.Header.{type_length, type_bytes, mark_fault, version_fault, length_fault, type_fault, first_of, header_fault, header_size, is_hidden, is_other}
use Rattle.dbin_file.specs.Messages.{message_length, is_too_long, split}
use Rattle.dbin_file.specs.Contents.{Contents, contents, with_messages, told, place, rest_fault}
use Rattle.dbin_file.specs.Reader.{ReaderState, kept, state_of, state_after, without_memory, IsRead, IsCutShort}
use Rattle.dbin_file.proofs.MessageFacts.{with_front, split-append, split-within, split-too_long, too_long, too_long-append, message_length-append}
use Rattle.dbin_file.proofs.PieceFacts.{rest_bad, answers}
use Rattle.dbin_file.proofs.HeaderFacts.{whole, same, is_bad, is_cut, is_whole}

-- ---- places

first_stays : {X : Type 0} (p : X → Bool) (xs ys : List X) → position_or_len p xs < length xs → position_or_len p (xs ++ ys) ≡ position_or_len p xs
first_stays p [] ys within = absurd (omega (arith, within))
first_stays {X} p (x ∷ xs) ys within = by_test (first_stays p xs ys) (p x) refl
  where
    by_test : (position_or_len p xs < length xs → position_or_len p (xs ++ ys) ≡ position_or_len p xs) → (t : Bool) → p x ≡ t → position_or_len p (x ∷ (xs ++ ys)) ≡ position_or_len p (x ∷ xs)
    by_test more true e = rw e refl
    by_test more false e = rw e (ap (λ n. 1 + n) (more (let l = rw e at within in omega (arith, l))))

position_stays : {X : Type 0} (p : X → Bool) (xs ys : List X) (i : ℕ) → position p xs ≡ Some i → position p (xs ++ ys) ≡ Some i
position_stays {X} p xs ys i found = by_test (ltb (position_or_len p xs) (length xs)) refl found
  where
    by_test : (t : Bool) → ltb (position_or_len p xs) (length xs) ≡ t → cond t (Some (position_or_len p xs)) None ≡ Some i → position p (xs ++ ys) ≡ Some i
    by_test true e found =
        let within : position_or_len p xs < length xs = ltb-true _ _ e in
        let stays : position_or_len p (xs ++ ys) ≡ position_or_len p xs = first_stays p xs ys within in
        let still : position_or_len p (xs ++ ys) < length (xs ++ ys) = omega (arith, stays, within, length-append xs ys) in
        let t : ltb (position_or_len p (xs ++ ys)) (length (xs ++ ys)) ≡ true = lt-ltb _ _ still in
        rw t (ap (λ (n : ℕ). let o : Option ℕ = Some n in o) stays ∙ found)
    by_test false e found = absurd cc

zip_more : (xs ys ms : List ℕ) → (more : List (ℕ × ℕ)) × (zip (xs ++ ys) ms ≡ zip xs ms ++ more)
zip_more [] ys ms = (zip ys ms, refl)
zip_more (x ∷ xs) ys [] = ([], refl)
zip_more (x ∷ xs) ys (m ∷ ms) = let t = zip_more xs ys ms in (t.0, ap (λ l. (x, m) ∷ l) t.1)

take_more : (k : ℕ) (xs ys : List ℕ) → (more : List ℕ) × (take k (xs ++ ys) ≡ take k xs ++ more)
take_more zero xs ys = ([], refl)
take_more (suc k) [] ys = (take (suc k) ys, refl)
take_more (suc k) (x ∷ xs) ys = let t = take_more k xs ys in (t.0, ap (λ l. x ∷ l) t.1)

mapped_some : (f : ℕ → DbinFault) (o : Option ℕ) (g : DbinFault) → option_map f o ≡ Some g → (i : ℕ) × (o ≡ Some i)
mapped_some f None g e = absurd cc
mapped_some f (Some i) g e = (i, refl)

-- ---- the header

mark_stays : (text piece : List ℕ) (f : DbinFault) → mark_fault text ≡ Some f → mark_fault (text ++ piece) ≡ Some f
mark_stays text piece f bad =
    let m = mapped_some NotDbin (position is_other (zip text (codes "dbin"))) f bad in
    let z = zip_more text piece (codes "dbin") in
    ap (λ (l : List (ℕ × ℕ)). option_map NotDbin (position is_other l)) z.1
    ∙ ap (option_map NotDbin) (position_stays is_other (zip text (codes "dbin")) z.0 m.0 m.1 ∙ sym m.1) ∙ bad

-- the version is there
record HasFive (text piece : List ℕ) : Type 0 where
  mark : mark_fault (text ++ piece) ≡ mark_fault text
  version : version_fault (text ++ piece) ≡ version_fault text

has_five : (text piece : List ℕ) (f : DbinFault) → version_fault text ≡ Some f → HasFive text piece
has_five [] piece f bad = absurd cc
has_five (a ∷ []) piece f bad = absurd cc
has_five (a ∷ b ∷ []) piece f bad = absurd cc
has_five (a ∷ b ∷ c ∷ []) piece f bad = absurd cc
has_five (a ∷ b ∷ c ∷ d ∷ []) piece f bad = absurd cc
has_five (a ∷ b ∷ c ∷ d ∷ e ∷ rest) piece f bad = record { mark = refl; version = refl }

-- the type's length is there
record HasSeven (text piece : List ℕ) : Type 0 where
  mark : mark_fault (text ++ piece) ≡ mark_fault text
  version : version_fault (text ++ piece) ≡ version_fault text
  length_is : length_fault (text ++ piece) ≡ length_fault text
  more : List ℕ
  types : type_bytes (text ++ piece) ≡ type_bytes text ++ more

has_seven : (text piece : List ℕ) → 7 ≤ length text → HasSeven text piece
has_seven [] piece seven = absurd (omega (arith, seven))
has_seven (a ∷ []) piece seven = absurd (omega (arith, seven))
has_seven (a ∷ b ∷ []) piece seven = absurd (omega (arith, seven))
has_seven (a ∷ b ∷ c ∷ []) piece seven = absurd (omega (arith, seven))
has_seven (a ∷ b ∷ c ∷ d ∷ []) piece seven = absurd (omega (arith, seven))
has_seven (a ∷ b ∷ c ∷ d ∷ e ∷ []) piece seven = absurd (omega (arith, seven))
has_seven (a ∷ b ∷ c ∷ d ∷ e ∷ f ∷ []) piece seven = absurd (omega (arith, seven))
has_seven (a ∷ b ∷ c ∷ d ∷ e ∷ f ∷ g ∷ rest) piece seven =
    let text : List ℕ = a ∷ b ∷ c ∷ d ∷ e ∷ f ∷ g ∷ rest in
    let long : ltb (length (text ++ piece)) 7 ≡ false = le-ltb _ _ (omega (arith, length-append rest piece)) in
    let short : ltb (length text) 7 ≡ false = le-ltb _ _ (omega arith) in
    let t = take_more (type_length text) rest piece in
    record { mark = refl; version = refl; length_is = rw (long, short) refl; more = t.0; types = t.1 }

length_there : (text : List ℕ) (f : DbinFault) → length_fault text ≡ Some f → 7 ≤ length text
length_there text f bad = by_test (ltb (length text) 7) refl
  where
    by_test : (t : Bool) → ltb (length text) 7 ≡ t → 7 ≤ length text
    by_test true e = absurd (let none : length_fault text ≡ None = rw e refl in let clash = sym none ∙ bad in cc)
    by_test false e = ltb-false _ _ e

-- a byte of the type is there
drop_all : (n : ℕ) (l : List ℕ) → length l ≤ n → drop n l ≡ []
drop_all zero [] fits = refl
drop_all (suc n) [] fits = refl
drop_all zero (b ∷ l) fits = absurd (omega (arith, fits))
drop_all (suc n) (b ∷ l) fits = drop_all n l (omega (arith, fits))

take_none : (n : ℕ) → take {A = ℕ} n [] ≡ []
take_none zero = refl
take_none (suc n) = refl

type_there : (text : List ℕ) (f : DbinFault) → type_fault text ≡ Some f → 7 ≤ length text
type_there text f bad = by_test (ltb (length text) 7) refl
  where
    empty : ltb (length text) 7 ≡ true → type_bytes text ≡ []
    empty e = ap (take (type_length text)) (drop_all 7 text (let l = ltb-true _ _ e in omega (arith, l))) ∙ take_none (type_length text)

    by_test : (t : Bool) → ltb (length text) 7 ≡ t → 7 ≤ length text
    by_test true e = absurd (let none : type_fault text ≡ None = ap (λ (l : List ℕ). option_map (λ i. NotDbin (7 + i)) (position is_hidden l)) (empty e) in let clash = sym none ∙ bad in cc)
    by_test false e = ltb-false _ _ e

type_stays : (text piece more : List ℕ) (f : DbinFault) → type_bytes (text ++ piece) ≡ type_bytes text ++ more → type_fault text ≡ Some f → type_fault (text ++ piece) ≡ Some f
type_stays text piece more f types bad =
    let m = mapped_some (λ i. NotDbin (7 + i)) (position is_hidden (type_bytes text)) f bad in
    ap (λ (l : List ℕ). option_map (λ i. NotDbin (7 + i)) (position is_hidden l)) types
    ∙ ap (option_map (λ i. NotDbin (7 + i))) (position_stays is_hidden (type_bytes text) more m.0 m.1 ∙ sym m.1) ∙ bad

-- the first fault of a header is that of a longer text too
pub header_stays : (text piece : List ℕ) (f : DbinFault) → header_fault text ≡ Some f → header_fault (text ++ piece) ≡ Some f
unfolding header_fault
header_stays text piece f bad = by_mark (mark_fault text) refl bad
  where
    by_length : (o : Option DbinFault) → mark_fault text ≡ None → version_fault text ≡ None → length_fault text ≡ o → first_of (o ∷ type_fault text ∷ []) ≡ Some f
        → first_of (mark_fault (text ++ piece) ∷ version_fault (text ++ piece) ∷ length_fault (text ++ piece) ∷ type_fault (text ++ piece) ∷ []) ≡ Some f
    by_length (Some g) em ev el bad =
        let h = has_seven text piece (length_there text g el) in
        let m = h.mark ∙ em in
        let v = h.version ∙ ev in
        let l = h.length_is ∙ el in
        rw (m, v, l) bad
    by_length None em ev el bad =
        let typed : type_fault text ≡ Some f = only (type_fault text) bad in
        let h = has_seven text piece (type_there text f typed) in
        let m = h.mark ∙ em in
        let v = h.version ∙ ev in
        let l = h.length_is ∙ el in
        let t = type_stays text piece h.more f h.types typed in
        rw (m, v, l, t) refl
      where
        only : (o : Option DbinFault) → first_of (o ∷ []) ≡ Some f → o ≡ Some f
        only None e = absurd cc
        only (Some g) e = e

    by_version : (o : Option DbinFault) → mark_fault text ≡ None → version_fault text ≡ o → first_of (o ∷ length_fault text ∷ type_fault text ∷ []) ≡ Some f
        → first_of (mark_fault (text ++ piece) ∷ version_fault (text ++ piece) ∷ length_fault (text ++ piece) ∷ type_fault (text ++ piece) ∷ []) ≡ Some f
    by_version (Some g) em ev bad =
        let h = has_five text piece g ev in
        let m = h.mark ∙ em in
        let v = h.version ∙ ev in
        rw (m, v) bad
    by_version None em ev bad = by_length (length_fault text) em ev refl bad

    by_mark : (o : Option DbinFault) → mark_fault text ≡ o → first_of (o ∷ version_fault text ∷ length_fault text ∷ type_fault text ∷ []) ≡ Some f
        → first_of (mark_fault (text ++ piece) ∷ version_fault (text ++ piece) ∷ length_fault (text ++ piece) ∷ type_fault (text ++ piece) ∷ []) ≡ Some f
    by_mark (Some g) em bad =
        let m = mark_stays text piece g em in
        rw m bad
    by_mark None em bad = by_version (version_fault text) em refl bad

-- ---- all of a text

-- a text with a fault says the same with a further piece, but for what follows its messages
pub record Stopped (text piece : List ℕ) (f : DbinFault) : Type 0 where
  pub messages_are : (contents (text ++ piece)).messages ≡ (contents text).messages
  pub fault_is : (contents (text ++ piece)).fault ≡ Some f
  pub state_is : state_after (text ++ piece) ≡ state_after text

stops_at : (x b rest : ℕ) → rest ≤ x → told ((x + b) - (rest + b)) ≡ told (x - rest)
stops_at x b rest within = ap told (let z : (x + b) - (rest + b) ≡ x - rest = omega (arith, within) in z)

stopped_whole : (text piece : List ℕ) (n : ℕ) (f : DbinFault) → header_fault text ≡ None → header_size text ≡ Some n → (contents text).fault ≡ Some f → Stopped text piece f
stopped_whole text piece n f good size bad =
    let w = whole text n size in
    let c = is_whole text n good size in
    let sm = same text piece n w in
    let s = split (drop n text) in
    let x = length text in
    let faulty : rest_fault (place x s.1) s.1 ≡ Some f = sym (ap (λ (y : Contents). y.fault) c) ∙ bad in
    let long : is_too_long s.1 ≡ true = rest_bad (place x s.1) s.1 f faulty in
    let longer : is_too_long (s.1 ++ piece) ≡ true = too_long-append s.1 piece long in
    let fits : length s.1 ≤ x = (let z = split-within (drop n text) in omega (arith, z, length-drop n text)) in
    let all : split (drop n (text ++ piece)) ≡ (s.0 ++ [], s.1 ++ piece) =
    ap split (drop-append-le n text piece w.within) ∙ split-append (drop n text) piece ∙ ap (with_front s.0) (split-too_long (s.1 ++ piece) longer) in
    let total = length (text ++ piece) in
    let c' : contents (text ++ piece) ≡ with_messages total (type_bytes text) (s.0 ++ [], s.1 ++ piece) =
    is_whole (text ++ piece) n (sm.fault ∙ good) sm.size
    ∙ ap (λ (l : List ℕ). with_messages total l (split (drop n (text ++ piece)))) sm.type_is
    ∙ ap (with_messages total (type_bytes text)) all in
    let at_is : place total (s.1 ++ piece) ≡ place x s.1 =
    ap (λ (k : ℕ). told (k - length (s.1 ++ piece))) (length-append text piece) ∙ ap (λ (k : ℕ). told ((x + length piece) - k)) (length-append s.1 piece) ∙ stops_at x (length piece) (length s.1) fits in
    let same_length : message_length (s.1 ++ piece) ≡ message_length s.1 = message_length-append s.1 piece (too_long s.1 long).0 in
    let one : rest_fault (place x s.1) s.1 ≡ Some (MessageTooLong (place x s.1) (message_length s.1)) = rw long refl in
    let two : rest_fault (place x s.1) (s.1 ++ piece) ≡ Some (MessageTooLong (place x s.1) (message_length s.1)) = rw longer (ap (λ (k : ℕ). Some (MessageTooLong (place x s.1) k)) same_length) in
    let fault_is : rest_fault (place total (s.1 ++ piece)) (s.1 ++ piece) ≡ Some f = ap (λ (k : ℕ). rest_fault k (s.1 ++ piece)) at_is ∙ two ∙ sym one ∙ faulty in
    let state' : state_after (text ++ piece) ≡ record { block_type = Some (type_bytes text); fault = Some f; at = place x s.1; partial = [] } =
    ap (state_of total) c'
    ∙ ap (λ (g : Option DbinFault). let q : ReaderState = record { block_type = Some (type_bytes text); fault = g; at = place total (s.1 ++ piece); partial = kept g (s.1 ++ piece) } in q) fault_is
    ∙ ap (λ (k : ℕ). let q : ReaderState = record { block_type = Some (type_bytes text); fault = Some f; at = k; partial = [] } in q) at_is in
    let state : state_after text ≡ record { block_type = Some (type_bytes text); fault = Some f; at = place x s.1; partial = [] } =
    ap (state_of x) c ∙ ap (λ (g : Option DbinFault). let q : ReaderState = record { block_type = Some (type_bytes text); fault = g; at = place x s.1; partial = kept g s.1 } in q) faulty in
    record {
      messages_are = ap (λ (y : Contents). y.messages) c' ∙ append-nil s.0 ∙ sym (ap (λ (y : Contents). y.messages) c);
      fault_is = ap (λ (y : Contents). y.fault) c' ∙ fault_is;
      state_is = state' ∙ sym state;
    }

pub stopped : (text piece : List ℕ) (f : DbinFault) → (contents text).fault ≡ Some f → Stopped text piece f
stopped text piece f bad = by_fault (header_fault text) refl
  where
    by_size : header_fault text ≡ None → (o : Option ℕ) → header_size text ≡ o → Stopped text piece f
    by_size good None e = absurd (let fine = (is_cut text good e).fault_is in let clash = sym fine ∙ bad in cc)
    by_size good (Some n) e = stopped_whole text piece n f good e bad

    by_fault : (o : Option DbinFault) → header_fault text ≡ o → Stopped text piece f
    by_fault None e = by_size e (header_size text) refl
    by_fault (Some g) e =
        let one = is_bad text g e in
        let two = is_bad (text ++ piece) g (header_stays text piece g e) in
        record {
          messages_are = two.messages_are ∙ sym one.messages_are;
          fault_is = two.fault_is ∙ sym one.fault_is ∙ bad;
          state_is = two.state_is ∙ sym one.state_is;
        }

-- a reader that has stopped
pub stays_stopped : (text piece : List ℕ) (r : ReaderState) (f : DbinFault) (result : Result Unit DbinFault) (out : List (List ℕ)) → r ≡ state_after text → r.fault ≡ Some f
    → result ≡ Err f → IsRead text piece result r out out
stays_stopped text piece r f result out is bad said =
    let s = stopped text piece f (sym (ap (λ (q : ReaderState). q.fault) is) ∙ bad) in
    record {
      answer = answers result f (contents (text ++ piece)).fault said s.fault_is;
      state = is ∙ sym s.state_is;
      more = [];
      further = s.messages_are ∙ sym (append-nil (contents text).messages);
      grows = sym (append-nil out);
    }

-- a reader that has stopped for want of memory
pub stays_cut_short : (text piece : List ℕ) (r : ReaderState) (out : List (List ℕ)) → r ≡ state_after text → r.fault ≡ Some Mem → IsCutShort text piece r out out
stays_cut_short text piece r out is bad =
    let c = contents text in
    let bad' : c.fault ≡ Some Mem = sym (ap (λ (q : ReaderState). q.fault) is) ∙ bad in
    let kept_is : state_after text ≡ without_memory (state_after text) =
    ap (λ (f : Option DbinFault). let q : ReaderState = record { block_type = c.block_type; fault = f; at = place (length text) c.rest; partial = kept f c.rest } in q) bad' in
    record {
      front = [];
      is_front = (piece, refl);
      more = [];
      further = ap (λ (l : List ℕ). (contents l).messages) (append-nil text) ∙ sym (append-nil c.messages);
      grows = sym (append-nil out);
      state = is ∙ kept_is ∙ ap (λ (l : List ℕ). without_memory (state_after l)) (sym (append-nil text));
    }
