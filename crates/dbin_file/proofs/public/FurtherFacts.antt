-- What a text says stays with a further piece.
use Rattle.std.proofs.Common.{arith, ◌≡◌, ◌≤◌, ◌+◌, ℕ, zero, suc, Bool, true, false, List, [], ◌∷◌, ◌++◌, length, drop, Option, Some, None, refl, sym, ap, ◌∙◌, length-append, length-drop, length-take}
use Rattle.std.specs.List.{flat_map}
use Rattle.std.specs.Int.{w32, to_be_bytes}
use Rattle.std.proofs.lemmas.List.Concat.{flat_map-cons}
use Rattle.std.specs.Option.{is_some}
use Rattle.std.proofs.lemmas.List.{append-nil}
use Rattle.dbin_file.specs.declared.faults.DbinFault.{DbinFault}
use Rattle.dbin_file.specs.Header.{type_bytes, header_fault, header_size}
use Rattle.dbin_file.specs.Messages.{message_text, message_length, has_message, first_message, Split, onto, split_after, split}
use Rattle.dbin_file.specs.Contents.{Contents, contents}
use Rattle.dbin_file.specs.Reader.{ReaderState, state_after, found, AreFurther}
use Rattle.dbin_file.proofs.MessageFacts.{has}
use Rattle.dbin_file.proofs.HeaderFacts.{whole, same, is_bad, is_cut, is_whole, finds}
use Rattle.dbin_file.proofs.StopFacts.{stopped}

-- no text has no messages
pub no_messages : (contents []).messages ≡ []
unfolding header_fault header_size
no_messages = refl

-- with a further piece a text has its type and its messages, and more of them
pub record GoesOn (text piece : List ℕ) : Type 0 where
  pub more : List (List ℕ)
  pub further : AreFurther text piece more
  pub typed : (block_type : List ℕ) → (contents text).block_type ≡ Some block_type → (contents (text ++ piece)).block_type ≡ Some block_type

module _ (text piece : List ℕ) where
  -- it has none of its own
  untyped : (contents text).messages ≡ [] → (contents text).block_type ≡ None → GoesOn text piece
  untyped none no_type = record {
    more = (contents (text ++ piece)).messages;
    further = sym (ap (λ (l : List (List ℕ)). l ++ (contents (text ++ piece)).messages) none);
    typed = λ block_type typed. absurd (let clash = sym no_type ∙ typed in cc clash);
  }

  -- its header is whole
  headed : (n : ℕ) → header_fault text ≡ None → header_size text ≡ Some n → GoesOn text piece
  headed n good size = by_fault (contents text).fault refl
    where
      typed_is : (contents text).block_type ≡ Some (type_bytes text)
      typed_is = ap (λ (c : Contents). c.block_type) (is_whole text n good size)

      same_type : (contents (text ++ piece)).block_type ≡ (contents text).block_type
      same_type =
          let sm = same text piece n (whole text n size) in
          ap (λ (c : Contents). c.block_type) (is_whole (text ++ piece) n (sm.fault ∙ good) sm.size)
          ∙ ap (λ (l : List ℕ). let o : Option (List ℕ) = Some l in o) sm.type_is ∙ sym typed_is

      by_fault : (o : Option DbinFault) → (contents text).fault ≡ o → GoesOn text piece
      by_fault None fine = record {
        more = (found (state_after text) piece).0;
        further = (finds text piece (state_after text) refl fine (ap (λ (o : Option (List ℕ)). is_some o) typed_is)).further;
        typed = λ block_type typed. same_type ∙ typed;
      }
      by_fault (Some f) bad = record {
        more = [];
        further = (stopped text piece f bad).messages_are ∙ sym (append-nil (contents text).messages);
        typed = λ block_type typed. same_type ∙ typed;
      }

  pub goes_on : GoesOn text piece
  goes_on = by_header (header_fault text) refl
    where
      by_size : header_fault text ≡ None → (o : Option ℕ) → header_size text ≡ o → GoesOn text piece
      by_size good None e = let c = is_cut text good e in untyped c.messages_are (ap (λ (r : ReaderState). r.block_type) c.state_is)
      by_size good (Some n) e = headed n good e

      by_header : (o : Option DbinFault) → header_fault text ≡ o → GoesOn text piece
      by_header None e = by_size e (header_size text) refl
      by_header (Some f) e = let b = is_bad text f e in untyped b.messages_are (ap (λ (r : ReaderState). r.block_type) b.state_is)

  -- a text with a fault says all that it says with a further piece
  pub stands : (f : DbinFault) → (contents text).fault ≡ Some f → ((contents (text ++ piece)).messages ≡ (contents text).messages) × (state_after (text ++ piece) ≡ state_after text)
  stands f bad = let s = stopped text piece f bad in (s.messages_are, s.state_is)

-- a text with a message has a type
pub typed_by : (text m : List ℕ) (more : List (List ℕ)) → (contents text).messages ≡ m ∷ more → (block_type : List ℕ) × ((contents text).block_type ≡ Some block_type)
typed_by text m more some = by_header (header_fault text) refl
  where
    by_size : header_fault text ≡ None → (o : Option ℕ) → header_size text ≡ o → (block_type : List ℕ) × ((contents text).block_type ≡ Some block_type)
    by_size good None e = absurd (let c = (is_cut text good e).messages_are in let clash = sym c ∙ some in cc clash)
    by_size good (Some n) e = (type_bytes text, ap (λ (c : Contents). c.block_type) (is_whole text n good e))

    by_header : (o : Option DbinFault) → header_fault text ≡ o → (block_type : List ℕ) × ((contents text).block_type ≡ Some block_type)
    by_header None e = by_size e (header_size text) refl
    by_header (Some f) e = absurd (let b = (is_bad text f e).messages_are in let clash = sym b ∙ some in cc clash)

-- ---- how long messages are

message_and : (k : ℕ) (m rest : List ℕ) → length ((to_be_bytes w32 k ++ m) ++ rest) ≡ 4 + length m + length rest
message_and k m rest = omega (arith, length-append (to_be_bytes w32 k ++ m) rest, length-append (to_be_bytes w32 k) m)

-- the messages that some bytes begin with take no more bytes than there are
split_fits : (n : ℕ) (bytes : List ℕ) → n ≤ length bytes → length (flat_map message_text (split_after n bytes).0) + n ≤ length bytes
split_fits zero [] fits = omega arith
split_fits (suc n) [] fits = absurd (omega (arith, fits))
split_fits (suc n) (b ∷ bytes) fits = let more = split_fits n bytes (omega (arith, fits)) in omega (arith, more)
split_fits zero (b ∷ bytes) fits = by_test (λ n within. split_fits n bytes within) (has_message (b ∷ bytes)) refl
  where
    by_test : ((n : ℕ) → n ≤ length bytes → length (flat_map message_text (split_after n bytes).0) + n ≤ length bytes) → (t : Bool) → has_message (b ∷ bytes) ≡ t
        → length (flat_map message_text (split_after 0 (b ∷ bytes)).0) + 0 ≤ length (b ∷ bytes)
    by_test more true e =
        let h = has (b ∷ bytes) e in
        let n = message_length (b ∷ bytes) in
        let m : List ℕ = first_message (b ∷ bytes) in
        let s = split_after (3 + n) bytes in
        let later = more (3 + n) (omega (arith, h.whole)) in
        let size : length m ≤ n = omega (arith, length-take n (drop 4 (b ∷ bytes))) in
        let here : split_after 0 (b ∷ bytes) ≡ onto m s = rw e refl in
        let total : length (flat_map message_text (split_after 0 (b ∷ bytes)).0) ≡ 4 + length m + length (flat_map message_text s.0) =
        ap (λ (p : Split). length (flat_map message_text p.0)) here ∙ ap length (flat_map-cons message_text m s.0) ∙ message_and (length m) m (flat_map message_text s.0) in
        omega (arith, total, size, later)
    by_test more false e = rw e (omega arith)

-- the messages of a text take no more bytes than it has
pub messages_fit : (text : List ℕ) → length (flat_map message_text (contents text).messages) ≤ length text
messages_fit text = by_header (header_fault text) refl
  where
    none : (contents text).messages ≡ [] → length (flat_map message_text (contents text).messages) ≤ length text
    none e = rw e (omega arith)

    by_size : header_fault text ≡ None → (o : Option ℕ) → header_size text ≡ o → length (flat_map message_text (contents text).messages) ≤ length text
    by_size good None e = none (is_cut text good e).messages_are
    by_size good (Some n) e =
        let c : (contents text).messages ≡ (split (drop n text)).0 = ap (λ (c : Contents). c.messages) (is_whole text n good e) in
        let all = split_fits 0 (drop n text) (omega arith) in
        let same : length (flat_map message_text (contents text).messages) ≡ length (flat_map message_text (split (drop n text)).0) = ap (λ (l : List (List ℕ)). length (flat_map message_text l)) c in
        omega (arith, same, all, length-drop n text)

    by_header : (o : Option DbinFault) → header_fault text ≡ o → length (flat_map message_text (contents text).messages) ≤ length text
    by_header None e = by_size e (header_size text) refl
    by_header (Some f) e = none (is_bad text f e).messages_are
