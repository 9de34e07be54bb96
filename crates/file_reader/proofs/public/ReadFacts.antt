-- What the messages that were read say of the whole file.
use Rattle.std.proofs.Common.{arith, ◌≡◌, ◌≤◌, ◌<◌, ◌^◌, ℕ, IsTrue, List, [], ◌∷◌, ◌++◌, length, Option, Some, None, inl, inr, refl, sym, ap, ◌∙◌, append_assoc, length-append}
use Rattle.std.specs.List.{flat_map}
use Rattle.std.specs.Int.{w32, to_be_bytes}
use Rattle.std.proofs.lemmas.List.Concat.{flat_map-cons}
use Rattle.std.specs.Option.{is_some}
use Rattle.std.proofs.lemmas.List.{append-nil}
use Rattle.outer_world.specs.Files.{Files}
use Rattle.dbin_file.specs.declared.faults.DbinFault.{DbinFault}
use Rattle.dbin_file.specs.Messages.{message_text}
use Rattle.dbin_file.specs.Contents.{contents}
use Rattle.dbin_file.specs.Reader.{ReaderState, state_after, end_fault}
use Rattle.dbin_file.proofs.public.FurtherFacts.{goes_on, messages_fit, stands, typed_by}
use Rattle.file_reader.specs.Reading.{FileState, bytes_of, HasText, HasFront, IsLast, HasRead, IsNextIn, IsAll}

-- a file that begins with a text has a text that goes on with a piece
whole_of : (files : Option Files) (name front : List ℕ) → HasFront files name front → (piece : List ℕ) × HasText files name (front ++ piece)
whole_of None name front h = ([], tt)
whole_of (Some files) name front h = (h.0, sym h.1)

-- the type is known once a message was read, and stays
pub same_type : (files : Option Files) (old new : FileState) (front more : List ℕ) (given given' : List (List ℕ)) (block_type : List ℕ)
    → HasRead files old front given → HasRead files new (front ++ more) given' → old.reader.block_type ≡ Some block_type → new.reader.block_type ≡ Some block_type
same_type files old new front more given given' block_type a b typed =
    ap (λ (r : ReaderState). r.block_type) b.state ∙ (goes_on front more).typed block_type (ap (λ (r : ReaderState). r.block_type) (sym a.state) ∙ typed)

-- a reader at a message has read the type
pub type_read : (files : Option Files) (r : FileState) (front m : List ℕ) (given left : List (List ℕ)) → HasRead files r front given → r.left ≡ m ∷ left
    → (block_type : List ℕ) × (r.reader.block_type ≡ Some block_type)
type_read files r front m given left h some = by_given given (h.messages ∙ ap (λ (l : List (List ℕ)). given ++ l) some)
  where
    by_given : (ms : List (List ℕ)) → (contents front).messages ≡ ms ++ m ∷ left → (block_type : List ℕ) × (r.reader.block_type ≡ Some block_type)
    by_given [] e = let t = typed_by front m left e in (t.0, ap (λ (q : ReaderState). q.block_type) h.state ∙ t.1)
    by_given (x ∷ ms) e = let t = typed_by front x (ms ++ m ∷ left) e in (t.0, ap (λ (q : ReaderState). q.block_type) h.state ∙ t.1)

-- the message that stands next stands in the file after those that were passed over
pub next_in : (files : Option Files) (r : FileState) (front m : List ℕ) (given left : List (List ℕ)) (block_type : List ℕ)
    → HasRead files r front given → r.left ≡ m ∷ left → r.reader.block_type ≡ Some block_type → IsNextIn files r.name block_type given m
next_in files r front m given left block_type h some typed =
    let w = whole_of files r.name front h.there in
    let g = goes_on front w.0 in
    record {
      text = front ++ w.0;
      there = w.1;
      typed = g.typed block_type (ap (λ (q : ReaderState). q.block_type) (sym h.state) ∙ typed);
      more = left ++ g.more;
      messages =
          g.further ∙ ap (λ (l : List (List ℕ)). l ++ g.more) (h.messages ∙ ap (λ (l : List (List ℕ)). given ++ l) some)
          ∙ append_assoc given (m ∷ left) g.more;
    }

-- where none stands next, and none will come, all were passed over
pub all_passed : (files : Option Files) (r : FileState) (front : List ℕ) (given : List (List ℕ)) → HasRead files r front given → r.left ≡ [] → IsTrue r.over → IsAll files r given
all_passed files r front given h none over = by_end (h.last over)
  where
    messages_are : (contents front).messages ≡ given
    messages_are = h.messages ∙ ap (λ (l : List (List ℕ)). given ++ l) none ∙ append-nil given

    by_fault : (o : Option DbinFault) → (contents front).fault ≡ o → IsTrue (is_some o) → IsAll files r given
    by_fault None e some = absurd (cc some)
    by_fault (Some f) e some =
        let w = whole_of files r.name front h.there in
        let s = stands front w.0 f e in
        let same : state_after (front ++ w.0) ≡ r.reader = s.1 ∙ sym h.state in
        let bad : end_fault r.reader ≡ Some f = ap end_fault h.state ∙ faulty f e in
        record {
          text = front ++ w.0;
          there = w.1;
          typed = ap (λ (q : ReaderState). q.block_type) same;
          messages = s.0 ∙ messages_are;
          fault = ap end_fault same;
          size = λ fine. absurd (let clash = sym bad ∙ fine in cc clash);
        }
      where
        faulty : (g : DbinFault) → (contents front).fault ≡ Some g → end_fault (state_after front) ≡ Some g
        faulty g e = rw e refl

    by_end : IsLast files r.name front → IsAll files r given
    by_end (inl whole) = record {
      text = front;
      there = whole;
      typed = ap (λ (q : ReaderState). q.block_type) (sym h.state);
      messages = messages_are;
      fault = ap end_fault (sym h.state);
      size = λ fine. sym h.at_is;
    }
    by_end (inr bad) = by_fault (contents front).fault refl bad

-- ---- numbers

one_more : (ms : List (List ℕ)) → length ms ≤ bytes_of ms
one_more [] = omega arith
one_more (m ∷ ms) = omega (arith, one_more ms, ap length (flat_map-cons message_text m ms), length-append (message_text m) (flat_map message_text ms), length-append (to_be_bytes w32 (length m)) m)

-- the messages that were read can be counted, and so can their bytes
pub counted : (files : Option Files) (r : FileState) (front : List ℕ) (given : List (List ℕ)) → HasRead files r front given → length (given ++ r.left) < 2 ^ 64
counted files r front given h = omega (arith, one_more (given ++ r.left), messages_fit front, ap bytes_of h.messages, h.small)
