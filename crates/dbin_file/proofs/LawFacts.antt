-- What a container that was written is read as.
use Rattle.std.proofs.Common.{◌≡◌, ℕ, ◌+◌, ◌≤◌, ◌<◌, ◌^◌, true, false, ◌&&◌, ltb, leb, List, [], ◌∷◌, ◌++◌, length, take, drop, refl, sym, ap, ◌∙◌, arith, length-append, Option, Some, None}
use Rattle.std.specs.Option.{option_map}
use Rattle.std.specs.List.{position, position_or_len, list_all, flat_map, AllByRecursion}
use Rattle.std.specs.Int.{w32, to_be_bytes}
use Rattle.std.proofs.lemmas.Bool.{le-ltb, lt-ltb, and_parts, ltb-true, leb-true}
use Rattle.std.proofs.lemmas.List.{take_at, drop_at}
use Rattle.std.proofs.lemmas.List.Concat.{flat_map-cons}
use Rattle.std.proofs.lemmas.Nat.{from_be_bytes-to_be_bytes_2, from_be_bytes-to_be_bytes_4}
use Rattle.block_record.specs.Texts.{is_visible_byte, is_type_text, IsTypeName}
use Rattle.dbin_file.specs.declared.faults.DbinFault.{DbinFault}
use Rattle.dbin_file.specs.declared.faults.DbinFault.TheVariants.{NotDbin}
use Rattle.dbin_file.specs.Header.{header_text, type_length, type_bytes, length_fault, type_fault, first_of, header_fault, is_hidden}
use Rattle.dbin_file.specs.Messages.{message_max, AreMessages, message_text, message_length, has_message, Split, split}
use Rattle.dbin_file.specs.Contents.{Contents, contents, container_text, message_place, with_messages, place, rest_fault}
use Rattle.dbin_file.specs.Reader.{ReaderState, kept, state_of, state_after, resumed}
use Rattle.dbin_file.specs.Laws.{ContainerIsRead}
use Rattle.dbin_file.proofs.MessageFacts.{has_from, with_front, split-append, split-whole}
use Rattle.dbin_file.proofs.PieceFacts.{none_too_long}
use Rattle.dbin_file.proofs.HeaderFacts.{Whole, size_from, is_whole}

-- ---- the messages

split-message : (message : List ℕ) → length message ≤ message_max → split (message_text message) ≡ (message ∷ [], [])
split-message message small =
    let text : List ℕ = message_text message in
    let len : message_length text ≡ length message = from_be_bytes-to_be_bytes_4 (length message) (omega (arith, small)) in
    let all : length text ≡ 4 + length message = omega (arith, length-append (to_be_bytes w32 (length message)) message) in
    let is : has_message text ≡ true = has_from text (record { four = omega (arith, all); small = omega (arith, len, small); whole = omega (arith, len, all) }) in
    split-whole text is (λ more. omega (arith, len, all))

messages_split : (messages : List (List ℕ)) → AllByRecursion (λ m. length m ≤ message_max) messages → split (flat_map message_text messages) ≡ (messages, [])
messages_split [] small = refl
messages_split (message ∷ messages) small =
    let rest : List ℕ = flat_map message_text messages in
    ap split (flat_map-cons message_text message messages) ∙ split-append (message_text message) rest
    ∙ ap (λ (s : Split). with_front s.0 (split (s.1 ++ rest))) (split-message message small.0)
    ∙ ap (λ (s : Split). let t : Split = (message ∷ s.0, s.1) in t) (messages_split messages small.1)

-- ---- the header

shown_place : (l : List ℕ) → list_all is_visible_byte l ≡ true → position_or_len is_hidden l ≡ length l
shown_place [] shown = refl
shown_place (b ∷ l) shown =
    let p : (is_visible_byte b ≡ true) × (list_all is_visible_byte l ≡ true) = and_parts _ _ shown in
    let e = p.0 in
    let more = shown_place l p.1 in
    rw (e, more) (omega arith)

shown_none : (l : List ℕ) → list_all is_visible_byte l ≡ true → position is_hidden l ≡ None
shown_none l shown =
    let e : ltb (position_or_len is_hidden l) (length l) ≡ false = (let s = shown_place l shown in le-ltb _ _ (omega (arith, s))) in
    rw e refl

-- a header, and what it says whatever follows it
record IsHeader (block_type rest : List ℕ) : Type 0 where
  size : Whole (header_text block_type ++ rest) (7 + length block_type)
  types : type_bytes (header_text block_type ++ rest) ≡ block_type
  good : header_fault (header_text block_type ++ rest) ≡ None
  dropped : drop (7 + length block_type) (header_text block_type ++ rest) ≡ rest

header_is : (block_type rest : List ℕ) → is_type_text block_type ≡ true → IsHeader block_type rest
unfolding header_fault
header_is block_type rest is =
    let a : ((ltb 0 (length block_type) && leb (length block_type) 255) ≡ true) × (list_all is_visible_byte block_type ≡ true) = and_parts _ _ is in
    let b : (ltb 0 (length block_type) ≡ true) × (leb (length block_type) 255 ≡ true) = and_parts _ _ a.0 in
    let some : 0 < length block_type = ltb-true _ _ b.0 in
    let few : length block_type ≤ 255 = leb-true _ _ b.1 in
    let text : List ℕ = header_text block_type ++ rest in
    let len : type_length text ≡ length block_type = from_be_bytes-to_be_bytes_2 (length block_type) (omega (arith, few)) in
    let all : length text ≡ 7 + (length block_type + length rest) = omega (arith, length-append block_type rest) in
    let head : length (header_text block_type) ≡ 7 + length block_type = omega arith in
    let types : type_bytes text ≡ block_type = ap (λ (k : ℕ). take k (block_type ++ rest)) len ∙ take_at block_type rest (length block_type) refl in
    let seven : ltb (length text) 7 ≡ false = le-ltb _ _ (omega (arith, all)) in
    let low : ltb 0 (type_length text) ≡ true = lt-ltb _ _ (omega (arith, len, some)) in
    let high : ltb (type_length text) 256 ≡ true = lt-ltb _ _ (omega (arith, len, few)) in
    let lengths : length_fault text ≡ None = rw (seven, low, high) refl in
    let typed : type_fault text ≡ None = ap (λ (l : List ℕ). option_map (λ i. NotDbin (7 + i)) (position is_hidden l)) types ∙ ap (option_map (λ i. NotDbin (7 + i))) (shown_none block_type a.1) in
    record {
      size = record { seven = omega (arith, all); size = omega (arith, len); within = omega (arith, all) };
      types = types;
      good = ap (λ (o : Option DbinFault). first_of (o ∷ type_fault text ∷ [])) lengths ∙ ap (λ (o : Option DbinFault). first_of (o ∷ [])) typed;
      dropped = drop_at (header_text block_type) rest (7 + length block_type) head;
    }

-- what a container says
container_says : (block_type : List ℕ) (messages : List (List ℕ)) → IsTypeName block_type → AreMessages messages
    → contents (container_text block_type messages) ≡ with_messages (length (container_text block_type messages)) block_type (messages, [])
container_says block_type messages is small =
    let rest : List ℕ = flat_map message_text messages in
    let text : List ℕ = container_text block_type messages in
    let h = header_is block_type rest is in
    is_whole text (7 + length block_type) h.good (size_from text (7 + length block_type) h.size)
    ∙ ap (λ (l : List ℕ). with_messages (length text) l (split (drop (7 + length block_type) text))) h.types
    ∙ ap (λ (l : List ℕ). with_messages (length text) block_type (split l)) h.dropped
    ∙ ap (with_messages (length text) block_type) (messages_split messages small)

pub container_read : ContainerIsRead
container_read block_type messages is small =
    let c = container_says block_type messages is small in
    record {
      type_is = ap (λ (x : Contents). x.block_type) c;
      messages_are = ap (λ (x : Contents). x.messages) c;
      rest = ap (λ (x : Contents). x.rest) c;
      fault = ap (λ (x : Contents). x.fault) c ∙ none_too_long (place (length (container_text block_type messages)) []);
    }

-- a reader that stands where a message begins was fed what stands before
pub resumed_is : (block_type : List ℕ) (messages : List (List ℕ)) (at : ℕ) → IsTypeName block_type → AreMessages messages → at ≡ message_place block_type messages → at < 2 ^ 64
    → resumed block_type at ≡ state_after (container_text block_type messages)
resumed_is block_type messages at is small here fits =
    let total = length (container_text block_type messages) in
    let place_is : at ≡ place total [] = omega (arith, here, fits) in
    let good : rest_fault (place total []) [] ≡ None = none_too_long (place total []) in
    ap (resumed block_type) place_is
    ∙ ap (λ (f : Option DbinFault). let q : ReaderState = record { block_type = Some block_type; fault = f; at = place total []; partial = kept f [] } in q) (sym good)
    ∙ sym (ap (state_of total) (container_says block_type messages is small))
