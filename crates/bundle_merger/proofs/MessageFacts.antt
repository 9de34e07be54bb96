-- Messages one after another.
use Rattle.std.proofs.Common.{arith, ◌≡◌, ◌<◌, ◌+◌, List, [], ◌∷◌, ◌++◌, length, length-append, take, drop, get_or, sym, ap, ◌∙◌, append_assoc, Option, ℕ}
use Rattle.std.specs.Arc.{arc_value}
use Rattle.std.specs.declared.sync.Arc.{Arc}
use Rattle.std.specs.Int.{w32, to_be_bytes}
use Rattle.std.proofs.lemmas.List.{append-nil, drop_at, map_more, take_at}
use Rattle.block_record.specs.declared.blocks.Block.{Block}
use Rattle.block_record.specs.Records.{record_text}
use Rattle.dbin_file.specs.Messages.{message_text}
use Rattle.outer_world.specs.Shelves.{with_piece}
use Rattle.bundle_merger.specs.Containers.{blocks_of, messages_text}
use Rattle.bundle_merger.proofs.WriteFacts.{piece_twice}

messages-append : (xs : List Block) (b : Block) → messages_text (xs ++ b ∷ []) ≡ messages_text xs ++ message_text (record_text b)
messages-append [] b = append-nil (message_text (record_text b))
messages-append (x ∷ xs) b = ap (λ (l : List ℕ). message_text (record_text x) ++ l) (messages-append xs b) ∙ sym (append_assoc (message_text (record_text x)) (messages_text xs) (message_text (record_text b)))

-- the first so many shared blocks, and one more
pub shared_more : {Z : Type 0} (xs : List (Arc Block Z)) (i : ℕ) (x : Arc Block Z) (b : Block) → i < length xs → x ≡ get_or xs i x → b ≡ arc_value x → blocks_of (take (i + 1) xs) ≡ blocks_of (take i xs) ++ b ∷ []
shared_more xs i x b within item is =
    map_more arc_value xs i x within ∙ ap (λ (z : Block). blocks_of (take i xs) ++ z ∷ []) (sym (is ∙ ap arc_value item))

-- one more message is staged
pub staged_more : {Z : Type 0} (xs : List (Arc Block Z)) (i : ℕ) (x : Arc Block Z) (b : Block) (old mid new : Option (List ℕ)) (piece : List ℕ) → i < length xs → x ≡ get_or xs i x → b ≡ arc_value x
    → mid ≡ with_piece old (messages_text (blocks_of (take i xs))) → piece ≡ message_text (record_text b) → new ≡ with_piece mid piece → new ≡ with_piece old (messages_text (blocks_of (take (i + 1) xs)))
staged_more xs i x b old mid new piece within item is before framed staged =
    staged ∙ ap (with_piece mid) framed ∙ ap (λ (s : Option (List ℕ)). with_piece s (message_text (record_text b))) before
    ∙ piece_twice old (messages_text (blocks_of (take i xs))) (message_text (record_text b))
    ∙ ap (with_piece old) (sym (ap messages_text (shared_more xs i x b within item is) ∙ messages-append (blocks_of (take i xs)) b))

-- what stands after the four bytes of a length
pub back_is : (front back whole items before cleared zeros record' : List ℕ) → whole ≡ front ++ back → whole ≡ items → items ≡ before ++ record' → before ≡ cleared ++ zeros → cleared ≡ [] → length zeros ≡ 4 → length front ≡ 4
    → back ≡ record'
back_is front back whole items before cleared zeros record' v w i b c z f =
    let e : front ++ back ≡ zeros ++ record' = sym v ∙ w ∙ i ∙ ap (λ (l : List ℕ). l ++ record') (b ∙ ap (λ (l : List ℕ). l ++ zeros) c) in
    sym (drop_at front back 4 f) ∙ ap (drop 4) e ∙ drop_at zeros record' 4 z

-- a length in front of a record is its message
pub framed : (len : ℕ) (copied back rest record' : List ℕ) → copied ≡ to_be_bytes w32 (length back) → back ≡ record' → len ≡ 4 + length back → take len ((copied ++ back) ++ rest) ≡ message_text record'
framed len copied back rest record' c e n =
    let l = ap (λ (x : List ℕ). length x) c in
    take_at (copied ++ back) rest len (omega (arith, l, n, length-append copied back))
    ∙ ap (λ (x : List ℕ). x ++ back) c ∙ ap (λ (x : List ℕ). to_be_bytes w32 (length x) ++ x) e
