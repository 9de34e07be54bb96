-- What was read of a file, before and after a piece of it.
use Rattle.std.proofs.Common.{arith, ◌≡◌, ◌<◌, ◌+◌, ◌^◌, ℕ, true, List, [], ◌∷◌, ◌++◌, length, take, drop, Option, Some, None, inl, inr, refl, sym, ap, subst, ◌∙◌, append_assoc, length-append, length-drop}
use Rattle.std.specs.Prelude.{◌≢◌, Result, Ok, Err, OnOk, OnErr}
use Rattle.outer_world.specs.declared.shelves.ShelfFail.{ShelfFail}
use Rattle.outer_world.specs.declared.shelves.ShelfFail.TheVariants.{Mem}
use Rattle.std.specs.Option.{is_some, unwrap_or}
use Rattle.std.specs.List.{flat_map}
use Rattle.std.specs.Int.{w32, to_be_bytes}
use Rattle.std.proofs.lemmas.List.Concat.{flat_map-cons, flat_map-append}
use Rattle.std.proofs.lemmas.List.{append-nil, drop_at, take-append-drop, nil_from_length}
use mathlib.Core.List.{IsPrefix}
use Rattle.outer_world.specs.Files.{Files, file_at}
use Rattle.outer_world.specs.Shelves.{ReadsFile, ReadsText}
use Rattle.dbin_file.specs.Messages.{message_text}
use Rattle.dbin_file.specs.Contents.{contents}
use Rattle.dbin_file.specs.Reader.{AreFurther, state_after}
use Rattle.dbin_file.proofs.public.FurtherFacts.{no_messages, messages_fit}
use Rattle.file_reader.specs.Reading.{FileState, unread, bytes_of, HasText, HasFront, HasRead, ReadsOn}

-- a new reader has read nothing
nothing_there : (files : Option Files) (name : List ℕ) → HasFront files name []
nothing_there None name = tt
nothing_there (Some files) name = (unwrap_or (file_at name files) [], refl)

pub read_nothing : (files : Option Files) (name : List ℕ) → HasRead files (unread name) [] []
read_nothing files name = record { there = nothing_there files name; at_is = refl; small = omega arith; state = refl; messages = no_messages; passed_is = refl; last = λ e. absurd (cc e) }

-- ---- a front of a text

text_more : (text front buf : List ℕ) (count : ℕ) → IsPrefix front text → ReadsText text (length front) count buf → IsPrefix (front ++ take count buf) text
text_more text front buf count p r =
    let rest : drop (length front) text ≡ p.0 = ap (drop (length front)) (sym p.1) ∙ drop_at front p.0 (length front) refl in
    let got : take count buf ≡ take count p.0 = r.front ∙ ap (take count) rest in
    (drop count p.0, append_assoc front (take count buf) (drop count p.0) ∙ ap (λ (l : List ℕ). front ++ (l ++ drop count p.0)) got ∙ ap (λ (l : List ℕ). front ++ l) (take-append-drop count p.0) ∙ p.1)

-- the file begins with what was read before and then
pub front_more : (files : Option Files) (name front buf : List ℕ) (at count : ℕ) → at ≡ length front → HasFront files name front → ReadsFile files name at count buf → HasFront files name (front ++ take count buf)
front_more None name front buf at count is h r = tt
front_more (Some files) name front buf at count is h r =
    let R : ℕ → Type 0 = λ n. ReadsText (unwrap_or (file_at name files) []) n count buf in
    text_more (unwrap_or (file_at name files) []) front buf count h (subst R is r)

text_ended : (text front buf : List ℕ) → IsPrefix front text → ReadsText text (length front) 0 buf → 0 < length buf → text ≡ front
text_ended text front buf p r room =
    let rest : drop (length front) text ≡ p.0 = ap (drop (length front)) (sym p.1) ∙ drop_at front p.0 (length front) refl in
    let none : p.0 ≡ [] = nil_from_length p.0 (grind (arith, r.some, room, ap length rest)) in
    sym p.1 ∙ ap (λ (l : List ℕ). front ++ l) none ∙ append-nil front

-- once no more comes it is the whole file
pub front_ended : (files : Option Files) (name front buf : List ℕ) (at count : ℕ) → at ≡ length front → count ≡ 0 → 0 < length buf → HasFront files name front → ReadsFile files name at count buf → HasText files name front
front_ended None name front buf at count is none room h r = tt
front_ended (Some files) name front buf at count is none room h r =
    let R : ℕ → ℕ → Type 0 = λ n k. ReadsText (unwrap_or (file_at name files) []) n k buf in
    let R' : ℕ → Type 0 = λ n. R n 0 in
    text_ended (unwrap_or (file_at name files) []) front buf h (subst R' is (subst (R at) none r)) room

-- ---- what was read

pub read_as_before : (files : Option Files) (r : FileState) → ReadsOn files r r
read_as_before files r = λ front given h. record { more = []; read = subst (λ (l : List ℕ). HasRead files r l given) (sym (append-nil front)) h }

pub read_twice : (files : Option Files) (a b c : FileState) → ReadsOn files a b → ReadsOn files b c → ReadsOn files a c
read_twice files a b c one two = λ front given h.
    let first = one front given h in
    let second = two (front ++ first.more) given first.read in
    record { more = first.more ++ second.more; read = subst (λ (l : List ℕ). HasRead files c l given) (append_assoc front first.more second.more) second.read }

-- no more came of the file
pub read_ended : (files : Option Files) (r : FileState) (name buf : List ℕ) (at count : ℕ) → name ≡ r.name → at ≡ r.at → count ≡ 0 → 0 < length buf → ReadsFile files name at count buf
    → ReadsOn files r (record r { over = true })
read_ended files r name buf at count name_is at_is none room got = λ front given h.
    let N : List ℕ → Type 0 = λ n. ReadsFile files n at count buf in
    let whole : HasText files r.name front = front_ended files r.name front buf at count (at_is ∙ h.at_is) none room h.there (subst N name_is got) in
    let done : FileState = record r { over = true } in
    let here : HasRead files done front given = record { there = h.there; at_is = h.at_is; small = h.small; state = h.state; messages = h.messages; passed_is = h.passed_is; last = λ e. inl whole } in
    record { more = []; read = subst (λ (l : List ℕ). HasRead files done l given) (sym (append-nil front)) here }

-- what holds of an answer other than want of memory, where each refusal is that
pub unless_refused : {P : Type 0} (result : Result Unit ShelfFail) → OnErr result (result ≡ Err Mem) → result ≢ Err Mem → OnOk result P → P
unless_refused (Ok x) mem apart p = p
unless_refused (Err e) mem apart p = absurd (apart mem)

-- a piece was taken by a reader without messages
pub read_piece : (files : Option Files) (r r' : FileState) (result : Result Unit ShelfFail) (name buf piece : List ℕ) (at count : ℕ)
    → r.left ≡ [] → name ≡ r.name → at ≡ r.at → ReadsFile files name at count buf → piece ≡ take count buf
    → OnErr result (result ≡ Err Mem)
    → ((text : List ℕ) → r.reader ≡ state_after text → OnOk result (r'.reader ≡ state_after (text ++ piece)))
    → ((text : List ℕ) → r.reader ≡ state_after text → OnOk result (AreFurther text piece r'.left))
    → ((text : List ℕ) → r.reader ≡ state_after text → OnOk result (r'.over ≡ is_some (contents (text ++ piece)).fault))
    → OnOk result (r'.at ≡ r.at + length piece) → OnOk result (r'.at < 2 ^ 64) → r'.name ≡ r.name → r'.passed ≡ r.passed
    → result ≢ Err Mem → ReadsOn files r r'
read_piece files r r' result name buf piece at count none name_is at_is got piece_is mem state further over at_then fits same_name same_passed apart = λ front given h.
    let N : List ℕ → Type 0 = λ n. ReadsFile files n at count buf in
    let there : HasFront files r.name (front ++ take count buf) = front_more files r.name front buf at count (at_is ∙ h.at_is) h.there (subst N name_is got) in
    let F : List ℕ → Type 0 = λ l. HasFront files r.name (front ++ l) in
    let G : List ℕ → Type 0 = λ n. HasFront files n (front ++ piece) in
    let longer : r'.at ≡ r.at + length piece = unless_refused result mem apart at_then in
    let room : r'.at < 2 ^ 64 = unless_refused result mem apart fits in
    let ms : AreFurther front piece r'.left = unless_refused result mem apart (further front h.state) in
    let bad : r'.over ≡ is_some (contents (front ++ piece)).fault = unless_refused result mem apart (over front h.state) in
    let before : (contents front).messages ≡ given = h.messages ∙ ap (λ (l : List (List ℕ)). given ++ l) none ∙ append-nil given in
    record {
      more = piece;
      read = record {
        there = subst G (sym same_name) (subst F (sym piece_is) there);
        at_is = omega (arith, longer, h.at_is, length-append front piece);
        small = omega (arith, room, longer, h.at_is, length-append front piece);
        state = unless_refused result mem apart (state front h.state);
        messages = ms ∙ ap (λ (l : List (List ℕ)). l ++ r'.left) before;
        passed_is = same_passed ∙ h.passed_is;
        last = λ e. inr (sym bad ∙ e);
      };
    }

pub read_then : (files now : Option Files) (a b c : FileState) → now ≡ files → ReadsOn files a b → ReadsOn now b c → ReadsOn files a c
read_then files now a b c same one two = let P : Option Files → Type 0 = λ fs. ReadsOn fs b c in read_twice files a b c one (subst P same two)

-- a message is left of those that were read
pub none_left : (ms : List (List ℕ)) (next : ℕ) → next < length ms → drop next ms ≡ [] → ⊥
none_left ms next within none = omega (arith, within, ap length none, length-drop next ms)

-- a message that was read fits into what can be counted
pub message_fits : (files : Option Files) (r : FileState) (front m : List ℕ) (given more : List (List ℕ)) → HasRead files r front given → r.left ≡ m ∷ more → r.passed + (length m + 4) < 2 ^ 64
message_fits files r front m given more h some =
    let all : length (flat_map message_text (contents front).messages) ≡ bytes_of (given ++ m ∷ more) = ap bytes_of (h.messages ∙ ap (λ (l : List (List ℕ)). given ++ l) some) in
    let parts : bytes_of (given ++ m ∷ more) ≡ bytes_of given + (4 + length m + bytes_of more) =
    ap length (flat_map-append message_text given (m ∷ more)) ∙ length-append (flat_map message_text given) (flat_map message_text (m ∷ more)) ∙ ap (λ n. bytes_of given + n) (first_size m more) in
    omega (arith, all, parts, messages_fit front, h.small, h.passed_is)
  where
    first_size : (m : List ℕ) (more : List (List ℕ)) → bytes_of (m ∷ more) ≡ 4 + length m + bytes_of more
    first_size m more = ap length (flat_map-cons message_text m more) ∙ length-append (message_text m) (flat_map message_text more) ∙ ap (λ n. n + bytes_of more) (length-append (to_be_bytes w32 (length m)) m)
