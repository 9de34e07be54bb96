-- The blocks that lines bring are blocks.
use Rattle.std.proofs.Common.{arith, ◌≡◌, inl, inr, ℕ, Bool, true, false, List, [], ◌∷◌, length, Option, Some, None, Result, Ok, Err, refl, sym, ◌∙◌, ap, subst, option_and_then, codes, cond, drop}
use Rattle.std.specs.Prelude.{slice_get, nat_lt, if◌then◌else◌}
use Rattle.std.specs.List.{AllByRecursion}
use Rattle.std.specs.Option.{ok_or, is_some}
use Rattle.std.specs.Str.{bytes_eq}
use Rattle.std.proofs.lemmas.Bool.{cases_Bool}
use Rattle.block_record.specs.declared.blocks.Slip.{Slip}
use Rattle.block_record.specs.declared.blocks.Kind.{Kind}
use Rattle.block_record.specs.Kinds.{same_kind}
use Rattle.block_record.specs.Number.{number_of}
use Rattle.block_record.specs.Parents.{is_parent_num}
use Rattle.fire_lines.specs.declared.faults.LineFault.{LineFault}
use Rattle.fire_lines.specs.declared.faults.LineFault.TheVariants.{TooLong, BadInit, InitChanged, NoInit}
use Rattle.fire_lines.specs.Parts.{parts, words, without_cr}
use Rattle.fire_lines.specs.Fields.{field, id_of, parent_num_of, payload_of, slip_of_fields, at_line, ◌>>=◌}
use Rattle.fire_lines.specs.Line.{Saying, passes, opens, brings, is_bad, kind_of, init_says, fields_say, block_says, words_say, is_fire, says}
use Rattle.fire_lines.specs.Text.{Received, then_receive, next_line, receive}
use Rattle.fire_lines.proofs.public.FieldFacts.{after_num, after_id, after_parent_num, after_parent_id, after_lib_num, after_time, after_payload, none_read}
use Rattle.relay_model.specs.Soundness.{IsBlock}
use Rattle.step_laws.specs.Laws.{LinesBringBlocks}

-- a result that goes on and is good began with a good one
record IsGood (A B : Type 0) (r : Result A ℕ) (f : A → Result B ℕ) (b : B) : Type 0 where
  value : A
  first : r ≡ Ok value
  rest : f value ≡ Ok b

good : {A B : Type 0} (r : Result A ℕ) (f : A → Result B ℕ) (b : B) → (r >>= f) ≡ Ok b → IsGood A B r f b
good (Ok a) f b e = record { value = a; first = refl; rest = e }
good (Err k) f b e = absurd (cc)

-- the number that is read of the parent may be that of a parent
parent_fits : (num : ℕ) (o : Option (List ℕ)) (p : ℕ) → field 3 (parent_num_of num) o ≡ Ok p → is_parent_num p num ≡ true
parent_fits num None p e = absurd (cc)
parent_fits num (Some text) p e = go (number_of text) e
  where
    test : (q : ℕ) (b : Bool) → is_parent_num q num ≡ b → ok_or {E = ℕ} (cond b (Some q) None) 3 ≡ Ok p → is_parent_num p num ≡ true
    test q true is h = let same : q ≡ p = cc in subst (λ (n : ℕ). is_parent_num n num ≡ true) same is
    test q false is h = absurd (cc)

    go : (o : Option ℕ) → ok_or {E = ℕ} (option_and_then (λ q. if is_parent_num q num then Some q else None) o) 3 ≡ Ok p → is_parent_num p num ≡ true
    go None h = absurd (cc)
    go (Some q) h = test q (is_parent_num q num) refl h

-- the numbers of the slip are those that were read
record HasNumbers (s : Slip) (num parent_num : ℕ) : Type 0 where
  number : s.num ≡ num
  parent : s.parent_num ≡ parent_num

numbers : (ws : List (List ℕ)) (num : ℕ) (id : List ℕ) (parent_num : ℕ) (parent_id : List ℕ) (lib_num time : ℕ) (payload : List ℕ) (s : Slip)
    → after_payload ws num id parent_num parent_id lib_num time payload ≡ Ok s → HasNumbers s num parent_num
numbers ws num id parent_num parent_id lib_num time payload s e =
    elim (cases_Bool (is_some (slice_get ws 7))) [
      | inl more ↦ absurd (grind (arith, e, more))
      | inr none ↦ record { number = grind (arith, e, none); parent = grind (arith, e, none) }
    ]

-- the slip that fields are read as is that of a block
fields_block : (ws : List (List ℕ)) (s : Slip) → slip_of_fields ws ≡ Ok s → IsBlock s
fields_block ws s e =
    let num = good (field 1 number_of (slice_get ws 0)) (after_num ws) s (sym (none_read ws).value ∙ e) in
    let id = good (field 2 id_of (slice_get ws 1)) (after_id ws num.value) s num.rest in
    let parent = good (field 3 (parent_num_of num.value) (slice_get ws 2)) (after_parent_num ws num.value id.value) s id.rest in
    let parent_id = good (field 4 id_of (slice_get ws 3)) (after_parent_id ws num.value id.value parent.value) s parent.rest in
    let lib = good (field 5 number_of (slice_get ws 4)) (after_lib_num ws num.value id.value parent.value parent_id.value) s parent_id.rest in
    let time = good (field 6 number_of (slice_get ws 5)) (after_time ws num.value id.value parent.value parent_id.value lib.value) s lib.rest in
    let payload = good (field 7 payload_of (slice_get ws 6)) (after_payload ws num.value id.value parent.value parent_id.value lib.value time.value) s time.rest in
    let has = numbers ws num.value id.value parent.value parent_id.value lib.value time.value payload.value s payload.rest in
    ap (λ n. is_parent_num s.parent_num n) has.number ∙ ap (λ p. is_parent_num p num.value) has.parent ∙ parent_fits num.value (slice_get ws 2) parent.value parent.first

-- where a line brings a slip, it is that of a block
abbrev OnlyBlocks : Saying → Type 0
OnlyBlocks x = (s : Slip) → x ≡ brings s → IsBlock s

choice : (b : Bool) (x y : Saying) → OnlyBlocks x → OnlyBlocks y → OnlyBlocks (if b then x else y)
choice true x y hx hy = hx
choice false x y hx hy = hy

passes_only : OnlyBlocks passes
passes_only s e = absurd (cc)

bad_only : (f : LineFault) → OnlyBlocks (is_bad f)
bad_only f s e = absurd (cc)

opens_only : (kind : Kind) → OnlyBlocks (opens kind)
opens_only kind s e = absurd (cc)

init_only : (number : ℕ) (held kind : Option Kind) → OnlyBlocks (init_says number held kind)
init_only number held None = bad_only (BadInit number)
init_only number None (Some kind) = opens_only kind
init_only number (Some h) (Some kind) = choice (same_kind h kind) passes (is_bad (InitChanged number)) passes_only (bad_only (InitChanged number))

fields_only : (number : ℕ) (r : Result Slip ℕ) → ((s : Slip) → r ≡ Ok s → IsBlock s) → OnlyBlocks (fields_say (at_line number r))
fields_only number (Ok t) block s e = let same : t ≡ s = cc in block s (ap (λ z. Ok z) same)
fields_only number (Err k) block s e = absurd (cc)

block_only : (number : ℕ) (held : Option Kind) (fields : List (List ℕ)) → OnlyBlocks (block_says number held fields)
block_only number None fields = bad_only (NoInit number)
block_only number (Some kind) fields = fields_only number (slip_of_fields fields) (fields_block fields)

words_only : (number : ℕ) (held : Option Kind) (ws : List (List ℕ)) → OnlyBlocks (words_say number held ws)
words_only number held [] = passes_only
words_only number held (word ∷ rest) =
    choice (bytes_eq word (codes "INIT")) (init_says number held (kind_of rest)) (if bytes_eq word (codes "BLOCK") then block_says number held rest else passes) (init_only number held (kind_of rest))
    (choice (bytes_eq word (codes "BLOCK")) (block_says number held rest) passes (block_only number held rest) passes_only)

says_only : (max number : ℕ) (held : Option Kind) (line : List ℕ) → OnlyBlocks (says max number held line)
says_only max number held line =
    let ws = words (drop 5 line) in
    choice (is_fire line) (if nat_lt max (length line) then is_bad (TooLong number) else words_say number held ws) passes
    (choice (nat_lt max (length line)) (is_bad (TooLong number)) (words_say number held ws) (bad_only (TooLong number)) (words_only number held ws)) passes_only

-- so it is with what follows a line
then_only : (x : Saying) (lines : ℕ) (kind : Option Kind) (more : Option Kind → Received) → OnlyBlocks x → ((k : Option Kind) → AllByRecursion IsBlock (more k).slips)
    → AllByRecursion IsBlock (then_receive x lines kind more).slips
then_only passes lines kind more only rest = rest kind
then_only (opens k) lines kind more only rest = rest (Some k)
then_only (brings s) lines kind more only rest = (only s refl, rest kind)
then_only (is_bad f) lines kind more only rest = tt

all_blocks : (max lines : ℕ) (kind : Option Kind) (ps : List (List ℕ)) → AllByRecursion IsBlock (receive max lines kind ps).slips
all_blocks max lines kind [] = tt
all_blocks max lines kind (tail ∷ []) = tt
all_blocks max lines kind (line ∷ next ∷ more) =
    then_only (says max (next_line lines) kind (without_cr line)) lines kind (λ k. receive max (next_line lines) k (next ∷ more)) (says_only max (next_line lines) kind (without_cr line))
    (λ k. all_blocks max (next_line lines) k (next ∷ more))

pub lines_bring_blocks : LinesBringBlocks
lines_bring_blocks max text = all_blocks max 0 None (parts 10 text)
