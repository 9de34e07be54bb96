-- The fields of a block line, one read after another.
use Rattle.std.proofs.Common.{◌≡◌, ◌≢◌, ℕ, zero, suc, true, false, List, [], ◌∷◌, length, drop, Option, None, Some, Result, Ok, Err, refl, sym, ◌∙◌, ap, arith, take, ◌≤◌, length-take}
use Rattle.std.specs.Prelude.{slice_get, if◌then◌else◌}
use Rattle.std.specs.Borrow.{Bor}
use Rattle.std.specs.Option.{is_some, option_copied}
use Rattle.std.specs.Result.{IsErrAnd}
use Rattle.sha2.specs.Sha256.{sha256}
use Rattle.block_record.specs.declared.blocks.Slip.{Slip}
use Rattle.block_record.specs.Number.{number_of}
use Rattle.fire_lines.specs.declared.faults.LineFault.{LineFault}
use Rattle.fire_lines.specs.declared.faults.LineFault.TheVariants.{Mem, BadField}
use Rattle.block_record.specs.declared.blocks.Block.{Block}
use Rattle.block_record.specs.Slips.{slip}
use Rattle.block_record.specs.Words.{result_map}
use Rattle.fire_lines.specs.Fields.{field, id_of, parent_num_of, payload_of, slip_of_fields, at_line, ◌>>=◌}

-- what is left to read of the fields, once those before were read
abbrev pub after_payload : List (List ℕ) → ℕ → List ℕ → ℕ → List ℕ → ℕ → ℕ → List ℕ → Result Slip ℕ
after_payload ws num id parent_num parent_id lib_num time payload =
    if is_some (slice_get ws 7) then Err 8 else Ok (record { num = num; id = id; parent_num = parent_num; parent_id = parent_id; lib_num = lib_num; time = time; length = length payload; digest = sha256 payload })

abbrev pub after_time : List (List ℕ) → ℕ → List ℕ → ℕ → List ℕ → ℕ → ℕ → Result Slip ℕ
after_time ws num id parent_num parent_id lib_num time = field 7 payload_of (slice_get ws 6) >>= after_payload ws num id parent_num parent_id lib_num time

abbrev pub after_lib_num : List (List ℕ) → ℕ → List ℕ → ℕ → List ℕ → ℕ → Result Slip ℕ
after_lib_num ws num id parent_num parent_id lib_num = field 6 number_of (slice_get ws 5) >>= after_time ws num id parent_num parent_id lib_num

abbrev pub after_parent_id : List (List ℕ) → ℕ → List ℕ → ℕ → List ℕ → Result Slip ℕ
after_parent_id ws num id parent_num parent_id = field 5 number_of (slice_get ws 4) >>= after_lib_num ws num id parent_num parent_id

abbrev pub after_parent_num : List (List ℕ) → ℕ → List ℕ → ℕ → Result Slip ℕ
after_parent_num ws num id parent_num = field 4 id_of (slice_get ws 3) >>= after_parent_id ws num id parent_num

abbrev pub after_id : List (List ℕ) → ℕ → List ℕ → Result Slip ℕ
after_id ws num id = field 3 (parent_num_of num) (slice_get ws 2) >>= after_parent_num ws num id

abbrev pub after_num : List (List ℕ) → ℕ → Result Slip ℕ
after_num ws num = field 2 id_of (slice_get ws 1) >>= after_id ws num

abbrev pub all_fields : List (List ℕ) → Result Slip ℕ
all_fields ws = field 1 number_of (slice_get ws 0) >>= after_num ws

-- after k fields the words w are left, and what the fields are is what is left to read
pub record IsRead (ws : List (List ℕ)) (k : ℕ) (w : List (List ℕ)) (rest : Result Slip ℕ) : Type 0 where
  pub words : w ≡ drop k ws
  pub value : slip_of_fields ws ≡ rest

pub none_read : (ws : List (List ℕ)) → IsRead ws 0 ws (all_fields ws)
unfolding slip_of_fields
none_read ws = record { words = refl; value = refl }

slice_get-drop : (k : ℕ) (ws : List (List ℕ)) → slice_get (drop k ws) 0 ≡ slice_get ws k
slice_get-drop zero ws = refl
slice_get-drop (suc k) [] = refl
slice_get-drop (suc k) (w ∷ ws) = slice_get-drop k ws

drop-one : (k : ℕ) (ws : List (List ℕ)) → drop 1 (drop k ws) ≡ drop (suc k) ws
drop-one zero ws = refl
drop-one (suc k) [] = refl
drop-one (suc k) (w ∷ ws) = drop-one k ws

read_ok : {A : Type 0} (line : ℕ) (x : Result A ℕ) (a : A) → Ok a ≡ at_line line x → x ≡ Ok a
read_ok line (Ok b) a is = cc
read_ok line (Err k) a is = absurd (cc)

read_err : {A : Type 0} (line : ℕ) (x : Result A ℕ) (f : A → Result Slip ℕ) (e : LineFault) → Err e ≡ at_line line x → Err e ≡ at_line line (x >>= f)
read_err line (Ok b) f e is = absurd (cc)
read_err line (Err k) f e is = cc

pub one_more : {A : Type 0} (ws w w' : List (List ℕ)) (k line n : ℕ) (read : List ℕ → Option A) (f : A → Result Slip ℕ) (a : A)
    → IsRead ws k w (field n read (slice_get ws k) >>= f) → w' ≡ drop 1 w → Ok a ≡ at_line line (field n read (slice_get w 0)) → IsRead ws (suc k) w' (f a)
one_more ws w w' k line n read f a so_far left is =
    let same : slice_get w 0 ≡ slice_get ws k = ap (λ l. slice_get l 0) so_far.words ∙ slice_get-drop k ws in
    let ok : field n read (slice_get ws k) ≡ Ok a = read_ok line _ a (is ∙ ap (λ t. at_line line (field n read t)) same) in
    record {
      words = left ∙ ap (drop 1) so_far.words ∙ drop-one k ws;
      value = so_far.value ∙ ap (λ x. x >>= f) ok;
    }

pub one_bad : {A : Type 0} (ws w : List (List ℕ)) (k line n : ℕ) (read : List ℕ → Option A) (f : A → Result Slip ℕ) (e : LineFault)
    → IsRead ws k w (field n read (slice_get ws k) >>= f) → Err e ≡ at_line line (field n read (slice_get w 0)) → Err e ≡ at_line line (slip_of_fields ws)
one_bad ws w k line n read f e so_far is =
    let same : slice_get w 0 ≡ slice_get ws k = ap (λ l. slice_get l 0) so_far.words ∙ slice_get-drop k ws in
    read_err line _ f e (is ∙ ap (λ t. at_line line (field n read t)) same) ∙ ap (at_line line) (sym so_far.value)

-- the fault of a field is that of the block
pub bad_field : (A : Type 0) (r : Result Block LineFault) (e : LineFault) (all : Result Slip LineFault)
    → IsErrAnd r (λ x. x ≡ e) → ((let q : Result A LineFault = Err e in q ≢ Err Mem) → Err e ≡ all) → r ≢ Err Mem → result_map slip r ≡ all
bad_field A (Ok b) e all is bad apart = absurd is
bad_field A (Err x) e all is bad apart =
    let fault : Err x ≡ Err e = ap (λ y. let r : Result Slip LineFault = Err y in r) is in
    fault ∙ bad (λ q. apart (let l = is in cc))

is_some-copied : (x : Option (Bor (List ℕ))) → is_some x ≡ is_some (option_copied x)
is_some-copied None = refl
is_some-copied (Some text) = refl

-- whether a further field follows
more_follows : (ws w : List (List ℕ)) (k : ℕ) (x : Option (Bor (List ℕ))) → w ≡ drop k ws → option_copied x ≡ slice_get w 0 → is_some x ≡ is_some (slice_get ws k)
more_follows ws w k x words is = is_some-copied x ∙ ap is_some (is ∙ ap (λ l. slice_get l 0) words ∙ slice_get-drop k ws)

module _ (line : ℕ) (ws w : List (List ℕ)) (num : ℕ) (id : List ℕ) (parent_num : ℕ) (parent_id : List ℕ) (lib_num time : ℕ) (payload : List ℕ) (x : Option (Bor (List ℕ)))
    (read : IsRead ws 7 w (after_payload ws num id parent_num parent_id lib_num time payload)) (next : option_copied x ≡ slice_get w 0) where
  pub too_many : is_some x ≡ true → Err (BadField line 8) ≡ at_line line (slip_of_fields ws)
  too_many more =
      let follows : is_some (slice_get ws 7) ≡ true = sym (more_follows ws w 7 x read.words next) ∙ more in
      rw (read.value, follows) refl

  pub all_read : (id' parent_id' payload' : List ℕ) → is_some x ≡ false → id' ≡ id → parent_id' ≡ parent_id → payload' ≡ payload
      → (let s : Slip = record { num = num; id = id'; parent_num = parent_num; parent_id = parent_id'; lib_num = lib_num; time = time; length = length payload'; digest = sha256 payload' } in Ok s ≡ at_line line (slip_of_fields ws))
  all_read id' parent_id' payload' none e1 e2 e3 =
      let follows : is_some (slice_get ws 7) ≡ false = sym (more_follows ws w 7 x read.words next) ∙ none in
      rw (read.value, follows) (rw (e1, e2, e3) refl)

pub short_payload : (payload decoded : List ℕ) (n : ℕ) → payload ≡ take n decoded → n ≤ 50_000_000 → length payload ≤ 50_000_000
short_payload payload decoded n is small = rw is (omega (arith, length-take n decoded))
