-- A line has one answer.
use Rattle.std.proofs.Common.{◌≡◌, ℕ, inl, inr, List, Option, None, Some, Result, Ok, Err, refl, sym, ap, ◌∙◌}
use Rattle.std.proofs.lemmas.Option.{none-some, same_Some}
use Rattle.std.specs.Result.{result_ok, result_err}
use Rattle.serde_json.specs.Data.{Data}
use Rattle.reply_text.specs.declared.errors.RequestField.{RequestField}
use Rattle.step_cursor.specs.declared.cursor.Cursor.{Cursor}
use Rattle.step_cursor.specs.declared.cursor.CursorFault.TheVariants as bad
use Rattle.step_cursor.specs.declared.cursor.Request.{Request}
use Rattle.step_cursor.specs.CursorParts.{cursor_fault}
use Rattle.step_cursor.proofs.public.TextFacts.{printed_is_read}
use Rattle.request_text.specs.declared.fault.RequestFault.TheVariants as fault
use Rattle.request_text.specs.Asked.{Asked, asked_of, stop_of, mode_of, IsTextOf, IsCursorOf, IsNoCursor, IsRequestOf, IsBadFor, IsAnswer, OneAnswer}

-- of two values of a line, the answers are one
same_asked : (line : List ℕ) (d e : Data) (x y : Result Asked RequestField) → IsTextOf line d → IsTextOf line e → asked_of d ≡ x → asked_of e ≡ y → x ≡ y
same_asked line d e x y p q a b = sym a ∙ ap asked_of (same_Some d e (sym p.1 ∙ q.1)) ∙ b

same_cursor : (text : List ℕ) (x y : Option Cursor) → IsCursorOf text x → IsCursorOf text y → x ≡ y
same_cursor text None None p q = refl
same_cursor text None (Some c) p q = absurd (q.0 p)
same_cursor text (Some b) None p q = absurd (p.0 q)
same_cursor text (Some b) (Some c) p q = ap Some (printed_is_read.one_value b c p.1 q.1 (sym p.2 ∙ q.2))

no_cursor : (text : List ℕ) (c : Option Cursor) (at : ℕ) → IsCursorOf text c → IsNoCursor text (bad.Malformed at) → ⊥
no_cursor text None at p q = q.0 p
no_cursor text (Some c) at p q = none-some at (sym (printed_is_read.good c p.1) ∙ ap cursor_fault (sym p.2) ∙ q.1)

same_request : (a b : Asked) (r s : Request) → a ≡ b → IsRequestOf a r → IsRequestOf b s → r ≡ s
same_request a b r s is p q =
    let start = p.start ∙ ap (λ x. x.start) is ∙ sym q.start in
    let stop = p.stop ∙ ap (λ x. stop_of x.stop) is ∙ sym q.stop in
    let mode = p.mode ∙ ap (λ x. mode_of x.final_only) is ∙ sym q.mode in
    let cursor = same_cursor b.cursor r.cursor s.cursor (rw (sym is) p.cursor) q.cursor in
    λ i. record { start = start i; stop = stop i; mode = mode i; cursor = cursor i }

good_and_bad : (line : List ℕ) (r : Request) (f : RequestField) → IsAnswer line (Ok r) → IsBadFor line f → ⊥
good_and_bad line r f p (inl q) = q.1 p.0 p.2
good_and_bad line r f p (inr q) = none-some p.1 (sym (ap result_ok (same_asked line p.0 q.0 (Ok p.1) (Err f) p.2 q.1 p.3 q.2)))

good_and_no_cursor : (line : List ℕ) (r : Request) (at : ℕ) → IsAnswer line (Ok r) → IsAnswer line (Err (fault.Malformed at)) → ⊥
good_and_no_cursor line r at p q =
    let is = same_Some p.1 q.1 (ap result_ok (same_asked line p.0 q.0 (Ok p.1) (Ok q.1) p.2 q.2 p.3 q.3)) in
    no_cursor q.1.cursor r.cursor at (rw (sym is) p.4.cursor) q.4

bad_and_no_cursor : (line : List ℕ) (f : RequestField) (at : ℕ) → IsBadFor line f → IsAnswer line (Err (fault.Malformed at)) → ⊥
bad_and_no_cursor line f at (inl p) q = p.1 q.0 q.2
bad_and_no_cursor line f at (inr p) q = none-some q.1 (ap result_ok (same_asked line p.0 q.0 (Err f) (Ok q.1) p.1 q.2 p.2 q.3))

same_field : (line : List ℕ) (f g : RequestField) → IsBadFor line f → IsBadFor line g → f ≡ g
same_field line f g (inl p) (inl q) = p.0 ∙ sym q.0
same_field line f g (inl p) (inr q) = absurd (p.1 q.0 q.1)
same_field line f g (inr p) (inl q) = absurd (q.1 p.0 p.1)
same_field line f g (inr p) (inr q) = same_Some f g (ap result_err (same_asked line p.0 q.0 (Err f) (Err g) p.1 q.1 p.2 q.2))

same_place : (line : List ℕ) (m n : ℕ) → IsAnswer line (Err (fault.Malformed m)) → IsAnswer line (Err (fault.Malformed n)) → m ≡ n
same_place line m n p q =
    let is = same_Some p.1 q.1 (ap result_ok (same_asked line p.0 q.0 (Ok p.1) (Ok q.1) p.2 q.2 p.3 q.3)) in
    same_Some m n (sym p.4.1 ∙ ap (λ x. cursor_fault x.cursor) is ∙ q.4.1)

pub one_answer : OneAnswer
one_answer line (Err fault.Mem) y nx ny p q = absurd (nx refl)
one_answer line (Ok r) (Err fault.Mem) nx ny p q = absurd (ny refl)
one_answer line (Err (fault.BadRequest f)) (Err fault.Mem) nx ny p q = absurd (ny refl)
one_answer line (Err (fault.Malformed m)) (Err fault.Mem) nx ny p q = absurd (ny refl)
one_answer line (Ok r) (Ok s) nx ny p q =
    ap Ok (same_request p.1 q.1 r s (same_Some p.1 q.1 (ap result_ok (same_asked line p.0 q.0 (Ok p.1) (Ok q.1) p.2 q.2 p.3 q.3))) p.4 q.4)
one_answer line (Ok r) (Err (fault.BadRequest g)) nx ny p q = absurd (good_and_bad line r g p q)
one_answer line (Ok r) (Err (fault.Malformed n)) nx ny p q = absurd (good_and_no_cursor line r n p q)
one_answer line (Err (fault.BadRequest f)) (Ok s) nx ny p q = absurd (good_and_bad line s f q p)
one_answer line (Err (fault.BadRequest f)) (Err (fault.BadRequest g)) nx ny p q = ap (λ h. Err (fault.BadRequest h)) (same_field line f g p q)
one_answer line (Err (fault.BadRequest f)) (Err (fault.Malformed n)) nx ny p q = absurd (bad_and_no_cursor line f n p q)
one_answer line (Err (fault.Malformed m)) (Ok s) nx ny p q = absurd (good_and_no_cursor line s m q p)
one_answer line (Err (fault.Malformed m)) (Err (fault.BadRequest g)) nx ny p q = absurd (bad_and_no_cursor line g m q p)
one_answer line (Err (fault.Malformed m)) (Err (fault.Malformed n)) nx ny p q = ap (λ k. Err (fault.Malformed k)) (same_place line m n p q)
