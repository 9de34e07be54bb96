-- The entries and the conflicts that an admission leaves, as the relay keeps them.
use Rattle.std.proofs.Common.{arith, ◌≡◌, ◌<◌, ◌+◌, ◌-◌, ◌++◌, ℕ, Bool, true, false, List, length, map, take, reverse, replicate, Option, None, is_some, sym, ◌∙◌, ap}
use Rattle.std.specs.Option.{option_or}
use Rattle.std.proofs.Math.Seq.{take-append_seam}
use Rattle.std.proofs.lemmas.List.{length-append, reverse-append, reverse-reverse}
use Rattle.block_record.specs.declared.blocks.Slip.{Slip}
use Rattle.block_record.specs.declared.blocks.Kind.{Kind as NodeKind}
use Rattle.relay_model.specs.declared.answers.Conflict.{Conflict as Clash}
use Rattle.relay_model.specs.Worlds.{World, Limits, descendants}
use Rattle.relay_model.specs.Chronicles.{Entry, Opened, Admitted, added_by, kind_added}
use Rattle.relay_model.specs.Offers.{Intake, Admitted as AdmittedAs, answer_by, intake, judge, judge_limit, world_by}
use Rattle.relay_model.specs.Verdicts as verdict
use Rattle.block_intake.specs.Intakes.{IsAlike, TakenIn, unnoted, world_taken}
use Rattle.block_intake.specs.Taking.{intake_from}
use Rattle.block_intake.proofs.public.IntakeFacts.{brings, intake_same, takes_rule}
use Rattle.block_relay.specs.declared.marks.Mark.{Mark}
use Rattle.block_relay.specs.declared.marks.Mark.TheVariants as mark
use Rattle.block_relay.specs.Chronicle.{IsKept, Told, entries_by, has_kind_mark, kind_entry, kind_mark, told_with, world_told}
use Rattle.block_relay.proofs.KeptFacts.{admission_marks, marks_reverse, told}

-- the blocks that an admission brings are entries of it
added_takes : (w : World) (h room : List Slip) (kept root : Option NodeKind) (s : Slip) (more : List Slip) → w.history ≡ h → w.waiting ≡ room → w.kind ≡ kept
    → more ++ h ≡ (intake_from h room s).history → kind_entry root ≡ kind_added kept h → map Admitted more ++ kind_entry root ≡ added_by w s verdict.Admitted
added_takes w h room kept root s more eh er ek brought entry =
    let same = intake_same w h room s eh er in
    let after : (intake w s).history ≡ more ++ h = ap (λ (i : Intake). i.history) same ∙ sym brought in
    let n : length (more ++ h) - length h ≡ length more = omega (arith, length-append more h) in
    let taken : take (length (more ++ h) - length h) (more ++ h) ≡ more = ap (λ k. take k (more ++ h)) n ∙ take-append_seam more h in
    sym (
    ap (λ (l : List Slip). map Admitted (take (length l - length w.history) l) ++ kind_added w.kind w.history) after
    ∙ ap (λ (l : List Slip). map Admitted (take (length (more ++ h) - length l) (more ++ h)) ++ kind_added w.kind l) eh
    ∙ ap (λ (k : Option NodeKind). map Admitted (take (length (more ++ h) - length h) (more ++ h)) ++ kind_added k h) ek
    ∙ ap (λ (l : List Slip). map Admitted l ++ kind_added kept h) taken
    ∙ ap (λ (l : List Entry). map Admitted more ++ l) (sym entry)
    )

-- the entries after an admission
pub entries_after : (opening : Entry) (w : World) (h newest room waited : List Slip) (kept root now : Option NodeKind) (s : Slip) (more : List Slip) (ms marks : List Mark) (n : ℕ) → w.history ≡ h → w.waiting ≡ room → w.kind ≡ kept
    → more ++ h ≡ (intake_from h room s).history → newest ≡ (intake_from h room s).history → length newest ≡ n + length h → now ≡ option_or root kept
    → marks ≡ (ms ++ kind_mark root) ++ replicate n mark.Admitted → kind_entry root ≡ kind_added kept h → (is_some root ≡ true → kept ≡ None) → (kept ≡ None → has_kind_mark (reverse ms) ≡ false)
    → entries_by opening now (reverse marks) newest waited ≡ added_by w s verdict.Admitted ++ entries_by opening kept (reverse ms) h waited
entries_after opening w h newest room waited kept root now s more ms marks n eh er ek brought is len en em entry first none =
    let whole : newest ≡ more ++ h = is ∙ sym brought in
    let count : n ≡ length more = omega (arith, len, ap length whole, length-append more h) in
    let turned : reverse marks ≡ replicate (length more) mark.Admitted ++ (kind_mark root ++ reverse ms) = ap reverse em ∙ marks_reverse ms root n ∙ ap (λ k. replicate k mark.Admitted ++ (kind_mark root ++ reverse ms)) count in
    ap (λ (k : Option NodeKind). entries_by opening k (reverse marks) newest waited) en
    ∙ ap (λ (l : List Mark). entries_by opening (option_or root kept) l newest waited) turned
    ∙ ap (λ (l : List Slip). entries_by opening (option_or root kept) (replicate (length more) mark.Admitted ++ (kind_mark root ++ reverse ms)) l waited) whole
    ∙ admission_marks opening kept root (reverse ms) more h waited first none
    ∙ ap (λ (l : List Entry). l ++ entries_by opening kept (reverse ms) h waited) (added_takes w h room kept root s more eh er ek brought entry)

-- the conflicts after it
pub conflicts_after : (old noted all : List Clash) (d : List Clash) → all ≡ old ++ noted → reverse noted ≡ d → reverse all ≡ d ++ reverse old
conflicts_after old noted all d e f = ap reverse e ∙ reverse-append old noted ∙ ap (λ l. l ++ reverse old) f

-- what an intake told of an admission
pub record IsTold (t new : TakenIn) (s : Slip) (from count : ℕ) (dropped : List Clash) : Type 0 where
  pub start : from ≡ length t.forks.history
  pub history : new.forks.history ≡ (intake_from t.forks.history t.room.waiting s).history
  pub len : length new.forks.history ≡ count + length t.forks.history
  pub turned : reverse dropped ≡ (intake_from t.forks.history t.room.waiting s).dropped

pub told_by : (t new : TakenIn) (s : Slip) (from count : ℕ) (dropped : List Clash) → answer_by (world_taken t) s verdict.Admitted ≡ AdmittedAs from count dropped
    → world_taken new ≡ unnoted (world_by (world_taken t) s verdict.Admitted) → IsTold t new s from count dropped
told_by t new s from count dropped said left =
    let history : new.forks.history ≡ (intake_from t.forks.history t.room.waiting s).history = ap (λ (w : World). w.history) left in
    let start : length t.forks.history ≡ from = cc in
    let n : length (intake_from t.forks.history t.room.waiting s).history - length t.forks.history ≡ count = cc in
    let ds : reverse (intake_from t.forks.history t.room.waiting s).dropped ≡ dropped = cc in
    let b = brings t s in
    record {
      start = sym start;
      history = history;
      len = omega (arith, n, ap length history, ap length b.1, length-append b.0 t.forks.history);
      turned = ap reverse (sym ds) ∙ reverse-reverse (intake_from t.forks.history t.room.waiting s).dropped;
    }

-- the conflicts that an admission leaves are those of the blocks dropped before those noted
pub clashes_same : (w : World) (h room : List Slip) (s : Slip) → w.history ≡ h → w.waiting ≡ room → (intake_from h room s).dropped ++ w.conflicts ≡ (world_by w s verdict.Admitted).conflicts
clashes_same w h room s eh er =
    let same = intake_same w h room s eh er in
    ap (λ (i : Intake). i.dropped ++ w.conflicts) (sym same)

-- what is kept is told by these entries, conflicts and kind
pub kept_as : (es es' : List Entry) (cs cs' : List Clash) (t : TakenIn) (kind kind' : Option NodeKind) (shut : Bool) (run size : ℕ) → es ≡ es' → cs ≡ cs' → kind ≡ kind'
    → IsKept (world_told (told es' cs')) t kind' shut run size → IsKept (world_told (told es cs)) t kind shut run size
kept_as es es' cs cs' t kind kind' shut run size ee ec ek k = rw (ee, ec, ek) k

-- what is told after an admission
pub record IsToldNow (old new : Told) (s : Slip) : Type 0 where
  pub entries : new.entries ≡ added_by (world_told old) s verdict.Admitted ++ old.entries
  pub conflicts : new.conflicts ≡ (world_by (world_told old) s verdict.Admitted).conflicts

pub told_now : (t new : TakenIn) (run size : ℕ) (limits : Limits) (kept root now : Option NodeKind) (ms ms' : List Mark) (ws : List Slip) (cs cs' : List Clash) (s : Slip) (from count : ℕ) (dropped : List Clash)
    → IsAlike (world_told (told_with t run limits size kept ms ws cs)) (world_taken t) → (world_told (told_with t run limits size kept ms ws cs)).kind ≡ kept → IsTold t new s from count dropped → new.first ≡ t.first
    → now ≡ option_or root kept → ms' ≡ (ms ++ kind_mark root) ++ replicate count mark.Admitted → cs' ≡ cs ++ dropped
    → kind_entry root ≡ kind_added kept t.forks.history → (is_some root ≡ true → kept ≡ None) → (kept ≡ None → has_kind_mark (reverse ms) ≡ false)
    → IsToldNow (told_with t run limits size kept ms ws cs) (told_with new run limits size now ms' ws cs') s
told_now t new run size limits kept root now ms ms' ws cs cs' s from count dropped a ek told first en em ec entry fresh none =
    let w = world_told (told_with t run limits size kept ms ws cs) in
    let h = t.forks.history in
    let b = brings t s in
    record {
      entries =
          ap (λ n. entries_by (Opened n run limits size) now (reverse ms') new.forks.history (reverse ws)) first
          ∙ entries_after (Opened t.first run limits size) w h new.forks.history t.room.waiting (reverse ws) kept root now s b.0 ms ms' count a.history a.waiting ek b.1 told.history told.len en em entry fresh none;
      conflicts = conflicts_after cs dropped cs' _ ec told.turned ∙ clashes_same w h t.room.waiting s a.history a.waiting;
    }

-- a block that links is admitted where the limit of the intake has room
pub takes_alike : (w : World) (t : TakenIn) (s : Slip) → IsAlike w (world_taken t) → judge w s ≡ judge_limit w s → (t.forks.limit < length t.forks.history + (1 + descendants t.room.waiting s.id) → ⊥) → judge w s ≡ verdict.Admitted
takes_alike w t s a rule enough =
    takes_rule w s rule (λ less. enough (omega (arith, less, ap (λ (l : Limits). l.history) a.limits, ap length a.history, ap (λ l. descendants l s.id) a.waiting)))
