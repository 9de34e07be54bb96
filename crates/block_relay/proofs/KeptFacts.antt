-- What a relay keeps as it takes one more thing.
use Rattle.std.proofs.Common.{arith, cond, ◌≡◌, ◌++◌, ◌+◌, ℕ, Bool, true, false, List, [], ◌∷◌, Option, None, Some, reverse, replicate, length, map, zero, suc, refl, sym, ◌∙◌, ap, subst, append_assoc, is_some}
use Rattle.std.specs.Option.{option_or}
use Rattle.std.proofs.lemmas.List.{replicate_more, reverse-append}
use Rattle.std.proofs.lemmas.Bool.{lt-ltb}
use Rattle.block_record.specs.declared.blocks.Slip.{Slip}
use Rattle.block_record.specs.declared.blocks.Kind.{Kind as NodeKind}
use Rattle.relay_model.specs.declared.answers.Conflict.{Conflict as Clash}
use Rattle.relay_model.specs.Worlds.{World, Limits}
use Rattle.relay_model.specs.Chronicles.{Entry, Opened, Admitted, Closed, Kind, Stored, Waited, added, added_by, still_waits, world_of}
use Rattle.relay_model.specs.Soundness.{IsBlock, IsSound}
use Rattle.relay_model.specs.Offers.{kind_after, judge, offered, tip_num, world_by}
use Rattle.relay_model.specs.Runs.{empty_world}
use Rattle.relay_model.specs.Verdicts.{Verdict}
use Rattle.relay_model.specs.Verdicts as verdict
use Rattle.relay_model.proofs.public.Entries.{offer_adds}
use Rattle.relay_model.proofs.public.Judged.{judged_waits}
use Rattle.relay_model.proofs.public.Sound.{keeps_by, none_found, same_sound}
use Rattle.block_intake.specs.Intakes.{IsUnchanged, TakenIn, unnoted, world_taken}
use Rattle.block_intake.proofs.public.AlikeFacts.{alike_on, judge_alike, world_alike}
use Rattle.block_intake.proofs.public.IntakeFacts.{unchanged_world}
use Rattle.block_relay.specs.declared.marks.Mark.{Mark}
use Rattle.block_relay.specs.declared.marks.Mark.TheVariants as mark
use Rattle.block_relay.specs.Chronicle.{IsKept, Told, entries_by, has_kind_mark, kind_entry, kind_mark, world_told}

abbrev pub told : List Entry → List Clash → Told
told es cs = record { entries = es; conflicts = cs }

pub marks_push : (ms : List Mark) (m : Mark) → reverse (ms ++ m ∷ []) ≡ m ∷ reverse ms
marks_push ms m = reverse-append ms (m ∷ [])

pub slips_push : (xs : List Slip) (s : Slip) → reverse (xs ++ s ∷ []) ≡ s ∷ reverse xs
slips_push xs s = reverse-append xs (s ∷ [])

-- nothing was taken yet
pub opens : (t : TakenIn) (first run size : ℕ) (limits : Limits) → world_taken t ≡ empty_world first 0 limits → IsSound (world_told (told (Opened first run limits size ∷ []) []))
    → IsKept (world_told (told (Opened first run limits size ∷ []) [])) t None false run size
opens t first run size limits e sound = record {
  alike = alike_on _ _ _ (record { first = refl; limits = refl; history = refl; waiting = refl }) (sym e);
  kind = refl;
  closed = refl;
  run_is = refl;
  size_is = refl;
  sound = sound;
}

-- the relay is closed
pub closes : (es : List Entry) (cs : List Clash) (t : TakenIn) (kept : Option NodeKind) (shut : Bool) (run size : ℕ) → IsKept (world_told (told es cs)) t kept shut run size
    → IsKept (world_told (told (Closed ∷ es) cs)) t kept true run size
closes es cs t kept shut run size k = record {
  alike = record { first = k.alike.first; limits = k.alike.limits; history = k.alike.history; waiting = k.alike.waiting };
  kind = k.kind;
  closed = refl;
  run_is = k.run_is;
  size_is = k.size_is;
  sound = same_sound (world_told (told es cs)) (world_told (told (Closed ∷ es) cs)) refl refl (λ none. none) refl k.sound;
}

-- a conflict is noted
pub notes : (es : List Entry) (cs : List Clash) (c : Clash) (t : TakenIn) (kept : Option NodeKind) (shut : Bool) (run size : ℕ) → IsKept (world_told (told es cs)) t kept shut run size
    → IsKept (world_told (told es (c ∷ cs))) t kept shut run size
notes es cs c t kept shut run size k = record {
  alike = record { first = k.alike.first; limits = k.alike.limits; history = k.alike.history; waiting = k.alike.waiting };
  kind = k.kind;
  closed = k.closed;
  run_is = k.run_is;
  size_is = k.size_is;
  sound = same_sound (world_told (told es cs)) (world_told (told es (c ∷ cs))) refl refl (λ none. none) refl k.sound;
}

-- the entries of a relay whose parts have new names
pub entries_on : (new t : TakenIn) (run : ℕ) (limits : Limits) (size : ℕ) (k : Option NodeKind) (ms ms' : List Mark) (ws ws' : List Slip) → new.first ≡ t.first → new.forks.history ≡ t.forks.history → ms ≡ ms' → ws ≡ ws'
    → entries_by (Opened new.first run limits size) k ms new.forks.history ws ≡ entries_by (Opened t.first run limits size) k ms' t.forks.history ws'
entries_on new t run limits size k ms ms' ws ws' first history em ew = rw (first, history, em, ew) refl

-- memory was taken
pub kept_on : (w : World) (old new : TakenIn) (kept : Option NodeKind) (shut : Bool) (run size : ℕ) → IsKept w old kept shut run size → IsUnchanged old new → IsKept w new kept shut run size
kept_on w old new kept shut run size k u = record {
  alike = alike_on w (world_taken old) (world_taken new) k.alike (sym (unchanged_world old new u));
  kind = k.kind;
  closed = k.closed;
  run_is = k.run_is;
  size_is = k.size_is;
  sound = k.sound;
}

-- an open relay judges as its intake does
pub judged_same : (w : World) (t : TakenIn) (kept : Option NodeKind) (shut : Bool) (run size : ℕ) (s : Slip) → IsKept w t kept shut run size → w.closed ≡ false → judge w s ≡ judge (world_taken t) s
judged_same w t kept shut run size s k shown = judge_alike w (world_taken t) s k.alike shown

-- a block waits
pub waits : (es : List Entry) (cs : List Clash) (t new : TakenIn) (kept : Option NodeKind) (shut : Bool) (run size : ℕ) (s : Slip) → IsKept (world_told (told es cs)) t kept shut run size
    → judge (world_told (told es cs)) s ≡ verdict.Waiting → IsBlock s → world_taken new ≡ world_by (world_taken t) s verdict.Waiting → IsKept (world_told (told (Waited s ∷ es) cs)) new kept shut run size
waits es cs t new kept shut run size s k e block left =
    let w = world_told (told es cs) in
    let v = world_told (told (Waited s ∷ es) cs) in
    let is = judged_waits w s e in
    let test : still_waits w.history s ≡ true = rw (none_found w.history s.parent_id is.orphan, lt-ltb (tip_num w.history) s.num is.above) refl in
    let more : v.waiting ≡ s ∷ w.waiting = ap (λ b. cond b (s ∷ w.waiting) w.waiting) test in
    let a = alike_on _ _ _ (world_alike w (world_taken t) s verdict.Waiting k.alike) (sym left) in
    record {
      alike = record { first = a.first; limits = a.limits; history = a.history; waiting = more ∙ a.waiting };
      kind = k.kind;
      closed = k.closed;
      run_is = k.run_is;
      size_is = k.size_is;
      sound = same_sound (world_by w s verdict.Waiting) v refl (sym more) (λ none. none) refl (keeps_by w s k.sound block verdict.Waiting e);
    }

-- without a mark of the kind the entries do not speak of it
pub other_kind : (opening : Entry) (k j : Option NodeKind) (ms : List Mark) → has_kind_mark ms ≡ false → (h w : List Slip) → entries_by opening k ms h w ≡ entries_by opening j ms h w
other_kind opening k j [] e h w = refl
other_kind opening k j (mark.Kind ∷ ms) e h w = absurd (grind (arith, e))
other_kind opening k j (mark.Admitted ∷ ms) e [] w = other_kind opening k j ms e [] w
other_kind opening k j (mark.Admitted ∷ ms) e (s ∷ h) w = ap (λ l. Admitted s ∷ l) (other_kind opening k j ms e h w)
other_kind opening k j (mark.Waited ∷ ms) e h [] = other_kind opening k j ms e h []
other_kind opening k j (mark.Waited ∷ ms) e h (s ∷ w) = ap (λ l. Waited s ∷ l) (other_kind opening k j ms e h w)
other_kind opening k j (mark.Stored at ∷ ms) e h w = ap (λ l. Stored at ∷ l) (other_kind opening k j ms e h w)
other_kind opening k j (mark.Closed ∷ ms) e h w = ap (λ l. Closed ∷ l) (other_kind opening k j ms e h w)

-- the first kind is kept
pub keeps_kind : (es : List Entry) (cs : List Clash) (t : TakenIn) (kept : Option NodeKind) (shut : Bool) (run size : ℕ) (k : NodeKind) → IsKept (world_told (told es cs)) t kept shut run size
    → IsKept (world_told (told (Kind k ∷ es) cs)) t (Some k) shut run size
keeps_kind es cs t kept shut run size k is = record {
  alike = record { first = is.alike.first; limits = is.alike.limits; history = is.alike.history; waiting = is.alike.waiting };
  kind = refl;
  closed = is.closed;
  run_is = is.run_is;
  size_is = is.size_is;
  sound = same_sound (world_told (told es cs)) (world_told (told (Kind k ∷ es) cs)) refl refl (λ (none : Some k ≡ None). absurd (grind (arith, none))) refl is.sound;
}

-- a world with other conflicts
abbrev pub with_conflicts : World → List Clash → World
with_conflicts w cs = record w { conflicts = cs }

-- what a verdict adds and leaves does not hang on the conflicts that were noted
added_same : (w : World) (cs : List Clash) (s : Slip) (v : Verdict) → added_by (with_conflicts w cs) s v ≡ added_by w s v
added_same w cs s verdict.Closed = refl
added_same w cs s verdict.Duplicate = refl
added_same w cs s (verdict.Conflict c) = refl
added_same w cs s verdict.Early = refl
added_same w cs s verdict.Stale = refl
added_same w cs s verdict.WaitFull = refl
added_same w cs s verdict.Waiting = refl
added_same w cs s (verdict.HistoryFull need) = refl
added_same w cs s verdict.Admitted = refl

left_same : (w : World) (cs : List Clash) (s : Slip) (v : Verdict) → with_conflicts (world_by w s v) (world_by (with_conflicts w cs) s v).conflicts ≡ world_by (with_conflicts w cs) s v
left_same w cs s verdict.Closed = refl
left_same w cs s verdict.Duplicate = refl
left_same w cs s (verdict.Conflict c) = refl
left_same w cs s verdict.Early = refl
left_same w cs s verdict.Stale = refl
left_same w cs s verdict.WaitFull = refl
left_same w cs s verdict.Waiting = refl
left_same w cs s (verdict.HistoryFull need) = refl
left_same w cs s verdict.Admitted = refl

-- the entries and the conflicts after an offer stand for the world that it leaves
told_offered : (es : List Entry) (cs : List Clash) (s : Slip) → IsSound (world_told (told es cs)) → IsBlock s
    → world_told (told (added (world_told (told es cs)) s ++ es) (offered (world_told (told es cs)) s).world.conflicts) ≡ (offered (world_told (told es cs)) s).world
told_offered es cs s sound block =
    let w = world_of es in
    let left = (offered (world_told (told es cs)) s).world.conflicts in
    ap (λ l. world_told (told (l ++ es) left)) (added_same w cs s (judge w s))
    ∙ ap (λ v. with_conflicts v left) (offer_adds es s (same_sound (world_told (told es cs)) w refl refl (λ none. none) refl sound) block)
    ∙ left_same w cs s (judge w s)

-- so they do where a rule decides it
pub told_left : (es : List Entry) (cs : List Clash) (s : Slip) (v : Verdict) → IsSound (world_told (told es cs)) → IsBlock s → judge (world_told (told es cs)) s ≡ v
    → world_told (told (added_by (world_told (told es cs)) s v ++ es) (world_by (world_told (told es cs)) s v).conflicts) ≡ world_by (world_told (told es cs)) s v
told_left es cs s v sound block e =
    let w = world_told (told es cs) in
    subst (λ (x : Verdict). world_told (told (added_by w s x ++ es) (world_by w s x).conflicts) ≡ world_by w s x) e (told_offered es cs s sound block)

-- a row of one mark, turned over
row_reverse : (n : ℕ) (m : Mark) → reverse (replicate n m) ≡ replicate n m
row_reverse zero m = refl
row_reverse (suc n) m = reverse-append (m ∷ []) (replicate n m) ∙ ap (λ l. l ++ m ∷ []) (row_reverse n m) ∙ replicate_more n m ∙ ap (λ k. replicate k m) (let e : n + 1 ≡ suc n = omega arith in e)

kind_reverse : (root : Option NodeKind) → reverse (kind_mark root) ≡ kind_mark root
kind_reverse None = refl
kind_reverse (Some k) = refl

-- the marks of an admission: that of the kind of a root, and so many of admitted blocks
pub marks_reverse : (ms : List Mark) (root : Option NodeKind) (n : ℕ) → reverse ((ms ++ kind_mark root) ++ replicate n mark.Admitted) ≡ replicate n mark.Admitted ++ (kind_mark root ++ reverse ms)
marks_reverse ms root n =
    reverse-append (ms ++ kind_mark root) (replicate n mark.Admitted)
    ∙ ap (λ l. l ++ reverse (ms ++ kind_mark root)) (row_reverse n mark.Admitted)
    ∙ ap (λ l. replicate n mark.Admitted ++ l) (reverse-append ms (kind_mark root) ∙ ap (λ l. l ++ reverse ms) (kind_reverse root))

-- the entries that they stand for
kind_marked : (opening : Entry) (kept root : Option NodeKind) (ms : List Mark) (h w : List Slip) → (is_some root ≡ true → kept ≡ None) → (kept ≡ None → has_kind_mark ms ≡ false)
    → entries_by opening (option_or root kept) (kind_mark root ++ ms) h w ≡ kind_entry root ++ entries_by opening kept ms h w
kind_marked opening kept None ms h w first none = refl
kind_marked opening kept (Some k) ms h w first none = ap (λ l. Kind k ∷ l) (other_kind opening (Some k) kept ms (none (first refl)) h w)

pub admitted_marks : (opening : Entry) (k : Option NodeKind) (ms : List Mark) (more h w : List Slip)
    → entries_by opening k (replicate (length more) mark.Admitted ++ ms) (more ++ h) w ≡ map Admitted more ++ entries_by opening k ms h w
admitted_marks opening k ms [] h w = refl
admitted_marks opening k ms (s ∷ more) h w = ap (λ l. Admitted s ∷ l) (admitted_marks opening k ms more h w)

pub admission_marks : (opening : Entry) (kept root : Option NodeKind) (ms : List Mark) (more h w : List Slip) → (is_some root ≡ true → kept ≡ None) → (kept ≡ None → has_kind_mark ms ≡ false)
    → entries_by opening (option_or root kept) (replicate (length more) mark.Admitted ++ (kind_mark root ++ ms)) (more ++ h) w ≡ (map Admitted more ++ kind_entry root) ++ entries_by opening kept ms h w
admission_marks opening kept root ms more h w first none =
    admitted_marks opening (option_or root kept) (kind_mark root ++ ms) more h w
    ∙ ap (λ l. map Admitted more ++ l) (kind_marked opening kept root ms h w first none)
    ∙ sym (append_assoc (map Admitted more) (kind_entry root) (entries_by opening kept ms h w))

-- no kind is kept then only where no mark is of it
admitted_kind : (n : ℕ) (ms : List Mark) → has_kind_mark (replicate n mark.Admitted ++ ms) ≡ has_kind_mark ms
admitted_kind zero ms = refl
admitted_kind (suc n) ms = admitted_kind n ms

pub admission_kind : (kept root : Option NodeKind) (ms : List Mark) (n : ℕ) → (kept ≡ None → has_kind_mark ms ≡ false)
    → option_or root kept ≡ None → has_kind_mark (replicate n mark.Admitted ++ (kind_mark root ++ ms)) ≡ false
admission_kind kept None ms n none e = admitted_kind n ms ∙ none e
admission_kind kept (Some k) ms n none e = absurd (grind (arith, e))

-- a block that is admitted, with all that follows
pub admits : (es : List Entry) (cs : List Clash) (t new : TakenIn) (kept : Option NodeKind) (shut : Bool) (run size : ℕ) (s : Slip) → IsKept (world_told (told es cs)) t kept shut run size
    → judge (world_told (told es cs)) s ≡ verdict.Admitted → IsBlock s → world_taken new ≡ unnoted (world_by (world_taken t) s verdict.Admitted)
    → IsKept (world_told (told (added_by (world_told (told es cs)) s verdict.Admitted ++ es) (world_by (world_told (told es cs)) s verdict.Admitted).conflicts)) new (kind_after kept t.forks.history) shut run size
admits es cs t new kept shut run size s k e block left =
    let w = world_told (told es cs) in
    let a = world_alike w (world_taken t) s verdict.Admitted k.alike in
    let n = alike_on _ (unnoted (world_by (world_taken t) s verdict.Admitted)) _ (record { first = a.first; limits = a.limits; history = a.history; waiting = a.waiting }) (sym left) in
    subst (λ (v : World). IsKept v new (kind_after kept t.forks.history) shut run size) (sym (told_left es cs s verdict.Admitted k.sound block e)) (record {
      alike = n;
      kind = rw (k.kind, k.alike.history) refl;
      closed = k.closed;
      run_is = k.run_is;
      size_is = k.size_is;
      sound = keeps_by w s k.sound block verdict.Admitted e;
    })
