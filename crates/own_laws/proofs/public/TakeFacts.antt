-- What a take changes, change after change.
use Rattle.std.proofs.Common.{◌≡◌, ◌⊎◌, inl, inr, ℕ, Bool, true, false, not, cond, List, [], ◌∷◌, ◌++◌, map, take, drop, Option, refl, sym, subst}
use Rattle.std.specs.Prelude.{Result, Ok, Err}
use Rattle.std.specs.List.{AllByRecursion, filter}
use Rattle.std.specs.Str.{bytes_eq}
use Rattle.std.proofs.lemmas.List.{take-append-drop}
use Rattle.block_record.specs.declared.blocks.Block.{Block}
use Rattle.block_record.specs.declared.blocks.Kind.{Kind}
use Rattle.block_record.specs.declared.blocks.Slip.{Slip}
use Rattle.block_record.specs.Slips.{slip}
use Rattle.outer_world.specs.Files.{Files}
use Rattle.one_block.specs.declared.faults.Put.{Put}
use Rattle.one_block.specs.declared.faults.Put.TheVariants.{Present, Written}
use Rattle.one_block.specs.declared.faults.StoreFault.{StoreFault}
use Rattle.one_block.specs.declared.faults.StoreFault.TheVariants as store
use Rattle.one_block.specs.Names.{own_file}
use Rattle.one_block.specs.OneFiles.{one_file_text}
use Rattle.one_block.specs.Puts.{PutDone, PutRefused}
use Rattle.relay_model.specs.Worlds.{World}
use Rattle.bundle_model.specs.Members.{Among}
use Rattle.bundle_model.proofs.public.MemberFacts.{all_among, all_append, all_back, all_front, among_all, among_left, filter_among}
use Rattle.block_intake.specs.declared.answers.Offered.{Offered}
use Rattle.block_intake.specs.declared.answers.Offered.TheVariants as answer
use Rattle.block_intake.specs.declared.answers.OfferFault.{OfferFault}
use Rattle.block_intake.specs.declared.answers.OfferFault.TheVariants as fault
use Rattle.block_relay.specs.Chronicle.{Told, world_told}
use Rattle.block_reader.specs.declared.own.OwnFile.{OwnFile}
use Rattle.block_reader.specs.declared.faults.TakeFault.TheVariants.{Offer, Store}
use Rattle.block_reader.specs.Own.{own_by, has_own}
use Rattle.block_reader.specs.Changes.{Change, IsStopped, IsTried, Remove, Shelved, Write, begun, changed, changed_all, is_swept, own_changes, refused_file, sweep_changes, written_changes}
use Rattle.block_reader.specs.Takes.{IsCutOff, IsPlaced, IsPut, IsUnput, answer_changes}
use Rattle.own_laws.specs.Away.{IsBy, KeepsAway, TakesAway}
use Rattle.own_laws.specs.Laws.{TakeStaysAway}
use Rattle.own_laws.proofs.public.AwayFacts.{IsNear, keeps_equal, keeps_on, keeps_with, keeps_without, takes_go_on}

-- what is away stays, and there is no further own file
record IsWithin (by : List ℕ) (own : List OwnFile) (old new : Shelved) : Type 0 where
  files : KeepsAway by own old.files new.files
  fewer : (f : OwnFile) → Among new.own f → Among old.own f

within_same : (by : List ℕ) (own : List OwnFile) (s : Shelved) → IsWithin by own s s
within_same by own s = record { files = keeps_equal by own s.files s.files refl; fewer = λ f h. h }

within_on : (by : List ℕ) (own : List OwnFile) (old mid new : Shelved) → IsWithin by own old mid → IsWithin by own mid new → IsWithin by own old new
within_on by own old mid new p q = record { files = keeps_on by own old.files mid.files new.files p.files q.files; fewer = λ f h. p.fewer f (q.fewer f h) }

taken_within : (by : List ℕ) (old new : Shelved) → IsWithin by old.own old new → TakesAway by old new
taken_within by old new p = record { files = p.files; own = all_among (λ f. Among old.own f ⊎ IsBy by f) new.own (λ f h. inl (p.fewer f h)) }

-- ---- changes of files that are not away

-- the name that a change is of
abbrev name_of : Change → List ℕ
name_of (Write name text) = name
name_of (Remove name) = name

abbrev IsNearby : List ℕ → List OwnFile → Change → Type 0
IsNearby by own change = IsNear by own (name_of change)

fewer_without : (name : List ℕ) (own : List OwnFile) (f : OwnFile) → Among (filter (λ (g : OwnFile). not (bytes_eq name g.name)) own) f → Among own f
fewer_without name own f h = (filter_among (λ (g : OwnFile). not (bytes_eq name g.name)) own f h).0

changed_within : (by : List ℕ) (own : List OwnFile) (change : Change) (s : Shelved) → IsNearby by own change → IsWithin by own s (changed change s)
changed_within by own (Write name text) s near = record { files = keeps_with by own name text s.files near; fewer = λ f h. h }
changed_within by own (Remove name) s near = record { files = keeps_without by own name s.files near; fewer = fewer_without name s.own }

begun_within : (by : List ℕ) (own : List OwnFile) (change : Change) (s : Shelved) → IsWithin by own s (begun change s)
begun_within by own (Write name text) s = within_same by own s
begun_within by own (Remove name) s = record { files = keeps_equal by own s.files s.files refl; fewer = fewer_without name s.own }

all_within : (by : List ℕ) (own : List OwnFile) (changes : List Change) (s : Shelved) → AllByRecursion (IsNearby by own) changes → IsWithin by own s (changed_all changes s)
all_within by own [] s near = within_same by own s
all_within by own (c ∷ changes) s near =
    within_on by own s (changed c s) (changed_all changes (changed c s)) (changed_within by own c s near.0) (all_within by own changes (changed c s) near.1)

tried_within : (by : List ℕ) (own : List OwnFile) (change : Change) (s new : Shelved) → IsNearby by own change → IsTried change s new → IsWithin by own s new
tried_within by own change s new near (inl e) = subst (IsWithin by own s) (sym e) (begun_within by own change s)
tried_within by own change s new near (inr e) = subst (IsWithin by own s) (sym e) (changed_within by own change s near)

stopped_within : (by : List ℕ) (own : List OwnFile) (changes : List Change) (s new : Shelved) → AllByRecursion (IsNearby by own) changes → IsStopped changes s new → IsWithin by own s new
stopped_within by own changes s new near k =
    let all : AllByRecursion (IsNearby by own) (k.made ++ k.next ∷ k.left) = subst (AllByRecursion (IsNearby by own)) k.all near in
    within_on by own s (changed_all k.made s) new
    (all_within by own k.made s (all_front (IsNearby by own) k.made (k.next ∷ k.left) all))
    (tried_within by own k.next (changed_all k.made s) new (all_back (IsNearby by own) k.made (k.next ∷ k.left) all).0 k.tried)

-- ---- what an answer asks for

written_nearby : (s : Slip) (by : List ℕ) (own : List OwnFile) (put : Put) → AllByRecursion (IsNearby by own) (written_changes put (own_file s by))
written_nearby s by own Written = (λ other away. away.one s, tt)
written_nearby s by own Present = tt

own_nearby : (s : Slip) (by : List ℕ) (own : List OwnFile) (put : Put) (text : List ℕ) (said : Result Offered OfferFault) → AllByRecursion (IsNearby by own) (own_changes put (own_file s by) (refused_file s by) text said)
own_nearby s by own put text (Ok (answer.Admitted from count dropped)) = tt
own_nearby s by own put text (Ok answer.Duplicate) = tt
own_nearby s by own put text (Ok answer.Waiting) = tt
own_nearby s by own put text (Ok answer.Early) = written_nearby s by own put
own_nearby s by own put text (Ok answer.Stale) = written_nearby s by own put
own_nearby s by own put text (Err (fault.Closed len)) = tt
own_nearby s by own put text (Err (fault.Conflict c)) = (λ other away. away.refused s, (λ other away. away.one s, tt))
own_nearby s by own put text (Err (fault.HistoryFull len need)) = tt
own_nearby s by own put text (Err (fault.WaitFull blocks bytes)) = tt
own_nearby s by own put text (Err fault.Mem) = tt

removed_nearby : (by : List ℕ) (own files : List OwnFile) → ((f : OwnFile) → Among files f → Among own f) → AllByRecursion (IsNearby by own) (map (λ f. Remove f.name) files)
removed_nearby by own [] from = tt
removed_nearby by own (f ∷ files) from =
    (λ other away. among_all (λ g. bytes_eq g.name other ≡ false) own away.listed f (from f (inl refl)), removed_nearby by own files (λ g h. from g (inr h)))

sweep_nearby : (by : List ℕ) (own left : List OwnFile) (w : World) (said : Result Offered OfferFault) → ((f : OwnFile) → Among left f → Among own f) → AllByRecursion (IsNearby by own) (sweep_changes said w left)
sweep_nearby by own left w (Ok offered) from = removed_nearby by own (filter (is_swept w) (take 2 left)) (λ f h. from f (oldest f (filter_among (is_swept w) (take 2 left) f h).0))
  where
    oldest : (f : OwnFile) → Among (take 2 left) f → Among left f
    oldest f h = subst (λ (l : List OwnFile). Among l f) (take-append-drop 2 left) (among_left (take 2 left) (drop 2 left) f h)
sweep_nearby by own left w (Err refusal) from = tt

answer_nearby : (w : World) (kind : Kind) (block : Block) (by : List ℕ) (put : Put) (said : Result Offered OfferFault) (s : Shelved) → AllByRecursion (IsNearby by s.own) (answer_changes w kind block by put said s)
answer_nearby w kind block by put said s =
    let first : List Change = own_changes put (own_file (slip block) by) (refused_file (slip block) by) (one_file_text kind block) said in
    let near : AllByRecursion (IsNearby by s.own) first = own_nearby (slip block) by s.own put (one_file_text kind block) said in
    all_append (IsNearby by s.own) first (sweep_changes said w (changed_all first s).own) near
    (sweep_nearby by s.own (changed_all first s).own w said (all_within by s.own first s near).fewer)

-- ---- the put

own_near : (s : Slip) (by : List ℕ) (own : List OwnFile) → IsNear by own (own_file s by)
own_near s by own other away = away.one s

done_keeps : (s : Slip) (by text : List ℕ) (own : List OwnFile) (old new : Option Files) (put : Put) → PutDone s by text old new put → KeepsAway by own old new
done_keeps s by text own old new Written p = subst (KeepsAway by own old) (sym p.put) (keeps_with by own (own_file s by) text old (own_near s by own))
done_keeps s by text own old new Present p = keeps_equal by own old new p.kept

refused_keeps : (s : Slip) (by text : List ℕ) (own : List OwnFile) (old new : Option Files) (before now : ℕ) (f : StoreFault) → PutRefused s by text old new before now f → KeepsAway by own old new
refused_keeps s by text own old new before now store.ShelfFault p = elim p.files [
  | inl same ↦ keeps_equal by own old new same
  | inr made ↦ subst (KeepsAway by own old) (sym made.1) (keeps_with by own (own_file s by) text old (own_near s by own))
]
refused_keeps s by text own old new before now (store.ShelfBad name at) p = keeps_equal by own old new p.kept
refused_keeps s by text own old new before now (store.Missing name) p = absurd p
refused_keeps s by text own old new before now (store.StoredOther kept read) p = absurd p
refused_keeps s by text own old new before now (store.NameClash held offered) p = keeps_equal by own old new p.kept
refused_keeps s by text own old new before now store.Mem p = keeps_equal by own old new p

put_away : (kind : Kind) (block : Block) (by : List ℕ) (old new : Shelved) (put : Put) → IsPut kind block by old new put → TakesAway by old new
put_away kind block by old new put p = record {
  files = done_keeps (slip block) by (one_file_text kind block) old.own old.files new.files put p.files;
  own = subst (AllByRecursion From) (sym p.own) (by_test (has_own old.own (own_file (slip block) by)));
}
  where
    From : OwnFile → Type 0
    From f = Among old.own f ⊎ IsBy by f

    was : AllByRecursion From old.own
    was = all_among From old.own (λ f h. inl h)

    by_test : (b : Bool) → AllByRecursion From (cond b old.own (old.own ++ own_by (slip block) by ∷ []))
    by_test true = was
    by_test false = all_append From old.own (own_by (slip block) by ∷ []) was (inr (record { slip = slip block; is = refl }), tt)

-- ---- the whole

placed_away : (w : World) (kind : Kind) (block : Block) (by : List ℕ) (old new : Shelved) (said : Result Offered OfferFault) → IsPlaced w kind block by old new said → TakesAway by old new
placed_away w kind block by old new said p =
    let changes : List Change = answer_changes w kind block by p.put said p.between in
    takes_go_on by old p.between new (put_away kind block by old p.between p.put p.is_put)
    (taken_within by p.between new
    (subst (IsWithin by p.between.own p.between) (sym p.done) (all_within by p.between.own changes p.between (answer_nearby w kind block by p.put said p.between))))

unput_away : (was is : Told) (kind : Kind) (block : Block) (by : List ℕ) (old new : Shelved) (before now : ℕ) (f : StoreFault) → IsUnput was is kind block by old new before now f → TakesAway by old new
unput_away was is kind block by old new before now f u =
    taken_within by old new (record {
      files = refused_keeps (slip block) by (one_file_text kind block) old.own old.files new.files before now f u.files;
      fewer = λ g h. subst (λ (l : List OwnFile). Among l g) u.own h;
    })

cut_off_away : (was is : Told) (kind : Kind) (block : Block) (by : List ℕ) (old new : Shelved) (before now : ℕ) (f : StoreFault) → IsCutOff was is kind block by old new before now f → TakesAway by old new
cut_off_away was is kind block by old new before now f c =
    takes_go_on by old c.between new (put_away kind block by old c.between c.put c.is_put)
    (taken_within by c.between new
    (stopped_within by c.between.own (answer_changes (world_told is) kind block by c.put c.answer c.between) c.between new (answer_nearby (world_told is) kind block by c.put c.answer c.between) c.stopped))

pub take_stays_away : TakeStaysAway
take_stays_away was is kind block by old new before now (Ok offered) placed store = placed_away (world_told is) kind block by old new (Ok offered) placed
take_stays_away was is kind block by old new before now (Err (Offer refusal)) placed store = placed_away (world_told is) kind block by old new (Err refusal) placed
take_stays_away was is kind block by old new before now (Err (Store f)) placed store = elim store [
  | inl unput ↦ unput_away was is kind block by old new before now f unput
  | inr cut ↦ cut_off_away was is kind block by old new before now f cut
]
