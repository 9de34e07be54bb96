-- Changes one after another, and what stands where they were stopped.
use Rattle.std.proofs.Common.{◌≡◌, ℕ, Bool, true, false, cond, List, [], ◌∷◌, ◌++◌, map, Option, Some, refl, sym, ◌∙◌, ap, subst, inl, inr}
use Rattle.std.specs.List.{IsDistinct, slice_get}
use Rattle.std.proofs.lemmas.List.{append_assoc}
use Rattle.std.specs.Prelude.{Result, Ok, Err, OnErr}
use Rattle.outer_world.specs.Files.{Files}
use Rattle.outer_world.specs.Shelves.{RemoveRefused, WriteRefused, told_with, told_without}
use Rattle.outer_world.specs.declared.shelves.ShelfFail.{ShelfFail}
use Rattle.outer_world.specs.declared.shelves.ShelfFail.TheVariants as fail
use Rattle.one_block.specs.declared.faults.Put.{Put}
use Rattle.one_block.specs.declared.faults.Put.TheVariants.{Written}
use Rattle.block_intake.specs.declared.answers.Offered.{Offered}
use Rattle.block_intake.specs.declared.answers.OfferFault.{OfferFault}
use Rattle.relay_model.specs.Worlds.{World}
use Rattle.block_reader.specs.declared.own.OwnFile.{OwnFile}
use Rattle.block_reader.specs.Own.{same_own, without_own}
use Rattle.block_reader.specs.Changes.{Shelved, shelved, Change, Write, Remove, changed, changed_all, IsTried, IsStopped, is_swept, is_swept_at, swept_changes, sweep_changes, changes_at, removal_of, next_place, own_changes, written_changes, refusal_changes, all_changes}
use Rattle.block_reader.proofs.OwnFacts.{all_other}
use Rattle.outer_world.proofs.public.FileFacts.{same_name}

pub changed_all-append : (a b : List Change) (s : Shelved) → changed_all (a ++ b) s ≡ changed_all b (changed_all a s)
changed_all-append [] b s = refl
changed_all-append (c ∷ a) b s = changed_all-append a b (changed c s)

-- one change that failed
pub stopped_one : (c : Change) (left : List Change) (old new : Shelved) → IsTried c old new → IsStopped (c ∷ left) old new
stopped_one c left old new t = record { made = []; next = c; left = left; all = refl; tried = t }

-- the first changes were stopped
pub stopped_front : (a b : List Change) (old new : Shelved) → IsStopped a old new → IsStopped (a ++ b) old new
stopped_front a b old new s = record {
  made = s.made;
  next = s.next;
  left = s.left ++ b;
  all = ap (λ (l : List Change). l ++ b) s.all ∙ append_assoc s.made (s.next ∷ s.left) b;
  tried = s.tried;
}

-- the first changes were made, and the others stopped
pub stopped_later : (a b : List Change) (old mid new : Shelved) → mid ≡ changed_all a old → IsStopped b mid new → IsStopped (a ++ b) old new
stopped_later a b old mid new is s = record {
  made = a ++ s.made;
  next = s.next;
  left = s.left;
  all = ap (λ (l : List Change). a ++ l) s.all ∙ sym (append_assoc a s.made (s.next ∷ s.left));
  tried = subst (λ (m : Shelved). IsTried s.next m new) (ap (changed_all s.made) is ∙ sym (changed_all-append a s.made old)) s.tried;
}

-- the two oldest own files, one after another
pub swept_two : (w : World) (files : Option Files) (own : List OwnFile) → IsDistinct same_own own
    → swept_changes w own ≡ changes_at w 0 own ++ changes_at w (next_place w 0 own) (changed_all (changes_at w 0 own) (shelved files own)).own
unfolding IsDistinct
swept_two w files [] d = refl
swept_two w files (f ∷ []) d = go (is_swept w f) refl
  where
    go : (b : Bool) → is_swept w f ≡ b → swept_changes w (f ∷ []) ≡ changes_at w 0 (f ∷ []) ++ changes_at w (next_place w 0 (f ∷ [])) (changed_all (changes_at w 0 (f ∷ [])) (shelved files (f ∷ []))).own
    go true e = rw (e, same_name f.name) refl
    go false e = rw e refl
swept_two w files (f ∷ g ∷ rest) d = go (is_swept w f) refl
  where
    left : without_own f.name (f ∷ g ∷ rest) ≡ g ∷ rest
    left = rw (same_name f.name) (all_other f.name (g ∷ rest) d.0)

    second : (b : Bool) → is_swept w g ≡ b → map (λ x. Remove x.name) (cond b (g ∷ []) []) ≡ cond b (Remove g.name ∷ []) []
    second true e = refl
    second false e = refl

    go : (b : Bool) → is_swept w f ≡ b
        → swept_changes w (f ∷ g ∷ rest) ≡ changes_at w 0 (f ∷ g ∷ rest) ++ changes_at w (next_place w 0 (f ∷ g ∷ rest)) (changed_all (changes_at w 0 (f ∷ g ∷ rest)) (shelved files (f ∷ g ∷ rest))).own
    go true e = rw (e, left) (ap (λ (l : List Change). Remove f.name ∷ l) (second (is_swept w g) refl))
    go false e = rw e (second (is_swept w g) refl)

-- ---- where the calls were stopped

pub on_err : {T E P : Type 0} (r : Result T E) → P → OnErr r P
on_err (Ok x) p = tt
on_err (Err e) p = p

same_shelved : (f g : Option Files) (a b : List OwnFile) → f ≡ g → a ≡ b → shelved f a ≡ shelved g b
same_shelved f g a b e d = ap (λ (o : Option Files). shelved o a) e ∙ ap (shelved g) d

pub written_stopped : {T : Type 0} (put : Put) (one : List ℕ) (old new : Shelved) (r : Result T ShelfFail) → put ≡ Written → OnErr r (IsTried (Remove one) old new) → OnErr r (IsStopped (written_changes put one) old new)
written_stopped put one old new (Ok x) e t = tt
written_stopped put one old new (Err f) e t = subst (λ (p : Put). IsStopped (written_changes p one) old new) (sym e) (stopped_one (Remove one) [] old new t)

-- there was no memory for a text
pub text_stopped : (one refused text : List ℕ) (old : Shelved) → IsStopped (refusal_changes one refused text) old old
text_stopped one refused text old = stopped_one (Write refused text) (Remove one ∷ []) old old (inl refl)

pub write_stopped : (f : ShelfFail) (one refused text shown : List ℕ) (files new : Option Files) (own : List OwnFile) → shown ≡ text → WriteRefused f refused shown files new
    → IsStopped (refusal_changes one refused text) (shelved files own) (shelved new own)
write_stopped f one refused text shown files new own is r = stopped_one (Write refused text) (Remove one ∷ []) (shelved files own) (shelved new own) (tried f r)
  where
    tried : (g : ShelfFail) → WriteRefused g refused shown files new → IsTried (Write refused text) (shelved files own) (shelved new own)
    tried fail.Failed (inl e) = inl (ap (λ (o : Option Files). shelved o own) e)
    tried fail.Failed (inr e) = inr (ap (λ (o : Option Files). shelved o own) (e ∙ ap (λ (t : List ℕ). told_with refused t files) is))
    tried fail.Mem e = inl (ap (λ (o : Option Files). shelved o own) e)

pub drop_stopped : (one refused text shown : List ℕ) (files mid : Option Files) (own : List OwnFile) (new : Shelved) → shown ≡ text → mid ≡ told_with refused shown files → IsTried (Remove one) (shelved mid own) new
    → IsStopped (refusal_changes one refused text) (shelved files own) new
drop_stopped one refused text shown files mid own new is put t =
    stopped_later (Write refused text ∷ []) (Remove one ∷ []) (shelved files own) (shelved mid own) new
    (ap (λ (o : Option Files). shelved o own) (put ∙ ap (λ (x : List ℕ). told_with refused x files) is)) (stopped_one (Remove one) [] (shelved mid own) new t)

pub sweep_stopped : (f : ShelfFail) (w : World) (at : ℕ) (own left : List OwnFile) (file : OwnFile) (files new : Option Files) → is_swept_at w at own ≡ true → (let o : Option OwnFile = Some file in o) ≡ slice_get own at
    → left ≡ without_own file.name own → RemoveRefused f file.name files new → IsStopped (changes_at w at own) (shelved files own) (shelved new left)
sweep_stopped f w at own left file files new swept here is r =
    subst (λ (cs : List Change). IsStopped cs (shelved files own) (shelved new left)) (sym only) (stopped_one (Remove file.name) [] (shelved files own) (shelved new left) (tried f r))
  where
    only : changes_at w at own ≡ Remove file.name ∷ []
    only = ap (λ (b : Bool). cond b (removal_of (slice_get own at)) []) swept ∙ ap removal_of (sym here)

    tried : (g : ShelfFail) → RemoveRefused g file.name files new → IsTried (Remove file.name) (shelved files own) (shelved new left)
    tried fail.Failed (inl e) = inl (same_shelved new files left (without_own file.name own) e is)
    tried fail.Failed (inr e) = inr (same_shelved new (told_without file.name files) left (without_own file.name own) e is)
    tried fail.Mem e = inl (same_shelved new files left (without_own file.name own) e is)

pub first_stopped : (w : World) (files : Option Files) (own : List OwnFile) (new : Shelved) → IsDistinct same_own own → IsStopped (changes_at w 0 own) (shelved files own) new → IsStopped (swept_changes w own) (shelved files own) new
first_stopped w files own new d s =
    subst (λ (cs : List Change). IsStopped cs (shelved files own) new) (sym (swept_two w files own d))
    (stopped_front (changes_at w 0 own) (changes_at w (next_place w 0 own) (changed_all (changes_at w 0 own) (shelved files own)).own) (shelved files own) new s)

same_next : (w : World) (files : Option Files) (own : List OwnFile) (mid : Shelved) (next : ℕ) → mid ≡ changed_all (changes_at w 0 own) (shelved files own) → next ≡ next_place w 0 own
    → changes_at w next mid.own ≡ changes_at w (next_place w 0 own) (changed_all (changes_at w 0 own) (shelved files own)).own
same_next w files own mid next is e = ap (λ (n : ℕ). changes_at w n mid.own) e ∙ ap (λ (s : Shelved). changes_at w (next_place w 0 own) s.own) is

pub second_stopped : (w : World) (files : Option Files) (own : List OwnFile) (mid new : Shelved) (next : ℕ) → IsDistinct same_own own → mid ≡ changed_all (changes_at w 0 own) (shelved files own) → next ≡ next_place w 0 own
    → IsStopped (changes_at w next mid.own) mid new → IsStopped (swept_changes w own) (shelved files own) new
second_stopped w files own mid new next d is e s =
    let second = changes_at w (next_place w 0 own) (changed_all (changes_at w 0 own) (shelved files own)).own in
    subst (λ (cs : List Change). IsStopped cs (shelved files own) new) (sym (swept_two w files own d))
    (stopped_later (changes_at w 0 own) second (shelved files own) mid new is (subst (λ (cs : List Change). IsStopped cs mid new) (same_next w files own mid next is e) s))

pub both_done : (w : World) (files : Option Files) (own : List OwnFile) (mid new : Shelved) (next : ℕ) → IsDistinct same_own own → mid ≡ changed_all (changes_at w 0 own) (shelved files own) → next ≡ next_place w 0 own
    → new ≡ changed_all (changes_at w next mid.own) mid → new ≡ changed_all (swept_changes w own) (shelved files own)
both_done w files own mid new next d is e done =
    let second = changes_at w (next_place w 0 own) (changed_all (changes_at w 0 own) (shelved files own)).own in
    done ∙ ap (λ (cs : List Change). changed_all cs mid) (same_next w files own mid next is e) ∙ ap (changed_all second) is
    ∙ sym (changed_all-append (changes_at w 0 own) second (shelved files own)) ∙ ap (λ (cs : List Change). changed_all cs (shelved files own)) (sym (swept_two w files own d))

pub settled_stopped : {T : Type 0} (w : World) (put : Put) (one refused text : List ℕ) (a : Result Offered OfferFault) (o : Offered) (old mid new : Shelved) (r : Result T ShelfFail) → a ≡ Ok o
    → mid ≡ changed_all (own_changes put one refused text a) old → OnErr r (IsStopped (swept_changes w mid.own) mid new) → OnErr r (IsStopped (all_changes w put one refused text a old) old new)
settled_stopped w put one refused text a o old mid new (Ok x) e is s = tt
settled_stopped w put one refused text a o old mid new (Err f) e is s =
    let first = own_changes put one refused text a in
    stopped_later first (sweep_changes a w (changed_all first old).own) old mid new is
    (subst (λ (cs : List Change). IsStopped cs mid new) (sym (ap (λ (z : Result Offered OfferFault). sweep_changes z w (changed_all first old).own) e ∙ ap (λ (s' : Shelved). swept_changes w s'.own) (sym is))) s)
