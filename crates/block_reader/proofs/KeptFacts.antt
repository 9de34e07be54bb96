-- Changes that keep what the files keep, and the own files.
use Rattle.std.proofs.Common.{◌≡◌, ◌⊎◌, inl, inr, ℕ, Bool, true, false, not, cond, List, [], ◌∷◌, ◌++◌, map, filter, take, Option, Some, None, refl, sym, ◌∙◌, ap, subst, IsTrue}
use Rattle.std.specs.Prelude.{⊤, codes}
use Rattle.std.specs.List.{AllByRecursion, IsDistinct}
use Rattle.std.specs.Str.{bytes_eq}
use Rattle.std.proofs.lemmas.Slice.Eq.{bytes_eq-Decides}
use Rattle.block_record.specs.declared.blocks.Block.{Block}
use Rattle.block_record.specs.Slips.{slip}
use Rattle.outer_world.specs.Files.{Files, file_at, with_file, without_file, is_in}
use Rattle.outer_world.specs.Shelves.{told_with, told_without}
use Rattle.outer_world.proofs.public.FileFacts.{file_at-with_other, file_at-without_other}
use Rattle.one_block.specs.Heads.{HoldsBlocks}
use Rattle.relay_model.specs.Worlds.{World}
use Rattle.relay_model.specs.Soundness.{IsSound}
use Rattle.bundle_model.specs.Shedding.{may_sweep}
use Rattle.bundle_model.proofs.public.MemberFacts.{among_all, all_among, filter_among}
use Rattle.store_files.specs.Kept.{IsWholeKept}
use Rattle.store_files.specs.Laws.{IsOther}
use Rattle.store_files.proofs.public.KeptFacts.{other_file_keeps, sweep_file_keeps, remove_file_keeps}
use Rattle.block_reader.specs.declared.own.OwnFile.{OwnFile}
use Rattle.block_reader.specs.Own.{same_own, without_own}
use Rattle.block_reader.specs.Changes.{Shelved, shelved, Change, Write, Remove, changed, begun, changed_all, IsTried, IsStopped, is_swept, swept_changes}
use Rattle.block_reader.specs.Kept.{HoldsOwn, AreOwn, KeepsTold}
use Rattle.block_reader.proofs.HeldFacts.{IsApart}

not_false : (b : Bool) → not b ≡ true → b ≡ false
not_false false e = refl
not_false true e = cc e

-- ---- the own files

-- a change touches no own file but the one that goes
abbrev pub IsOutside : Change → Type 0
IsOutside (Write name text) = is_in (codes "one") name ≡ false
IsOutside (Remove name) = ⊤

-- names of different folders differ
pub apart_names : (name other : List ℕ) → is_in (codes "one") name ≡ false → is_in (codes "one") other ≡ true → bytes_eq name other ≡ false
apart_names name other out inside = go (bytes_eq name other) refl
  where
    go : (b : Bool) → bytes_eq name other ≡ b → b ≡ false
    go false e = refl
    go true e = sym (sym out ∙ ap (is_in (codes "one")) ((bytes_eq-Decides name other).0 e) ∙ inside)

moved_own : (files new : Files) (f : OwnFile) → file_at f.name new ≡ file_at f.name files → HoldsOwn files f → HoldsOwn new f
moved_own files new f e h = record { inside = h.inside; text = h.text; block_type = h.block_type; block = h.block; there = e ∙ h.there; holds = h.holds; num = h.num; id = h.id }

fewer_own : (files : Files) (name : List ℕ) (own : List OwnFile) → AllByRecursion (HoldsOwn files) own → AllByRecursion (HoldsOwn files) (without_own name own)
fewer_own files name own all = all_among (HoldsOwn files) (without_own name own) (λ f h.
    among_all (HoldsOwn files) own all f (filter_among (λ (g : OwnFile). not (bytes_eq name g.name)) own f h).0)

pub begun_own : (c : Change) (s : Shelved) → AreOwn s.files s.own → AreOwn (begun c s).files (begun c s).own
begun_own (Write name text) s all = all
begun_own (Remove name) s all = by s.files all
  where
    by : (files : Option Files) → AreOwn files s.own → AreOwn files (without_own name s.own)
    by None h = tt
    by (Some files) h = fewer_own files name s.own h

pub changed_own : (c : Change) (s : Shelved) → IsOutside c → AreOwn s.files s.own → AreOwn (changed c s).files (changed c s).own
changed_own (Write name text) s out all = by s.files all
  where
    by : (files : Option Files) → AreOwn files s.own → AreOwn (told_with name text files) s.own
    by None h = tt
    by (Some files) h = all_among (HoldsOwn (with_file name text files)) s.own (λ f there.
        let own = among_all (HoldsOwn files) s.own h f there in
        moved_own files (with_file name text files) f (file_at-with_other name text f.name files (apart_names name f.name out own.inside)) own)
changed_own (Remove name) s out all = by s.files all
  where
    by : (files : Option Files) → AreOwn files s.own → AreOwn (told_without name files) (without_own name s.own)
    by None h = tt
    by (Some files) h = all_among (HoldsOwn (without_file name files)) (without_own name s.own) (λ f there.
        let p = filter_among (λ (g : OwnFile). not (bytes_eq name g.name)) s.own f there in
        let own = among_all (HoldsOwn files) s.own h f p.0 in
        moved_own files (without_file name files) f (file_at-without_other name f.name files (not_false (bytes_eq name f.name) p.1)) own)

pub all_own : (cs : List Change) (s : Shelved) → AllByRecursion IsOutside cs → AreOwn s.files s.own → AreOwn (changed_all cs s).files (changed_all cs s).own
all_own [] s out all = all
all_own (c ∷ cs) s out all = all_own cs (changed c s) out.1 (changed_own c s out.0 all)

tried_own : (c : Change) (s new : Shelved) → IsOutside c → IsTried c s new → AreOwn s.files s.own → AreOwn new.files new.own
tried_own c s new out (inl e) all = subst (λ (t : Shelved). AreOwn t.files t.own) (sym e) (begun_own c s all)
tried_own c s new out (inr e) all = subst (λ (t : Shelved). AreOwn t.files t.own) (sym e) (changed_own c s out all)

-- all but the first changes, and the first ones
pub front_of : (P : Change → Type 0) (made : List Change) (next : Change) (left : List Change) → AllByRecursion P (made ++ next ∷ left) → AllByRecursion P made × P next
front_of P [] next left all = (tt, all.0)
front_of P (c ∷ made) next left all = let p = front_of P made next left all.1 in ((all.0, p.0), p.1)

pub stopped_own : (cs : List Change) (s new : Shelved) → AllByRecursion IsOutside cs → IsStopped cs s new → AreOwn s.files s.own → AreOwn new.files new.own
stopped_own cs s new out k all =
    let p = front_of IsOutside k.made k.next k.left (subst (AllByRecursion IsOutside) k.all out) in
    tried_own k.next (changed_all k.made s) new p.1 k.tried (all_own k.made s p.0 all)

-- ---- what the files keep

-- a file of `one/` may go: it holds a block that may be swept, or is held nowhere
pub record IsRemovable (w : World) (files : Files) (name : List ℕ) : Type 0 where
  pub inside : IsTrue (is_in (codes "one") name)
  pub text : List ℕ
  pub block_type : List ℕ
  pub block : Block
  pub there : file_at name files ≡ Some text
  pub holds : HoldsBlocks text block_type (block ∷ [])
  pub why : (may_sweep w block.num block.id ≡ true) ⊎ IsApart w (slip block)

-- a change that keeps what the files keep
abbrev pub IsSafe : World → Files → Change → Type 0
IsSafe w files (Write name text) = IsOther name
IsSafe w files (Remove name) = IsRemovable w files name

-- the files after it
abbrev pub files_after : Change → Files → Files
files_after (Write name text) files = with_file name text files
files_after (Remove name) files = without_file name files

-- each change does, once those before it were made
abbrev pub AreSafe : World → List Change → Files → Type 0
AreSafe w [] files = ⊤
AreSafe w (c ∷ cs) files = IsSafe w files c × AreSafe w cs (files_after c files)

safe_kept : (w : World) (c : Change) (files : Files) → IsSound w → IsSafe w files c → IsWholeKept files w → IsWholeKept (files_after c files) w
safe_kept w (Write name text) files sound other k = other_file_keeps files (with_file name text files) w name text k other (inr refl)
safe_kept w (Remove name) files sound r k = elim r.why [
  | inl may ↦ sweep_file_keeps files (without_file name files) w name r.block_type r.text r.block sound k r.inside r.there r.holds may (inr refl)
  | inr apart ↦ remove_file_keeps files (without_file name files) w name r.block_type r.text r.block k r.inside r.there r.holds apart (inr refl)
]

changed_files : (c : Change) (files : Files) (own : List OwnFile) → (changed c (shelved (Some files) own)).files ≡ Some (files_after c files)
changed_files (Write name text) files own = refl
changed_files (Remove name) files own = refl

begun_files : (c : Change) (files : Files) (own : List OwnFile) → (begun c (shelved (Some files) own)).files ≡ Some files
begun_files (Write name text) files own = refl
begun_files (Remove name) files own = refl

pub all_kept : (w : World) (cs : List Change) (files : Files) (own : List OwnFile) → IsSound w → AreSafe w cs files → IsWholeKept files w → KeepsTold (changed_all cs (shelved (Some files) own)).files w
all_kept w [] files own sound safe k = k
all_kept w (Write name text ∷ cs) files own sound safe k = all_kept w cs (with_file name text files) own sound safe.1 (safe_kept w (Write name text) files sound safe.0 k)
all_kept w (Remove name ∷ cs) files own sound safe k = all_kept w cs (without_file name files) (without_own name own) sound safe.1 (safe_kept w (Remove name) files sound safe.0 k)

tried_kept : (w : World) (c : Change) (files : Files) (own : List OwnFile) (new : Shelved) → IsSound w → IsSafe w files c → IsTried c (shelved (Some files) own) new → IsWholeKept files w → KeepsTold new.files w
tried_kept w c files own new sound safe (inl e) k =
    subst (λ (o : Option Files). KeepsTold o w) (sym (ap (λ (s : Shelved). s.files) e ∙ begun_files c files own)) k
tried_kept w c files own new sound safe (inr e) k =
    subst (λ (o : Option Files). KeepsTold o w) (sym (ap (λ (s : Shelved). s.files) e ∙ changed_files c files own)) (safe_kept w c files sound safe k)

cut_kept : (w : World) (made : List Change) (next : Change) (left : List Change) (files : Files) (own : List OwnFile) (new : Shelved) → IsSound w → AreSafe w (made ++ next ∷ left) files
    → IsTried next (changed_all made (shelved (Some files) own)) new → IsWholeKept files w → KeepsTold new.files w
cut_kept w [] next left files own new sound safe tried k = tried_kept w next files own new sound safe.0 tried k
cut_kept w (Write name text ∷ made) next left files own new sound safe tried k =
    cut_kept w made next left (with_file name text files) own new sound safe.1 tried (safe_kept w (Write name text) files sound safe.0 k)
cut_kept w (Remove name ∷ made) next left files own new sound safe tried k =
    cut_kept w made next left (without_file name files) (without_own name own) new sound safe.1 tried (safe_kept w (Remove name) files sound safe.0 k)

pub stopped_kept : (w : World) (cs : List Change) (files : Files) (own : List OwnFile) (new : Shelved) → IsSound w → AreSafe w cs files → IsStopped cs (shelved (Some files) own) new → IsWholeKept files w → KeepsTold new.files w
stopped_kept w cs files own new sound safe s k =
    cut_kept w s.made s.next s.left files own new sound (subst (λ (l : List Change). AreSafe w l files) s.all safe) s.tried k

-- ---- the oldest own files

own_removable : (w : World) (files : Files) (f : OwnFile) → HoldsOwn files f → is_swept w f ≡ true → IsRemovable w files f.name
own_removable w files f h may = record {
  inside = h.inside;
  text = h.text;
  block_type = h.block_type;
  block = h.block;
  there = h.there;
  holds = h.holds;
  why = inl (ap (λ (n : ℕ). may_sweep w n h.block.id) h.num ∙ ap (may_sweep w f.num) h.id ∙ may);
}

later_own : (files : Files) (f g : OwnFile) → same_own f g ≡ false → HoldsOwn files g → HoldsOwn (without_file f.name files) g
later_own files f g other h = moved_own files (without_file f.name files) g (file_at-without_other f.name g.name files other) h

pub swept_safe : (w : World) (files : Files) (own : List OwnFile) → IsDistinct same_own own → AllByRecursion (HoldsOwn files) own → AreSafe w (swept_changes w own) files
unfolding IsDistinct
swept_safe w files [] d all = tt
swept_safe w files (f ∷ []) d all = go (is_swept w f) refl
  where
    go : (b : Bool) → is_swept w f ≡ b → AreSafe w (map (λ x. Remove x.name) (cond b (f ∷ []) [])) files
    go true e = (own_removable w files f all.0 e, tt)
    go false e = tt
swept_safe w files (f ∷ g ∷ rest) d all = go (is_swept w f) refl
  where
    last : (fs : Files) → HoldsOwn fs g → (b : Bool) → is_swept w g ≡ b → AreSafe w (map (λ x. Remove x.name) (cond b (g ∷ []) [])) fs
    last fs h true e = (own_removable w fs g h e, tt)
    last fs h false e = tt

    go : (b : Bool) → is_swept w f ≡ b → AreSafe w (map (λ x. Remove x.name) (cond b (f ∷ filter (is_swept w) (g ∷ [])) (filter (is_swept w) (g ∷ [])))) files
    go true e = (own_removable w files f all.0 e, last (without_file f.name files) (later_own files f g d.0.0 all.1.0) (is_swept w g) refl)
    go false e = last files all.1.0 (is_swept w g) refl

pub swept_outside : (w : World) (own : List OwnFile) → AllByRecursion IsOutside (swept_changes w own)
swept_outside w own = by (filter (is_swept w) (take 2 own))
  where
    by : (fs : List OwnFile) → AllByRecursion IsOutside (map (λ x. Remove x.name) fs)
    by [] = tt
    by (f ∷ fs) = (tt, by fs)

-- changes that are safe, and then others
pub safe_append : (w : World) (a b : List Change) (files : Files) (own : List OwnFile) → AreSafe w a files
    → ((new : Files) → (changed_all a (shelved (Some files) own)).files ≡ Some new → AreSafe w b new) → AreSafe w (a ++ b) files
safe_append w [] b files own safe more = more files refl
safe_append w (Write name text ∷ a) b files own safe more = (safe.0, safe_append w a b (with_file name text files) own safe.1 more)
safe_append w (Remove name ∷ a) b files own safe more = (safe.0, safe_append w a b (without_file name files) (without_own name own) safe.1 more)
