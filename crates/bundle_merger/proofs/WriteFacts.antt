-- Files that are written one after another, and where that stops.
use Rattle.std.proofs.Common.{arith, ◌≡◌, ◌≤◌, inl, inr, ℕ, List, [], ◌∷◌, ◌++◌, Option, Some, None, refl, sym, ◌∙◌, ap, subst, append_assoc}
use Rattle.std.proofs.lemmas.List.{append-nil}
use Rattle.outer_world.specs.Files.{Files, with_file}
use Rattle.outer_world.specs.Shelves.{CommitRefused, Commits, RefusesBy, emptied, with_piece}
use Rattle.outer_world.specs.declared.shelves.ShelfFail.{ShelfFail}
use Rattle.outer_world.specs.declared.shelves.ShelfFail.TheVariants as fail
use Rattle.one_block.specs.StoreFaults.{fault_of}
use Rattle.one_block.specs.declared.faults.StoreFault.{StoreFault}
use Rattle.one_block.specs.declared.faults.StoreFault.TheVariants as store
use Rattle.bundle_merger.specs.Writes.{IsStopped, Refuses, Writes, one_file, told_with_all, with_all}

-- ---- why

-- a refusal of a later part is one of the whole
pub refuses_later : (fault : StoreFault) (before mid now : ℕ) → before ≤ mid → Refuses fault mid now → Refuses fault before now
refuses_later store.ShelfFault before mid now le r = omega (arith, r, le)
refuses_later (store.ShelfBad name at) before mid now le r = r
refuses_later (store.Missing name) before mid now le r = r
refuses_later (store.StoredOther kept read) before mid now le r = r
refuses_later (store.NameClash held offered) before mid now le r = r
refuses_later store.Mem before mid now le r = tt

-- what a shelf was refused for
pub refuses_fail : (f : ShelfFail) (before mid now : ℕ) → before ≤ mid → RefusesBy f mid now → Refuses (fault_of f) before now
refuses_fail fail.Failed before mid now le r = omega (arith, r, le)
refuses_fail fail.Mem before mid now le r = tt

-- ---- what is staged

pub emptied_twice : (staged : Option (List ℕ)) → emptied (emptied staged) ≡ emptied staged
emptied_twice None = refl
emptied_twice (Some text) = refl

pub emptied_piece : (staged : Option (List ℕ)) (text : List ℕ) → emptied (with_piece (emptied staged) text) ≡ emptied staged
emptied_piece None text = refl
emptied_piece (Some old) text = refl

pub piece_none : (staged : Option (List ℕ)) → staged ≡ with_piece staged []
piece_none None = refl
piece_none (Some text) = ap (λ (l : List ℕ). Some l) (sym (append-nil text))

pub piece_twice : (staged : Option (List ℕ)) (a b : List ℕ) → with_piece (with_piece staged a) b ≡ with_piece staged (a ++ b)
piece_twice None a b = refl
piece_twice (Some text) a b = ap (λ (l : List ℕ). Some l) (append_assoc text a b)

-- ---- the files

pub told_none : (files : Option Files) → files ≡ told_with_all [] files
told_none None = refl
told_none (Some files) = refl

pub with_all-append : (a b : Writes) (files : Files) → with_all (a ++ b) files ≡ with_all b (with_all a files)
with_all-append [] b files = refl
with_all-append (w ∷ a) b files = with_all-append a b (with_file w.0 w.1 files)

-- some were written, and then some more
pub told_twice : (a b : Writes) (files : Option Files) → told_with_all b (told_with_all a files) ≡ told_with_all (a ++ b) files
told_twice a b None = refl
told_twice a b (Some files) = ap (λ (fs : Files). Some fs) (sym (with_all-append a b files))

pub told_on : (a b : Writes) (old mid new : Option Files) → mid ≡ told_with_all a old → new ≡ told_with_all b mid → new ≡ told_with_all (a ++ b) old
told_on a b old mid new e h = h ∙ ap (told_with_all b) e ∙ told_twice a b old

-- the staged text was put in place
pub committed : (files mid new : Option Files) (staged at : Option (List ℕ)) (name text : List ℕ) → mid ≡ files → at ≡ with_piece (emptied staged) text → Commits mid at name new → new ≡ told_with_all (one_file name text) files
committed files mid new staged at name text e s h =
    go files staged (subst (λ (o : Option Files). Commits o (with_piece (emptied staged) text) name new) e (subst (λ (o : Option (List ℕ)). Commits mid o name new) s h))
  where
    go : (o : Option Files) (s : Option (List ℕ)) → Commits o (with_piece (emptied s) text) name new → new ≡ told_with_all (one_file name text) o
    go None s k = k
    go (Some fs) None k = absurd k
    go (Some fs) (Some old) k = k

-- ---- where it stops

-- before the first
pub stopped_first : (writes : Writes) (old new : Option Files) (before now : ℕ) (fault : StoreFault) → new ≡ old → Refuses fault before now → IsStopped writes old new before now fault
stopped_first writes old new before now fault e r = record { done = []; front = (writes, refl); files = e ∙ told_none old; cause = r }

-- at the commit of one file
pub stopped_commit : (f : ShelfFail) (files mid new : Option Files) (staged at last : Option (List ℕ)) (name text : List ℕ) (before between now : ℕ) → mid ≡ files → at ≡ with_piece (emptied staged) text
    → CommitRefused f mid at name new last → before ≤ between → RefusesBy f between now → IsStopped (one_file name text) files new before now (fault_of f)
stopped_commit fail.Mem files mid new staged at last name text before between now e s h le r = stopped_first (one_file name text) files new before now store.Mem (h.0 ∙ e) tt
stopped_commit fail.Failed files mid new staged at last name text before between now e s (inl same, _) le r = stopped_first (one_file name text) files new before now store.ShelfFault (same ∙ e) (omega (arith, r, le))
stopped_commit fail.Failed files mid new staged at last name text before between now e s (inr c, _) le r = record {
  done = one_file name text;
  front = ([], append-nil (one_file name text));
  files = committed files mid new staged at name text e s c;
  cause = omega (arith, r, le);
}

-- in the first part
pub stopped_front : (a b : Writes) (old new : Option Files) (before now : ℕ) (fault : StoreFault) → IsStopped a old new before now fault → IsStopped (a ++ b) old new before now fault
stopped_front a b old new before now fault s = record {
  done = s.done;
  front = (s.front.0 ++ b, sym (append_assoc s.done s.front.0 b) ∙ ap (λ (l : Writes). l ++ b) s.front.1);
  files = s.files;
  cause = s.cause;
}

-- in what follows it
pub stopped_rest : (a b : Writes) (old mid new : Option Files) (before between now : ℕ) (fault : StoreFault) → mid ≡ told_with_all a old → before ≤ between → IsStopped b mid new between now fault → IsStopped (a ++ b) old new before now fault
stopped_rest a b old mid new before between now fault e le s = record {
  done = a ++ s.done;
  front = (s.front.0, append_assoc a s.done s.front.0 ∙ ap (λ (l : Writes). a ++ l) s.front.1);
  files = told_on a s.done old mid new e s.files;
  cause = refuses_later fault before between now le s.cause;
}
