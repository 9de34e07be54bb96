-- What is told of a shelf after a file was read or written.
use Rattle.std.proofs.Common.{arith, ◌≡◌, ◌+◌, ◌<◌, ◌≤◌, ℕ, List, [], ◌++◌, length, take, drop, Option, Some, None, Result, Ok, Err, OnErr, refl, sym, ◌∙◌, ap, subst, inl, inr, length-append}
use Rattle.std.proofs.lemmas.List.{append-nil, take_all, length-drop, length-take}
use Rattle.std.proofs.Math.Seq.{take-add}
use Rattle.std.proofs.lemmas.Option.{same_Some}
use Rattle.std.specs.Option.{option_map, unwrap_or}
use Rattle.outer_world.specs.Files.{Files, file_at}
use Rattle.outer_world.specs.Shelves.{HasSize, Holds, ReadsFile, ReadsText, Commits, CommitRefused, KeepsOthers, StagesFront, emptied, with_piece, told_with}
use Rattle.outer_world.specs.declared.shelves.ShelfFail.{ShelfFail}
use Rattle.outer_world.specs.declared.shelves.ShelfFail.TheVariants.{Failed, Mem}
use Rattle.outer_world.proofs.public.FileFacts.{file_at-with_other}

-- the text begins what stands under a name
pub record BeginsText (file text : List ℕ) : Type 0 where
  pub front : text ≡ take (length text) file
  pub within : length text ≤ length file

-- the text begins the file of this name, where the files are told
abbrev pub Begins : Option Files → List ℕ → List ℕ → Type 0
Begins None name text = Unit {0}
Begins (Some files) name text = BeginsText (unwrap_or (file_at name files) []) text

pub begins_none : (files : Option Files) (name : List ℕ) → Begins files name []
begins_none None name = tt
begins_none (Some files) name = record { front = refl; within = omega arith }

begins_text : (file text buf : List ℕ) (count : ℕ) → BeginsText file text → ReadsText file (length text) count buf → BeginsText file (text ++ take count buf)
begins_text file text buf count b r =
    let size : length (take count buf) ≡ count = omega (arith, ap length r.front, length-take count (drop (length text) file), r.within) in
    let whole : length (text ++ take count buf) ≡ length text + count = omega (arith, length-append text (take count buf), size) in
    let joined : text ++ take count buf ≡ take (length text) file ++ take count (drop (length text) file) = ap (λ front. front ++ take count buf) b.front ∙ ap (λ more. take (length text) file ++ more) r.front in
    record {
      front = joined ∙ (sym (take-add (length text) count file) ∙ ap (λ n. take n file) (sym whole));
      within = omega (arith, whole, r.within, length-drop (length text) file, b.within);
    }

-- and so it does with the bytes that were read from its end on
pub begins_more : (files : Option Files) (name text buf : List ℕ) (at count : ℕ) → at ≡ length text → Begins files name text → ReadsFile files name at count buf → Begins files name (text ++ take count buf)
begins_more None name text buf at count is b r = tt
begins_more (Some files) name text buf at count is b r =
    let R : ℕ → Type 0 = λ n. ReadsText (unwrap_or (file_at name files) []) n count buf in
    begins_text (unwrap_or (file_at name files) []) text buf count b (subst R is r)

whole_text : (slot : Option (List ℕ)) (text : List ℕ) (size : ℕ) → Some size ≡ option_map length slot → BeginsText (unwrap_or slot []) text → size ≤ length text → slot ≡ Some text
whole_text None text size is b long = cc
whole_text (Some file) text size is b long =
    let same : size ≡ length file = same_Some size (length file) is in
    ap Some (sym (b.front ∙ take_all (length text) file (omega (arith, same, long))))

-- once it is as long as the file it is the file
pub all_read : (files : Option Files) (name text : List ℕ) (size : ℕ) → HasSize files name (Some size) → Begins files name text → size ≤ length text → Holds files name (Some text)
all_read None name text size is b long = tt
all_read (Some files) name text size is b long = whole_text (file_at name files) text size is b long

ended_text : (slot : Option (List ℕ)) (text buf : List ℕ) (size : ℕ) → Some size ≡ option_map length slot → BeginsText (unwrap_or slot []) text → ReadsText (unwrap_or slot []) (length text) 0 buf → 0 < length buf → slot ≡ Some text
ended_text None text buf size is b r room = cc
ended_text (Some file) text buf size is b r room =
    let same : size ≡ length file = same_Some size (length file) is in
    whole_text (Some file) text size is b (grind (arith, same, r.some, room, length-drop (length text) file))

-- and so it is once no byte was read from its end on
pub ended : (files : Option Files) (name text buf : List ℕ) (size at count : ℕ) → at ≡ length text → count ≡ 0 → 0 < length buf → HasSize files name (Some size) → Begins files name text → ReadsFile files name at count buf → Holds files name (Some text)
ended None name text buf size at count is none room sized b r = tt
ended (Some files) name text buf size at count is none room sized b r =
    let R : ℕ → ℕ → Type 0 = λ n k. ReadsText (unwrap_or (file_at name files) []) n k buf in
    let R' : ℕ → Type 0 = λ n. R n 0 in
    ended_text (file_at name files) text buf size sized b (subst R' is (subst (R at) none r)) room

-- what was written is the text that was staged
committed : (files new : Option Files) (staged : Option (List ℕ)) (name text : List ℕ) → Commits files (with_piece (emptied staged) text) name new → new ≡ told_with name text files
committed None new staged name text h = h
committed (Some files) new None name text h = absurd h
committed (Some files) new (Some old) name text h = h

keeps_same : (name : List ℕ) (files : Option Files) → KeepsOthers name files files
keeps_same name None = refl
keeps_same name (Some files) = λ other apart. refl

keeps_with : (name text : List ℕ) (files : Option Files) → KeepsOthers name files (told_with name text files)
keeps_with name text None = refl
keeps_with name text (Some files) = λ other apart. file_at-with_other name text other files apart

-- no other file changes by a text that was put in place
pub others_committed : (files now new : Option Files) (before staged : Option (List ℕ)) (name text : List ℕ)
    → now ≡ files → staged ≡ with_piece (emptied before) text → Commits now staged name new → KeepsOthers name files new
others_committed files now new before staged name text same is h =
    let C : Option (List ℕ) → Type 0 = λ s. Commits now s name new in
    let K : Option Files → Type 0 = λ f. KeepsOthers name f new in
    subst K same (subst (KeepsOthers name now) (sym (committed now new before name text (subst C is h))) (keeps_with name text now))

-- and none by a commit that was refused
pub others_refused : (fail : ShelfFail) (files now new : Option Files) (before staged after : Option (List ℕ)) (name text : List ℕ)
    → now ≡ files → staged ≡ with_piece (emptied before) text → CommitRefused fail now staged name new after → KeepsOthers name files new
others_refused Mem files now new before staged after name text same is h = subst (KeepsOthers name files) (sym (h.0 ∙ same)) (keeps_same name files)
others_refused Failed files now new before staged after name text same is h = elim h.0 [
  | inl e ↦ subst (KeepsOthers name files) (sym (e ∙ same)) (keeps_same name files)
  | inr c ↦ others_committed files now new before staged name text same is c
]

-- what holds, holds at an error
pub on_err_of : {T E P : Type 0} (r : Result T E) → P → OnErr r P
on_err_of (Ok x) p = tt
on_err_of (Err e) p = p

emptied_after : (before : Option (List ℕ)) (text : List ℕ) → emptied (with_piece (emptied before) text) ≡ with_piece (emptied before) []
emptied_after None text = refl
emptied_after (Some old) text = refl

-- what is staged after a commit that was refused is the text, or nothing
pub front_refused : (fail : ShelfFail) (files now new : Option Files) (before staged after : Option (List ℕ)) (name text : List ℕ)
    → staged ≡ with_piece (emptied before) text → CommitRefused fail now staged name new after → StagesFront (emptied before) after text
front_refused Mem files now new before staged after name text is h = (text, ([], append-nil text), h.1 ∙ is)
front_refused Failed files now new before staged after name text is h = elim h.1 [
  | inl e ↦ (text, ([], append-nil text), e ∙ is)
  | inr e ↦ ([], (text, refl), e ∙ ap emptied is ∙ emptied_after before text)
]
