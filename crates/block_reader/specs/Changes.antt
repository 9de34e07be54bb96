-- What is done to the files of a shelf, one change after another, and to the own files of a reader beside them.
use Rattle.std.specs.Prelude.{ℕ, ◌≡◌, ◌⊎◌, ◌+◌, Bool, false, List, [], ◌∷◌, ◌++◌, map, take, filter, codes, slice_get, if◌then◌else◌, Option, None, Some, Result, Ok, Err}
use Rattle.block_record.specs.declared.blocks.Slip.{Slip}
use Rattle.outer_world.specs.Files.{Files}
use Rattle.outer_world.specs.Shelves.{told_with, told_without}
use Rattle.one_block.specs.declared.faults.Put.{Put}
use Rattle.one_block.specs.declared.faults.Put.TheVariants.{Written, Present}
use Rattle.one_block.specs.Files.{whole_text}
use Rattle.one_block.specs.Names.{one_block_name}
use Rattle.block_intake.specs.declared.answers.Offered.{Offered}
use Rattle.block_intake.specs.declared.answers.Offered.TheVariants as answer
use Rattle.block_intake.specs.declared.answers.OfferFault.{OfferFault}
use Rattle.block_intake.specs.declared.answers.OfferFault.TheVariants as fault
use Rattle.relay_model.specs.Worlds.{World}
use Rattle.bundle_model.specs.Shedding.{may_sweep}
use Rattle.block_reader.specs.declared.own.OwnFile.{OwnFile}
use Rattle.block_reader.specs.Own.{without_own}

-- the files of a shelf, where they are told, and the own files of a reader
pub record Shelved : Type 0 where
  pub files : Option Files
  pub own : List OwnFile

abbrev pub shelved : Option Files → List OwnFile → Shelved
shelved files own = record { files = files; own = own }

-- a change: a text is written under a name, or the file of a name is removed
pub data Change : Type 0 where
  Write : List ℕ → List ℕ → Change
  Remove : List ℕ → Change

-- what a change makes; a file that is removed is none of the own ones any more
abbrev pub changed : Change → Shelved → Shelved
changed (Write name text) s = shelved (told_with name text s.files) s.own
changed (Remove name) s = shelved (told_without name s.files) (without_own name s.own)

-- a change that was begun and changed no file yet: a file goes from the own ones before its removal is tried
abbrev pub begun : Change → Shelved → Shelved
begun (Write name text) s = s
begun (Remove name) s = shelved s.files (without_own name s.own)

-- a change that was tried and failed: it was made, or begun alone
abbrev pub IsTried : Change → Shelved → Shelved → Type 0
IsTried change old new = (new ≡ begun change old) ⊎ (new ≡ changed change old)

-- changes one after another
abbrev pub changed_all : List Change → Shelved → Shelved
changed_all [] s = s
changed_all (change ∷ changes) s = changed_all changes (changed change s)

-- changes were stopped: the first of them were made, the next one was tried, and no other
pub record IsStopped (changes : List Change) (old new : Shelved) : Type 0 where
  pub made : List Change
  pub next : Change
  pub left : List Change
  pub all : changes ≡ made ++ next ∷ left
  pub tried : IsTried next (changed_all made old) new

-- the whole name of a block's file in `refused/`
abbrev pub refused_file : Slip → List ℕ → List ℕ
refused_file s by = whole_text (codes "refused") (one_block_name s by)

-- a file that this call wrote is removed
abbrev pub written_changes : Put → List ℕ → List Change
written_changes Written one = Remove one ∷ []
written_changes Present one = []

-- a block's file is written into `refused/`, and then removed from `one/`
abbrev pub refusal_changes : List ℕ → List ℕ → List ℕ → List Change
refusal_changes one refused text = Write refused text ∷ Remove one ∷ []

-- what is done to a block's own file, by the answer to its offer
abbrev pub own_changes : Put → List ℕ → List ℕ → List ℕ → Result Offered OfferFault → List Change
own_changes put one refused text (Ok (answer.Admitted from count dropped)) = []
own_changes put one refused text (Ok answer.Duplicate) = []
own_changes put one refused text (Ok answer.Waiting) = []
own_changes put one refused text (Ok answer.Early) = written_changes put one
own_changes put one refused text (Ok answer.Stale) = written_changes put one
own_changes put one refused text (Err (fault.Closed len)) = []
own_changes put one refused text (Err (fault.Conflict c)) = refusal_changes one refused text
own_changes put one refused text (Err (fault.HistoryFull len need)) = []
own_changes put one refused text (Err (fault.WaitFull blocks bytes)) = []
own_changes put one refused text (Err fault.Mem) = []

-- whether a block's file may be removed by what the relay holds
abbrev pub is_swept : World → OwnFile → Bool
is_swept w file = may_sweep w file.num file.id

-- the two oldest own files are removed where they may be
abbrev pub swept_changes : World → List OwnFile → List Change
swept_changes w own = map (λ file. Remove file.name) (filter (is_swept w) (take 2 own))

-- that is done where the answer is Ok
abbrev pub sweep_changes : Result Offered OfferFault → World → List OwnFile → List Change
sweep_changes (Ok a) w own = swept_changes w own
sweep_changes (Err f) w own = []

-- all that an answer asks for, once the block's own file was put
abbrev pub all_changes : World → Put → List ℕ → List ℕ → List ℕ → Result Offered OfferFault → Shelved → List Change
all_changes w put one refused text said s =
    own_changes put one refused text said ++ sweep_changes said w (changed_all (own_changes put one refused text said) s).own

-- whether a file that is there may be removed
abbrev pub is_swept_one : World → Option OwnFile → Bool
is_swept_one w None = false
is_swept_one w (Some file) = is_swept w file

-- whether the own file at a place may be removed
abbrev pub is_swept_at : World → ℕ → List OwnFile → Bool
is_swept_at w at own = is_swept_one w (slice_get own at)

-- the removal of a file, where there is one
abbrev pub removal_of : Option OwnFile → List Change
removal_of None = []
removal_of (Some file) = Remove file.name ∷ []

-- the own file at a place is removed where it may be
abbrev pub changes_at : World → ℕ → List OwnFile → List Change
changes_at w at own = if is_swept_at w at own then removal_of (slice_get own at) else []

-- the place where the next own file stands after that
abbrev pub next_place : World → ℕ → List OwnFile → ℕ
next_place w at own = if is_swept_at w at own then at else at + 1
