-- What each single step keeps, as statements.
use Rattle.std.specs.Prelude.{ℕ, ◌≡◌, ◌<◌, ◌⊎◌, true, false, List, ◌∷◌, Some}
use Rattle.std.specs.List.{AllByRecursion}
use Rattle.std.specs.Str.{bytes_eq}
use Rattle.block_record.specs.declared.blocks.Slip.{Slip}
use Rattle.relay_model.specs.Worlds.{World}
use Rattle.relay_model.specs.Offers.{judge, offered}
use Rattle.relay_model.specs.Verdicts as verdict
use Rattle.relay_model.specs.Soundness.{IsSound, IsBlock}
use Rattle.bundle_model.specs.Members.{Among}
use Rattle.bundle_model.specs.Plans.{Plan, next_plan}
use Rattle.bundle_model.specs.Shedding.{shed}
use Rattle.store_model.specs.Shown.{Shown, IsSingle, IsPassed}
use Rattle.store_model.specs.Kept.{IsKeeping, IsStoredFinal, IsStoredFork}
use Rattle.store_model.specs.Steps.{without_one, with_merged, MaySweep}

-- an offer of a block that a file of one block shows, whatever its answer is
abbrev pub OfferStaysKept : Type 0
OfferStaysKept = (shown : Shown) (w : World) (s : Slip) → 0 < shown.size → IsSound w → IsBlock s → IsSingle shown s → IsKeeping shown w → IsKeeping shown (offered w s).world

-- a step that moves no block of the history, no waiting one and no stored place, as a hello, a noted conflict or the end
abbrev pub NoteStaysKept : Type 0
NoteStaysKept = (shown : Shown) (w v : World) → v.history ≡ w.history → v.waiting ≡ w.waiting → v.stored ≡ w.stored → IsKeeping shown w → IsKeeping shown v

-- the removal of a file of `one/` that may be swept
abbrev pub SweepKeeps : Type 0
SweepKeeps = (shown : Shown) (w : World) (name : List ℕ) → IsSound w → MaySweep w name shown.one → IsKeeping shown w → IsKeeping (without_one name shown) w

-- the removal of a file of `one/` whose block is not held
abbrev pub RemovalKeeps : Type 0
RemovalKeeps = (shown : Shown) (w : World) (name : List ℕ)
    → AllByRecursion (λ file. bytes_eq file.name name ≡ true → (Among w.history file.slip → ⊥) × (Among w.waiting file.slip → ⊥)) shown.one
    → IsKeeping shown w → IsKeeping (without_one name shown) w

-- each dead block of a plan is passed
abbrev pub DeadArePassed : Type 0
DeadArePassed = (w : World) (plan : Plan) → IsSound w → next_plan w ≡ Some plan → AllByRecursion (IsPassed w.history) plan.dead

-- the bundle of a plan, put into its folder
abbrev pub BundleKeeps : Type 0
BundleKeeps = (shown : Shown) (w : World) (plan : Plan) (s : Slip) (rest : List Slip) → 0 < w.size → shown.size ≡ w.size → IsSound w → IsKeeping shown w → next_plan w ≡ Some plan → plan.finals ≡ s ∷ rest
    → IsKeeping (with_merged (record { base = plan.base; blocks = plan.finals }) shown) w

-- then each of its blocks is shown where stored final blocks are looked for
abbrev pub BundleShows : Type 0
BundleShows = (shown : Shown) (w : World) (plan : Plan) (s : Slip) (rest : List Slip) → 0 < w.size → shown.size ≡ w.size → IsSound w → next_plan w ≡ Some plan → plan.finals ≡ s ∷ rest
    → AllByRecursion (IsStoredFinal (with_merged (record { base = plan.base; blocks = plan.finals }) shown) w.history) plan.finals

-- a plan is shed whose blocks are shown where stored blocks are looked for
abbrev pub ShedKeeps : Type 0
ShedKeeps = (shown : Shown) (w : World) (plan : Plan) → AllByRecursion (IsStoredFinal shown w.history) plan.finals → AllByRecursion (IsStoredFork shown w.history) plan.dead
    → IsKeeping shown w → IsKeeping shown (shed w plan)

-- a block that is held is answered as a repeat, unless the relay is closed: so no other answer is of a block that is held
abbrev pub HeldIsDuplicate : Type 0
HeldIsDuplicate = (w : World) (s : Slip) → IsSound w → w.closed ≡ false → Among w.history s ⊎ Among w.waiting s → judge w s ≡ verdict.Duplicate
