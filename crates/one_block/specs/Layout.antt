-- The layout of a shelf: how many numbers each of its files of merged blocks covers.
use Rattle.std.specs.Prelude.{ℕ, ◌≡◌, ◌+◌, ◌==◌, List, [], ◌∷◌, ◌++◌, codes, Option, None, Some, ⊤, Result, Ok, Err, if◌then◌else◌}
use Rattle.std.specs.Ordering.{nat_cmp, ord_max}
use Rattle.std.specs.Str.{bytes_eq}
use Rattle.outer_world.specs.Causes.{Rose}
use Rattle.outer_world.specs.Files.{Files}
use Rattle.outer_world.specs.Shelves.{Holds}
use Rattle.one_block.specs.declared.faults.StoreFault.{StoreFault}
use Rattle.one_block.specs.declared.faults.StoreFault.TheVariants.{ShelfFault, ShelfBad, Missing, StoredOther, NameClash, Mem}

-- the file that tells the layout
abbrev pub layout_file : List ℕ
layout_file = codes "layout/bundle"

-- its text for a size: the number and LF
abbrev pub layout_text : ℕ → List ℕ
layout_text size = (if size == 1000 then codes "1000" else codes "100") ++ 10 ∷ []

-- how many bytes two texts have in common at their front
abbrev pub shared : List ℕ → List ℕ → ℕ
shared [] other = 0
shared (a ∷ text) [] = 0
shared (a ∷ text) (b ∷ other) = if a == b then 1 + shared text other else 0

-- where a text that tells no size is bad: after the longest front that it has in common with a text that tells one
abbrev pub bad_place : List ℕ → ℕ
bad_place text = ord_max nat_cmp (shared text (layout_text 100)) (shared text (layout_text 1000))

-- the size that a text tells, or where it is bad
abbrev pub size_told : List ℕ → Result ℕ ℕ
size_told text =
    if bytes_eq text (layout_text 100) then Ok 100
    else (if bytes_eq text (layout_text 1000) then Ok 1000 else Err (bad_place text))

-- the size of a shelf by the text of its layout, which is 100 where there is none
abbrev pub layout_size : Option (List ℕ) → Result ℕ ℕ
layout_size None = Ok 100
layout_size (Some text) = size_told text

-- the layout file, where it is told, has this size or is bad here
pub record HasLayout (files : Option Files) (told : Result ℕ ℕ) : Type 0 where
  pub text : Option (List ℕ)
  pub there : Holds files layout_file text
  pub told_is : layout_size text ≡ told

-- why the layout of a shelf was not read
abbrev pub LayoutRefused : Option Files → ℕ → ℕ → StoreFault → Type 0
LayoutRefused files before now ShelfFault = Rose before now
LayoutRefused files before now (ShelfBad name at) = (name ≡ layout_file) × HasLayout files (Err at)
LayoutRefused files before now (Missing name) = ⊥
LayoutRefused files before now (StoredOther kept read) = ⊥
LayoutRefused files before now (NameClash held offered) = ⊥
LayoutRefused files before now Mem = ⊤

-- what is answered of the layout of a shelf
abbrev pub LayoutAnswers : Option Files → ℕ → ℕ → Result ℕ StoreFault → Type 0
LayoutAnswers files before now (Ok size) = HasLayout files (Ok size)
LayoutAnswers files before now (Err fault) = LayoutRefused files before now fault
