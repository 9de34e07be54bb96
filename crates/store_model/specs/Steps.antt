-- What single steps do to what a shelf shows.
use Rattle.std.specs.Prelude.{ℕ, ◌≡◌, true, not, ◌==◌, nat_lt, List, [], ◌∷◌, if◌then◌else◌, filter}
use Rattle.std.specs.Str.{bytes_eq}
use Rattle.std.specs.List.{AllByRecursion}
use Rattle.relay_model.specs.Worlds.{World}
use Rattle.bundle_model.specs.Bundles.{Bundle}
use Rattle.bundle_model.specs.Shedding.{may_sweep}
use Rattle.store_model.specs.Shown.{Single, Shown}

-- files of one block without the one of a name
abbrev pub without_single : List ℕ → List Single → List Single
without_single name files = filter (λ file. not (bytes_eq file.name name)) files

-- a file of `one/` was removed
abbrev pub without_one : List ℕ → Shown → Shown
without_one name shown = record shown { one = without_single name shown.one }

-- a bundle among others by its base, in place of the one of that base
abbrev pub with_bundle : Bundle → List Bundle → List Bundle
with_bundle b [] = b ∷ []
with_bundle b (c ∷ rest) =
    if nat_lt c.base b.base then c ∷ with_bundle b rest
    else if c.base == b.base then b ∷ rest
    else b ∷ c ∷ rest

-- a merged file was put in place
abbrev pub with_merged : Bundle → Shown → Shown
with_merged b shown = record shown { merged = with_bundle b shown.merged }

-- each file of `one/` of this name has a block that may be swept
abbrev pub MaySweep : World → List ℕ → List Single → Type 0
MaySweep w name files = AllByRecursion (λ file. bytes_eq file.name name ≡ true → may_sweep w file.slip.num file.slip.id ≡ true) files
