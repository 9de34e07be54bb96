-- How many blocks a relay retains, and how many final ones are stored.
use Rattle.std.specs.Prelude.{ℕ, ◌+◌, Bool, not, ◌&&◌, nat_lt, List, [], ◌∷◌, length, filter}
use Rattle.std.specs.List.{list_any}
use Rattle.block_record.specs.declared.blocks.Slip.{Slip}
use Rattle.block_record.specs.Slips.{same_slip}
use Rattle.chain_model.specs.Ancestry.{has_id}
use Rattle.chain_model.specs.Finality.{final_ancestry}
use Rattle.relay_model.specs.Worlds.{World}
use Rattle.bundle_model.specs.Bundles.{Bundle, bundles_of, blocks_of}
use Rattle.bundle_model.specs.Plans.{is_stored}

-- the end of the last of some bundles, or 0 where there is none
abbrev pub last_end : ℕ → List Bundle → ℕ
last_end size [] = 0
last_end size (b ∷ []) = b.base + size
last_end size (b ∷ c ∷ rest) = last_end size (c ∷ rest)

-- whether a block is in a bundle of a history
abbrev pub is_bundled : ℕ → List Slip → Slip → Bool
is_bundled size newest s = list_any (same_slip s) (blocks_of (bundles_of size newest))

-- whether it is off the final path, below the end of the last bundle
abbrev pub is_passed_by : ℕ → List Slip → Slip → Bool
is_passed_by size newest s = not (has_id (final_ancestry newest) s.id) && nat_lt s.num (last_end size (bundles_of size newest))

-- whether it is neither
abbrev pub is_left : ℕ → List Slip → Slip → Bool
is_left size newest s = not (is_bundled size newest s) && not (is_passed_by size newest s)

-- how many blocks of a history are outside the bundles, less those off the final path below the end of the last one
abbrev pub left_count : ℕ → List Slip → ℕ
left_count size newest = length (filter (is_left size newest) newest)

-- how many blocks are not stored, and so retained
abbrev pub retained : World → ℕ
retained w = length (filter (λ s. not (is_stored w s)) w.history)

-- how many blocks of the final path are stored
abbrev pub stored_finals : World → ℕ
stored_finals w = length (filter (is_stored w) (final_ancestry w.history))
