-- Where a client stands: what it has of a path after its base.
use Rattle.std.specs.Prelude.{List, [], ◌∷◌, length, map, filter, Option, None, Some, IsTrue}
use Rattle.std.specs.Option.{option_map}
use Rattle.std.specs.List.{find}
use Rattle.block_record.specs.declared.blocks.Slip.{Slip}
use Rattle.block_record.specs.declared.blocks.BlockRef.{BlockRef}
use Rattle.chain_model.specs.declared.places.Place.{Place}
use Rattle.chain_model.specs.Ancestry.{has_id, ancestry}
use Rattle.chain_model.specs.Finality.{final_ancestry}
use Rattle.chain_model.specs.Steps.{keep_while, is_not, ancestry_at, ref_of}
use Rattle.chain_model.specs.Places.{IsHeld}
use Rattle.chain_model.specs.Fold.{FoldState}

-- the blocks of a path after the base, the last first; with no base, all of them
abbrev pub after_base : Option BlockRef → List Slip → List Slip
after_base base path = keep_while (is_not base) path

-- the state of a client that stands at a place: the path of the end after the base, counted as final up to the lib
abbrev pub stands : List Slip → Option BlockRef → Place → FoldState
stands newest base place = record {
  base = base;
  blocks = map ref_of (after_base base (ancestry_at newest place.end));
  finals = length (after_base base (ancestry_at newest place.lib));
}

-- the state of a client that has all of a path: its blocks after the base, of which exactly the final ones are counted
abbrev pub has_all : List Slip → Option BlockRef → List Slip → FoldState
has_all newest base path = record {
  base = base;
  blocks = map ref_of (after_base base path);
  finals = length (filter (λ s. has_id (final_ancestry newest) s.id) (after_base base path));
}

-- the state of a client that has received nothing yet
abbrev pub begins : Option BlockRef → FoldState
begins base = record { base = base; blocks = []; finals = 0 }

-- the base is held and on the path of the lib; no base is below each place
abbrev pub IsUnder : List Slip → Option BlockRef → Option BlockRef → Type 0
IsUnder newest None lib = Unit {0}
IsUnder newest (Some r) None = ⊥
IsUnder newest (Some r) (Some lib) = IsHeld newest r × IsTrue (has_id (ancestry newest lib.id) r.id)

-- the first block of a list, if there is one
abbrev pub first_of : List Slip → Option Slip
first_of [] = None
first_of (s ∷ rest) = Some s

-- the place at the end of a path: its last block, and the last of its blocks that is final
abbrev pub place_at_end : List Slip → List Slip → Place
place_at_end finals path = record { end = option_map ref_of (first_of path); lib = option_map ref_of (find (λ s. has_id finals s.id) path) }
