-- The head of a file, as it was read.
use Rattle.std.proofs.Common.{◌≡◌, ℕ, false, List, length, Option, Some, None, sym, ap, ◌∙◌}
use Rattle.std.specs.Option.{option_map, unwrap_or}
use Rattle.std.proofs.lemmas.Slice.Eq.{bytes_eq-Decides}
use Rattle.std.specs.Str.{bytes_eq}
use Rattle.dbin_file.specs.Contents.{told}
use Rattle.one_block.specs.Containers.{fault_place, HasContents}
use Rattle.one_block.specs.declared.containers.FileContents.{FileContents}
use Rattle.one_block.specs.Heads.{IsKept, HasHead, IsBadHead, HasOtherType}
use Rattle.one_block.specs.SingleSteps.{IsOtherThan}

-- the header was read
pub has_head : (text : List ℕ) (kept : Option (List ℕ)) (file : FileContents) (block_type : List ℕ) → HasContents text file → file.block_type ≡ Some block_type → IsKept kept block_type → HasHead text kept block_type
has_head text kept file block_type has found same = record { typed = sym has.block_type ∙ found; same = same }

-- it is bad or cut
pub bad_head : (text : List ℕ) (file : FileContents) (end at : ℕ) → HasContents text file → end ≡ unwrap_or (option_map fault_place file.fault) (told (length text)) → file.block_type ≡ None → at ≡ end → IsBadHead text at
bad_head text file end at has end_is none at_is = record {
  untyped = sym has.block_type ∙ none;
  place = at_is ∙ end_is ∙ ap (λ f. unwrap_or (option_map fault_place f) (told (length text))) has.fault;
}

-- the file has another type
pub other_type : (text : List ℕ) (kept : Option (List ℕ)) (file : FileContents) (held offered : List ℕ) → HasContents text file → IsOtherThan file.block_type kept held offered → HasOtherType text kept held offered
other_type text kept file held offered has o = record { typed = sym has.block_type ∙ o.found_is; kept_is = o.kept_is; other = o.other }

-- texts that a test finds different are
pub differ : (held offered : List ℕ) → bytes_eq held offered ≡ false → held ≡ offered → ⊥
differ held offered e same = let t = (bytes_eq-Decides held offered).1 same in let clash = sym e ∙ t in cc clash
