-- What holds of a relay's world after each call.
use Rattle.std.specs.Prelude.{IsTrue, ◌≡◌, ◌<◌, false, List, [], ◌∷◌, length, None}
use Rattle.std.specs.List.{AllByRecursion}
use Rattle.block_record.specs.declared.blocks.Slip.{Slip}
use Rattle.block_record.specs.Parents.{is_parent_num}
use Rattle.chain_model.specs.Ancestry.{has_id, IsHistory}
use Rattle.chain_model.specs.Finality.{ClaimsAgree}
use Rattle.relay_model.specs.Worlds.{World}
use Rattle.relay_model.specs.Offers.{tip_num}

-- what holds of the slip of each block: its parent may have the number that it names
abbrev pub IsBlock : Slip → Type 0
IsBlock s = IsTrue (is_parent_num s.parent_num s.num)

-- no two slips have one id
abbrev pub IsDistinct : List Slip → Type 0
IsDistinct [] = Unit {0}
IsDistinct (s ∷ rest) = (has_id rest s.id ≡ false) × IsDistinct rest

-- a world is sound: its history is one and has a kind, the claims in it agree, what is stored is in it, and what waits is apart from it
pub record IsSound (w : World) : Type 0 where
  pub history : IsHistory w.history
  pub agreed : ClaimsAgree w.history
  -- where no kind is kept there is no block
  pub kind : w.kind ≡ None → w.history ≡ []
  -- each stored place is one of the history
  pub stored : AllByRecursion (λ at. at < length w.history) w.stored
  -- no two waiting blocks have one id, and none has the id of a block of the history
  pub distinct : IsDistinct w.waiting
  pub apart : AllByRecursion (λ s. has_id w.history s.id ≡ false) w.waiting
  -- no waiting block has its parent in the history
  pub orphans : AllByRecursion (λ s. has_id w.history s.parent_id ≡ false) w.waiting
  -- each has a number above the final tip's, and above its parent's
  pub above : AllByRecursion (λ s. tip_num w.history < s.num) w.waiting
  pub rises : AllByRecursion (λ s. s.parent_num < s.num) w.waiting
