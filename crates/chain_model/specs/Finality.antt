-- What the blocks of a history claim to be final.
use Rattle.std.specs.Prelude.{ℕ, ◌≡◌, max, Bool, ◌||◌, nat_le, nat_lt, List, [], ◌∷◌, reverse, if◌then◌else◌, Option, None, Some, IsTrue}
use Rattle.std.specs.List.{find, filter_map}
use Rattle.block_record.specs.declared.blocks.Slip.{Slip}
use Rattle.chain_model.specs.Ancestry.{ancestry, has_id, find_id}

-- the number of the root, or 0 where there is none
abbrev pub root_num : List Slip → ℕ
root_num [] = 0
root_num (s ∷ []) = s.num
root_num (s ∷ t ∷ older) = root_num (t ∷ older)

-- the last block of the path whose number is at most the greater of the block's lib number and the root's number
abbrev pub claim : List Slip → Slip → Option Slip
claim newest s = find (λ x. nat_le x.num (max s.lib_num (root_num newest))) (ancestry newest s.id)

-- whether a is on the path of b
abbrev pub on_path : List Slip → Slip → Slip → Bool
on_path newest a b = has_id (ancestry newest b.id) a.id

-- whether two claims agree: one is on the other's path
abbrev pub agrees : List Slip → Slip → Slip → Bool
agrees newest a b = on_path newest a b || on_path newest b a

-- all claims agree in pairs
abbrev pub ClaimsAgree : List Slip → Type 0
ClaimsAgree newest = (a b x y : Slip) → find_id newest a.id ≡ Some a → find_id newest b.id ≡ Some b
    → claim newest a ≡ Some x → claim newest b ≡ Some y → IsTrue (agrees newest x y)

-- the later of two, where its number is greater
abbrev pub greater : Option Slip → Slip → Option Slip
greater None s = Some s
greater (Some t) s = if nat_lt t.num s.num then Some s else Some t

-- the block with the greatest number, among equals the oldest
abbrev pub greatest : List Slip → Option Slip
greatest [] = None
greatest (s ∷ older) = greater (greatest older) s

-- the claims of all blocks, that of the newest first
abbrev pub claims : List Slip → List Slip
claims newest = filter_map (claim newest) newest

-- the final tip: the claim with the greatest number, among equals that of the oldest block
abbrev pub final_tip : List Slip → Option Slip
final_tip newest = greatest (claims newest)

-- the ancestry of a block that may be missing
abbrev pub ancestry_of : List Slip → Option Slip → List Slip
ancestry_of newest None = []
ancestry_of newest (Some s) = ancestry newest s.id

-- the final path, its tip first
abbrev pub final_ancestry : List Slip → List Slip
final_ancestry newest = ancestry_of newest (final_tip newest)

-- the final path, from the root to its tip
abbrev pub final_path : List Slip → List Slip
final_path history = reverse (final_ancestry (reverse history))
