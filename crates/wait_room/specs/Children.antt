-- How many waiting blocks name each id as their parent's.
use Rattle.std.specs.Prelude.{ℕ, ◌≡◌, List, Option, None, Some}
use Rattle.std.specs.HashMap.{HashMap, get}
use Rattle.block_record.specs.Ids.{same_id}
use Rattle.wait_room.specs.declared.children.Children.{Children}

-- how many children there are, where any are known
abbrev pub count_of : Option Children → ℕ
count_of None = 0
count_of (Some children) = children.count

-- how many children of the id are counted
abbrev pub children_at : {S : Type 0} → HashMap (List ℕ) Children S → List ℕ → ℕ
children_at children id = count_of (get same_id children id)

-- each id has as many children as before
abbrev pub IsSame : {S : Type 0} → HashMap (List ℕ) Children S → HashMap (List ℕ) Children S → Type 0
IsSame old new = (id : List ℕ) → children_at new id ≡ children_at old id
