-- Names that stay inside the folder of a shelf.
use Rattle.std.specs.Prelude.{ℕ, ◌≡◌, Bool, not, ◌&&◌, IsTrue, List, [], ◌∷◌, ◌++◌, codes, nat_eq}
use Rattle.std.specs.List.{list_any, before_first, after_first, All, Contains}
use Rattle.std.specs.Str.{bytes_eq}
use Rattle.outer_world.specs.Files.{AreInOrder, is_in}

-- the byte is a '/'
abbrev pub is_slash : ℕ → Bool
is_slash byte = nat_eq byte 47

-- the text leads to one thing right in a folder, and nowhere else
abbrev pub is_part : List ℕ → Bool
is_part text = not (bytes_eq text []) && not (bytes_eq text (codes ".")) && not (bytes_eq text (codes "..")) && not (list_any is_slash text)

-- what stands before the first '/' of a whole name
abbrev pub folder_of : List ℕ → List ℕ
folder_of name = before_first is_slash name

-- what follows the first '/' of a whole name
abbrev pub last_of : List ℕ → List ℕ
last_of name = after_first is_slash name

-- two texts with a '/' between them
abbrev pub joined : List ℕ → List ℕ → List ℕ
joined front back = front ++ 47 ∷ back

-- this is the path of a folder right in the root, and of the file of this name right in that folder
pub record IsPlaceOf (root name folder file : List ℕ) : Type 0 where
  pub stays : IsTrue (is_part (folder_of name) && is_part (last_of name))
  pub in_root : folder ≡ joined root (folder_of name)
  pub in_folder : file ≡ joined folder (last_of name)

-- the names stand in order, each once, and they are those of the other list
pub record AreSortedOf (found names : List (List ℕ)) : Type 0 where
  pub in_order : AreInOrder names
  pub all : All (Contains names) found
  pub none_other : All (Contains found) names

-- each of these is the name of a file of the folder
abbrev pub AreFoundIn : List ℕ → List (List ℕ) → Type 0
AreFoundIn folder names = All (λ name. IsTrue (is_in folder name)) names
