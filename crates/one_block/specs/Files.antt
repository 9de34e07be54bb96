-- Whole names of files: a folder, a slash, a name and the ending `.dbin`.
use Rattle.std.specs.Prelude.{ℕ, ◌≡◌, ◌⊎◌, ◌-◌, ◌%◌, ◌==◌, List, [], ◌∷◌, ◌++◌, length, take, drop, codes, Option, None, Some, option_and_then, if◌then◌else◌}
use Rattle.std.specs.Option.{option_or}
use Rattle.std.specs.Str.{bytes_eq}
use Rattle.one_block.specs.Numerals.{padded, filled_number}

-- the name in a folder
abbrev pub whole_text : List ℕ → List ℕ → List ℕ
whole_text folder name = folder ++ 47 ∷ (name ++ codes ".dbin")

-- what follows the first slash
abbrev pub after_slash : List ℕ → Option (List ℕ)
after_slash [] = None
after_slash (b ∷ rest) = if b == 47 then Some rest else after_slash rest

-- a text without its ending, where it has this one
abbrev pub without_ending : List ℕ → List ℕ → Option (List ℕ)
without_ending ending text =
    if bytes_eq (drop (length text - length ending) text) ending then Some (take (length text - length ending) text) else None

-- a text without its front, where it begins so
abbrev pub without_front : List ℕ → List ℕ → Option (List ℕ)
without_front front text = if bytes_eq (take (length front) text) front then Some (drop (length front) text) else None

-- what stands between the first slash and the ending
abbrev pub bare_text : List ℕ → Option (List ℕ)
bare_text file = option_and_then (without_ending (codes ".dbin")) (after_slash file)

-- a file of merged blocks covers so many numbers
abbrev pub IsSize : ℕ → Type 0
IsSize size = (size ≡ 100) ⊎ (size ≡ 1000)

-- the folder of the files of merged blocks of a size
abbrev pub folder_of_size : ℕ → List ℕ
folder_of_size size = if size == 1000 then codes "merged1000" else codes "merged"

-- the file of a size that has the blocks from this base on
abbrev pub merged_text : ℕ → ℕ → List ℕ
merged_text size base = whole_text (folder_of_size size) (padded 10 base)

-- the file of a block off the final path
abbrev pub forked_text : ℕ → List ℕ → List ℕ
forked_text num id = whole_text (codes "forked") (padded 10 num ++ 45 ∷ id)

-- a base is a multiple of the size
abbrev pub base_of : ℕ → ℕ → Option ℕ
base_of size n = if n % size == 0 then Some n else None

-- the base in the name of a file of merged blocks of a size, and none where the text is no such name
abbrev pub base_in : ℕ → List ℕ → Option ℕ
base_in size file =
    option_and_then (base_of size) (option_and_then (filled_number 10) (option_and_then (without_ending (codes ".dbin"))
    (option_and_then (without_front (codes "/")) (without_front (folder_of_size size) file))))

-- the same of either size
abbrev pub merged_base_of : List ℕ → Option ℕ
merged_base_of file = option_or (base_in 100 file) (base_in 1000 file)
