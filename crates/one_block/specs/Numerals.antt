-- Numbers in decimal that zeros in front fill to some length.
use Rattle.std.specs.Prelude.{ℕ, ◌-◌, ◌==◌, ◌&&◌, nat_lt, List, [], ◌∷◌, ◌++◌, length, replicate, Option, None, if◌then◌else◌}
use Rattle.std.specs.Fmt.{decimal}
use Rattle.block_record.specs.Number.{number_of}

-- the text of a number, with zeros in front where it has less than so many digits
abbrev pub padded : ℕ → ℕ → List ℕ
padded width n = replicate (width - length (decimal n)) 48 ++ decimal n

-- a text without the zeros in front, of which the last stays where nothing follows it
abbrev pub without_zeros : List ℕ → List ℕ
without_zeros [] = []
without_zeros (b ∷ rest) = if b == 48 && nat_lt 0 (length rest) then without_zeros rest else b ∷ rest

-- the number that a text is, where zeros in front may fill it to just so many digits; none where the text is shorter
abbrev pub filled_number : ℕ → List ℕ → Option ℕ
filled_number width text =
    if nat_lt (length text) width then None
    else (if length text == width then number_of (without_zeros text) else number_of text)
