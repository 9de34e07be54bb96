-- The lines of a node that makes its blocks by a random sequence.
use Rattle.std.specs.Prelude.{ℕ, zero, suc, ◌+◌, ◌-◌, ◌*◌, ◌/◌, ◌%◌, ◌^◌, Bool, ◌==◌, ◌&&◌, not, nat_le, nat_lt, if◌then◌else◌, List, [], ◌∷◌, ◌++◌, codes}
use Rattle.std.specs.List.{concat}
use Rattle.std.specs.Int.{w64, to_be_bytes}
use Rattle.std.specs.Fmt.{decimal}
use Rattle.base64.specs.GeneralPurpose.{encode_of}
use Rattle.base64.specs.Engines.{standard}

-- the next element of the sequence: that of Knuth's MMIX, modulo 2^64
abbrev pub next_random : ℕ → ℕ
next_random x = (x * 6364136223846793005 + 1442695040888963407) % 2 ^ 64

-- what is drawn: the upper 31 bits
abbrev pub drawn : ℕ → ℕ
drawn x = x / 2 ^ 33

-- the number of the last block that is final under the block of this number
abbrev pub lib_of : ℕ → ℕ
lib_of num = num - 10

-- its time in nanoseconds
abbrev pub time_of : ℕ → ℕ
time_of num = 1500000000000000000 + num * 1000000000

-- the line of the block whose id is this letter and its number, over the block before it that has the parent's letter: its lib number, its time, and as payload the 8 bytes of x, the greatest first
abbrev pub block_line : ℕ → ℕ → ℕ → ℕ → List ℕ
block_line letter parent num x = concat (
    codes "FIRE BLOCK "
    ∷ decimal num
    ∷ codes " "
    ∷ (letter ∷ [])
    ∷ decimal num
    ∷ codes " "
    ∷ decimal (num - 1)
    ∷ codes " "
    ∷ (parent ∷ [])
    ∷ decimal (num - 1)
    ∷ codes " "
    ∷ decimal (lib_of num)
    ∷ codes " "
    ∷ decimal (time_of num)
    ∷ codes " "
    ∷ encode_of standard (to_be_bytes w64 x)
    ∷ codes "\n"
    ∷ []
    )

-- where a fork is drawn: one block beside the main line, and where it goes on, its child
abbrev pub fork_lines : ℕ → ℕ → ℕ → List ℕ
fork_lines forks num x =
    if drawn x % forks == 0 then
    block_line 115 109 num x ++ (if (drawn x / forks) % 2 == 1 then block_line 116 115 (num + 1) x else [])
    else []

-- whether at this number a fork is drawn at all
abbrev pub draws : ℕ → ℕ → Bool
draws forks num = nat_le 3 num && not (forks == 0)

-- the element of the sequence with which the blocks at a number are made
abbrev pub random_at : ℕ → ℕ → ℕ → ℕ
random_at forks num x = if draws forks num then next_random x else x

-- the lines of a fork at a number, none where none may be
abbrev pub fork_part : ℕ → ℕ → ℕ → List ℕ
fork_part forks num x = if draws forks num then fork_lines forks num x else []

-- the lines of the blocks that are made at a number with an element of the sequence: those of a fork, and that of the main line
abbrev pub lines_at : ℕ → ℕ → ℕ → List ℕ
lines_at forks num x = fork_part forks num x ++ block_line 109 109 num x

-- the element of the sequence after so many numbers
abbrev pub random_after : ℕ → ℕ → ℕ → ℕ
random_after key forks zero = key
random_after key forks (suc num) = random_at forks (suc num) (random_after key forks num)

-- the lines of the blocks up to a number
abbrev pub lines_up_to : ℕ → ℕ → ℕ → List ℕ
lines_up_to key forks zero = []
lines_up_to key forks (suc num) = lines_up_to key forks num ++ lines_at forks (suc num) (random_after key forks (suc num))

-- the opening line
abbrev pub opening_line : List ℕ
opening_line = codes "FIRE INIT 3.0 test.Block" ++ 10 ∷ []

-- the text of a node with this key, so many blocks on its main line, and a fork at about one of so many
abbrev pub generated : ℕ → ℕ → ℕ → List ℕ
generated key blocks forks = opening_line ++ lines_up_to key forks blocks
