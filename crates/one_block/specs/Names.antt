-- The one name of a block's file, and which texts are such names.
use Rattle.std.specs.Prelude.{ℕ, ◌<◌, ◌^◌, ◌-◌, ◌/◌, ◌==◌, ◌&&◌, nat_le, Bool, IsTrue, List, [], ◌∷◌, length, drop, codes, Option, None, Some, slice_get, option_and_then, if◌then◌else◌}
use Rattle.std.specs.Fmt.{decimal}
use Rattle.std.specs.List.{slice_split, join_with_byte}
use Rattle.block_record.specs.declared.blocks.Slip.{Slip}
use Rattle.block_record.specs.Number.{number_of}
use Rattle.block_record.specs.Texts.{is_id_text, is_reader_text, IsId, IsReaderName}
use Rattle.one_block.specs.declared.names.NameParts.{NameParts}
use Rattle.one_block.specs.Moments.{IsTimely, moment_of, moment_text}
use Rattle.one_block.specs.Files.{whole_text}
use Rattle.one_block.specs.Numerals.{padded, filled_number}
use Rattle.one_block.specs.Reading.{tenths_named, ◌>>=◌}

-- the last 16 bytes of an id, or all of a shorter one
abbrev pub id_end : List ℕ → List ℕ
id_end id = drop (length id - 16) id

-- NUM, time, ID, PARENT, LIB and READER
abbrev pub name_words : NameParts → List (List ℕ)
name_words p = padded 10 p.num ∷ moment_text (moment_of p.tenths) ∷ p.id_end ∷ p.parent_end ∷ decimal p.lib_num ∷ p.reader ∷ []

-- the name with these parts: the words with a dash between each two
abbrev pub name_text : NameParts → List ℕ
name_text p = join_with_byte 45 (name_words p)

-- what the name of a block's file tells: the tenth of a second in which its time lies, and the ends of its ids
abbrev pub parts_of : Slip → List ℕ → NameParts
parts_of s reader = record {
  num = s.num;
  tenths = s.time / 100_000_000;
  id_end = id_end s.id;
  parent_end = id_end s.parent_id;
  lib_num = s.lib_num;
  reader = reader;
}

-- the name of a block's file that this reader writes
abbrev pub one_block_name : Slip → List ℕ → List ℕ
one_block_name s reader = name_text (parts_of s reader)

-- the whole name of that file
abbrev pub own_file : Slip → List ℕ → List ℕ
own_file s by = whole_text (codes "one") (one_block_name s by)

-- whether a text may be the end of an id: 1 to 16 bytes of ids
abbrev pub is_id_end : List ℕ → Bool
is_id_end text = is_id_text text && nat_le (length text) 16

-- a text that passes a test
abbrev pub passing : (List ℕ → Bool) → List ℕ → Option (List ℕ)
passing test text = if test text then Some text else None

-- what the k-th word is read as, where it is there and can be
abbrev pub word_at : {A : Type 0} → (List ℕ → Option A) → List (List ℕ) → ℕ → Option A
word_at read ws k = option_and_then read (slice_get ws k)

-- the parts that six words are
abbrev pub parts_named : List (List ℕ) → Option NameParts
parts_named ws = do
  num ← word_at (filled_number 10) ws 0
  tenths ← word_at tenths_named ws 1
  id_end ← word_at (passing is_id_end) ws 2
  parent_end ← word_at (passing is_id_end) ws 3
  lib_num ← word_at number_of ws 4
  reader ← word_at (passing is_reader_text) ws 5
  if length ws == 6
      then Some (record { num = num; tenths = tenths; id_end = id_end; parent_end = parent_end; lib_num = lib_num; reader = reader })
      else None

-- the parts of a name, and none where the text is no name
abbrev pub name_parts : List ℕ → Option NameParts
name_parts text = parts_named (slice_split (λ b. b == 45) text)

-- what the parts of a name are
pub record IsName (p : NameParts) : Type 0 where
  pub num : p.num < 2 ^ 64
  pub tenths : IsTimely p.tenths
  pub id_end : IsTrue (is_id_end p.id_end)
  pub parent_end : IsTrue (is_id_end p.parent_end)
  pub lib_num : p.lib_num < 2 ^ 64
  pub reader : IsReaderName p.reader

-- what each slip and each reader of the code has, and those of a contract may lack
pub record IsNamed (s : Slip) (by : List ℕ) : Type 0 where
  pub num : s.num < 2 ^ 64
  pub time : s.time < 2 ^ 64
  pub id : IsId s.id
  pub parent_id : IsId s.parent_id
  pub lib_num : s.lib_num < 2 ^ 64
  pub reader : IsReaderName by
