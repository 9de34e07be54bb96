-- What the code reads of a name before it copies texts.
use Rattle.std.specs.Prelude.{ℕ, ◌==◌, List, map, length, Option, Some, None, slice_get, if◌then◌else◌}
use Rattle.std.specs.Borrow.{Bor}
use Rattle.block_record.specs.Number.{number_of}
use Rattle.block_record.specs.Texts.{IsId, is_reader_text}
use Rattle.one_block.specs.declared.names.NameParts.{NameParts}
use Rattle.one_block.specs.declared.parse.NameTexts.{NameTexts}
use Rattle.one_block.specs.Names.{word_at, passing, is_id_end}
use Rattle.one_block.specs.Numerals.{filled_number}
use Rattle.one_block.specs.Reading.{tenths_named, ◌>>=◌}

-- what was read, and the bytes after it
abbrev pub rest_seen : {A : Type 0} → A × Bor (List ℕ) → A × List ℕ
rest_seen p = (p.0, p.1.now)

-- the texts that are borrowed
abbrev pub seen : List (Bor (List ℕ)) → List (List ℕ)
seen texts = map (λ t. t.now) texts

-- the parts of a name whose texts are borrowed
abbrev pub parts_seen : NameTexts → NameParts
parts_seen p = record { num = p.num; tenths = p.tenths; id_end = p.id_end.now; parent_end = p.parent_end.now; lib_num = p.lib_num; reader = p.reader.now }

-- the ends of ids are ids themselves
pub record HasIdEnds (p : NameParts) : Type 0 where
  pub id_end : IsId p.id_end
  pub parent_end : IsId p.parent_end

-- the parts that six words are, where the last may be no reader
abbrev pub words_named : List (List ℕ) → Option NameParts
words_named ws = do
  num ← word_at (filled_number 10) ws 0
  tenths ← word_at tenths_named ws 1
  id_end ← word_at (passing is_id_end) ws 2
  parent_end ← word_at (passing is_id_end) ws 3
  lib_num ← word_at number_of ws 4
  reader ← slice_get ws 5
  if length ws == 6
      then Some (record { num = num; tenths = tenths; id_end = id_end; parent_end = parent_end; lib_num = lib_num; reader = reader })
      else None

-- parts whose last is a reader
abbrev pub with_reader : NameParts → Option NameParts
with_reader p = if is_reader_text p.reader then Some p else None
