-- What a file's text shows: the slips of its records.
use Rattle.std.specs.Prelude.{ℕ, List, length, Option, None, Some, Result, Ok, Err}
use Rattle.std.specs.List.{filter_map}
use Rattle.sha2.specs.Sha256.{sha256}
use Rattle.block_record.specs.declared.blocks.Slip.{Slip}
use Rattle.block_record.specs.Records.{Fields}
use Rattle.block_record.specs.Reading.{read_fields}
use Rattle.dbin_file.specs.Contents.{contents}

-- the slip of a block with these fields
abbrev pub slip_with : Fields → Slip
slip_with f = record {
  num = f.num;
  id = f.id;
  parent_num = f.parent_num;
  parent_id = f.parent_id;
  lib_num = f.lib_num;
  time = f.time;
  length = length f.payload;
  digest = sha256 f.payload;
}

-- the slip of what was read
abbrev pub slip_read : Result Fields ℕ → Option Slip
slip_read (Ok f) = Some (slip_with f)
slip_read (Err at) = None

-- the slip that a message shows, where it is a record in either form
abbrev pub slip_in : List ℕ → Option Slip
slip_in message = slip_read (read_fields message)

-- the slips that the records of a text show, in order
abbrev pub slips_in : List ℕ → List Slip
slips_in text = filter_map slip_in (contents text).messages
