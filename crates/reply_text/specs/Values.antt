-- What each reply of the code has, and one of a contract may lack.
use Rattle.std.specs.Prelude.{ℕ, ◌≡◌, ◌<◌, ◌^◌, List, ◌∷◌, [], ◌++◌}
use Rattle.base64.specs.GeneralPurpose.{IsBytes}
use Rattle.block_record.specs.declared.blocks.Block.{Block}
use Rattle.block_record.specs.Texts.{IsId, IsTypeName}
use Rattle.chain_model.specs.declared.places.Place.{Place}
use Rattle.step_cursor.specs.CursorText.{IsRefIfAny, IsPrintable}
use Rattle.reply_text.specs.declared.errors.ErrorLine.{ErrorLine}
use Rattle.reply_text.specs.declared.errors.ErrorLine.TheVariants as fault
use Rattle.reply_text.specs.Lines.{cursor_after}
use Rattle.reply_text.specs.Replies.{Reply, Open, StepOf, Head, End, Error, reply_line}

-- of an error line: ids that are ids, and numbers of 64 bits
abbrev pub IsErrorValue : ErrorLine → Type 0
IsErrorValue (fault.BadRequest f) = Unit {0}
IsErrorValue fault.TooLong = Unit {0}
IsErrorValue (fault.Malformed at) = at < 2 ^ 64
IsErrorValue (fault.Unknown id) = IsId id
IsErrorValue (fault.Misfit f) = Unit {0}
IsErrorValue (fault.StopBelow end) = end < 2 ^ 64
IsErrorValue fault.ShelfFault = Unit {0}
IsErrorValue (fault.ShelfBad name at) = at < 2 ^ 64
IsErrorValue (fault.Missing name) = Unit {0}
IsErrorValue (fault.StoredOther num id) = (num < 2 ^ 64) × IsId id
IsErrorValue fault.Spent = Unit {0}
IsErrorValue fault.Mem = Unit {0}

-- of the first line: a type, a run of 64 bits, and blocks that are blocks
pub record IsOpenValue (type : List ℕ) (run_number : ℕ) (place : Place) : Type 0 where
  pub named : IsTypeName type
  pub run_small : run_number < 2 ^ 64
  pub end : IsRefIfAny place.end
  pub lib : IsRefIfAny place.lib

-- of a block: ids that are ids, numbers of 64 bits, a payload of bytes
pub record IsBlockValue (b : Block) : Type 0 where
  pub id : IsId b.id
  pub parent_id : IsId b.parent_id
  pub num : b.num < 2 ^ 64
  pub parent_num : b.parent_num < 2 ^ 64
  pub lib_num : b.lib_num < 2 ^ 64
  pub time : b.time < 2 ^ 64
  pub payload : IsBytes b.payload

-- of each reply
abbrev pub IsValue : Reply → Type 0
IsValue (Open type run_number place) = IsOpenValue type run_number place
IsValue (StepOf kind b place tail) = IsBlockValue b × IsPrintable (cursor_after kind b place tail)
IsValue (Head head seen) = IsRefIfAny head × (seen < 2 ^ 64)
IsValue (End done) = Unit {0}
IsValue (Error e) = IsErrorValue e

-- a line, without its LF, is read as a reply: it is the reply's line
pub record IsReadAs (line : List ℕ) (r : Reply) : Type 0 where
  pub value : IsValue r
  pub text : reply_line r ≡ line ++ 10 ∷ []
