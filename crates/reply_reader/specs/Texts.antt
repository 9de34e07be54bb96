-- Which text a line of a session is, without its LF.
use Rattle.std.specs.Prelude.{ℕ, ◌≡◌, ◌<◌, ◌^◌, ◌⊎◌, ◌++◌, List, [], ◌∷◌, codes}
use Rattle.std.specs.Fmt.{decimal}
use Rattle.std.specs.List.{concat}
use Rattle.base64.specs.GeneralPurpose.{encode_of}
use Rattle.base64.specs.Engines.{standard}
use Rattle.block_record.specs.declared.blocks.Block.{Block}
use Rattle.chain_model.specs.declared.places.Step.{Step}
use Rattle.step_cursor.specs.declared.cursor.Cursor.{Cursor}
use Rattle.step_cursor.specs.CursorText.{IsPrintable, IsRefIfAny, cursor_text}
use Rattle.step_text.specs.StepText.{word_of}
use Rattle.reply_text.specs.declared.errors.ErrorLine.{ErrorLine}
use Rattle.reply_text.specs.Lines.{cursor_after, open_line, step_front, head_line, end_line, error_line}
use Rattle.reply_text.specs.Replies.{Reply as Printed, Open, StepOf, Head, End, Error}
use Rattle.reply_text.specs.Values.{IsOpenValue, IsBlockValue, IsErrorValue}
use Rattle.reply_reader.specs.declared.replies.Reply.{Reply}
use Rattle.reply_reader.specs.declared.replies.Reply.TheVariants as reply

-- the line of a step with its cursor
abbrev pub cursor_line : Step → Block → Cursor → List ℕ
cursor_line kind b cursor = concat (step_front kind b ∷ cursor_text cursor ∷ codes "\"}\n" ∷ [])

-- the line of a step of an earlier plant, which has no digest
abbrev pub old_cursor_line : Step → Block → Cursor → List ℕ
old_cursor_line kind b cursor =
    concat (
    codes "{\"step\":\"" ∷ word_of kind ∷ codes "\",\"num\":" ∷ decimal b.num ∷ codes ",\"id\":\"" ∷ b.id
    ∷ codes "\",\"parent_num\":" ∷ decimal b.parent_num ∷ codes ",\"parent_id\":\"" ∷ b.parent_id
    ∷ codes "\",\"lib_num\":" ∷ decimal b.lib_num ∷ codes ",\"time\":" ∷ decimal b.time
    ∷ codes ",\"payload\":\"" ∷ encode_of standard b.payload ∷ codes "\",\"cursor\":\"" ∷ cursor_text cursor ∷ codes "\"}\n" ∷ []
    )

-- a line with its LF is that of a step, in one of its two forms
pub record IsStepLine (line : List ℕ) (kind : Step) (b : Block) (cursor : Cursor) : Type 0 where
  pub block : IsBlockValue b
  pub cursor_is : IsPrintable cursor
  pub text : (line ≡ cursor_line kind b cursor) ⊎ (line ≡ old_cursor_line kind b cursor)

-- a line with its LF is that of an error
pub record IsErrorLine (line : List ℕ) : Type 0 where
  pub error : ErrorLine
  pub value : IsErrorValue error
  pub text : line ≡ error_line error

-- a line with its LF says a reply; of an error the reply has the line itself, without the LF
abbrev pub Says : List ℕ → Reply → Type 0
Says line (reply.Open type run_number end lib) =
    IsOpenValue type run_number (record { end = end; lib = lib }) × (line ≡ open_line type run_number (record { end = end; lib = lib }))
Says line (reply.Step kind b cursor) = IsStepLine line kind b cursor
Says line (reply.Head head seen) = IsRefIfAny head × (seen < 2 ^ 64) × (line ≡ head_line head seen)
Says line (reply.End done) = line ≡ end_line done
Says line (reply.Error kept) = IsErrorLine line × (line ≡ kept ++ 10 ∷ [])

-- a line without its LF is the text of a reply
abbrev pub IsReplyText : List ℕ → Reply → Type 0
IsReplyText line r = Says (line ++ 10 ∷ []) r

-- what a printed line is read as: a step with its cursor, and an error as the line itself, without the LF
abbrev pub read_as : Printed → List ℕ → Reply
read_as (Open type run_number place) line = reply.Open type run_number place.end place.lib
read_as (StepOf kind b place tail) line = reply.Step kind b (cursor_after kind b place tail)
read_as (Head head seen) line = reply.Head head seen
read_as (End done) line = reply.End done
read_as (Error e) line = reply.Error line
