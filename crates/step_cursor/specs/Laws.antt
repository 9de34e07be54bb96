-- What printing and reading have to do with each other, as laws.
use Rattle.std.specs.Prelude.{ℕ, ◌≡◌, List, None}
use Rattle.base64.specs.GeneralPurpose.{IsBytes}
use Rattle.step_cursor.specs.declared.cursor.Cursor.{Cursor}
use Rattle.step_cursor.specs.CursorText.{cursor_text, IsPrintable}
use Rattle.step_cursor.specs.CursorParts.{cursor_fault}

-- a text is that of a cursor which can be printed
pub record IsSpelled (text : List ℕ) : Type 0 where
  pub cursor : Cursor
  pub printable : IsPrintable cursor
  pub text_is : text ≡ cursor_text cursor

-- the text of a cursor has no bad part; a text of bytes without a bad part is that of a cursor; two cursors have two texts
pub record PrintedIsRead : Type 0 where
  pub good : (c : Cursor) → IsPrintable c → cursor_fault (cursor_text c) ≡ None
  pub spelled : (text : List ℕ) → IsBytes text → cursor_fault text ≡ None → IsSpelled text
  pub one_value : (a b : Cursor) → IsPrintable a → IsPrintable b → cursor_text a ≡ cursor_text b → a ≡ b
