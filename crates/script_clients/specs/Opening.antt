-- What a request line opens.
use Rattle.std.specs.Prelude.{ℕ, ◌≡◌, ◌<◌, ◌≤◌, ◌++◌, ◌⊎◌, List, length, None, Some, Result, Ok, Err}
use Rattle.step_cursor.specs.declared.cursor.Request.{Request}
use Rattle.client_stream.specs.Sessions.{new_state}
use Rattle.reply_text.specs.declared.errors.ErrorLine.{ErrorLine}
use Rattle.reply_text.specs.declared.errors.ErrorLine.TheVariants as line
use Rattle.reply_text.specs.Lines.{error_line}
use Rattle.replay_text.specs.Replies.{client_lines}
use Rattle.request_text.specs.declared.fault.RequestFault.{RequestFault}
use Rattle.request_text.specs.declared.fault.RequestFault.TheVariants as fault
use Rattle.request_text.specs.Asked.{IsAnswer}
use Rattle.script_clients.specs.declared.named.Named.{Named}
use Rattle.script_clients.specs.declared.opening.OpenFault.{OpenFault}
use Rattle.script_clients.specs.declared.opening.OpenFault.TheVariants as opening
use Rattle.script_clients.specs.Clients.{with_client}

-- a line, of at most so many bytes, is answered so
pub record IsAnswered (limit : ℕ) (text : List ℕ) (answer : Result Request RequestFault) : Type 0 where
  pub short : length text ≤ limit
  pub said : IsAnswer text answer

-- a line is a request
abbrev pub IsRequest : ℕ → List ℕ → Request → Type 0
IsRequest limit text r = IsAnswered limit text (Ok r)

-- a line is refused with this error: it has too many bytes, or is no request
abbrev pub IsRefusedWith : ℕ → List ℕ → ErrorLine → Type 0
IsRefusedWith limit text line.TooLong = limit < length text
IsRefusedWith limit text (line.BadRequest f) = IsAnswered limit text (Err (fault.BadRequest f))
IsRefusedWith limit text (line.Malformed at) = IsAnswered limit text (Err (fault.Malformed at))
IsRefusedWith limit text (line.Unknown id) = ⊥
IsRefusedWith limit text (line.Misfit f) = ⊥
IsRefusedWith limit text (line.StopBelow end) = ⊥
IsRefusedWith limit text line.ShelfFault = ⊥
IsRefusedWith limit text (line.ShelfBad name at) = ⊥
IsRefusedWith limit text (line.Missing name) = ⊥
IsRefusedWith limit text (line.StoredOther num id) = ⊥
IsRefusedWith limit text line.Spent = ⊥
IsRefusedWith limit text line.Mem = ⊥

-- why a line opens no session; without memory nothing is said
abbrev pub IsNoRequest : ℕ → List ℕ → OpenFault → Type 0
IsNoRequest limit text (opening.Refused error) = IsRefusedWith limit text error
IsNoRequest limit text opening.Mem = Unit {0}

-- how a client is told that its line is no request
abbrev pub fault_of : RequestFault → OpenFault
fault_of (fault.BadRequest f) = opening.Refused (line.BadRequest f)
fault_of (fault.Malformed at) = opening.Refused (line.Malformed at)
fault_of fault.Mem = opening.Mem

-- a client was opened: its line is a request, and it is sent nothing yet
pub record WasOpened (limit run : ℕ) (name text : List ℕ) (old new : List Named) (before after : List ℕ) : Type 0 where
  pub request : Request
  pub is_request : IsRequest limit text request
  pub clients : new ≡ with_client name (Some (new_state request run)) old
  pub silent : after ≡ before

-- a client was refused: it was sent the line that says why, and it is over
pub record WasRefused (limit : ℕ) (name text : List ℕ) (old new : List Named) (before after : List ℕ) : Type 0 where
  pub error : ErrorLine
  pub cause : IsRefusedWith limit text error
  pub clients : new ≡ with_client name None old
  pub told : after ≡ before ++ client_lines name (error_line error)

-- what a request line brings about
abbrev pub IsOpened : ℕ → ℕ → List ℕ → List ℕ → List Named → List Named → List ℕ → List ℕ → Type 0
IsOpened limit run name text old new before after =
    WasOpened limit run name text old new before after ⊎ WasRefused limit name text old new before after
