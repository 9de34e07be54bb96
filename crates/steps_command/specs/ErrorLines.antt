-- The status of what ended a text, and the line that names it.
use Rattle.std.specs.Prelude.{ℕ, ◌≡◌, ◌⊎◌, List, [], ◌∷◌, ◌++◌, codes}
use Rattle.std.specs.Fmt.{decimal}
use Rattle.command_io.specs.Lines.{named}
use Rattle.relay_model.specs.declared.answers.ConflictKind.{ConflictKind}
use Rattle.relay_model.specs.declared.answers.ConflictKind.TheVariants as kind
use Rattle.step_text.specs.declared.refusals.Refusal.{Refusal}
use Rattle.step_text.specs.declared.refusals.Refusal.TheVariants as refused
use Rattle.fire_lines.specs.declared.faults.LineFault.{LineFault}
use Rattle.fire_lines.specs.declared.faults.LineFault.TheVariants as fault
use Rattle.step_text.specs.StepText.{Ending, whole, bad_line, refusal}

-- the word of a kind of conflict
abbrev pub kind_word : ConflictKind → List ℕ
kind_word kind.Id = codes "id"
kind_word kind.Parent = codes "parent"
kind_word kind.Finality = codes "finality"

-- the line of a refusal
abbrev pub refusal_line : Refusal → List ℕ
refusal_line (refused.HistoryFull len need) = codes "fire: history full " ++ decimal len ++ 32 ∷ decimal need ++ 10 ∷ []
refusal_line (refused.Contradicts c) = codes "fire: conflict " ++ kind_word c.kind ++ codes " held " ++ named c.held.num c.held.id ++ codes " offered " ++ named c.offered.num c.offered.id ++ 10 ∷ []
refusal_line (refused.WaitFull blocks bytes) = codes "fire: wait full " ++ decimal blocks ++ 32 ∷ decimal bytes ++ 10 ∷ []

-- what is wrong with a line; that there was no memory is no fault of the line
abbrev pub fault_words : LineFault → List ℕ
fault_words (fault.TooLong line) = codes "too long"
fault_words (fault.BadInit line) = codes "bad init"
fault_words (fault.InitChanged line) = codes "init changed"
fault_words (fault.NoInit line) = codes "no init"
fault_words (fault.BadField line field) = codes "bad field "
fault_words fault.Mem = codes "no memory"

-- the number of the bad line, from 1
abbrev pub fault_place : LineFault → ℕ
fault_place (fault.TooLong line) = line
fault_place (fault.BadInit line) = line
fault_place (fault.InitChanged line) = line
fault_place (fault.NoInit line) = line
fault_place (fault.BadField line field) = line
fault_place fault.Mem = 0

-- the number of a bad field
abbrev pub fault_field : LineFault → List ℕ
fault_field (fault.TooLong line) = []
fault_field (fault.BadInit line) = []
fault_field (fault.InitChanged line) = []
fault_field (fault.NoInit line) = []
fault_field (fault.BadField line field) = decimal field
fault_field fault.Mem = []

-- the line of a bad line: its number, what is wrong with it, and the number of a bad field
abbrev pub fault_line : LineFault → List ℕ
fault_line f = codes "fire: line " ++ decimal (fault_place f) ++ codes ": " ++ fault_words f ++ fault_field f ++ 10 ∷ []

-- the status of a refusal
abbrev pub refusal_status : Refusal → ℕ
refusal_status (refused.HistoryFull len need) = 12
refusal_status (refused.WaitFull blocks bytes) = 12
refusal_status (refused.Contradicts c) = 6

-- the line of what ended a text, and none at its end
abbrev pub ending_line : Ending → List ℕ
ending_line whole = []
ending_line (bad_line f) = fault_line f
ending_line (refusal r) = refusal_line r

-- the status of what ended a text
abbrev pub ending_status : Ending → ℕ
ending_status whole = 0
ending_status (bad_line f) = 5
ending_status (refusal r) = refusal_status r

-- the statuses of what ended a text before its end
abbrev pub IsEndStatus : ℕ → Type 0
IsEndStatus status = (status ≡ 5) ⊎ (status ≡ 6) ⊎ (status ≡ 12)
