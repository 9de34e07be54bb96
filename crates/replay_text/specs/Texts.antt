-- The texts of refusals, each as its parts. On the error output the program writes the same texts.
use Rattle.std.specs.Prelude.{ℕ, List, [], ◌∷◌, ◌++◌, codes}
use Rattle.std.specs.Fmt.{decimal}
use Rattle.std.specs.List.{concat}
use Rattle.block_record.specs.declared.blocks.Slip.{Slip}
use Rattle.fire_lines.specs.declared.faults.LineFault.{LineFault}
use Rattle.relay_model.specs.declared.answers.Conflict.{Conflict}
use Rattle.steps_command.specs.ErrorLines.{kind_word, fault_words, fault_place, fault_field}

-- a line of parts: one after another, and an LF
abbrev pub line_of : List (List ℕ) → List ℕ
line_of parts = concat (parts ++ codes "\n" ∷ [])

-- a bad line of a node: its number, what is wrong with it, and the number of a bad field
abbrev pub bad_line_parts : LineFault → List (List ℕ)
bad_line_parts f = codes "line " ∷ decimal (fault_place f) ∷ codes ": " ∷ fault_words f ∷ fault_field f ∷ []

-- two blocks that contradict each other
abbrev pub conflict_parts : Conflict → List (List ℕ)
conflict_parts c =
    codes "conflict " ∷ kind_word c.kind ∷ codes " held " ∷ decimal c.held.num ∷ codes " " ∷ c.held.id
    ∷ codes " offered " ∷ decimal c.offered.num ∷ codes " " ∷ c.offered.id ∷ []

-- a history of so many blocks, which has no room for so many more
abbrev pub history_full_parts : ℕ → ℕ → List (List ℕ)
history_full_parts len need = codes "history full " ∷ decimal len ∷ codes " " ∷ decimal need ∷ []

-- so many blocks with so many bytes of payloads that wait, and no room for one more
abbrev pub wait_full_parts : ℕ → ℕ → List (List ℕ)
wait_full_parts blocks bytes = codes "wait full " ∷ decimal blocks ∷ codes " " ∷ decimal bytes ∷ []

-- two types of blocks
abbrev pub kind_clash_parts : List ℕ → List ℕ → List (List ℕ)
kind_clash_parts held offered = codes "kind clash " ∷ held ∷ codes " " ∷ offered ∷ []

-- two blocks whose files have one name
abbrev pub name_clash_parts : Slip → Slip → List (List ℕ)
name_clash_parts held offered =
    codes "name clash " ∷ decimal held.num ∷ codes " " ∷ held.id ∷ codes " " ∷ decimal offered.num ∷ codes " " ∷ offered.id ∷ []

-- a closed relay with a history of so many blocks
abbrev pub closed_parts : ℕ → List (List ℕ)
closed_parts len = codes "closed " ∷ decimal len ∷ []
