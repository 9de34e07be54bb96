-- The lines of the command `check`.
use Rattle.std.specs.Prelude.{ℕ, List, [], ◌∷◌, ◌++◌, codes}
use Rattle.std.specs.Fmt.{decimal}
use Rattle.shelf_check.specs.declared.check.Report.{Report}

-- a line of a word and a number
abbrev pub count_line : List ℕ → ℕ → List ℕ
count_line word count = word ++ 32 ∷ (decimal count ++ 10 ∷ [])

-- the four lines of a report
abbrev pub report_text : Report → List ℕ
report_text r = count_line (codes "bundles") r.bundles ++ (count_line (codes "blocks") r.blocks ++ (count_line (codes "one") r.one ++ count_line (codes "forked") r.forked))

-- the line of a file that is bad at this place
abbrev pub bad_line : List ℕ → ℕ → List ℕ
bad_line name at = codes "fire: shelf bad " ++ (name ++ 32 ∷ (decimal at ++ 10 ∷ []))

-- the line of a file of another type than those before it
abbrev pub clash_line : List ℕ → List ℕ → List ℕ
clash_line held offered = codes "fire: kind clash " ++ (held ++ 32 ∷ (offered ++ 10 ∷ []))
