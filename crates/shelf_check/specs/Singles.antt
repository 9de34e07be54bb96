-- Files of one block each, by their folder.
use Rattle.std.specs.Prelude.{ℕ, ◌≡◌, List, Option, None, Some, ⊤, Result, Ok, Err}
use Rattle.block_record.specs.declared.blocks.Block.{Block}
use Rattle.one_block.specs.declared.file_faults.FileFault.{FileFault}
use Rattle.one_block.specs.declared.file_faults.FileFault.TheVariants.{Bad, OtherType, Mem}
use Rattle.one_block.specs.declared.forms.Folder.{Folder}
use Rattle.one_block.specs.declared.forms.Form.{Form}
use Rattle.one_block.specs.Forms.{form_of}
use Rattle.one_block.specs.Singles.{IsSingleOf, FormedRefused}

-- what is answered to a file whose name is of this form
abbrev pub FormedAnswers : Form → List ℕ → List ℕ → Option (List ℕ) → Result (List ℕ) FileFault → Type 0
FormedAnswers form name text kept (Ok block_type) = (block : Block) × IsSingleOf form name text kept block_type block
FormedAnswers form name text kept (Err fault) = FormedRefused form name text kept fault

-- a name of another form makes a file bad at its place 0
abbrev pub NameRefused : FileFault → Type 0
NameRefused (Bad at) = at ≡ 0
NameRefused (OtherType held offered) = ⊥
NameRefused Mem = ⊤

abbrev pub UnformedAnswers : Result (List ℕ) FileFault → Type 0
UnformedAnswers (Ok block_type) = ⊥
UnformedAnswers (Err fault) = NameRefused fault

-- by the form of the name, which is told before anything of the text
abbrev pub AnswersBy : Option Form → List ℕ → List ℕ → Option (List ℕ) → Result (List ℕ) FileFault → Type 0
AnswersBy None name text kept result = UnformedAnswers result
AnswersBy (Some form) name text kept result = FormedAnswers form name text kept result

-- what is answered to the file of this name and text in a folder, after files of this type
abbrev pub SingleAnswers : Folder → List ℕ → List ℕ → Option (List ℕ) → Result (List ℕ) FileFault → Type 0
SingleAnswers folder name text kept result = AnswersBy (form_of folder name) name text kept result
