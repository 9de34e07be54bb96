-- The names of files that hold one block, by folder.
use Rattle.std.specs.Prelude.{ℕ, ◌==◌, ◌&&◌, Bool, false, List, [], ◌∷◌, take, drop, Option, None, Some, option_and_then, if◌then◌else◌}
use Rattle.std.specs.List.{position}
use Rattle.std.specs.Option.{option_map, is_some}
use Rattle.block_record.specs.declared.blocks.Slip.{Slip}
use Rattle.block_record.specs.Texts.{is_id_text}
use Rattle.one_block.specs.Numerals.{filled_number}
use Rattle.one_block.specs.Files.{bare_text, forked_text}
use Rattle.one_block.specs.Names.{name_parts, own_file}
use Rattle.one_block.specs.declared.forms.Folder.{Folder}
use Rattle.one_block.specs.declared.forms.Folder.TheVariants.{One, Forked}
use Rattle.one_block.specs.declared.forms.Form.{Form}
use Rattle.one_block.specs.declared.forms.Form.TheVariants.{ByReader, ByBlock}

-- a one-block name has a reader
abbrev pub by_reader : List ℕ → Option Form
by_reader bare = option_map (λ parts. ByReader parts.reader) (name_parts bare)

-- a dash and an id
abbrev pub is_dash_and_id : List ℕ → Bool
is_dash_and_id [] = false
is_dash_and_id (dash ∷ id) = is_id_text id

-- a number of at least ten digits, and from its end on a dash and an id
abbrev pub by_block_at : List ℕ → ℕ → Option Form
by_block_at bare end = if is_some (filled_number 10 (take end bare)) && is_dash_and_id (drop end bare) then Some ByBlock else None

-- the number ends at the first dash
abbrev pub by_block : List ℕ → Option Form
by_block bare = option_and_then (by_block_at bare) (position (λ byte. byte == 45) bare)

-- the form of a name without folder and ending
abbrev pub bare_form : Folder → List ℕ → Option Form
bare_form One bare = by_reader bare
bare_form Forked bare = by_block bare

-- the form of a whole name in its folder, and none where it is of another form
abbrev pub form_of : Folder → List ℕ → Option Form
form_of folder name = option_and_then (bare_form folder) (bare_text name)

-- the whole name of a block's file in this form
abbrev pub own_name : Form → Slip → List ℕ
own_name (ByReader reader) s = own_file s reader
own_name ByBlock s = forked_text s.num s.id
