-- The one spelling of a cursor.
use Rattle.std.specs.Prelude.{ℕ, ◌<◌, ◌^◌, Bool, false, List, [], ◌∷◌, ◌++◌, codes, if◌then◌else◌, Option, None, Some}
use Rattle.std.specs.Fmt.{decimal}
use Rattle.std.specs.List.{join_with_byte}
use Rattle.base64.specs.GeneralPurpose.{encode_of}
use Rattle.base64.specs.Engines.{url_safe_no_pad}
use Rattle.block_record.specs.declared.blocks.BlockRef.{BlockRef}
use Rattle.block_record.specs.Texts.{IsId}
use Rattle.chain_model.specs.declared.places.Step.{Step}
use Rattle.chain_model.specs.declared.places.Step.TheVariants as step
use Rattle.chain_model.specs.Fold.{same_ref}
use Rattle.step_cursor.specs.declared.cursor.Cursor.{Cursor}
use Rattle.step_cursor.specs.declared.cursor.Tail.{Tail}
use Rattle.step_cursor.specs.declared.form.Form.{Form}
use Rattle.step_cursor.specs.declared.form.Form.TheVariants.{AtEnd, AtLib, Apart}

-- the number of a step in a cursor's text
abbrev pub step_number : Step → ℕ
step_number step.New = 1
step_number step.Undo = 2
step_number step.Final = 16
step_number step.NewFinal = 17

-- whether the block at a reference is this one
abbrev pub is_at : Option BlockRef → BlockRef → Bool
is_at None block = false
is_at (Some r) block = same_ref r block

-- the first form that fits: the end is the block, else the lib is the block, else neither is
abbrev pub form_for : BlockRef → Option BlockRef → Option BlockRef → Form
form_for block end lib = if is_at end block then AtEnd else if is_at lib block then AtLib else Apart

-- the word of a form
abbrev pub form_word : Form → List ℕ
form_word AtEnd = codes "c1"
form_word AtLib = codes "c2"
form_word Apart = codes "c3"

-- a block by number and id; a missing one is `0:-`
abbrev pub pair_words : Option BlockRef → List (List ℕ)
pair_words None = codes "0" ∷ codes "-" ∷ []
pair_words (Some r) = decimal r.num ∷ r.id ∷ []

-- the blocks of the place that a form writes: the lib where the end is the block, the end where the lib is the block, else both
abbrev pub place_words : Form → Option BlockRef → Option BlockRef → List (List ℕ)
place_words AtEnd end lib = pair_words lib
place_words AtLib end lib = pair_words end
place_words Apart end lib = pair_words end ++ pair_words lib

-- the words of a cursor: its form, the number of its step, its block and its place
abbrev pub cursor_words : Cursor → List (List ℕ)
cursor_words c =
    let form = form_for c.block c.place.end c.place.lib in
    form_word form ∷ decimal (step_number c.step) ∷ decimal c.block.num ∷ c.block.id ∷ place_words form c.place.end c.place.lib

-- the run and the length that was seen, where there is a tail
abbrev pub tail_parts : Option Tail → List (List ℕ)
tail_parts None = []
tail_parts (Some t) = decimal t.run ∷ decimal t.seen ∷ []

-- the plain text: the words with a colon between each two, and then the parts of the tail, each after a slash
abbrev pub plain_text : Cursor → List ℕ
plain_text c = join_with_byte 47 (join_with_byte 58 (cursor_words c) ∷ tail_parts c.tail)

-- the text of a cursor: the plain text in base64url, without padding (RFC 4648, section 5)
abbrev pub cursor_text : Cursor → List ℕ
cursor_text c = encode_of url_safe_no_pad (plain_text c)

-- what each reference of the code has, and one of a contract may lack: an id that is one, and a number of 64 bits
pub record IsRef (r : BlockRef) : Type 0 where
  pub id : IsId r.id
  pub num : r.num < 2 ^ 64

-- the same of a reference that may be missing
abbrev pub IsRefIfAny : Option BlockRef → Type 0
IsRefIfAny None = Unit {0}
IsRefIfAny (Some r) = IsRef r

-- what each tail of the code has: numbers of 64 bits
abbrev pub IsTailIfAny : Option Tail → Type 0
IsTailIfAny None = Unit {0}
IsTailIfAny (Some t) = (t.run < 2 ^ 64) × (t.seen < 2 ^ 64)

-- what each cursor of the code has, and one of a contract may lack
pub record IsPrintable (c : Cursor) : Type 0 where
  pub block : IsRef c.block
  pub end : IsRefIfAny c.place.end
  pub lib : IsRefIfAny c.place.lib
  pub tail : IsTailIfAny c.tail
