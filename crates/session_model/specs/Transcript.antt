-- The transcript of a session, over a history with its newest block first.
use Rattle.std.specs.Prelude.{ℕ, ◌≡◌, ◌⊎◌, Bool, true, false, List, [], ◌∷◌, ◌++◌, map, Option, None, Some}
use Rattle.std.specs.Option.{option_map}
use mathlib.Core.List.{IsPrefix}
use Rattle.block_record.specs.declared.blocks.Slip.{Slip}
use Rattle.block_record.specs.declared.blocks.BlockRef.{BlockRef}
use Rattle.chain_model.specs.declared.places.Mode.{Mode}
use Rattle.chain_model.specs.declared.places.Place.{Place}
use Rattle.chain_model.specs.Steps.{ref_of, target}
use Rattle.chain_model.specs.Places.{PlacedStep, opening, steps_to, place_to}
use Rattle.chain_laws.specs.Standing.{first_of}
use Rattle.chain_laws.specs.Oldest.{oldest}
use Rattle.resume_laws.specs.Laws.{first_len}
use Rattle.step_cursor.specs.declared.cursor.Cursor.{Cursor}
use Rattle.step_cursor.specs.declared.cursor.Request.{Request}
use Rattle.reply_text.specs.declared.errors.ErrorLine.{ErrorLine}
use Rattle.reply_text.specs.declared.errors.ErrorLine.TheVariants as fault
use Rattle.reply_text.specs.Lines.{end_line, error_line}
use Rattle.session_model.specs.Told.{Told, Opens, Steps, Heads, Ends, Shows}

-- where a session begins: at the place of its cursor, or else at the opening of its start
abbrev pub begins_at : List Slip → ℕ → Option Cursor → Place
begins_at newest start None = opening newest start
begins_at newest start (Some c) = c.place

-- where a session with these lengths began: the opening is that of the history at the first batch
abbrev pub first_place : List Slip → Request → List ℕ → Place
first_place newest r lens = begins_at (oldest (first_len lens) newest) r.start r.cursor

-- the last block of the target
abbrev pub last_block : List Slip → Mode → Option ℕ → Option BlockRef
last_block newest mode stop = option_map ref_of (first_of (target newest mode stop))

-- steps, each with the run and the length
abbrev pub steps_told : ℕ → ℕ → List PlacedStep → List Told
steps_told run_number seen xs = map (λ x. Steps x run_number seen) xs

-- the batches from a place on: the steps to the target of the history when it had the length, and the head; each batch begins where the one before ended
abbrev pub batches_told : List Slip → ℕ → Mode → Option ℕ → Place → List ℕ → List Told
batches_told newest run_number mode stop place [] = []
batches_told newest run_number mode stop place (len ∷ lens) =
    steps_told run_number len (steps_to (oldest len newest) place mode stop)
    ++ Heads (last_block (oldest len newest) mode stop) len ∷ batches_told newest run_number mode stop (place_to (oldest len newest) place mode stop) lens

-- the body of a transcript: the open line, and the batches; without a batch nothing
abbrev pub body : List Slip → ℕ → List ℕ → Request → List ℕ → List Told
body newest run_number type r [] = []
body newest run_number type r (len ∷ lens) =
    Opens type run_number (first_place newest r (len ∷ lens)) ∷ batches_told newest run_number r.mode r.stop (first_place newest r (len ∷ lens)) (len ∷ lens)

-- how a session ended: its stop is final; no block will come; its request was refused, with this line; it sent no request; it broke off with this line, and the link's count of write faults rose or not; there was no memory; its link failed
pub data Ending : Type 0 where
  Done : Ending
  Closing : Ending
  Refused : ErrorLine → Ending
  NoRequest : Ending
  BrokeOff : ErrorLine → Bool → Ending
  NoMemory : Ending
  LinkFailed : Ending

-- the last line, or a front of it where it may be cut
abbrev pub IsLast : Bool → List ℕ → List ℕ → Type 0
IsLast false rest last = rest ≡ last
IsLast true rest last = IsPrefix rest last

-- the text is whole lines from the front of what is told, and then the last line, which may be cut
pub record BreaksOff (lines : List Told) (text last : List ℕ) (is_cut : Bool) : Type 0 where
  pub sent : List Told
  pub front : IsPrefix sent lines
  pub whole : List ℕ
  pub shown : Shows sent whole
  pub rest : List ℕ
  pub rest_is : IsLast is_cut rest last
  pub text_is : text ≡ whole ++ rest

-- the text is a front of one that shows lines from the front of what is told; no block is asked for of a step that was not begun
pub record IsCutOff (lines : List Told) (text : List ℕ) : Type 0 where
  pub sent : List Told
  pub front : IsPrefix sent lines
  pub whole : List ℕ
  pub shown : Shows sent whole
  pub cut : IsPrefix text whole

-- the text shows what is told, and then a front of an end line
pub record IsCutAtEnd (lines : List Told) (text : List ℕ) : Type 0 where
  pub whole : List ℕ
  pub shown : Shows lines whole
  pub done : Bool
  pub rest : List ℕ
  pub cut : IsPrefix rest (end_line done)
  pub text_is : text ≡ whole ++ rest

-- a front of an end line or of an error line
pub record IsPartOfLast (text : List ℕ) : Type 0 where
  pub last : List ℕ
  pub is_last : ((done : Bool) × (last ≡ end_line done)) ⊎ ((e : ErrorLine) × (last ≡ error_line e))
  pub cut : IsPrefix text last

-- the text of a session that ended so, whose batches had these lengths
abbrev pub IsTranscript : List Slip → ℕ → List ℕ → Request → List ℕ → Ending → List ℕ → Type 0
IsTranscript newest run_number type r lens Done text = Shows (body newest run_number type r lens ++ Ends true ∷ []) text
IsTranscript newest run_number type r lens Closing text = Shows (body newest run_number type r lens ++ Ends false ∷ []) text
IsTranscript newest run_number type r lens (Refused e) text = (lens ≡ []) × (text ≡ error_line e)
IsTranscript newest run_number type r lens NoRequest text = (lens ≡ []) × (text ≡ [])
IsTranscript newest run_number type r lens (BrokeOff e rose) text = BreaksOff (body newest run_number type r lens) text (error_line e) rose
IsTranscript newest run_number type r lens NoMemory text = BreaksOff (body newest run_number type r lens) text (error_line fault.Mem) true
IsTranscript newest run_number type r [] LinkFailed text = IsPartOfLast text
IsTranscript newest run_number type r (len ∷ lens) LinkFailed text = IsCutOff (body newest run_number type r (len ∷ lens)) text ⊎ IsCutAtEnd (body newest run_number type r (len ∷ lens)) text
