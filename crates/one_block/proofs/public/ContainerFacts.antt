-- What a text says as a container, and records that were read.
use Rattle.std.proofs.Common.{arith, ◌≡◌, ℕ, false, nat_lt, List, [], ◌∷◌, length, Result, Ok, Err, refl, sym, ◌∙◌}
use Rattle.std.proofs.lemmas.Bool.{ltb-false, lt-ltb}
use Rattle.std.proofs.lemmas.List.{nil_from_length}
use Rattle.block_record.specs.declared.blocks.Block.{Block}
use Rattle.block_record.specs.declared.faults.RecordFault.{RecordFault}
use Rattle.block_record.specs.declared.faults.RecordFault.TheVariants.{BadRecord, Mem as RecordMem}
use Rattle.block_record.specs.Reading.{bad_place}
use Rattle.block_record.specs.Words.{Unless}
use Rattle.block_record.specs.Records.{record_fault, IsRecordable, IsRecordText}
use Rattle.dbin_file.specs.Contents.{contents}
use Rattle.dbin_file.specs.Reader.{AreFurther}
use Rattle.dbin_file.proofs.public.FurtherFacts.{no_messages}
use Rattle.one_block.specs.Containers.{IsRecordOf, ReadRefused}

-- so all messages of a text are further ones
pub all_messages : (text : List ℕ) (more : List (List ℕ)) → AreFurther [] text more → more ≡ (contents text).messages
all_messages text more further = let none = no_messages in sym (rw none at further)

-- a record that was decoded is that of no other block
pub decoded : (bytes : List ℕ) (b : Block) → IsRecordText bytes b → IsRecordable b → ((other : Block) → IsRecordable other → IsRecordText bytes other → Unless RecordMem (Ok b) ((let r : Result Block RecordFault = Ok b in r) ≡ Ok other)) → IsRecordOf bytes b
decoded bytes b text recordable back = record { text = text; recordable = recordable; only = only_one }
  where
    not_mem : (let r : Result Block RecordFault = Ok b in r) ≡ Err RecordMem → ⊥
    not_mem e = cc e

    only_one : (other : Block) → IsRecordable other → IsRecordText bytes other → other ≡ b
    only_one other r same = let e = back other r same not_mem in cc e

-- what was refused is the record of no block
pub not_read : (bytes : List ℕ) (fault : RecordFault) → ((other : Block) → IsRecordable other → IsRecordText bytes other → Unless {X = Block} RecordMem (Err fault) ((let r : Result Block RecordFault = Err fault in r) ≡ Ok other))
    → Unless {X = Block} RecordMem (Err fault) (bad_place {X = Block} (Err fault) ≡ record_fault bytes) → ReadRefused bytes fault
not_read bytes (BadRecord at) back place = record { none = none; fault = sym (place not_mem) }
  where
    not_mem : (let r : Result Block RecordFault = Err (BadRecord at) in r) ≡ Err RecordMem → ⊥
    not_mem e = cc e

    none : (b : Block) → IsRecordable b → IsRecordText bytes b → ⊥
    none b recordable same = let clash = back b recordable same not_mem in cc clash
not_read bytes RecordMem back place = tt

-- a message is the record of one block
pub one_block : (m : List ℕ) (a b : Block) → IsRecordOf m a → IsRecordOf m b → a ≡ b
one_block m a b ra rb = rb.only a ra.recordable ra.text

-- ---- one message and more

-- more than one message, seen from the first
pub more_than_one : (m : List ℕ) (more : List (List ℕ)) → nat_lt 1 (length (m ∷ more)) ≡ nat_lt 0 (length more)
more_than_one m more = by_list more
  where
    by_list : (l : List (List ℕ)) → nat_lt 1 (length (m ∷ l)) ≡ nat_lt 0 (length l)
    by_list [] = refl
    by_list (x ∷ l) = lt-ltb 1 (length (m ∷ x ∷ l)) (omega arith) ∙ sym (lt-ltb 0 (length (x ∷ l)) (omega arith))

-- no messages
pub empty_of : (l : List (List ℕ)) → nat_lt 0 (length l) ≡ false → l ≡ []
empty_of l e = nil_from_length l (let none = ltb-false 0 (length l) e in omega arith)
