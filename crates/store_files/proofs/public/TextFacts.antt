-- What texts of blocks show.
use Rattle.std.proofs.Common.{◌≡◌, ℕ, List, [], ◌∷◌, map, reverse, Option, Some, refl, sym, ◌∙◌, ap, subst, inl}
use Rattle.std.specs.List.{AllByRecursion, filter_map, cons_option}
use Rattle.block_record.specs.declared.blocks.Block.{Block}
use Rattle.block_record.specs.declared.blocks.Slip.{Slip}
use Rattle.block_record.specs.Slips.{slip}
use Rattle.block_record.specs.Texts.{IsReaderName}
use Rattle.block_record.specs.Records.{IsRecordable, record_text}
use Rattle.block_record.proofs.public.RecordFacts.{one_record, record_again}
use Rattle.dbin_file.specs.Contents.{contents}
use Rattle.one_block.specs.Containers.{IsRecordOf}
use Rattle.one_block.specs.Heads.{AreRecordsOf, HoldsBlocks}
use Rattle.one_block.specs.Names.{IsNamed}
use Rattle.relay_model.specs.Soundness.{IsBlock}
use Rattle.store_files.specs.Texts.{slip_read, slip_in, slips_in}

-- the record of a block is that of no other
pub own_record : (b : Block) → IsRecordable b → IsRecordOf (record_text b) b
own_record b is = record { text = inl refl; recordable = is; only = λ other r same. one_record (record_text b) other b r is same (inl refl) }

record_shows : (m : List ℕ) (b : Block) → IsRecordOf m b → slip_in m ≡ Some (slip b)
record_shows m b r = ap slip_read (record_again m b r.recordable r.text)

records_show : (ms : List (List ℕ)) (bs : List Block) → AreRecordsOf ms bs → filter_map slip_in ms ≡ map slip bs
records_show [] [] all = refl
records_show [] (b ∷ bs) all = absurd all
records_show (m ∷ ms) [] all = absurd all
records_show (m ∷ ms) (b ∷ bs) all = ap (λ (o : Option Slip). cons_option o (filter_map slip_in ms)) (record_shows m b all.0) ∙ ap (λ (l : List Slip). slip b ∷ l) (records_show ms bs all.1)

-- a text shows the blocks that it holds
pub holds_shows : (text block_type : List ℕ) (blocks : List Block) → HoldsBlocks text block_type blocks → slips_in text ≡ map slip (reverse blocks)
holds_shows text block_type blocks h = records_show (contents text).messages (reverse blocks) h.records.records

blocks_are : (blocks : List Block) → AllByRecursion IsBlock (map slip blocks)
blocks_are [] = tt
blocks_are (b ∷ blocks) = (b.parent_first, blocks_are blocks)

-- each of them is one of a block
pub holds_blocks : (text block_type : List ℕ) (blocks : List Block) → HoldsBlocks text block_type blocks → AllByRecursion IsBlock (slips_in text)
holds_blocks text block_type blocks h = subst (AllByRecursion IsBlock) (sym (holds_shows text block_type blocks h)) (blocks_are (reverse blocks))

each_recordable : (ms : List (List ℕ)) (bs : List Block) → AreRecordsOf ms bs → AllByRecursion IsRecordable bs
each_recordable ms [] all = tt
each_recordable [] (b ∷ bs) all = absurd all
each_recordable (m ∷ ms) (b ∷ bs) all = (all.0.recordable, each_recordable ms bs all.1)

-- and has a record
pub holds_recordable : (text block_type : List ℕ) (blocks : List Block) → HoldsBlocks text block_type blocks → AllByRecursion IsRecordable (reverse blocks)
holds_recordable text block_type blocks h = each_recordable (contents text).messages (reverse blocks) h.records.records

-- so the file of a single block can be named
pub holds_named : (text block_type : List ℕ) (block : Block) (by : List ℕ) → IsReaderName by → HoldsBlocks text block_type (block ∷ []) → IsNamed (slip block) by
holds_named text block_type block by reader h =
    let r = (holds_recordable text block_type (block ∷ []) h).0 in
    record { num = r.num; time = r.time; id = r.id; parent_id = r.parent_id; lib_num = r.lib_num; reader = reader }
