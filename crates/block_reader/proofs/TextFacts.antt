-- The file of a block holds the block.
use Rattle.std.proofs.Common.{◌≡◌, ℕ, List, [], ◌∷◌, ◌++◌, length, Some, None, refl, sym, ◌∙◌, subst}
use Rattle.std.proofs.lemmas.List.{append-nil}
use Rattle.block_record.specs.declared.blocks.Block.{Block}
use Rattle.block_record.specs.declared.blocks.Kind.{Kind}
use Rattle.block_record.specs.Texts.{IsTypeName}
use Rattle.block_record.specs.Records.{IsRecordable, record_text}
use Rattle.block_record.proofs.public.RecordSizes.{record_small}
use Rattle.dbin_file.specs.Contents.{Contents, contents, container_text}
use Rattle.dbin_file.specs.Header.{first_of, header_text}
use Rattle.dbin_file.specs.Messages.{message_text}
use Rattle.dbin_file.specs.Laws.{ContainerIsRead}
use Rattle.dbin_file.specs.Reader.{cut_fault, kept}
use Rattle.dbin_file.specs.Contents.{place}
use Rattle.one_block.specs.Heads.{HoldsBlocks, AreRecordsOf}
use Rattle.one_block.specs.OneFiles.{one_file_text}
use Rattle.store_files.proofs.public.TextFacts.{own_record}

-- what is read whole has no fault at its end
no_fault : (total : ℕ) (c : Contents) (block_type : List ℕ) → c.block_type ≡ Some block_type → c.rest ≡ [] → c.fault ≡ None
    → first_of (c.fault ∷ cut_fault c.block_type (place total c.rest) (kept c.fault c.rest) ∷ []) ≡ None
no_fault total c block_type typed rest fault = rw (typed, rest, fault) refl

pub file_holds : ContainerIsRead → (kind : Kind) (b : Block) → IsTypeName kind.block_type → IsRecordable b → HoldsBlocks (one_file_text kind b) kind.block_type (b ∷ [])
file_holds law kind b named r =
    let text : List ℕ = one_file_text kind b in
    let c = law kind.block_type (record_text b ∷ []) named (record_small b r, tt) in
    record {
      typed = c.type_is;
      records = record { records = subst (λ (ms : List (List ℕ)). AreRecordsOf ms (b ∷ [])) (sym c.messages_are) (own_record b r, tt) };
      whole = no_fault (length text) (contents text) kind.block_type c.type_is c.rest c.fault;
    }
