-- Why the files of a plan hold its blocks.
use Rattle.std.proofs.Common.{◌≡◌, ◌<◌, ◌+◌, ℕ, List, [], ◌∷◌, length, take, get_or, map, reverse, refl, sym, subst, None}
use Rattle.std.specs.Arc.{arc_value}
use Rattle.std.specs.declared.sync.Arc.{Arc}
use Rattle.std.specs.List.{AllByRecursion}
use Rattle.std.proofs.lemmas.List.{reverse-reverse}
use Rattle.block_record.specs.declared.blocks.Block.{Block}
use Rattle.block_record.specs.declared.blocks.Kind.{Kind}
use Rattle.block_record.specs.Records.{IsRecordable, record_text}
use Rattle.block_record.specs.Texts.{IsTypeName}
use Rattle.block_record.proofs.public.RecordSizes.{record_small}
use Rattle.dbin_file.specs.Contents.{contents, container_text}
use Rattle.dbin_file.specs.Laws.{ContainerIsRead, IsReadAs}
use Rattle.dbin_file.specs.Messages.{AreMessages}
use Rattle.one_block.specs.Containers.{container_fault}
use Rattle.one_block.specs.Heads.{AreRecordsOf, HoldsBlocks}
use Rattle.bundle_model.proofs.public.MemberFacts.{all_append}
use Rattle.store_files.proofs.public.TextFacts.{own_record}
use Rattle.stored_blocks.specs.declared.plans.BundlePlan.{BundlePlan}
use Rattle.bundle_merger.specs.Containers.{blocks_of}
use Rattle.bundle_merger.specs.ReadBack.{IsHeldAlone, IsReadBack}
use Rattle.bundle_merger.proofs.MessageFacts.{shared_more}

-- one more block has a record
pub recordable_more : {Z : Type 0} (xs : List (Arc Block Z)) (i : ℕ) (x : Arc Block Z) (b : Block) → i < length xs → x ≡ get_or xs i x → b ≡ arc_value x
    → AllByRecursion IsRecordable (blocks_of (take i xs)) → IsRecordable b → AllByRecursion IsRecordable (blocks_of (take (i + 1) xs))
recordable_more xs i x b within item is before one =
    subst (AllByRecursion IsRecordable) (sym (shared_more xs i x b within item is)) (all_append IsRecordable (blocks_of (take i xs)) (b ∷ []) before (one, tt))

records_of : (bs : List Block) → AllByRecursion IsRecordable bs → AreRecordsOf (map record_text bs) bs
records_of [] all = tt
records_of (b ∷ bs) all = (own_record b all.0, records_of bs all.1)

records_small : (bs : List Block) → AllByRecursion IsRecordable bs → AreMessages (map record_text bs)
records_small [] all = tt
records_small (b ∷ bs) all = (record_small b all.0, records_small bs all.1)

-- what is read to its end has no fault
whole : (text block_type : List ℕ) (messages : List (List ℕ)) → IsReadAs text block_type messages → container_fault text ≡ None
whole text block_type messages r =
    let t = r.type_is in
    let m = r.rest in
    let f = r.fault in
    rw (t, m, f) refl

-- the container of records holds the blocks
pub container_holds : ContainerIsRead → (block_type : List ℕ) → IsTypeName block_type → (bs : List Block) → AllByRecursion IsRecordable bs
    → HoldsBlocks (container_text block_type (map record_text bs)) block_type (reverse bs)
container_holds law block_type named bs all =
    let r = law block_type (map record_text bs) named (records_small bs all) in
    record {
      typed = r.type_is;
      records = record {
        records = subst (λ (l : List Block). AreRecordsOf (contents (container_text block_type (map record_text bs))).messages l) (sym (reverse-reverse bs))
            (subst (λ (ms : List (List ℕ)). AreRecordsOf ms bs) (sym r.messages_are) (records_of bs all));
      };
      whole = whole (container_text block_type (map record_text bs)) block_type (map record_text bs) r;
    }

dead_held : ContainerIsRead → (kind : Kind) → IsTypeName kind.block_type → (bs : List Block) → AllByRecursion IsRecordable bs → AllByRecursion (IsHeldAlone kind) bs
dead_held law kind named [] all = tt
dead_held law kind named (b ∷ bs) all = (container_holds law kind.block_type named (b ∷ []) (all.0, tt), dead_held law kind named bs all.1)

-- the files of a plan hold its blocks
pub plan_held : ContainerIsRead → (kind : Kind) (plan : BundlePlan) → IsTypeName kind.block_type → AllByRecursion IsRecordable (blocks_of plan.finals.items) → AllByRecursion IsRecordable (blocks_of plan.dead.items)
    → IsReadBack kind plan
plan_held law kind plan named finals dead = record {
  dead = dead_held law kind named (blocks_of plan.dead.items) dead;
  bundle = container_holds law kind.block_type named (blocks_of plan.finals.items) finals;
}
