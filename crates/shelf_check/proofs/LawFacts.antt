-- A good file is not refused.
use Rattle.std.proofs.Common.{arith, ◌≡◌, ◌<◌, ◌==◌, ◌||◌, ◌⊎◌, ℕ, Bool, true, false, IsTrue, List, [], ◌∷◌, ◌++◌, length, reverse, Option, Some, None, inl, inr, refl, sym, ap, subst, ◌∙◌}
use Rattle.std.specs.Option.{is_some}
use Rattle.std.proofs.lemmas.Bool.{ltb-true}
use Rattle.std.proofs.lemmas.Bool.Decides.{Decides-eqb}
use Rattle.block_record.specs.declared.blocks.Block.{Block}
use Rattle.block_record.specs.declared.blocks.BlockRef.{BlockRef}
use Rattle.block_record.specs.Slips.{slip}
use Rattle.dbin_file.specs.declared.faults.DbinFault.{DbinFault}
use Rattle.dbin_file.specs.Contents.{contents}
use Rattle.one_block.specs.Containers.{record_place, IsNoRecord}
use Rattle.one_block.specs.declared.file_faults.FileFault.{FileFault}
use Rattle.one_block.specs.declared.file_faults.FileFault.TheVariants.{Bad, OtherType, Mem}
use Rattle.one_block.specs.declared.forms.Form.{Form}
use Rattle.one_block.specs.Heads.{IsKept, HasOtherType, AreRecordsOf}
use Rattle.shelf_check.specs.Bundles.{is_next, tip_after, AreNext, place_after, IsNotNext, IsBundle, IsBadMessage, IsBadEnd, BundleRefused}
use Rattle.one_block.specs.Singles.{IsSingleOf, IsBadAfterHead, FormedRefused}
use Rattle.one_block.specs.Forms.{own_name}
use Rattle.shelf_check.specs.Laws.{GoodFilesAreTaken}
use Rattle.one_block.proofs.public.ContainerFacts.{one_block}
use Rattle.one_block.proofs.public.RecordFacts.{Begins, begins, length_records}
use Rattle.shelf_check.proofs.ListFacts.{turned}

-- the block after some may come next
next_of : (size base : ℕ) (before : Option BlockRef) (xs : List Block) (b : Block) (older : List Block) → AreNext size base before (xs ++ b ∷ older) → IsTrue (is_next size base (tip_after before older) b)
next_of size base before [] b older n = n.0
next_of size base before (x ∷ xs) b older n = next_of size base before xs b older n.1

-- a file of the kept type has no other type
no_other : (text : List ℕ) (kept : Option (List ℕ)) (block_type held offered : List ℕ) → (contents text).block_type ≡ Some block_type → IsKept kept block_type → HasOtherType text kept held offered → ⊥
no_other text kept block_type held offered typed same o = by_kept kept refl
  where
    one_type : block_type ≡ offered
    one_type = let e : (let a : Option (List ℕ) = Some block_type in a) ≡ Some offered = sym typed ∙ o.typed in cc e

    by_kept : (k : Option (List ℕ)) → kept ≡ k → ⊥
    by_kept None e = let clash : (let a : Option (List ℕ) = None in a) ≡ Some held = sym e ∙ o.kept_is in cc clash
    by_kept (Some h) e =
        let K : Option (List ℕ) → Type 0 = λ k. IsKept k block_type in
        let is : h ≡ block_type = subst K e same in
        let there : (let a : Option (List ℕ) = Some h in a) ≡ Some held = sym e ∙ o.kept_is in
        let one : h ≡ held = cc there in
        o.other (sym one ∙ is ∙ one_type)

module _ (size base : ℕ) (text : List ℕ) (kept : Option (List ℕ)) (before : Option BlockRef) (block_type : List ℕ) (blocks : List Block) (good : IsBundle size base text kept before block_type blocks) where
  no_bad_message : (at : ℕ) → IsBadMessage size base (record_place text) (contents text).messages before at → ⊥
  no_bad_message at bad = by_cause bad.bad
    where
      begun : Begins (reverse blocks) (reverse bad.blocks) bad.message
      begun =
          begins bad.front (reverse bad.blocks) (reverse blocks) bad.message bad.more
          (subst (λ (ms : List (List ℕ)). AreRecordsOf ms (reverse blocks)) bad.messages_are good.holds.records.records)
          bad.records.records

      next : IsTrue (is_next size base (tip_after before bad.blocks) begun.block)
      next = next_of size base before (reverse begun.rest) begun.block bad.blocks (subst (AreNext size base before) (turned blocks bad.blocks begun.block begun.rest begun.whole) good.next)

      by_cause : IsNoRecord (place_after (record_place text) bad.front) bad.message at ⊎ (IsNotNext size base (tip_after before bad.blocks) (place_after (record_place text) bad.front) bad.message at) → ⊥
      by_cause (inl n) = n.none begun.block begun.record_is.recordable begun.record_is.text
      by_cause (inr n) =
          let same : n.block ≡ begun.block = one_block bad.message n.block begun.block n.record_is begun.record_is in
          let clash : true ≡ false = sym next ∙ ap (λ (b : Block). is_next size base (tip_after before bad.blocks) b) (sym same) ∙ n.not_next in
          cc clash

  no_bad_end : (at : ℕ) → IsBadEnd size base text before at → ⊥
  no_bad_end at bad =
      let long : 0 < length blocks = ltb-true 0 (length blocks) good.some in
      let many : length bad.blocks ≡ length blocks = sym (length_records (contents text).messages bad.blocks bad.records) ∙ length_records (contents text).messages blocks good.holds.records in
      by_test (length bad.blocks == 0) (λ e. let none : length bad.blocks ≡ 0 = (Decides-eqb (length bad.blocks) 0).0 e in omega arith) (ap (λ (f : Option DbinFault). (length bad.blocks == 0) || is_some f) (sym good.holds.whole) ∙ bad.ends)
    where
      by_test : (t : Bool) → (t ≡ true → ⊥) → (t || false) ≡ true → ⊥
      by_test true never e = never refl
      by_test false never e = cc e

  pub taken_bundle : (fault : FileFault) → BundleRefused size base text kept before fault → fault ≡ Mem
  taken_bundle (Bad at) (inl head) = absurd (let clash = sym good.holds.typed ∙ head.untyped in cc clash)
  taken_bundle (Bad at) (inr body) = absurd (by_body body.body)
    where
      by_body : IsBadMessage size base (record_place text) (contents text).messages before at ⊎ IsBadEnd size base text before at → ⊥
      by_body (inl bad) = no_bad_message at bad
      by_body (inr bad) = no_bad_end at bad
  taken_bundle (OtherType held offered) o = absurd (no_other text kept block_type held offered good.holds.typed good.same o)
  taken_bundle Mem o = refl

module _ (form : Form) (name text : List ℕ) (kept : Option (List ℕ)) (block_type : List ℕ) (block : Block) (good : IsSingleOf form name text kept block_type block) where
  no_bad_after : (at : ℕ) (ms : List (List ℕ)) → AreRecordsOf ms (block ∷ []) → IsBadAfterHead form name text ms at → ⊥
  no_bad_after at [] all bad = all
  no_bad_after at (m ∷ []) all (inl n) = n.none block all.0.recordable all.0.text
  no_bad_after at (m ∷ []) all (inr (inl n)) = n.other (good.named ∙ ap (λ (b : Block). own_name form (slip b)) (one_block m block n.block all.0 n.record_is))
  no_bad_after at (m ∷ []) all (inr (inr n)) = let clash : false ≡ true = ap (λ (f : Option DbinFault). is_some f) (sym good.holds.whole) ∙ n.follows in cc clash
  no_bad_after at (m ∷ x ∷ more) all bad = all.1

  pub taken_single : (fault : FileFault) → FormedRefused form name text kept fault → fault ≡ Mem
  taken_single (Bad at) (inl head) = absurd (let clash = sym good.holds.typed ∙ head.untyped in cc clash)
  taken_single (Bad at) (inr bad) = absurd (no_bad_after at (contents text).messages good.holds.records.records bad.body)
  taken_single (OtherType held offered) o = absurd (no_other text kept block_type held offered good.holds.typed good.same o)
  taken_single Mem o = refl

pub good_files_are_taken : GoodFilesAreTaken
good_files_are_taken = record { bundle = λ size base text kept before block_type blocks fault good. taken_bundle size base text kept before block_type blocks good fault; single = λ form name text kept block_type block fault good. taken_single form name text kept block_type block good fault }
