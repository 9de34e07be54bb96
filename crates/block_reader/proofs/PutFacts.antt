-- A block's own file, put: what it holds, and what is kept.
use Rattle.std.proofs.Common.{◌≡◌, inl, inr, ℕ, Bool, true, false, cond, List, [], ◌∷◌, ◌++◌, Option, Some, None, refl, sym, ◌∙◌, ap, subst}
use Rattle.std.specs.Prelude.{⊤, codes}
use Rattle.std.specs.List.{AllByRecursion}
use Rattle.std.specs.Str.{bytes_eq}
use Rattle.std.proofs.lemmas.Slice.Eq.{bytes_eq-Decides}
use Rattle.block_record.specs.declared.blocks.Block.{Block}
use Rattle.block_record.specs.declared.blocks.Slip.{Slip}
use Rattle.block_record.specs.Slips.{slip}
use Rattle.block_record.specs.Texts.{IsReaderName}
use Rattle.block_record.proofs.public.SlipFacts.{same_slip_is}
use Rattle.outer_world.specs.Files.{Files, file_at, with_file, is_in}
use Rattle.outer_world.specs.Shelves.{Holds, told_with}
use Rattle.outer_world.proofs.public.FileFacts.{file_at-with_file, file_at-with_other}
use Rattle.one_block.specs.declared.faults.Put.{Put}
use Rattle.one_block.specs.declared.faults.Put.TheVariants.{Written, Present}
use Rattle.one_block.specs.declared.faults.StoreFault.{StoreFault}
use Rattle.one_block.specs.declared.faults.StoreFault.TheVariants as store
use Rattle.one_block.specs.Heads.{HoldsBlocks}
use Rattle.one_block.specs.Names.{own_file}
use Rattle.one_block.specs.Puts.{PutDone, PutRefused, IsHeldAs}
use Rattle.one_block.proofs.public.FolderFacts.{own_lies}
use Rattle.relay_model.specs.Worlds.{World}
use Rattle.relay_model.specs.Offers.{offered}
use Rattle.relay_model.specs.Soundness.{IsSound}
use Rattle.bundle_model.proofs.public.MemberFacts.{among_all, all_among, all_append}
use Rattle.store_model.specs.Kept.{IsKeeping}
use Rattle.store_model.proofs.public.StepFacts.{offer_stays_kept}
use Rattle.store_files.specs.Folders.{shown_of, size_of}
use Rattle.store_files.specs.Kept.{IsWholeKept}
use Rattle.store_files.proofs.public.TextFacts.{holds_named}
use Rattle.store_files.proofs.public.KeptFacts.{put_file_keeps, own_file_shows, size_is, size_some}
use Rattle.block_reader.specs.declared.own.OwnFile.{OwnFile}
use Rattle.block_reader.specs.Own.{has_own, own_by, with_own}
use Rattle.block_reader.specs.Kept.{HoldsOwn, AreOwn, KeepsTold}

-- the block's own file is there and holds the block
pub record IsThere (files : Files) (s : Slip) (by : List ℕ) : Type 0 where
  pub text : List ℕ
  pub block_type : List ℕ
  pub block : Block
  pub there : file_at (own_file s by) files ≡ Some text
  pub holds : HoldsBlocks text block_type (block ∷ [])
  pub is : slip block ≡ s

-- the same where files are told
abbrev pub ThereTold : Option Files → Slip → List ℕ → Type 0
ThereTold None s by = ⊤
ThereTold (Some files) s by = IsThere files s by

held_there : (s : Slip) (by held_text : List ℕ) (files : Files) (held : Slip) → IsHeldAs s by held_text (Some files) held → held ≡ s → IsThere files s by
held_there s by held_text files held h same = record {
  text = held_text;
  block_type = h.holds.block_type;
  block = h.holds.block;
  there = h.there;
  holds = h.holds.single.holds;
  is = sym h.holds.slip_is ∙ same;
}

module _ (block : Block) (by block_type text : List ℕ) (reader : IsReaderName by) (holds : HoldsBlocks text block_type (block ∷ [])) where
  abbrev s : Slip
  s = slip block

  abbrev name : List ℕ
  name = own_file (slip block) by

  pub own_inside : is_in (codes "one") (own_file (slip block) by) ≡ true
  own_inside = own_lies s by (holds_named text block_type block by reader holds)

  written_there : (files : Files) → IsThere (with_file name text files) s by
  written_there files = record { text = text; block_type = block_type; block = block; there = file_at-with_file name text files; holds = holds; is = refl }

  pub put_there : (old mid : Option Files) (put : Put) → PutDone (slip block) by text old mid put → ThereTold mid (slip block) by
  put_there None mid Written p = subst (λ (o : Option Files). ThereTold o s by) (sym p.put) tt
  put_there (Some files) mid Written p = subst (λ (o : Option Files). ThereTold o s by) (sym p.put) (written_there files)
  put_there None mid Present p = subst (λ (o : Option Files). ThereTold o s by) (sym p.kept) tt
  put_there (Some files) mid Present p = subst (λ (o : Option Files). ThereTold o s by) (sym p.kept) (held_there s by p.held_text files p.held p.held_as (same_slip_is p.held s p.same))

  -- a file that is there is another than one that is not
  other_there : (files : Files) (f : OwnFile) → file_at name files ≡ None → HoldsOwn files f → bytes_eq name f.name ≡ false
  other_there files f none h = go (bytes_eq name f.name) refl
    where
      clash : None ≡ Some h.text → ⊥
      clash e = cc e

      go : (b : Bool) → bytes_eq name f.name ≡ b → b ≡ false
      go false e = refl
      go true e = absurd (clash (sym none ∙ ap (λ (n : List ℕ). file_at n files) ((bytes_eq-Decides name f.name).0 e) ∙ h.there))

  with_written : (files : Files) (own : List OwnFile) → file_at name files ≡ None → AllByRecursion (HoldsOwn files) own → AllByRecursion (HoldsOwn (with_file name text files)) own
  with_written files own none all = all_among (HoldsOwn (with_file name text files)) own (λ f there.
      let h = among_all (HoldsOwn files) own all f there in
      record {
        inside = h.inside;
        text = h.text;
        block_type = h.block_type;
        block = h.block;
        there = file_at-with_other name text f.name files (other_there files f none h) ∙ h.there;
        holds = h.holds;
        num = h.num;
        id = h.id;
      })

  added_own : (files : Files) (own : List OwnFile) → IsThere files s by → AllByRecursion (HoldsOwn files) own → AllByRecursion (HoldsOwn files) (with_own (own_by s by) own)
  added_own files own t all = go (has_own own name)
    where
      mine : HoldsOwn files (own_by s by)
      mine = record {
        inside = own_inside;
        text = t.text;
        block_type = t.block_type;
        block = t.block;
        there = t.there;
        holds = t.holds;
        num = ap (λ (x : Slip). x.num) t.is;
        id = ap (λ (x : Slip). x.id) t.is;
      }

      go : (b : Bool) → AllByRecursion (HoldsOwn files) (cond b own (own ++ own_by s by ∷ []))
      go true = all
      go false = all_append (HoldsOwn files) own (own_by s by ∷ []) all (mine, tt)

  pub put_own : (old mid : Option Files) (own : List OwnFile) (put : Put) → PutDone (slip block) by text old mid put → AreOwn old own → AreOwn mid (with_own (own_by (slip block) by) own)
  put_own None mid own Written p all = subst (λ (o : Option Files). AreOwn o (with_own (own_by s by) own)) (sym p.put) tt
  put_own (Some files) mid own Written p all =
      subst (λ (o : Option Files). AreOwn o (with_own (own_by s by) own)) (sym p.put)
      (added_own (with_file name text files) own (written_there files) (with_written files own p.absent all))
  put_own None mid own Present p all = subst (λ (o : Option Files). AreOwn o (with_own (own_by s by) own)) (sym p.kept) tt
  put_own (Some files) mid own Present p all =
      subst (λ (o : Option Files). AreOwn o (with_own (own_by s by) own)) (sym p.kept)
      (added_own files own (held_there s by p.held_text files p.held p.held_as (same_slip_is p.held s p.same)) all)

  pub put_kept : (old mid : Option Files) (w : World) (put : Put) → PutDone (slip block) by text old mid put → KeepsTold old w → KeepsTold mid w
  put_kept None mid w put p k = absurd k
  put_kept (Some files) mid w Written p k =
      subst (λ (o : Option Files). KeepsTold o w) (sym p.put) (put_file_keeps files (with_file name text files) w block by block_type text k reader holds p.absent (inr refl))
  put_kept (Some files) mid w Present p k = subst (λ (o : Option Files). KeepsTold o w) (sym p.kept) k

  -- a refused put
  same_kept : (old new : Option Files) (w : World) → new ≡ old → KeepsTold old w → KeepsTold new w
  same_kept old new w e k = subst (λ (o : Option Files). KeepsTold o w) (sym e) k

  pub unput_kept : (old new : Option Files) (w : World) (before now : ℕ) (f : StoreFault) → PutRefused (slip block) by text old new before now f → KeepsTold old w → KeepsTold new w
  unput_kept old new w before now store.ShelfFault p k = elim p.files [
    | inl e ↦ same_kept old new w e k
    | inr x ↦ maybe old k x.0 x.1
  ]
    where
      maybe : (o : Option Files) → KeepsTold o w → Holds o name None → new ≡ told_with name text o → KeepsTold new w
      maybe None h none e = absurd h
      maybe (Some files) h none e =
          subst (λ (q : Option Files). KeepsTold q w) (sym e) (put_file_keeps files (with_file name text files) w block by block_type text h reader holds none (inr refl))
  unput_kept old new w before now (store.ShelfBad n at) p k = same_kept old new w p.kept k
  unput_kept old new w before now (store.Missing n) p k = absurd p
  unput_kept old new w before now (store.StoredOther kept read) p k = absurd p
  unput_kept old new w before now (store.NameClash held offered) p k = same_kept old new w p.kept k
  unput_kept old new w before now store.Mem p k = same_kept old new w p k

  same_own_files : (old new : Option Files) (own : List OwnFile) → new ≡ old → AreOwn old own → AreOwn new own
  same_own_files old new own e all = subst (λ (o : Option Files). AreOwn o own) (sym e) all

  pub unput_own : (old new : Option Files) (own : List OwnFile) (before now : ℕ) (f : StoreFault) → PutRefused (slip block) by text old new before now f → AreOwn old own → AreOwn new own
  unput_own old new own before now store.ShelfFault p all = elim p.files [
    | inl e ↦ same_own_files old new own e all
    | inr x ↦ maybe old all x.0 x.1
  ]
    where
      maybe : (o : Option Files) → AreOwn o own → Holds o name None → new ≡ told_with name text o → AreOwn new own
      maybe None h none e = subst (λ (q : Option Files). AreOwn q own) (sym e) tt
      maybe (Some files) h none e = subst (λ (q : Option Files). AreOwn q own) (sym e) (with_written files own none h)
  unput_own old new own before now (store.ShelfBad n at) p all = same_own_files old new own p.kept all
  unput_own old new own before now (store.Missing n) p all = absurd p
  unput_own old new own before now (store.StoredOther kept read) p all = absurd p
  unput_own old new own before now (store.NameClash held offered) p all = same_own_files old new own p.kept all
  unput_own old new own before now store.Mem p all = same_own_files old new own p all

-- an offer of a block whose own file is there
pub offer_kept : (files : Files) (w : World) (s : Slip) (by : List ℕ) → IsReaderName by → IsSound w → IsThere files s by → IsWholeKept files w → IsWholeKept files (offered w s).world
offer_kept files w s by reader sound t k = record {
  formed = k.formed;
  keeping = subst (λ (x : Slip). IsKeeping (shown_of files) (offered w x).world) t.is
      (offer_stays_kept (shown_of files) w (slip t.block) (size_some (size_of files) (size_is files)) sound t.block.parent_first
      (inl (own_file_shows files t.block by t.block_type t.text reader t.holds (subst (λ (x : Slip). file_at (own_file x by) files ≡ Some t.text) (sym t.is) t.there))) k.keeping);
}
