-- What taking a block keeps, whatever it is answered.
use Rattle.std.proofs.Common.{◌≡◌, inl, inr, ℕ, Bool, true, false, not, cond, ◌||◌, List, [], ◌∷◌, ◌++◌, Option, Some, None, refl, sym, ◌∙◌, ap, subst}
use Rattle.std.specs.Prelude.{codes, Result, Ok, Err}
use Rattle.std.specs.List.{AllByRecursion, IsDistinct}
use Rattle.std.specs.Str.{bytes_eq}
use Rattle.std.proofs.lemmas.Slice.Eq.{bytes_eq-Decides}
use Rattle.block_record.specs.declared.blocks.Block.{Block}
use Rattle.block_record.specs.declared.blocks.Kind.{Kind}
use Rattle.block_record.specs.declared.blocks.Slip.{Slip}
use Rattle.block_record.specs.Slips.{slip}
use Rattle.block_record.specs.Texts.{IsReaderName}
use Rattle.outer_world.specs.Files.{Files, with_file, is_in}
use Rattle.outer_world.proofs.public.FileFacts.{file_at-with_other}
use Rattle.one_block.specs.declared.faults.Put.{Put}
use Rattle.one_block.specs.declared.faults.Put.TheVariants.{Written, Present}
use Rattle.one_block.specs.declared.faults.StoreFault.{StoreFault}
use Rattle.one_block.specs.Heads.{HoldsBlocks}
use Rattle.one_block.specs.Names.{own_file, one_block_name}
use Rattle.one_block.specs.OneFiles.{one_file_text}
use Rattle.block_intake.specs.Answers.{IsAnswer, is_mem}
use Rattle.block_intake.specs.declared.answers.Offered.{Offered}
use Rattle.block_intake.specs.declared.answers.Offered.TheVariants as answer
use Rattle.block_intake.specs.declared.answers.OfferFault.{OfferFault}
use Rattle.block_intake.specs.declared.answers.OfferFault.TheVariants as fault
use Rattle.block_relay.specs.Chronicle.{Told, world_told}
use Rattle.relay_model.specs.Worlds.{World}
use Rattle.relay_model.specs.Offers.{Answer, offered}
use Rattle.relay_model.specs.Soundness.{IsSound}
use Rattle.bundle_model.proofs.public.MemberFacts.{all_append, all_among, among_all, filter_among}
use Rattle.store_files.specs.Kept.{IsWholeKept}
use Rattle.store_files.proofs.public.KeptFacts.{refused_other}
use Rattle.block_reader.specs.declared.own.OwnFile.{OwnFile}
use Rattle.block_reader.specs.declared.faults.TakeFault.{TakeFault}
use Rattle.block_reader.specs.declared.faults.TakeFault.TheVariants.{Offer, Store}
use Rattle.block_reader.specs.Own.{same_own, has_own, own_by, with_own, without_own}
use Rattle.block_reader.specs.Changes.{Shelved, shelved, Change, Write, Remove, changed, changed_all, IsStopped, own_changes, written_changes, sweep_changes, refused_file}
use Rattle.block_reader.specs.Kept.{AreOwn, KeepsTold}
use Rattle.block_reader.specs.Takes.{IfAnswered, IfStore, IsOffered, IsPut, IsPlaced, IsCutOff, IsRefused, IsTaken, answer_changes}
use Rattle.block_reader.proofs.HeldFacts.{IsPast, IsApart, past_apart}
use Rattle.block_reader.proofs.KeptFacts.{IsOutside, AreSafe, IsRemovable, apart_names, all_own, stopped_own, all_kept, stopped_kept, swept_safe, swept_outside, safe_append}
use Rattle.block_reader.proofs.PutFacts.{IsThere, ThereTold, own_inside, put_there, put_own, put_kept, unput_kept, unput_own, offer_kept}

-- ---- names stay apart

without_distinct : (name : List ℕ) (own : List OwnFile) → IsDistinct same_own own → IsDistinct same_own (without_own name own)
unfolding IsDistinct
without_distinct name [] d = tt
without_distinct name (f ∷ own) d = go (bytes_eq name f.name) (without_distinct name own d.1)
  where
    go : (b : Bool) → IsDistinct same_own (without_own name own) → IsDistinct same_own (cond (not b) (f ∷ without_own name own) (without_own name own))
    go true ih = ih
    go false ih = (
      all_among (λ g. same_own f g ≡ false) (without_own name own) (λ g h.
          among_all (λ x. same_own f x ≡ false) own d.0 g (filter_among (λ (x : OwnFile). not (bytes_eq name x.name)) own g h).0),
      ih,
    )

last_distinct : (f : OwnFile) (own : List OwnFile) → has_own own f.name ≡ false → IsDistinct same_own own → IsDistinct same_own (own ++ f ∷ [])
unfolding IsDistinct
last_distinct f [] none d = (tt, tt)
last_distinct f (g ∷ own) none d = go (bytes_eq f.name g.name) refl none (λ h. last_distinct f own h d.1)
  where
    go : (b : Bool) → bytes_eq f.name g.name ≡ b → (b || has_own own f.name) ≡ false → (has_own own f.name ≡ false → IsDistinct same_own (own ++ f ∷ [])) → IsDistinct same_own (g ∷ (own ++ f ∷ []))
    go true e h ih = cc h
    go false e h ih = (all_append (λ x. same_own g x ≡ false) own (f ∷ []) d.0 (turn (bytes_eq g.name f.name) refl, tt), ih h)
      where
        turn : (t : Bool) → bytes_eq g.name f.name ≡ t → t ≡ false
        turn false k = refl
        turn true k = sym ((bytes_eq-Decides f.name g.name).1 (sym ((bytes_eq-Decides g.name f.name).0 k))) ∙ e

with_distinct : (f : OwnFile) (own : List OwnFile) → IsDistinct same_own own → IsDistinct same_own (with_own f own)
with_distinct f own d = go (has_own own f.name) refl
  where
    go : (b : Bool) → has_own own f.name ≡ b → IsDistinct same_own (cond b own (own ++ f ∷ []))
    go true e = d
    go false e = last_distinct f own e d

all_distinct : (cs : List Change) (s : Shelved) → IsDistinct same_own s.own → IsDistinct same_own (changed_all cs s).own
all_distinct [] s d = d
all_distinct (Write name text ∷ cs) s d = all_distinct cs (changed (Write name text) s) d
all_distinct (Remove name ∷ cs) s d = all_distinct cs (changed (Remove name) s) (without_distinct name s.own d)

-- ---- what the answer asks for touches no other own file

refused_out : (s : Slip) (by : List ℕ) → is_in (codes "one") (refused_file s by) ≡ false
refused_out s by = (refused_other (one_block_name s by)).one

written_outside : (put : Put) (one : List ℕ) → AllByRecursion IsOutside (written_changes put one)
written_outside Written one = (tt, tt)
written_outside Present one = tt

own_outside : (put : Put) (one text : List ℕ) (s : Slip) (by : List ℕ) (a : Result Offered OfferFault) → AllByRecursion IsOutside (own_changes put one (refused_file s by) text a)
own_outside put one text s by (Ok (answer.Admitted from count dropped)) = tt
own_outside put one text s by (Ok answer.Duplicate) = tt
own_outside put one text s by (Ok answer.Waiting) = tt
own_outside put one text s by (Ok answer.Early) = written_outside put one
own_outside put one text s by (Ok answer.Stale) = written_outside put one
own_outside put one text s by (Err (fault.Closed len)) = tt
own_outside put one text s by (Err (fault.Conflict c)) = (refused_out s by, (tt, tt))
own_outside put one text s by (Err (fault.HistoryFull len need)) = tt
own_outside put one text s by (Err (fault.WaitFull blocks bytes)) = tt
own_outside put one text s by (Err fault.Mem) = tt

sweeps_outside : (a : Result Offered OfferFault) (w : World) (own : List OwnFile) → AllByRecursion IsOutside (sweep_changes a w own)
sweeps_outside (Ok o) w own = swept_outside w own
sweeps_outside (Err f) w own = tt

changes_outside : (w : World) (kind : Kind) (block : Block) (by : List ℕ) (put : Put) (a : Result Offered OfferFault) (s : Shelved) → AllByRecursion IsOutside (answer_changes w kind block by put a s)
changes_outside w kind block by put a s =
    let first = own_changes put (own_file (slip block) by) (refused_file (slip block) by) (one_file_text kind block) a in
    all_append IsOutside first (sweep_changes a w (changed_all first s).own)
    (own_outside put (own_file (slip block) by) (one_file_text kind block) (slip block) by a) (sweeps_outside a w (changed_all first s).own)

-- ---- it keeps what the files keep

module _ (files : Files) (w : World) (s : Slip) (by : List ℕ) (inside : is_in (codes "one") (own_file s by) ≡ true) (t : IsThere files s by) where
  goes : IsApart w s → IsRemovable w files (own_file s by)
  goes apart = record {
    inside = inside;
    text = t.text;
    block_type = t.block_type;
    block = t.block;
    there = t.there;
    holds = t.holds;
    why = inr (subst (IsApart w) (sym t.is) apart);
  }

  goes_later : (text : List ℕ) → IsApart w s → IsRemovable w (with_file (refused_file s by) text files) (own_file s by)
  goes_later text apart = record {
    inside = inside;
    text = t.text;
    block_type = t.block_type;
    block = t.block;
    there = file_at-with_other (refused_file s by) text (own_file s by) files (apart_names (refused_file s by) (own_file s by) (refused_out s by) inside) ∙ t.there;
    holds = t.holds;
    why = inr (subst (IsApart w) (sym t.is) apart);
  }

  written_safe : (put : Put) → IsApart w s → AreSafe w (written_changes put (own_file s by)) files
  written_safe Written apart = (goes apart, tt)
  written_safe Present apart = tt

  own_safe : (put : Put) (text : List ℕ) (said : Answer) (a : Result Offered OfferFault) → IsAnswer said a → (IsPast said → is_mem a ≡ false → IsApart w s) → AreSafe w (own_changes put (own_file s by) (refused_file s by) text a) files
  own_safe put text said (Ok (answer.Admitted from count dropped)) is past = tt
  own_safe put text said (Ok answer.Duplicate) is past = tt
  own_safe put text said (Ok answer.Waiting) is past = tt
  own_safe put text said (Ok answer.Early) is past = written_safe put (past (subst IsPast (sym is) tt) refl)
  own_safe put text said (Ok answer.Stale) is past = written_safe put (past (subst IsPast (sym is) tt) refl)
  own_safe put text said (Err (fault.Closed len)) is past = tt
  own_safe put text said (Err (fault.Conflict c)) is past = (refused_other (one_block_name s by), (goes_later text (past (subst IsPast (sym is) tt) refl), tt))
  own_safe put text said (Err (fault.HistoryFull len need)) is past = tt
  own_safe put text said (Err (fault.WaitFull blocks bytes)) is past = tt
  own_safe put text said (Err fault.Mem) is past = tt

sweeps_safe : (a : Result Offered OfferFault) (w : World) (files : Files) (own : List OwnFile) → IsDistinct same_own own → AreOwn (Some files) own → AreSafe w (sweep_changes a w own) files
sweeps_safe (Ok o) w files own d all = swept_safe w files own d all
sweeps_safe (Err f) w files own d all = tt

changes_safe : (files : Files) (own : List OwnFile) (w : World) (kind : Kind) (block : Block) (by : List ℕ) (put : Put) (said : Answer) (a : Result Offered OfferFault)
    → is_in (codes "one") (own_file (slip block) by) ≡ true → IsThere files (slip block) by → IsAnswer said a → (IsPast said → is_mem a ≡ false → IsApart w (slip block)) → IsDistinct same_own own → AreOwn (Some files) own
    → AreSafe w (answer_changes w kind block by put a (shelved (Some files) own)) files
changes_safe files own w kind block by put said a inside t is past d all =
    let first = own_changes put (own_file (slip block) by) (refused_file (slip block) by) (one_file_text kind block) a in
    let after = changed_all first (shelved (Some files) own) in
    safe_append w first (sweep_changes a w after.own) files own (own_safe files w (slip block) by inside t put (one_file_text kind block) said a is past)
    (λ new e.
    let owned : AreOwn after.files after.own = all_own first (shelved (Some files) own) (own_outside put (own_file (slip block) by) (one_file_text kind block) (slip block) by a) all in
    sweeps_safe a w new after.own (all_distinct first (shelved (Some files) own) d) (subst (λ (o : Option Files). AreOwn o after.own) e owned))

-- ---- the whole

module _ (was is : Told) (kind : Kind) (block : Block) (by : List ℕ) (reader : IsReaderName by) (holds : HoldsBlocks (one_file_text kind block) kind.block_type (block ∷ [])) where
  abbrev text : List ℕ
  text = one_file_text kind block

  put_all : (old mid : Shelved) (put : Put) → IsPut kind block by old mid put → AreOwn old.files old.own → AreOwn mid.files mid.own
  put_all old mid put p all =
      subst (λ (l : List OwnFile). AreOwn mid.files l) (sym p.own) (put_own block by kind.block_type text reader holds old.files mid.files old.own put p.files all)

  placed_own : (old new : Shelved) (a : Result Offered OfferFault) → IsPlaced (world_told is) kind block by old new a → AreOwn old.files old.own → AreOwn new.files new.own
  placed_own old new a p all =
      subst (λ (s : Shelved). AreOwn s.files s.own) (sym p.done)
      (all_own (answer_changes (world_told is) kind block by p.put a p.between) p.between (changes_outside (world_told is) kind block by p.put a p.between)
      (put_all old p.between p.put p.is_put all))

  pub taken_own : (old new : Shelved) (before now : ℕ) (result : Result Offered TakeFault) → IsTaken was is kind block by old new before now result → AreOwn old.files old.own → AreOwn new.files new.own
  taken_own old new before now (Ok o) t all = placed_own old new (Ok o) t.1 all
  taken_own old new before now (Err (Offer f)) t all = placed_own old new (Err f) t.1 all
  taken_own old new before now (Err (Store f)) t all = elim t [
    | inl u ↦ subst (λ (l : List OwnFile). AreOwn new.files l) (sym u.own) (unput_own block by kind.block_type text reader holds old.files new.files old.own before now f u.files all)
    | inr c ↦
        stopped_own (answer_changes (world_told is) kind block by c.put c.answer c.between) c.between new (changes_outside (world_told is) kind block by c.put c.answer c.between) c.stopped
        (put_all old c.between c.put c.is_put all)
  ]

  module _ (sound_was : IsSound (world_told was)) (sound_is : IsSound (world_told is)) where
    -- an answer after which the file goes is one that needed memory at most to note it
    past_told : (a : Result Offered OfferFault) → IsOffered was is (slip block) a → IsPast (offered (world_told was) (slip block)).answer → is_mem a ≡ false → IsApart (world_told is) (slip block)
    past_told a o past some = subst (λ (w : World). IsApart w (slip block)) (sym (o.world some)) (past_apart (world_told was) (slip block) sound_was past)

    offered_kept : (files : Files) (a : Result Offered OfferFault) → IsOffered was is (slip block) a → IsThere files (slip block) by → IsWholeKept files (world_told was) → IsWholeKept files (world_told is)
    offered_kept files a o t k = go (is_mem a) refl
      where
        go : (b : Bool) → is_mem a ≡ b → IsWholeKept files (world_told is)
        go true e = subst (λ (x : Told). IsWholeKept files (world_told x)) (sym (o.unchanged e)) k
        go false e = subst (IsWholeKept files) (sym (o.world e)) (offer_kept files (world_told was) (slip block) by reader sound_was t k)

    -- what is known of the files once the block's own file was put, where they are told
    go_on : (between new : Shelved) (put : Put) (a : Result Offered OfferFault) → IsOffered was is (slip block) a → IsDistinct same_own between.own
        → (f : Option Files) → between.files ≡ f → ThereTold f (slip block) by → KeepsTold f (world_told was) → AreOwn f between.own
        → ((files : Files) → between ≡ shelved (Some files) between.own → AreSafe (world_told is) (answer_changes (world_told is) kind block by put a (shelved (Some files) between.own)) files
        → IsWholeKept files (world_told is) → KeepsTold new.files (world_told is))
        → KeepsTold new.files (world_told is)
    go_on between new put a o d None e t k all next = absurd k
    go_on between new put a o d (Some files) e t k all next =
        next files (ap (λ (g : Option Files). shelved g between.own) e)
        (changes_safe files between.own (world_told is) kind block by put (offered (world_told was) (slip block)).answer a
        (own_inside block by kind.block_type text reader holds) t o.said (past_told a o) d all)
        (offered_kept files a o t k)

    placed_kept : (old new : Shelved) (a : Result Offered OfferFault) → IsOffered was is (slip block) a → IsPlaced (world_told is) kind block by old new a
        → IsDistinct same_own old.own → AreOwn old.files old.own → KeepsTold old.files (world_told was) → KeepsTold new.files (world_told is)
    placed_kept old new a o p d all k =
        go_on p.between new p.put a o
        (subst (IsDistinct same_own) (sym p.is_put.own) (with_distinct (own_by (slip block) by) old.own d))
        p.between.files refl
        (put_there block by kind.block_type text reader holds old.files p.between.files p.put p.is_put.files)
        (put_kept block by kind.block_type text reader holds old.files p.between.files (world_told was) p.put p.is_put.files k)
        (put_all old p.between p.put p.is_put all)
        (λ files same safe kept.
        let made : new ≡ changed_all (answer_changes (world_told is) kind block by p.put a (shelved (Some files) p.between.own)) (shelved (Some files) p.between.own) =
        subst (λ (m : Shelved). new ≡ changed_all (answer_changes (world_told is) kind block by p.put a m) m) same p.done in
        subst (λ (n : Shelved). KeepsTold n.files (world_told is)) (sym made)
        (all_kept (world_told is) (answer_changes (world_told is) kind block by p.put a (shelved (Some files) p.between.own)) files p.between.own sound_is safe kept))

    cut_off_kept : (old new : Shelved) (before now : ℕ) (f : StoreFault) → IsCutOff was is kind block by old new before now f
        → IsDistinct same_own old.own → AreOwn old.files old.own → KeepsTold old.files (world_told was) → KeepsTold new.files (world_told is)
    cut_off_kept old new before now f c d all k =
        go_on c.between new c.put c.answer c.is_offered
        (subst (IsDistinct same_own) (sym c.is_put.own) (with_distinct (own_by (slip block) by) old.own d))
        c.between.files refl
        (put_there block by kind.block_type text reader holds old.files c.between.files c.put c.is_put.files)
        (put_kept block by kind.block_type text reader holds old.files c.between.files (world_told was) c.put c.is_put.files k)
        (put_all old c.between c.put c.is_put all)
        (λ files same safe kept.
        stopped_kept (world_told is) (answer_changes (world_told is) kind block by c.put c.answer (shelved (Some files) c.between.own)) files c.between.own new sound_is safe
        (subst (λ (m : Shelved). IsStopped (answer_changes (world_told is) kind block by c.put c.answer m) m new) same c.stopped) kept)

    pub taken_kept : (old new : Shelved) (before now : ℕ) (result : Result Offered TakeFault) → IsTaken was is kind block by old new before now result
        → IsDistinct same_own old.own → AreOwn old.files old.own → KeepsTold old.files (world_told was) → KeepsTold new.files (world_told is)
    taken_kept old new before now (Ok o) t d all k = placed_kept old new (Ok o) t.0 t.1 d all k
    taken_kept old new before now (Err (Offer f)) t d all k = placed_kept old new (Err f) t.0 t.1 d all k
    taken_kept old new before now (Err (Store f)) t d all k = elim t [
      | inl u ↦
          subst (λ (x : Told). KeepsTold new.files (world_told x)) (sym u.relay)
          (unput_kept block by kind.block_type text reader holds old.files new.files (world_told was) before now f u.files k)
      | inr c ↦ cut_off_kept old new before now f c d all k
    ]

-- ---- the parts of what is answered

pub answered_said : (was is : Told) (kind : Kind) (block : Block) (by : List ℕ) (old new : Shelved) (before now : ℕ) (result : Result Offered TakeFault) → IsTaken was is kind block by old new before now result
    → IfAnswered result (IsOffered was is (slip block))
answered_said was is kind block by old new before now (Ok o) t = t.0
answered_said was is kind block by old new before now (Err (Offer f)) t = t.0
answered_said was is kind block by old new before now (Err (Store f)) t = tt

pub answered_placed : (was is : Told) (kind : Kind) (block : Block) (by : List ℕ) (old new : Shelved) (before now : ℕ) (result : Result Offered TakeFault) → IsTaken was is kind block by old new before now result
    → IfAnswered result (IsPlaced (world_told is) kind block by old new)
answered_placed was is kind block by old new before now (Ok o) t = t.1
answered_placed was is kind block by old new before now (Err (Offer f)) t = t.1
answered_placed was is kind block by old new before now (Err (Store f)) t = tt

pub stored_refused : (was is : Told) (kind : Kind) (block : Block) (by : List ℕ) (old new : Shelved) (before now : ℕ) (result : Result Offered TakeFault) → IsTaken was is kind block by old new before now result
    → IfStore result (IsRefused was is kind block by old new before now)
stored_refused was is kind block by old new before now (Ok o) t = tt
stored_refused was is kind block by old new before now (Err (Offer f)) t = tt
stored_refused was is kind block by old new before now (Err (Store f)) t = t
