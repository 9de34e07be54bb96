-- A relay into which all files of a shelf were taken is the one that loading is defined to give.
use Rattle.std.proofs.Common.{arith, ◌≡◌, ◌≢◌, ◌≤◌, ◌⊎◌, ◌+◌, cond, inl, inr, ℕ, Bool, true, false, not, ◌&&◌, List, [], ◌∷◌, ◌++◌, length, reverse, Option, Some, None, Result, Ok, refl, sym, ap, subst, ◌∙◌}
use Rattle.std.specs.List.{AllByRecursion}
use Rattle.std.specs.Result.{result_unwrap_or}
use Rattle.std.proofs.Math.Nat.{le_refl}
use Rattle.std.proofs.lemmas.List.{append-nil, reverse-reverse}
use Rattle.chain_laws.proofs.public.Growth.{all_weaker}
use Rattle.block_record.specs.declared.blocks.Slip.{Slip}
use Rattle.block_record.specs.declared.blocks.Kind.{Kind}
use Rattle.dbin_file.specs.Contents.{told}
use Rattle.outer_world.specs.Files.{Files, AreInOrder, names_of}
use Rattle.one_block.specs.Layout.{HasLayout, layout_size}
use Rattle.one_block.specs.declared.faults.StoreFault.TheVariants as store
use Rattle.shelf_check.specs.declared.faults.LoadFault.{LoadFault}
use Rattle.shelf_check.specs.declared.faults.LoadFault.TheVariants as fault
use Rattle.relay_model.specs.Worlds.{World}
use Rattle.relay_model.specs.Offers.{judge}
use Rattle.relay_model.specs.Soundness.{IsSound}
use Rattle.relay_model.proofs.public.Sound.{same_sound}
use Rattle.bundle_model.specs.Plans.{stored_slips}
use Rattle.bundle_model.specs.Shedding.{stored_after}
use Rattle.chain_model.specs.Ancestry.{has_id}
use Rattle.store_model.specs.Kept.{IsStoredFinal, IsStoredFork}
use Rattle.store_model.specs.Laws.{IsEmpty}
use Rattle.store_model.specs.Loads.{Loading, Round, load_all, loading_of, taken}
use Rattle.store_files.specs.Folders.{shown_of, size_of}
use Rattle.store_files.specs.Kept.{IsClean, IsKept, loaded_from}
use Rattle.store_files.specs.Laws.{LoadKeepsFiles, ReloadsFrom}
use Rattle.store_files.proofs.public.KeptFacts.{load_keeps_files}
use Rattle.shelf_load.specs.declared.entries.FileContent.TheVariants.{MergedBlocks}
use Rattle.shelf_load.specs.declared.loads.Loaded.{Loaded}
use Rattle.shelf_load.specs.Asides.{Aside, Put, slips_put}
use Rattle.shelf_load.specs.Taking.{Stage, Taken, stage, take_all}
use Rattle.shelf_load.specs.Ending.{IsRounded, RoundRefused, is_again, lost_count, offer_round, put_all, put_one, round_at}
use Rattle.shelf_load.specs.LoadLaws.{IsAlikeStored, IsLoading, AreTaken, all_stored, all_taken, nothing, offered_again, with_stored}
use Rattle.shelf_load.specs.Loading.{TakenFile, AreBundlesTaken, AreSinglesTaken, HadRoom, AreLoaded, IsBundleTaken, IsLoaded, IsPart, LoadAnswers, LoadRefused, all_taken_of, begun, file_kind, first_kind, kind_after}
use Rattle.shelf_load.specs.Merging.{IsBadMerged}
use Rattle.shelf_load.specs.Singling.{IsBadSingleFile}
use Rattle.shelf_load.specs.Load.{IsBadFile, IsCounted, IsFromFiles, IsRefusedLoad, OfTold, Reloads, early_count, loading_from, lost_of, passed_of}
use Rattle.shelf_load.proofs.LoadingFacts.{Follows, all_follow}
use Rattle.shelf_load.proofs.LawFacts.{taking_is_loading}
use Rattle.shelf_load.proofs.RoomFacts.{early_is, lost_is, room_is, told_more}
use Rattle.shelf_load.proofs.ShownFacts.{shown_taken}
use Rattle.shelf_load.proofs.LoadedFacts.{load_on, offer_kind}
use Rattle.shelf_load.proofs.FilesFacts.{part_of}

-- ---- the kind

put_kind : (k : Kind) (r : Round) (p : Put) → r.world.kind ≡ Some k → (put_one r p).world.kind ≡ Some k
put_kind k r p e = go (not r.over && is_again r.world p)
  where
    go : (b : Bool) → (cond b (offer_round r p.slip) r).world.kind ≡ Some k
    go true = offer_kind r.world p.slip (judge r.world p.slip) k e
    go false = e

puts_kind : (k : Kind) (r : Round) (puts : List Put) → r.world.kind ≡ Some k → (put_all r puts).world.kind ≡ Some k
puts_kind k r [] e = e
puts_kind k r (p ∷ puts) e = put_kind k (put_all r puts) p (puts_kind k r puts e)

-- no file was read where there is no kind
none_read : (kind : Option Kind) (xs : List TakenFile) → kind_after kind xs ≡ None → (xs ≡ []) × (kind ≡ None)
none_read kind [] e = (refl, e)
none_read kind (x ∷ xs) e = absurd (go (kind_after kind xs) e)
  where
    go : (o : Option Kind) → first_kind o (file_kind x) ≡ None → ⊥
    go None k = grind (arith, k)
    go (Some held) k = grind (arith, k)

-- the last round keeps the kind of what was loaded
round_kind : (w : World) (xs : List TakenFile) (g : Stage) → IsLoaded w xs g → (put_all (round_at g.world) g.aside.put_by).world.kind ≡ g.world.kind
round_kind w xs g h = go g.world.kind refl
  where
    go : (o : Option Kind) → g.world.kind ≡ o → (put_all (round_at g.world) g.aside.put_by).world.kind ≡ g.world.kind
    go (Some k) e = puts_kind k (round_at g.world) g.aside.put_by e ∙ sym e
    go None e =
        let none = none_read w.kind xs (sym h.kind ∙ e) in
        let start : g ≡ begun w (kind_after w.kind []) = h.stage_is ∙ ap (λ (ys : List TakenFile). take_all (begun w (kind_after w.kind ys)) (all_taken_of ys)) none.0 in
        ap (λ (a : Stage). (put_all (round_at a.world) a.aside.put_by).world.kind) start ∙ ap (λ (a : Stage). a.world.kind) (sym start)

-- a kind that there was is the kind after files
old_kind : (kind : Option Kind) (xs : List TakenFile) → kind ≢ None → kind_after kind xs ≡ kind
old_kind kind [] some = refl
old_kind kind (x ∷ xs) some = ap (λ (o : Option Kind). first_kind o (file_kind x)) (old_kind kind xs some) ∙ go kind some
  where
    go : (o : Option Kind) → o ≢ None → first_kind o (file_kind x) ≡ o
    go None n = absurd (n refl)
    go (Some held) n = refl

-- ---- the world

-- what was loaded, and what the relay is then
pub record IsDone (old : World) (size : ℕ) (bundles singles : List TakenFile) (g : Stage) (rounded new : World) : Type 0 where
  pub empty : IsEmpty old
  pub sound : IsSound old
  pub loaded : IsLoaded (record old { size = size }) (singles ++ bundles) g
  pub round : IsRounded g.world g.aside.put_by rounded
  pub new_is : new ≡ record rounded { stored = stored_after rounded.history rounded.stored (reverse g.aside.late) }

module _ (files : Files) (old : World) (size : ℕ) (bundles singles : List TakenFile) (g : Stage) (rounded new : World)
    (order : AreInOrder (names_of files)) (sized : size ≡ size_of files)
    (merged : AreBundlesTaken size (Some files) bundles) (single : AreSinglesTaken (Some files) singles)
    (d : IsDone old size bundles singles g rounded new) where
  abbrev ts : List Taken
  ts = all_taken_of (singles ++ bundles)

  abbrev w : World
  w = record old { kind = g.world.kind }

  abbrev start : Stage
  start = stage (record w { size = size_of files }) nothing

  abbrev l : Loading
  l = loading_from (shown_of files) w

  kind_is : new.kind ≡ g.world.kind
  kind_is =
      ap (λ (v : World). v.kind) d.new_is ∙ ap (λ (v : World). v.kind) (sym d.round.world)
      ∙ round_kind (record old { size = size }) (singles ++ bundles) g d.loaded

  taken_is : AreTaken (shown_of files) ts
  taken_is = shown_taken files bundles singles order (subst (λ (n : ℕ). AreBundlesTaken n (Some files) bundles) sized merged) single

  -- the stage with which loading begins
  begins : begun (record old { size = size }) (kind_after old.kind (singles ++ bundles)) ≡ start
  begins =
      ap (λ (o : Option Kind). begun (record old { size = size }) o) (sym d.loaded.kind)
      ∙ ap (λ (n : ℕ). begun (record old { size = n }) g.world.kind) sized

  stage_is : g ≡ all_taken (shown_of files) w ts
  stage_is = d.loaded.stage_is ∙ ap (λ (a : Stage). take_all a ts) begins

  first : Follows start l
  first = record { world = refl; put_by = refl }

  room : (loading_of (shown_of files) w).full ≡ None
  room =
      ap (λ (ss : List Slip). (load_all l ss).full) (sym taken_is.all)
      ∙ room_is start l ts first refl (subst (λ (a : Stage). HadRoom a ts) begins d.loaded.room)

  sound : IsSound w
  sound = same_sound old w refl refl (λ e. (none_read old.kind (singles ++ bundles) (sym d.loaded.kind ∙ e)).1) refl d.sound

  is_loading : IsLoading (shown_of files) w ts
  is_loading = taking_is_loading (shown_of files) w ts sound (record { history = d.empty.history; waiting = d.empty.waiting; stored = d.empty.stored; opened = d.empty.opened }) taken_is room

  -- the relay is the one of the definition, with the same blocks stored
  new_stored : new ≡ all_stored g (offered_again g).world
  new_stored = d.new_is ∙ ap (λ (v : World). record v { stored = stored_after v.history v.stored (reverse g.aside.late) }) (sym d.round.world)

  world_is : IsAlikeStored (loaded_from files w).world new
  world_is =
      subst (IsAlikeStored (loaded_from files w).world)
      (sym (new_stored ∙ ap (λ (a : Stage). all_stored a (offered_again a).world) stage_is))
      is_loading.world

  full_is : (loaded_from files w).full ≡ None
  full_is = sym is_loading.full ∙ ap (λ (a : Stage). (offered_again a).full) (sym stage_is) ∙ d.round.room

  early : g.aside.passed ≡ told (early_count l (taken (shown_of files)))
  early =
      ap (λ (a : Stage). a.aside.passed) stage_is ∙ early_is start l ts first refl
      ∙ ap (λ (ss : List Slip). told (early_count l ss)) taken_is.all

  put_by_is : slips_put g.aside.put_by ≡ (loading_of (shown_of files) w).put_by
  put_by_is =
      ap (λ (a : Stage). slips_put a.aside.put_by) stage_is ∙ (all_follow start l ts first).put_by
      ∙ ap (λ (ss : List Slip). (load_all l ss).put_by) taken_is.all

  -- the world with the kind that was kept is the one with the new kind
  other_kind : w ≡ record old { kind = new.kind }
  other_kind = ap (λ (k : Option Kind). record old { kind = k }) (sym kind_is)

  pub from_files : (numbers : Loaded) → numbers.passed ≡ told (g.aside.passed + lost_of new (slips_put g.aside.put_by)) → IsFromFiles files old new numbers
  from_files numbers passed = record {
    kind = λ some. kind_is ∙ d.loaded.kind ∙ old_kind old.kind (singles ++ bundles) some;
    world = subst (λ (v : World). IsAlikeStored (loaded_from files v).world new) other_kind world_is;
    room = ap (λ (v : World). (loaded_from files v).full) (sym other_kind) ∙ full_is;
    passed =
        passed ∙ ap (λ (n : ℕ). told (n + lost_of new (slips_put g.aside.put_by))) early
        ∙ told_more (early_count l (taken (shown_of files))) (lost_of new (slips_put g.aside.put_by))
        ∙ ap (λ (ss : List Slip). told (early_count l (taken (shown_of files)) + lost_of new ss)) put_by_is
        ∙ ap (λ (v : World). told (passed_of (shown_of files) v new)) other_kind;
  }

-- ---- what was kept is there again

-- a world with other places stored, where the same blocks are stored
alike_reloads : (files : Files) (old w : World) (x : List ℕ) → stored_slips (with_stored x w) ≡ stored_slips w → IsSound (with_stored x w)
    → ReloadsFrom files old w → ReloadsFrom files old (with_stored x w)
alike_reloads files old w x same sound r = record {
  sound = sound;
  sized = r.sized;
  held = r.held;
  finals = r.finals;
  kept = record {
    formed = r.kept.formed;
    keeping = record {
      keeps = record { bundles = r.kept.keeping.keeps.bundles; history = r.kept.keeping.keeps.history; waiting = r.kept.keeping.keeps.waiting; forked = r.kept.keeping.keeps.forked };
      stored = subst (AllByRecursion (λ s. IsStoredFinal (shown_of files) w.history s ⊎ IsStoredFork (shown_of files) w.history s)) (sym same) r.kept.keeping.stored;
    };
  };
  front = record {
    front = r.front.front;
    first = r.front.first;
    stored = λ s h. ap (λ (ss : List Slip). has_id ss s.id) same ∙ r.front.stored s h;
    only = λ s h e. r.front.only s h (ap (λ (ss : List Slip). has_id ss s.id) (sym same) ∙ e);
  };
  same = r.same;
}

pub reloads_from : LoadKeepsFiles → (files : Files) (first new : World) (numbers : Loaded) → IsEmpty first → IsSound new → IsFromFiles files first new numbers
    → (old : World) → IsSound old → IsKept files old → IsClean old.first files old.history → first.first ≡ old.first → ReloadsFrom files old new
reloads_from law files first new numbers empty sound h old old_sound kept clean e =
    let w : World = record first { kind = new.kind } in
    let r = law files old w old_sound kept clean (record { history = empty.history; waiting = empty.waiting; stored = empty.stored; opened = empty.opened }) e h.room in
    let v = (loaded_from files w).world in
    subst (ReloadsFrom files old) (sym h.world.world)
    (alike_reloads files old v new.stored (subst (λ (x : World). stored_slips x ≡ stored_slips v) h.world.world h.world.stored) (subst IsSound h.world.world sound) r)

-- ---- refusals

-- what is loaded before the first file
pub begins_loaded : (old world : World) (size : ℕ) (aside : Aside) → world ≡ record old { size = size } → aside ≡ nothing → IsLoaded (record old { size = size }) [] (stage world aside)
begins_loaded old world size aside e k = record {
  kind = ap (λ (v : World). v.kind) e;
  one_kind = tt;
  stage_is = λ i. stage (e i) (k i);
  room = tt;
}

pub merged_refused : (files : Option Files) (old : World) (size first before now : ℕ) (refused : LoadFault) → HasLayout files (Ok size) → first ≤ before
    → LoadRefused (IsBadMerged size files (record old { size = size }) []) files (record old { size = size }) before now refused → IsRefusedLoad files old first now refused
merged_refused files old size first before now refused layout le h =
    let w : World = record old { size = size } in
    inl (size, load_on (IsBadMerged size files w []) (IsBadFile files w) files w first before now now refused le (le_refl now) (λ name at bad. inr (record { layout = layout; bad = inl bad })) h)

pub singles_refused : (files : Option Files) (old : World) (size first before now : ℕ) (bundles : List TakenFile) (refused : LoadFault) → HasLayout files (Ok size) → AreBundlesTaken size files bundles → first ≤ before
    → LoadRefused (IsBadSingleFile files (record old { size = size }) bundles) files (record old { size = size }) before now refused → IsRefusedLoad files old first now refused
singles_refused files old size first before now bundles refused layout all le h =
    let w : World = record old { size = size } in
    inl (
      size,
      load_on (IsBadSingleFile files w bundles) (IsBadFile files w) files w first before now now refused le (le_refl now)
          (λ name at bad. inr (record { layout = layout; bad = inr (record { bundles = bundles; all = all; bad = bad }) })) h,
    )

pub round_refused : (files : Option Files) (old : World) (size first now : ℕ) (xs : List TakenFile) (g : Stage) (refused : LoadFault) → IsLoaded (record old { size = size }) xs g
    → RoundRefused g.world g.aside.put_by refused → IsRefusedLoad files old first now refused
round_refused files old size first now xs g (fault.Store store.ShelfFault) loaded_so h = absurd h
round_refused files old size first now xs g (fault.Store (store.ShelfBad name at)) loaded_so h = absurd h
round_refused files old size first now xs g (fault.Store (store.Missing name)) loaded_so h = absurd h
round_refused files old size first now xs g (fault.Store (store.StoredOther kept read)) loaded_so h = absurd h
round_refused files old size first now xs g (fault.Store (store.NameClash held other)) loaded_so h = absurd h
round_refused files old size first now xs g (fault.Store store.Mem) loaded_so h = inl (size, tt)
round_refused files old size first now xs g (fault.KindClash held other) loaded_so h = absurd h
round_refused files old size first now xs g (fault.HistoryFull len need) loaded_so h =
    inr (record { size = size; xs = xs; g = g; loaded = loaded_so; len = len; need = need; said = h; refused_is = refl })

-- ---- one call after another

-- what is said of loading the files of one block, after others
abbrev pub SinglesAsked : Option Files → Stage → Stage → ℕ → ℕ → Result Unit LoadFault → Type 0
SinglesAsked files g new before now result = (w : World) (older : List TakenFile) → IsLoaded w older g → AllByRecursion (IsPart files) older
    → LoadAnswers (AreSinglesTaken files) (IsBadSingleFile files w older) files w older new before now result

pub after_merged : (files other : Option Files) (old : World) (size before now : ℕ) (g new : Stage) (result : Result Unit LoadFault) → other ≡ files
    → (m : AreLoaded (AreBundlesTaken size files) (record old { size = size }) [] g) → SinglesAsked other g new before now result
    → LoadAnswers (AreSinglesTaken files) (IsBadSingleFile files (record old { size = size }) m.xs) files (record old { size = size }) m.xs new before now result
after_merged files other old size before now g new result e m asked =
    subst (λ (f : Option Files). SinglesAsked f g new before now result) e asked (record old { size = size }) m.xs
    (subst (λ (xs : List TakenFile). IsLoaded (record old { size = size }) xs g) (append-nil m.xs) m.loaded)
    (all_weaker (IsBundleTaken size files) (IsPart files) (λ x h. part_of MergedBlocks size files x h) m.xs m.all.each)

-- all was done
pub whole_done : (files : Option Files) (old world : World) (size : ℕ) (bundles singles : List TakenFile) (g : Stage) (rounded new : World) (puts : List Put) (late : List Slip)
    → IsEmpty old → world ≡ record old { size = size } → IsSound world → IsLoaded (record old { size = size }) (singles ++ bundles) g
    → reverse puts ≡ g.aside.put_by → IsRounded g.world (reverse puts) rounded
    → reverse late ≡ g.aside.late → new ≡ record rounded { stored = stored_after rounded.history rounded.stored late }
    → IsDone old size bundles singles g rounded new
whole_done files old world size bundles singles g rounded new puts late empty e sound loaded_so puts_are round late_is new_is = record {
  empty = empty;
  sound = same_sound (record old { size = size }) old refl refl (λ k. k) refl (subst IsSound e sound);
  loaded = loaded_so;
  round = subst (λ (ps : List Put). IsRounded g.world ps rounded) puts_are round;
  new_is =
      new_is
      ∙ ap (λ (ss : List Slip). record rounded { stored = stored_after rounded.history rounded.stored ss }) (sym (reverse-reverse late) ∙ ap reverse late_is);
}

-- told files have the size that was read
told_size : (files : Files) (size : ℕ) → HasLayout (Some files) (Ok size) → size ≡ size_of files
told_size files size h = sym (ap (λ (r : Result ℕ ℕ). result_unwrap_or r 100) (ap layout_size h.there ∙ h.told_is))

-- how many were passed, by the numbers that were added
pub passed_sum : (new : World) (puts : List Put) (by : List Put) (a lost total n : ℕ) → reverse puts ≡ by → a ≡ n → lost ≡ lost_count new puts → total ≡ told (a + lost)
    → total ≡ told (n + lost_of new (slips_put by))
passed_sum new puts by a lost total n same a_is lost_is_so total_is =
    total_is ∙ ap (λ (m : ℕ). told (m + lost)) a_is
    ∙ ap (λ (m : ℕ). told (n + m)) (lost_is_so ∙ lost_is new puts ∙ ap (λ (ps : List Put). lost_of new (slips_put ps)) same)

pub whole_answer : (files : Option Files) (old : World) (size : ℕ) (bundles singles : List TakenFile) (g : Stage) (rounded new : World) (numbers : Loaded) → HasLayout files (Ok size)
    → AreBundlesTaken size files bundles → AreSinglesTaken files singles → IsDone old size bundles singles g rounded new
    → numbers.passed ≡ told (g.aside.passed + lost_of new (slips_put g.aside.put_by)) → OfTold files (λ told_files. IsFromFiles told_files old new numbers)
whole_answer None old size bundles singles g rounded new numbers layout b s d passed = tt
whole_answer (Some files) old size bundles singles g rounded new numbers layout b s d passed =
    λ order. from_files files old size bundles singles g rounded new order (told_size files size layout) b s d numbers passed

pub whole_reloads : (files : Option Files) (old new : World) (numbers : Loaded) → IsEmpty old → IsSound new → OfTold files (λ told_files. IsFromFiles told_files old new numbers) → Reloads files old new
whole_reloads None first new numbers empty sound h = tt
whole_reloads (Some files) first new numbers empty sound h =
    λ old old_sound kept clean e. reloads_from load_keeps_files files first new numbers empty sound (h kept.formed.ordered) old old_sound kept clean e

pub is_counted : (new : World) (numbers : Loaded) → numbers.admitted ≡ length new.history → numbers.waiting ≡ length new.waiting → numbers.conflicts ≡ length new.conflicts → IsCounted new numbers
is_counted new numbers a w k = record { admitted = a; waiting = w; conflicts = k }
