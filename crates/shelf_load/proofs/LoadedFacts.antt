-- A stage into which one file after another is loaded.
use Rattle.std.proofs.Common.{arith, ◌≡◌, ◌≤◌, ◌++◌, ℕ, Bool, true, false, cond, IsTrue, List, [], ◌∷◌, map, Option, Some, None, refl, sym, ap, subst, ◌∙◌}
use Rattle.std.specs.List.{AllByRecursion}
use Rattle.std.specs.Option.{option_map}
use Rattle.std.proofs.lemmas.List.{append-nil}
use Rattle.block_record.specs.declared.blocks.Block.{Block}
use Rattle.block_record.specs.declared.blocks.Kind.{Kind}
use Rattle.block_record.specs.declared.blocks.Slip.{Slip}
use Rattle.block_record.specs.Slips.{slip}
use Rattle.block_relay.specs.Chronicle.{may_greet}
use Rattle.dbin_file.specs.Contents.{contents}
use Rattle.outer_world.specs.Files.{Files}
use Rattle.outer_world.specs.Shelves.{RefusesBy}
use Rattle.outer_world.specs.declared.shelves.ShelfFail.{ShelfFail}
use Rattle.outer_world.specs.declared.shelves.ShelfFail.TheVariants as fail
use Rattle.file_reader.specs.Reading.{HasFront, HasText}
use Rattle.one_block.specs.StoreFaults.{fault_of}
use Rattle.one_block.specs.declared.faults.StoreFault.TheVariants as store
use Rattle.relay_model.specs.Worlds.{World}
use Rattle.relay_model.specs.Offers.{judge, kind_after as kept_kind, offered, world_by}
use Rattle.relay_model.specs.Verdicts.{Verdict}
use Rattle.relay_model.specs.Verdicts as verdict
use Rattle.shelf_check.specs.declared.faults.LoadFault.{LoadFault}
use Rattle.shelf_check.specs.declared.faults.LoadFault.TheVariants as fault
use Rattle.store_model.specs.Loads.{is_offered, if_full}
use Rattle.shelf_load.specs.declared.put_by.Origin.{Origin}
use Rattle.shelf_load.specs.declared.put_by.Origin.TheVariants.{OwnFile, StoredFile}
use Rattle.shelf_load.specs.Asides.{Aside}
use Rattle.shelf_load.specs.Greeting.{IsGreeted, IsOtherType, GreetRefused}
use Rattle.shelf_load.specs.Loading.{TakenFile, all_taken_of, file_kind, first_kind, kind_after, begun, HadRoom, IsLoaded, IsPart, with_block, IsClashAt, LoadRefused}
use Rattle.shelf_load.specs.Taking.{Stage, Taken, after_block, after_offer, after_put_by, marked_by, stage, taken, take_all, take_one, IsTaken, TakeRefused}

-- ---- kinds

first_again : (o : Option Kind) (k later : Kind) → first_kind (first_kind o k) later ≡ first_kind o k
first_again None k later = refl
first_again (Some held) k later = refl

first_some : (o : Option Kind) (k : Kind) → (h : Kind) × (first_kind o k ≡ Some h)
first_some None k = (k, refl)
first_some (Some held) k = (held, refl)

kind_stays : (k : Kind) (history : List Slip) → kept_kind (Some k) history ≡ Some k
kind_stays k history = refl

-- no offer changes a kind that is kept
pub offer_kind : (w : World) (s : Slip) (v : Verdict) (k : Kind) → w.kind ≡ Some k → (world_by w s v).kind ≡ Some k
offer_kind w s verdict.Closed k e = e
offer_kind w s verdict.Duplicate k e = e
offer_kind w s (verdict.Conflict c) k e = e
offer_kind w s verdict.Early k e = e
offer_kind w s verdict.Stale k e = e
offer_kind w s verdict.WaitFull k e = e
offer_kind w s verdict.Waiting k e = e
offer_kind w s (verdict.HistoryFull need) k e = e
offer_kind w s verdict.Admitted k e = ap (λ (o : Option Kind). kept_kind o w.history) e

block_kind : (g : Stage) (s : Slip) (k : Kind) → g.world.kind ≡ Some k → (after_block g s).world.kind ≡ Some k
block_kind g s k e = by_test (is_offered g.world.history s)
  where
    by_test : (b : Bool) → (cond b (after_offer g s) (after_put_by g s)).world.kind ≡ Some k
    by_test true = offer_kind g.world s (judge g.world s) k e
    by_test false = e

mark_kind : (o : Origin) (g : Stage) (s : Slip) → (marked_by o g s).world.kind ≡ g.world.kind
mark_kind OwnFile g s = refl
mark_kind StoredFile g s = refl

taken_kind : (g : Stage) (t : Taken) (k : Kind) → g.world.kind ≡ Some k → (take_one g t).world.kind ≡ Some k
taken_kind g t k e = mark_kind t.origin (after_block g t.slip) t.slip ∙ block_kind g t.slip k e

-- ---- one more file

with_kind : (v : World) (a : Aside) (o : Option Kind) → v.kind ≡ o → stage (record v { kind = o }) a ≡ stage v a
with_kind v a o e = λ i. stage (record v { kind = sym e i }) a

-- a file of which only the head was read
pub loaded_head : (w : World) (older : List TakenFile) (v told : World) (a : Aside) (x : TakenFile) → x.blocks ≡ [] → IsLoaded w older (stage v a) → IsGreeted v told x.block_type → IsLoaded w (x ∷ older) (stage told a)
loaded_head w older v told a x none l greeted = record {
  kind = ap (λ (u : World). u.kind) greeted.world ∙ ap (λ (o : Option Kind). first_kind o (file_kind x)) l.kind;
  one_kind = (subst (λ (o : Option Kind). IsTrue (may_greet o (file_kind x))) l.kind greeted.may, l.one_kind);
  stage_is = subst (λ (ts : List Taken). stage told a ≡ take_all (begun w (first_kind (kind_after w.kind older) (file_kind x))) ts) (sym no_more) (ap (λ (u : World). stage u a) greeted.world ∙ stages older l);
  room = subst (HadRoom (begun w (first_kind (kind_after w.kind older) (file_kind x)))) (sym no_more) (rooms older l);
}
  where
    no_more : all_taken_of (x ∷ older) ≡ all_taken_of older
    no_more = ap (λ (bs : List Block). map (λ b. taken (slip b) x.origin) bs ++ all_taken_of older) none

    stages : (xs : List TakenFile) → IsLoaded w xs (stage v a) → stage (record v { kind = first_kind v.kind (file_kind x) }) a ≡ take_all (begun w (first_kind (kind_after w.kind xs) (file_kind x))) (all_taken_of xs)
    stages [] l = ap (λ (g : Stage). stage (record g.world { kind = first_kind g.world.kind (file_kind x) }) g.aside) l.stage_is
    stages (y ∷ rest) l =
        let again : first_kind (kind_after w.kind (y ∷ rest)) (file_kind x) ≡ kind_after w.kind (y ∷ rest) = first_again (kind_after w.kind rest) (file_kind y) (file_kind x) in
        let same : v.kind ≡ first_kind v.kind (file_kind x) = l.kind ∙ sym again ∙ ap (λ (o : Option Kind). first_kind o (file_kind x)) (sym l.kind) in
        with_kind v a (first_kind v.kind (file_kind x)) same ∙ l.stage_is ∙ ap (λ (o : Option Kind). take_all (begun w o) (all_taken_of (y ∷ rest))) (sym again)

    rooms : (xs : List TakenFile) → IsLoaded w xs (stage v a) → HadRoom (begun w (first_kind (kind_after w.kind xs) (file_kind x))) (all_taken_of xs)
    rooms [] l = tt
    rooms (y ∷ rest) l =
        let again : first_kind (kind_after w.kind (y ∷ rest)) (file_kind x) ≡ kind_after w.kind (y ∷ rest) = first_again (kind_after w.kind rest) (file_kind y) (file_kind x) in
        subst (λ (o : Option Kind). HadRoom (begun w o) (all_taken_of (y ∷ rest))) (sym again) l.room

-- one more block of the file that is read
pub loaded_more : (w : World) (older : List TakenFile) (g new : Stage) (x : TakenFile) (b : Block) → IsLoaded w (x ∷ older) g → IsTaken g new (taken (slip b) x.origin) → IsLoaded w (with_block x b ∷ older) new
loaded_more w older g new x b l t =
    let k = first_some (kind_after w.kind older) (file_kind x) in
    record {
      kind = ap (λ (n : Stage). n.world.kind) t.stage ∙ taken_kind g (taken (slip b) x.origin) k.0 (l.kind ∙ k.1) ∙ sym k.1;
      one_kind = l.one_kind;
      stage_is = t.stage ∙ ap (λ (n : Stage). take_one n (taken (slip b) x.origin)) l.stage_is;
      room = (subst (λ (n : Stage). IsTrue (is_offered n.world.history (slip b)) → if_full (offered n.world (slip b)).answer ≡ None) l.stage_is t.room, l.room);
    }

-- the number of a file changes nothing
pub renumbered : (w : World) (older : List TakenFile) (g : Stage) (x : TakenFile) (num : ℕ) → IsLoaded w (x ∷ older) g → IsLoaded w (record x { num = num } ∷ older) g
renumbered w older g x num l = record { kind = l.kind; one_kind = l.one_kind; stage_is = l.stage_is; room = l.room }

-- ---- a file that was read whole

pub whole_front : (files : Option Files) (name text : List ℕ) → HasText files name text → HasFront files name text
whole_front None name text h = tt
whole_front (Some files) name text h = ([], append-nil text ∙ sym h)

-- ---- refusals

-- a cause of a part is one of the whole
pub load_on : (IsBad IsBad' : List ℕ → ℕ → Type 0) (files : Option Files) (w : World) (before mid now later : ℕ) (refused : LoadFault) → before ≤ mid → now ≤ later → ((name : List ℕ) (at : ℕ) → IsBad name at → IsBad' name at) → LoadRefused IsBad files w mid now refused → LoadRefused IsBad' files w before later refused
load_on IsBad IsBad' files w before mid now later (fault.Store store.ShelfFault) early late wider r = omega (arith, r, early, late)
load_on IsBad IsBad' files w before mid now later (fault.Store (store.ShelfBad name at)) early late wider r = wider name at r
load_on IsBad IsBad' files w before mid now later (fault.Store (store.Missing name)) early late wider r = r
load_on IsBad IsBad' files w before mid now later (fault.Store (store.StoredOther kept read)) early late wider r = r
load_on IsBad IsBad' files w before mid now later (fault.Store (store.NameClash held other)) early late wider r = r
load_on IsBad IsBad' files w before mid now later (fault.Store store.Mem) early late wider r = tt
load_on IsBad IsBad' files w before mid now later (fault.KindClash held other) early late wider r = r
load_on IsBad IsBad' files w before mid now later (fault.HistoryFull len need) early late wider r = r

-- a call of the shelf that was refused
pub shelf_refused : (IsBad : List ℕ → ℕ → Type 0) (files : Option Files) (w : World) (before mid now : ℕ) (f : ShelfFail) → before ≤ mid → RefusesBy f mid now → LoadRefused IsBad files w before now (fault.Store (fault_of f))
shelf_refused IsBad files w before mid now fail.Failed early r = omega (arith, r, early)
shelf_refused IsBad files w before mid now fail.Mem early r = tt

-- a block that was not taken
pub take_refused : (IsBad : List ℕ → ℕ → Type 0) (files : Option Files) (w : World) (before now : ℕ) (older : List TakenFile) (g : Stage) (x : TakenFile) (b : Block) (refused : LoadFault)
    → IsLoaded w (x ∷ older) g → AllByRecursion (IsPart files) (with_block x b ∷ older) → TakeRefused g (taken (slip b) x.origin) refused → LoadRefused IsBad files w before now refused
take_refused IsBad files w before now older g x b (fault.Store store.ShelfFault) l parts r = absurd r
take_refused IsBad files w before now older g x b (fault.Store (store.ShelfBad name at)) l parts r = absurd r
take_refused IsBad files w before now older g x b (fault.Store (store.Missing name)) l parts r = r
take_refused IsBad files w before now older g x b (fault.Store (store.StoredOther kept read)) l parts r = r
take_refused IsBad files w before now older g x b (fault.Store (store.NameClash held other)) l parts r = r
take_refused IsBad files w before now older g x b (fault.Store store.Mem) l parts r = tt
take_refused IsBad files w before now older g x b (fault.KindClash held other) l parts r = absurd r
take_refused IsBad files w before now older g x b (fault.HistoryFull len need) l parts r = record { older = older; x = x; b = b; parts = parts; g = g; loaded = l; offered_is = r.0; said = r.1 }

-- a type that was not told
module _ (IsBad : List ℕ → ℕ → Type 0) (files : Option Files) (w : World) (before now : ℕ) (older : List TakenFile) (g : Stage) (name text block_type : List ℕ)
    (l : IsLoaded w older g) (parts : AllByRecursion (IsPart files) older) (there : HasFront files name text) (typed : (contents text).block_type ≡ Some block_type) where
  clash_at : (held other : List ℕ) → IsOtherType g.world block_type held other → IsClashAt files w held other
  clash_at held other o = record {
    older = older;
    parts = parts;
    name = name;
    text = text;
    there = there;
    typed = typed ∙ ap (λ (t : List ℕ). Some t) (sym o.other_is);
    held_is = ap (option_map (λ (k : Kind). k.block_type)) (sym l.kind) ∙ o.held_is;
    differs = o.differs;
  }

  pub greet_refused : (refused : LoadFault) → GreetRefused g.world block_type refused → LoadRefused IsBad files w before now refused
  greet_refused (fault.Store store.ShelfFault) r = absurd r
  greet_refused (fault.Store (store.ShelfBad bad at)) r = absurd r
  greet_refused (fault.Store (store.Missing missing)) r = r
  greet_refused (fault.Store (store.StoredOther kept read)) r = r
  greet_refused (fault.Store (store.NameClash held other)) r = r
  greet_refused (fault.Store store.Mem) r = tt
  greet_refused (fault.KindClash held other) r = clash_at held other r
  greet_refused (fault.HistoryFull len need) r = absurd r
