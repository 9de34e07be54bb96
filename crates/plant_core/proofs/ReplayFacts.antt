-- What a replay is answered, by what its shelf gave.
use Rattle.std.proofs.Common.{◌≡◌, ◌++◌, ◌⊎◌, inl, inr, ℕ, List, [], ◌∷◌, Option, Result, Ok, Err, IfErr, IfOk, refl, ◌∙◌, ap, subst}
use Rattle.block_relay.specs.Chronicle.{Told, world_told}
use Rattle.one_block.specs.declared.faults.StoreFault.{StoreFault}
use Rattle.one_block.specs.declared.faults.StoreFault.TheVariants as store
use Rattle.outer_world.specs.Files.{Files}
use Rattle.replay_text.specs.Lines.{loaded_line}
use Rattle.script_text.specs.Scripts.{Plan}
use Rattle.shelf_check.specs.declared.faults.LoadFault.{LoadFault}
use Rattle.shelf_check.specs.declared.faults.LoadFault.TheVariants as load
use Rattle.shelf_load.specs.declared.loads.Loaded.{Loaded}
use Rattle.shelf_load.specs.Load.{ShelfAnswers}
use Rattle.plant_core.specs.Moments.{Moment, moment, plant_of}
use Rattle.plant_core.specs.Runs.{DidNotBegin, HasLoaded, IsGivenUp, IsReplayed, IsStopped, IsTold, IsUnloaded, StopsWithin, told_new}

-- no memory for the relay
stopped_at_once : (p : Plan) (files : Option Files) (before faults : ℕ) (text : List ℕ) (fault : StoreFault) → fault ≡ store.Mem → IsStopped p files files before faults text text fault
stopped_at_once p files before faults text fault mem = inl (record { why = inl mem; files_are = refl; line = []; told = no_more text })
  where
    no_more : (l : List ℕ) → l ≡ l ++ []
    no_more [] = refl
    no_more (x ∷ l) = ap (λ (m : List ℕ). x ∷ m) (no_more l)

-- the shelf was loaded into this relay
module _ (p : Plan) (files between now : Option Files) (before middle faults : ℕ) (text after : List ℕ) (new t : Told) (l : Loaded) where
  abbrev pub begun : Moment
  begun = moment (plant_of t p.run p.limits) between middle (text ++ loaded_line l)

  abbrev pub Loads : Type 0
  Loads = ShelfAnswers files (world_told new) (world_told t) before middle (Ok l)

  has_loaded : new ≡ told_new p → between ≡ files → Loads → HasLoaded p files before text begun
  has_loaded is same answer = record {
    loaded = l;
    answer = subst (λ (u : Told). ShelfAnswers files (world_told u) (world_told t) before middle (Ok l)) is answer;
    plant = refl;
    files_are = same;
    told = refl;
  }

  pub loaded_err : (result : Result Told StoreFault) → new ≡ told_new p → between ≡ files → Loads
      → IfErr result (λ fault. DidNotBegin between now text after fault ⊎ StopsWithin p.events begun now faults after fault)
      → IfErr result (IsStopped p files now before faults text after)
  loaded_err (Ok u) is same answer stopped = tt
  loaded_err (Err fault) is same answer (inl x) =
      rw (x.files_are ∙ same, x.same) (stopped_at_once p files before faults text fault x.mem)
  loaded_err (Err fault) is same answer (inr x) = inr (record { start = begun; loaded = has_loaded is same answer; goes_on = x })

-- it was not
module _ (p : Plan) (files between : Option Files) (before faults : ℕ) (text after : List ℕ) (new t : Told) (refused : LoadFault) where
  abbrev pub Refuses : Type 0
  Refuses = ShelfAnswers files (world_told new) (world_told t) before faults (Err refused)

  refused_by : new ≡ told_new p → Refuses → ShelfAnswers files (world_told (told_new p)) (world_told t) before faults (Err refused)
  refused_by is answer = subst (λ (u : Told). ShelfAnswers files (world_told u) (world_told t) before faults (Err refused)) is answer

  pub unloaded_ok : (result : Result Told StoreFault) → new ≡ told_new p → between ≡ files → Refuses → IfOk result (IsTold p refused text after)
      → IfOk result (IsReplayed p files between before faults text after)
  unloaded_ok (Ok u) is same answer x = inr (record {
    refused = refused;
    own = x.own;
    unloaded = record { halfway = world_told t; answer = refused_by is answer };
    relay_is = x.relay_is;
    files_are = same;
    told = x.told;
  })
  unloaded_ok (Err fault) is same answer x = tt

  pub unloaded_err : (result : Result Told StoreFault) → new ≡ told_new p → between ≡ files → Refuses → IfErr result (IsGivenUp refused text after)
      → IfErr result (IsStopped p files between before faults text after)
  unloaded_err (Ok u) is same answer x = tt
  unloaded_err (Err fault) is same answer x = inl (record { why = why x.why; files_are = same; line = x.line; told = x.told })
    where
      why : (fault ≡ store.Mem) ⊎ (refused ≡ load.Store fault) → (fault ≡ store.Mem) ⊎ IsUnloaded p files before faults (load.Store fault)
      why (inl mem) = inl mem
      why (inr e) = inr (record { halfway = world_told t; answer = subst (λ (f : LoadFault). ShelfAnswers files (world_told (told_new p)) (world_told t) before faults (Err f)) e (refused_by is answer) })
