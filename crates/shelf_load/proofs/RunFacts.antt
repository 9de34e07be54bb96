-- A load keeps the run.
use Rattle.std.proofs.Common.{◌≡◌, Bool, true, false, not, ◌&&◌, cond, ℕ, List, [], ◌∷◌, ◌++◌, refl, sym, ◌∙◌, ap}
use Rattle.block_record.specs.declared.blocks.Slip.{Slip}
use Rattle.relay_model.specs.Offers.{judge, offered, world_by}
use Rattle.relay_model.specs.Verdicts.{Verdict}
use Rattle.relay_model.specs.Verdicts as verdict
use Rattle.relay_model.specs.Worlds.{World}
use Rattle.store_model.specs.Loads.{Round, is_offered}
use Rattle.shelf_load.specs.declared.put_by.Origin.{Origin}
use Rattle.shelf_load.specs.declared.put_by.Origin.TheVariants.{OwnFile, StoredFile}
use Rattle.shelf_load.specs.Asides.{Put}
use Rattle.shelf_load.specs.Ending.{is_again, offer_round, put_all, put_one}
use Rattle.shelf_load.specs.Loading.{TakenFile, all_taken_of}
use Rattle.shelf_load.specs.Taking.{Stage, Taken, after_block, after_offer, after_put_by, marked_by, take_all}
use Rattle.shelf_load.proofs.LoadFacts.{IsDone}

run_by : (w : World) (s : Slip) (v : Verdict) → (world_by w s v).run ≡ w.run
run_by w s verdict.Closed = refl
run_by w s verdict.Duplicate = refl
run_by w s (verdict.Conflict c) = refl
run_by w s verdict.Early = refl
run_by w s verdict.Stale = refl
run_by w s verdict.WaitFull = refl
run_by w s verdict.Waiting = refl
run_by w s (verdict.HistoryFull need) = refl
run_by w s verdict.Admitted = refl

run_offered : (w : World) (s : Slip) → (offered w s).world.run ≡ w.run
run_offered w s = run_by w s (judge w s)

run_block : (g : Stage) (s : Slip) → (after_block g s).world.run ≡ g.world.run
run_block g s = by_test (is_offered g.world.history s)
  where
    by_test : (b : Bool) → (cond b (after_offer g s) (after_put_by g s)).world.run ≡ g.world.run
    by_test true = run_offered g.world s
    by_test false = refl

run_marked : (o : Origin) (g : Stage) (s : Slip) → (marked_by o g s).world.run ≡ g.world.run
run_marked OwnFile g s = refl
run_marked StoredFile g s = refl

run_taken : (g : Stage) (ts : List Taken) → (take_all g ts).world.run ≡ g.world.run
run_taken g [] = refl
run_taken g (t ∷ earlier) = run_marked t.origin (after_block (take_all g earlier) t.slip) t.slip ∙ run_block (take_all g earlier) t.slip ∙ run_taken g earlier

run_put : (r : Round) (p : Put) → (put_one r p).world.run ≡ r.world.run
run_put r p = by_test (not r.over && is_again r.world p)
  where
    by_test : (b : Bool) → (cond b (offer_round r p.slip) r).world.run ≡ r.world.run
    by_test true = run_offered r.world p.slip
    by_test false = refl

run_round : (r : Round) (ps : List Put) → (put_all r ps).world.run ≡ r.world.run
run_round r [] = refl
run_round r (p ∷ earlier) = run_put (put_all r earlier) p ∙ run_round r earlier

-- a load that was done keeps it
pub run_kept : (old : World) (size : ℕ) (bundles singles : List TakenFile) (g : Stage) (rounded new : World) → IsDone old size bundles singles g rounded new → new.run ≡ old.run
run_kept old size bundles singles g rounded new d =
    ap (λ w. w.run) d.new_is
    ∙ ap (λ w. w.run) (sym d.round.world)
    ∙ run_round _ g.aside.put_by
    ∙ ap (λ x. x.world.run) d.loaded.stage_is
    ∙ run_taken _ (all_taken_of (singles ++ bundles))
