-- No offer moves the size of bundles, so a loaded world has that of its shelf.
use Rattle.std.proofs.Common.{◌≡◌, Bool, true, false, not, cond, List, [], ◌∷◌, None, refl, ◌∙◌, ltb, ◌&&◌}
use Rattle.block_record.specs.declared.blocks.Slip.{Slip}
use Rattle.relay_model.specs.Worlds.{World}
use Rattle.relay_model.specs.Offers.{tip_num, judge, world_by, offered}
use Rattle.relay_model.specs.Verdicts.{Verdict}
use Rattle.relay_model.specs.Verdicts as verdict
use Rattle.relay_model.proofs.public.Judged.{size_by}
use Rattle.store_model.specs.Shown.{Shown}
use Rattle.store_model.specs.Loads.{Loading, Round, taken, is_offered, offer_one, load_all, is_wait_full, first_full, round_all, loading_of, round_of}

pub offer_size : (w : World) (s : Slip) → (offered w s).world.size ≡ w.size
offer_size w s = size_by w s (judge w s)

load_size : (l : Loading) (blocks : List Slip) → (load_all l blocks).world.size ≡ l.world.size
load_size l [] = refl
load_size l (s ∷ earlier) = go (is_offered (load_all l earlier).world.history s) ∙ load_size l earlier
  where
    go : (b : Bool) → (cond b (offer_one (load_all l earlier) s) (record { world = (load_all l earlier).world; put_by = s ∷ (load_all l earlier).put_by; full = (load_all l earlier).full })).world.size ≡ (load_all l earlier).world.size
    go true = offer_size (load_all l earlier).world s
    go false = refl

round_size : (r : Round) (blocks : List Slip) → (round_all r blocks).world.size ≡ r.world.size
round_size r [] = refl
round_size r (s ∷ earlier) = go (round_all r earlier) (not (round_all r earlier).over && ltb (tip_num (round_all r earlier).world.history) s.num) ∙ round_size r earlier
  where
    go : (q : Round) (b : Bool) → (cond b (record { world = (offered q.world s).world; full = first_full q.full (offered q.world s).answer; over = is_wait_full (offered q.world s).answer }) q).world.size ≡ q.world.size
    go q true = offer_size q.world s
    go q false = refl

pub loaded_size : (shown : Shown) (empty : World) → (round_of shown empty).world.size ≡ shown.size
loaded_size shown empty =
    let l = loading_of shown empty in
    round_size (record { world = l.world; full = l.full; over = false }) l.put_by
    ∙ load_size (record { world = record empty { size = shown.size }; put_by = []; full = None }) (taken shown)
