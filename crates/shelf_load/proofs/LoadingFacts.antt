-- What the blocks that were taken leave, as the definition of loading has it.
use Rattle.std.proofs.Common.{arith, ◌≡◌, ◌≤◌, ◌&&◌, ℕ, Bool, true, false, not, cond, List, [], ◌∷◌, ◌++◌, Option, None, refl, sym, ap, subst, ◌∙◌, ltb}
use Rattle.std.specs.List.{AllByRecursion}
use Rattle.std.proofs.lemmas.Bool.{both_ways, ltb-false}
use mathlib.Core.List.{IsSuffix, IsSuffix-trans}
use Rattle.block_record.specs.declared.blocks.Slip.{Slip}
use Rattle.chain_model.specs.Ancestry.{IsHistory}
use Rattle.relay_model.specs.Worlds.{World}
use Rattle.relay_model.specs.Offers.{Answer, answer_by, judge, offered, tip_num, world_by}
use Rattle.relay_model.specs.Verdicts.{Verdict}
use Rattle.relay_model.specs.Verdicts as verdict
use Rattle.relay_model.specs.Soundness.{IsBlock, IsSound}
use Rattle.relay_model.proofs.public.Entries.{tip_rises}
use Rattle.relay_model.proofs.public.Sound.{offer_grows, offer_keeps}
use Rattle.block_intake.specs.Intakes.{IsAlike}
use Rattle.block_intake.proofs.public.AlikeFacts.{answer_alike, judge_alike}
use Rattle.bundle_model.proofs.public.Climbs.{ltb_no}
use Rattle.store_model.specs.Shown.{Shown}
use Rattle.store_model.specs.Loads.{Loading, Round, first_full, is_offered, is_wait_full, load_all, load_one, loading_of, offer_one, round_all, round_of, round_one, taken}
use Rattle.shelf_load.specs.declared.put_by.Origin.{Origin}
use Rattle.shelf_load.specs.declared.put_by.Origin.TheVariants.{OwnFile, StoredFile}
use Rattle.shelf_load.specs.Asides.{Put, slips_put}
use Rattle.shelf_load.specs.Taking.{Stage, Taken, after_block, after_offer, after_put_by, marked_by, stage, take_all, take_one}
use Rattle.shelf_load.specs.Ending.{is_again, offer_round, put_all, put_one, round_at}
use Rattle.shelf_load.specs.LoadLaws.{slips_taken, with_stored}

-- no offer looks at what is stored
alike : (x : List ℕ) (w : World) → IsAlike (with_stored x w) w
alike x w = record { first = refl; limits = refl; history = refl; waiting = refl }

world_stored : (x : List ℕ) (w : World) (s : Slip) (v : Verdict) → world_by (with_stored x w) s v ≡ with_stored x (world_by w s v)
world_stored x w s verdict.Closed = refl
world_stored x w s verdict.Duplicate = refl
world_stored x w s (verdict.Conflict c) = refl
world_stored x w s verdict.Early = refl
world_stored x w s verdict.Stale = refl
world_stored x w s verdict.WaitFull = refl
world_stored x w s verdict.Waiting = refl
world_stored x w s (verdict.HistoryFull need) = refl
world_stored x w s verdict.Admitted = refl

pub offer_world : (x : List ℕ) (w : World) (s : Slip) → (offered (with_stored x w) s).world ≡ with_stored x (offered w s).world
offer_world x w s = ap (world_by (with_stored x w) s) (judge_alike (with_stored x w) w s (alike x w) refl) ∙ world_stored x w s (judge w s)

pub offer_answer : (x : List ℕ) (w : World) (s : Slip) → (offered (with_stored x w) s).answer ≡ (offered w s).answer
offer_answer x w s = ap (answer_by (with_stored x w) s) (judge_alike (with_stored x w) w s (alike x w) refl) ∙ answer_alike (with_stored x w) w s (judge w s) (alike x w)

-- the stage has the world of the definition, but for what is stored, and the blocks that it puts by
pub record Follows (g : Stage) (l : Loading) : Type 0 where
  pub world : g.world ≡ with_stored g.world.stored l.world
  pub put_by : slips_put g.aside.put_by ≡ l.put_by

pub after_follows : (g : Stage) (l : Loading) (s : Slip) → Follows g l → Follows (after_block g s) (load_one l s)
after_follows g l s f = go (is_offered l.world.history s) (ap (λ (w : World). is_offered w.history s) f.world)
  where
    go : (b : Bool) → is_offered g.world.history s ≡ b
        → Follows (cond (is_offered g.world.history s) (after_offer g s) (after_put_by g s)) (cond b (offer_one l s) (record { world = l.world; put_by = s ∷ l.put_by; full = l.full }))
    go true e =
        let same : (offered g.world s).world ≡ with_stored g.world.stored (offered l.world s).world = ap (λ (w : World). (offered w s).world) f.world ∙ offer_world g.world.stored l.world s in
        rw e (record { world = same ∙ ap (λ (x : List ℕ). with_stored x (offered l.world s).world) (sym (ap (λ (w : World). w.stored) same)); put_by = f.put_by })
    go false e = rw e (record { world = f.world; put_by = ap (λ (l' : List Slip). s ∷ l') f.put_by })

mark_follows : (o : Origin) (g : Stage) (l : Loading) (s : Slip) → Follows g l → Follows (marked_by o g s) l
mark_follows OwnFile g l s f = f
mark_follows StoredFile g l s f = record { world = ap (λ (w : World). record w { stored = (marked_by StoredFile g s).world.stored }) f.world; put_by = f.put_by }

pub one_follows : (g : Stage) (l : Loading) (t : Taken) → Follows g l → Follows (take_one g t) (load_one l t.slip)
one_follows g l t f = mark_follows t.origin (after_block g t.slip) (load_one l t.slip) t.slip (after_follows g l t.slip f)

pub all_follow : (g : Stage) (l : Loading) (ts : List Taken) → Follows g l → Follows (take_all g ts) (load_all l (slips_taken ts))
all_follow g l [] f = f
all_follow g l (t ∷ ts) f = one_follows (take_all g ts) (load_all l (slips_taken ts)) t (all_follow g l ts f)

-- ---- payloads that are not kept

-- a block that was put by without its payload is not above the tip
abbrev pub IsLow : List Slip → Put → Type 0
IsLow newest p = p.kept ≡ false → p.slip.num ≤ tip_num newest

low_later : (older newer : List Slip) (puts : List Put) → tip_num older ≤ tip_num newer → AllByRecursion (IsLow older) puts → AllByRecursion (IsLow newer) puts
low_later older newer [] up all = tt
low_later older newer (p ∷ puts) up all = ((λ e. let low = all.0 e in omega (arith, low, up)), low_later older newer puts up all.1)

-- no offer lowers the tip
pub offer_rises : (w : World) (s : Slip) → IsSound w → IsBlock s → tip_num w.history ≤ tip_num (offered w s).world.history
offer_rises w s sound block =
    let grows = offer_grows w s in
    let whole : IsHistory (grows.0 ++ w.history) = subst IsHistory (sym grows.1) (offer_keeps w s sound block).history in
    subst (λ (h : List Slip). tip_num w.history ≤ tip_num h) grows.1 (tip_rises grows.0 w.history whole)

-- what holds while blocks are taken
pub record IsGoing (g : Stage) (l : Loading) : Type 0 where
  pub follows : Follows g l
  pub sound : IsSound l.world
  pub low : AllByRecursion (IsLow l.world.history) g.aside.put_by

after_going : (g : Stage) (l : Loading) (s : Slip) → IsBlock s → IsGoing g l → IsGoing (after_block g s) (load_one l s)
after_going g l s block i = record { follows = after_follows g l s i.follows; sound = sound; low = low }
  where
    same : g.world.history ≡ l.world.history
    same = ap (λ (w : World). w.history) i.follows.world

    by_test : (b : Bool) → IsSound (cond b (offer_one l s) (record { world = l.world; put_by = s ∷ l.put_by; full = l.full })).world
    by_test true = offer_keeps l.world s i.sound block
    by_test false = i.sound

    sound : IsSound (load_one l s).world
    sound = by_test (is_offered l.world.history s)

    low_put : (t : Bool) → ltb (tip_num g.world.history) s.num ≡ t → t ≡ false → s.num ≤ tip_num l.world.history
    low_put t e f = let high = ltb-false (tip_num g.world.history) s.num (e ∙ f) in let tips = ap tip_num same in omega (arith, high, tips)

    low_by : (b : Bool) → AllByRecursion (IsLow (cond b (offer_one l s) (record { world = l.world; put_by = s ∷ l.put_by; full = l.full })).world.history) (cond b (after_offer g s) (after_put_by g s)).aside.put_by
    low_by true = low_later l.world.history (offered l.world s).world.history g.aside.put_by (offer_rises l.world s i.sound block) i.low
    low_by false = (low_put (ltb (tip_num g.world.history) s.num) refl, i.low)

    low : AllByRecursion (IsLow (load_one l s).world.history) (after_block g s).aside.put_by
    low = subst (λ (b : Bool). AllByRecursion (IsLow (load_one l s).world.history) (cond b (after_offer g s) (after_put_by g s)).aside.put_by) (ap (λ (h : List Slip). is_offered h s) (sym same)) (low_by (is_offered l.world.history s))

mark_going : (o : Origin) (g : Stage) (l : Loading) (s : Slip) → IsGoing g l → IsGoing (marked_by o g s) l
mark_going OwnFile g l s i = i
mark_going StoredFile g l s i = record { follows = mark_follows StoredFile g l s i.follows; sound = i.sound; low = i.low }

pub all_going : (g : Stage) (l : Loading) (ts : List Taken) → AllByRecursion IsBlock (slips_taken ts) → IsGoing g l → IsGoing (take_all g ts) (load_all l (slips_taken ts))
all_going g l [] blocks i = i
all_going g l (t ∷ ts) blocks i =
    mark_going t.origin (after_block (take_all g ts) t.slip) (load_one (load_all l (slips_taken ts)) t.slip) t.slip
    (after_going (take_all g ts) (load_all l (slips_taken ts)) t.slip blocks.0 (all_going g l ts blocks.1 i))

-- ---- the last round

-- a round has the world of the definition's, but for what is stored
pub record RoundFollows (stored : List ℕ) (r q : Round) : Type 0 where
  pub same : r ≡ record { world = with_stored stored q.world; full = q.full; over = q.over }
  pub sound : IsSound q.world

-- beside that the tip does not fall
pub record RoundGoes (stored : List ℕ) (r q after : Round) : Type 0 where
  pub follows : RoundFollows stored r after
  pub up : tip_num q.world.history ≤ tip_num after.world.history

offered_round : (x : List ℕ) (q : Round) (s : Slip) → offer_round (record { world = with_stored x q.world; full = q.full; over = q.over }) s
    ≡ record { world = with_stored x (offered q.world s).world; full = first_full q.full (offered q.world s).answer; over = is_wait_full (offered q.world s).answer }
offered_round x q s =
    let w = offer_world x q.world s in
    let a = offer_answer x q.world s in
    λ i. record { world = w i; full = first_full q.full (a i); over = is_wait_full (a i) }

round_step : (x : List ℕ) (q : Round) (p : Put) → IsBlock p.slip → IsLow q.world.history p → IsSound q.world
    → RoundGoes x (put_one (record { world = with_stored x q.world; full = q.full; over = q.over }) p) q (round_one q p.slip)
round_step x q p block low sound = go (not q.over) (ltb (tip_num q.world.history) p.slip.num) p.kept (λ e. ltb_no (tip_num q.world.history) p.slip.num (low e))
  where
    stays : RoundGoes x (record { world = with_stored x q.world; full = q.full; over = q.over }) q q
    stays = record { follows = record { same = refl; sound = sound }; up = omega arith }

    goes : RoundGoes x (offer_round (record { world = with_stored x q.world; full = q.full; over = q.over }) p.slip) q (record { world = (offered q.world p.slip).world; full = first_full q.full (offered q.world p.slip).answer; over = is_wait_full (offered q.world p.slip).answer })
    goes = record { follows = record { same = offered_round x q p.slip; sound = offer_keeps q.world p.slip sound block }; up = offer_rises q.world p.slip sound block }

    go : (b t k : Bool) → (k ≡ false → t ≡ false)
        → RoundGoes x (cond (b && (t && k)) (offer_round (record { world = with_stored x q.world; full = q.full; over = q.over }) p.slip) (record { world = with_stored x q.world; full = q.full; over = q.over })) q
        (cond (b && t) (record { world = (offered q.world p.slip).world; full = first_full q.full (offered q.world p.slip).answer; over = is_wait_full (offered q.world p.slip).answer }) q)
    go true true true f = goes
    go true true false f = absurd (both_ways _ (f refl) refl)
    go true false k f = stays
    go false t k f = stays

round_parts : (w v : World) (a b : Option Answer) → w ≡ v → a ≡ b → (let r : Round = record { world = w; full = a; over = false } in r) ≡ record { world = v; full = b; over = false }
round_parts w v a b e f = λ i. record { world = e i; full = f i; over = false }

pub round_goes : (x : List ℕ) (r q : Round) (puts : List Put) → AllByRecursion IsBlock (slips_put puts) → AllByRecursion (IsLow q.world.history) puts → RoundFollows x r q
    → RoundGoes x (put_all r puts) q (round_all q (slips_put puts))
round_goes x r q [] blocks low f = record { follows = f; up = omega arith }
round_goes x r q (p ∷ earlier) blocks low f =
    let ih = round_goes x r q earlier blocks.1 low.1 f in
    let after = round_all q (slips_put earlier) in
    let here : IsLow after.world.history p = λ e. let l = low.0 e in omega (arith, l, ih.up) in
    let one = round_step x after p blocks.0 here ih.follows.sound in
    record {
      follows = record { same = ap (λ (y : Round). put_one y p) ih.follows.same ∙ one.follows.same; sound = one.follows.sound };
      up = omega (arith, ih.up, one.up);
    }

-- what holds of all blocks that were taken holds of those that were put by
put_one_of : (P : Slip → Type 0) (l : Loading) (s : Slip) → P s → AllByRecursion P l.put_by → AllByRecursion P (load_one l s).put_by
put_one_of P l s p all = go (is_offered l.world.history s)
  where
    go : (b : Bool) → AllByRecursion P (cond b (offer_one l s) (record { world = l.world; put_by = s ∷ l.put_by; full = l.full })).put_by
    go true = all
    go false = (p, all)

put_all_of : (P : Slip → Type 0) (l : Loading) (ss : List Slip) → AllByRecursion P ss → AllByRecursion P l.put_by → AllByRecursion P (load_all l ss).put_by
put_all_of P l [] all puts = puts
put_all_of P l (s ∷ ss) all puts = put_one_of P (load_all l ss) s all.0 (put_all_of P l ss all.1 puts)

-- blocks that were taken from a world in which nothing was put by, and then offered again: the world is that of the definition, but for what is stored, and the same answer says that the history is full
pub record LoadsAs (shown : Shown) (w : World) (stored : List ℕ) (r : Round) : Type 0 where
  pub kept : r.world.stored ≡ stored
  pub sound : IsSound (round_of shown w).world
  pub world : r.world ≡ with_stored r.world.stored (round_of shown w).world
  pub full : r.full ≡ (round_of shown w).full

pub loads_as : (shown : Shown) (w : World) (late : List Slip) (passed : ℕ) (ts : List Taken) → IsSound w → AllByRecursion IsBlock (slips_taken ts) → slips_taken ts ≡ taken shown → (loading_of shown w).full ≡ None
    → (let g = take_all (stage (record w { size = shown.size }) (record { put_by = []; late = late; passed = passed })) ts in LoadsAs shown w g.world.stored (put_all (round_at g.world) g.aside.put_by))
loads_as shown w late passed ts sound blocks all room =
    let w0 : World = record w { size = shown.size } in
    let g0 : Stage = stage w0 (record { put_by = []; late = late; passed = passed }) in
    let l0 : Loading = record { world = w0; put_by = []; full = None } in
    let sound0 : IsSound w0 = record { history = sound.history; agreed = sound.agreed; kind = sound.kind; stored = sound.stored; distinct = sound.distinct; apart = sound.apart; orphans = sound.orphans; above = sound.above; rises = sound.rises } in
    let i = all_going g0 l0 ts blocks (record { follows = record { world = refl; put_by = refl }; sound = sound0; low = tt }) in
    let g = take_all g0 ts in
    let l = load_all l0 (slips_taken ts) in
    let none : l.full ≡ None = ap (λ (ss : List Slip). (load_all l0 ss).full) all ∙ room in
    let put_blocks : AllByRecursion IsBlock (slips_put g.aside.put_by) = subst (AllByRecursion IsBlock) (sym i.follows.put_by) (put_all_of IsBlock l0 (slips_taken ts) blocks tt) in
    let begin : Round = record { world = l.world; full = l.full; over = false } in
    let first : RoundFollows g.world.stored (round_at g.world) begin = record { same = round_parts g.world (with_stored g.world.stored l.world) None l.full i.follows.world (sym none); sound = i.sound } in
    let goes = round_goes g.world.stored (round_at g.world) begin g.aside.put_by put_blocks i.low first in
    let same : put_all (round_at g.world) g.aside.put_by ≡ record { world = with_stored g.world.stored (round_of shown w).world; full = (round_of shown w).full; over = (round_of shown w).over } =
    goes.follows.same ∙ ap (λ (q : Round). record { world = with_stored g.world.stored q.world; full = q.full; over = q.over }) (ap (round_all begin) i.follows.put_by ∙ ap (λ (ss : List Slip). (let m = load_all l0 ss in round_all (record { world = m.world; full = m.full; over = false }) m.put_by)) all) in
    let ends = ap (round_all begin) i.follows.put_by ∙ ap (λ (ss : List Slip). (let m = load_all l0 ss in round_all (record { world = m.world; full = m.full; over = false }) m.put_by)) all in
    record {
      kept = ap (λ (q : Round). q.world.stored) same;
      sound = subst (λ (q : Round). IsSound q.world) ends goes.follows.sound;
      world = ap (λ (q : Round). q.world) same ∙ ap (λ (x : List ℕ). with_stored x (round_of shown w).world) (sym (ap (λ (q : Round). q.world.stored) same));
      full = ap (λ (q : Round). q.full) same;
    }

-- a round adds to the history
grows_one : (r : Round) (p : Put) → IsSuffix r.world.history (put_one r p).world.history
grows_one r p = go (not r.over && is_again r.world p)
  where
    go : (b : Bool) → IsSuffix r.world.history (cond b (offer_round r p.slip) r).world.history
    go true = offer_grows r.world p.slip
    go false = ([], refl)

pub round_grows : (r : Round) (puts : List Put) → IsSuffix r.world.history (put_all r puts).world.history
round_grows r [] = ([], refl)
round_grows r (p ∷ earlier) = IsSuffix-trans (round_grows r earlier) (grows_one (put_all r earlier) p)
