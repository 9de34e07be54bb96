-- What is counted while blocks are taken, and that none finds the history full where each has room.
use Rattle.std.proofs.Common.{arith, ◌≡◌, ◌+◌, ◌-◌, ◌^◌, min, cond, ℕ, Bool, true, false, List, [], ◌∷◌, ◌++◌, reverse, Option, None, refl, sym, ap, subst, ◌∙◌}
use Rattle.std.proofs.lemmas.List.{reverse-append}
use Rattle.block_record.specs.declared.blocks.Slip.{Slip}
use Rattle.dbin_file.specs.Contents.{told}
use Rattle.relay_model.specs.Worlds.{World}
use Rattle.relay_model.specs.Offers.{Answer, offered}
use Rattle.store_model.specs.Loads.{Loading, first_full, if_full, is_offered, load_all, load_one, offer_one}
use Rattle.shelf_load.specs.declared.put_by.Origin.{Origin}
use Rattle.shelf_load.specs.declared.put_by.Origin.TheVariants.{OwnFile, StoredFile}
use Rattle.shelf_load.specs.Asides.{Put, slips_put}
use Rattle.shelf_load.specs.Taking.{Stage, Taken, after_block, after_offer, after_put_by, marked_by, passed_by, take_all}
use Rattle.shelf_load.specs.Ending.{lost_by, lost_count}
use Rattle.shelf_load.specs.LoadLaws.{slips_taken}
use Rattle.shelf_load.specs.Loading.{HadRoom}
use Rattle.shelf_load.specs.Load.{early_count, lost_of}
use Rattle.shelf_load.proofs.LoadingFacts.{Follows, all_follow, offer_answer}

-- a block is offered in both, or in neither, and both have one answer
same_offered : (g : Stage) (l : Loading) (s : Slip) → Follows g l → is_offered g.world.history s ≡ is_offered l.world.history s
same_offered g l s f = ap (λ (w : World). is_offered w.history s) f.world

same_answer : (g : Stage) (l : Loading) (s : Slip) → Follows g l → (offered g.world s).answer ≡ (offered l.world s).answer
same_answer g l s f = ap (λ (w : World). (offered w s).answer) f.world ∙ offer_answer g.world.stored l.world s

-- a block that has room
one_room : (l : Loading) (s : Slip) → l.full ≡ None → (is_offered l.world.history s ≡ true → if_full (offered l.world s).answer ≡ None) → (load_one l s).full ≡ None
one_room l s none room = go (is_offered l.world.history s) room
  where
    go : (b : Bool) → (b ≡ true → if_full (offered l.world s).answer ≡ None) → (cond b (offer_one l s) (record { world = l.world; put_by = s ∷ l.put_by; full = l.full })).full ≡ None
    go true f = ap (λ (o : Option Answer). first_full o (offered l.world s).answer) none ∙ f refl
    go false f = none

pub room_is : (g : Stage) (l : Loading) (ts : List Taken) → Follows g l → l.full ≡ None → HadRoom g ts → (load_all l (slips_taken ts)).full ≡ None
room_is g l [] f none room = none
room_is g l (t ∷ ts) f none room =
    let follows = all_follow g l ts f in
    one_room (load_all l (slips_taken ts)) t.slip (room_is g l ts f none room.1)
    (λ e. ap if_full (sym (same_answer (take_all g ts) (load_all l (slips_taken ts)) t.slip follows)) ∙ room.0 (same_offered (take_all g ts) (load_all l (slips_taken ts)) t.slip follows ∙ e))

-- numbers that stand still at the greatest
pub told_more : (x y : ℕ) → min (min x (2 ^ 64 - 1) + y) (2 ^ 64 - 1) ≡ min (x + y) (2 ^ 64 - 1)
told_more x y = omega arith

marked_passed : (o : Origin) (g : Stage) (s : Slip) → (marked_by o g s).aside.passed ≡ g.aside.passed
marked_passed OwnFile g s = refl
marked_passed StoredFile g s = refl

-- one more block
one_early : (g : Stage) (l : Loading) (s : Slip) (n : ℕ) → Follows g l → g.aside.passed ≡ told n
    → (after_block g s).aside.passed ≡ told (n + cond (is_offered l.world.history s) (passed_by (offered l.world s).answer) 0)
one_early g l s n f e =
    subst (λ (b : Bool). (cond (is_offered g.world.history s) (after_offer g s) (after_put_by g s)).aside.passed ≡ told (n + cond b (passed_by (offered l.world s).answer) 0)) (same_offered g l s f)
    (go (is_offered g.world.history s))
  where
    go : (b : Bool) → (cond b (after_offer g s) (after_put_by g s)).aside.passed ≡ told (n + cond b (passed_by (offered l.world s).answer) 0)
    go true =
        ap (λ (a : Answer). told (g.aside.passed + passed_by a)) (same_answer g l s f)
        ∙ ap (λ (m : ℕ). told (m + passed_by (offered l.world s).answer)) e
        ∙ told_more n (passed_by (offered l.world s).answer)
    go false = e ∙ ap told (omega arith)

pub early_is : (g : Stage) (l : Loading) (ts : List Taken) → Follows g l → g.aside.passed ≡ 0 → (take_all g ts).aside.passed ≡ told (early_count l (slips_taken ts))
early_is g l [] f e = e
early_is g l (t ∷ ts) f e =
    marked_passed t.origin (after_block (take_all g ts) t.slip) t.slip
    ∙ one_early (take_all g ts) (load_all l (slips_taken ts)) t.slip (early_count l (slips_taken ts)) (all_follow g l ts f) (early_is g l ts f e)

-- the lost blocks, the other way round
lost_last : (w : World) (ss : List Slip) (s : Slip) → lost_of w (ss ++ s ∷ []) ≡ lost_by w s + lost_of w ss
lost_last w [] s = omega arith
lost_last w (t ∷ ss) s = let rest = lost_last w ss s in omega (arith, rest)

pub lost_is : (w : World) (puts : List Put) → lost_count w puts ≡ lost_of w (slips_put (reverse puts))
lost_is w [] = refl
lost_is w (p ∷ puts) =
    ap (λ (n : ℕ). lost_by w p.slip + n) (lost_is w puts) ∙ sym (lost_last w (slips_put (reverse puts)) p.slip)
    ∙ ap (lost_of w) (sym (map_last (reverse puts)) ∙ ap slips_put (sym (reverse-append (p ∷ []) puts)))
  where
    map_last : (qs : List Put) → slips_put (qs ++ p ∷ []) ≡ slips_put qs ++ p.slip ∷ []
    map_last [] = refl
    map_last (q ∷ qs) = ap (λ (l : List Slip). q.slip ∷ l) (map_last qs)
