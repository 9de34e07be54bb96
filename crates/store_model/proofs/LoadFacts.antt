-- Each block of the old history is admitted as the files are taken one after another.
use Rattle.std.proofs.Common.{arith, ◌≡◌, ◌≤◌, ◌<◌, inl, inr, ℕ, Bool, true, false, cond, List, [], ◌∷◌, ◌++◌, Option, Some, None, refl, sym, ◌∙◌, ap, subst}
use Rattle.std.specs.List.{AllByRecursion}
use Rattle.std.proofs.lemmas.Bool.{cases_lt, both_ways, eq-eqb, le-leb, lt-ltb}
use Rattle.std.proofs.lemmas.Option.{same_Some}
use Rattle.std.proofs.lemmas.List.{append_assoc}
use Rattle.block_record.specs.declared.blocks.Slip.{Slip}
use Rattle.block_record.specs.Ids.{same_id_refl}
use Rattle.chain_model.specs.Ancestry.{find_id, has_id, IsHistory}
use Rattle.chain_model.specs.Finality.{claim, agrees, ClaimsAgree, final_tip}
use Rattle.chain_laws.proofs.public.Lines.{IsHistory-rest, has_id-find_id, id-find_id, find_id_at}
use Rattle.chain_laws.proofs.public.Growth.{IsFound, found_past, all_weaker, claim_kept, tip_claimed, find_passes}
use Rattle.chain_laws.proofs.public.Orders.{root_least}
use Rattle.relay_model.specs.Worlds.{World}
use Rattle.relay_model.specs.Offers.{clash, parent_clash, finality_clash, judge, world_by, offered, judge_held}
use Rattle.relay_model.specs.Verdicts.{Verdict}
use Rattle.relay_model.specs.Verdicts as verdict
use Rattle.relay_model.specs.Soundness.{IsSound, IsBlock}
use Rattle.relay_model.specs.Orders.{root_or, root_of}
use Rattle.relay_model.specs.Runs.{OneEach}
use Rattle.relay_model.proofs.public.Judged.{IsLinked}
use Rattle.relay_model.proofs.public.Sound.{offer_keeps, none_found}
use Rattle.relay_model.proofs.public.Intakes.{find_of}
use Rattle.bundle_model.specs.Members.{Among}
use Rattle.bundle_model.proofs.public.MemberFacts.{among_all, among_right}
use Rattle.bundle_model.proofs.public.Climbs.{leb_no}
use Rattle.store_model.specs.Loads.{Loading, is_offered, offer_one, load_one, load_all, if_full}
use Rattle.store_model.specs.Clean.{root, ClaimsAgreeFrom, StartsAt}
use Rattle.store_model.proofs.OfferFacts.{IsCalm, Effect, effect_by, taken_history, IsGood, judged_good, not_full, passes_full}
use Rattle.store_model.proofs.RootFacts.{no_found, root_some, root_num_is, root_in, IsParentOf, root_or_parent, root_stays, root_late, one_is}

-- each parent of a block of the history is taken before it; what is taken last is first
abbrev pub ParentsBefore : List Slip → List Slip → Type 0
ParentsBefore newest [] = Unit {0}
ParentsBefore newest (s ∷ earlier) = (IsFound newest s → (p : Slip) → IsParentOf newest s p → Among earlier p) × ParentsBefore newest earlier

-- what is asked of a history and the blocks that are taken
pub record IsSetting (first : ℕ) (newest blocks : List Slip) : Type 0 where
  pub history : IsHistory newest
  pub one_each : OneEach blocks
  pub blocks_are : AllByRecursion IsBlock blocks
  pub all : (x : Slip) → IsFound newest x → Among blocks x
  pub agreed : ClaimsAgreeFrom blocks (root newest)
  pub starts : StartsAt first blocks (root newest)

-- what holds once some blocks were taken
pub record IsLoading (first : ℕ) (newest earlier : List Slip) (l : Loading) : Type 0 where
  pub sound : IsSound l.world
  pub calm : IsCalm l.world
  pub first_is : l.world.first ≡ first
  pub from : AllByRecursion (Among earlier) l.world.history
  pub put_from : AllByRecursion (Among earlier) l.put_by
  pub has : (x : Slip) → IsFound newest x → Among earlier x → IsFound l.world.history x
  pub root_is : root_of first earlier ≡ root l.world.history

all_more : (s : Slip) (earlier xs : List Slip) → AllByRecursion (Among earlier) xs → AllByRecursion (Among (s ∷ earlier)) xs
all_more s earlier xs all = all_weaker (Among earlier) (Among (s ∷ earlier)) (λ x h. inr h) xs all

found_among : (P : Slip → Type 0) (newest : List Slip) → AllByRecursion P newest → (x : Slip) (id : List ℕ) → find_id newest id ≡ Some x → P x
found_among P newest all x id e = find_passes P _ newest x all e

-- a block of the history has at least the number of its root, and so the first number
root_at : (first : ℕ) (newest blocks : List Slip) → IsSetting first newest blocks → (s : Slip) → IsFound newest s → (r : Slip) × (root newest ≡ Some r) × (root_of first blocks ≡ Some r) × (first ≤ s.num)
root_at first [] blocks set s f = absurd (no_found s f)
root_at first (t ∷ older) blocks set s f =
    let r = root_some t older in
    let is : root_of first blocks ≡ Some r.0 = subst (StartsAt first blocks) r.1 set.starts in
    let low = root_least (t ∷ older) set.history s f in
    let num = root_num_is (t ∷ older) r.0 r.1 in
    let late = root_late first blocks r.0 is in
    (r.0, r.1, is, omega (arith, low, num, late))

-- the claim of a block that may come next agrees with the tip
no_finality : (newest : List Slip) (s : Slip) → IsHistory (s ∷ newest) → ClaimsAgree (s ∷ newest) → (o : Option Slip) → final_tip newest ≡ o → finality_clash newest s o ≡ None
no_finality newest s history agreed None e = refl
no_finality newest s history agreed (Some t) e =
    let before = IsHistory-rest s newest history in
    let x = tip_claimed newest before t e in
    let kept : claim (s ∷ newest) x.by ≡ Some t = claim_kept s newest history x.by x.found ∙ x.claimed in
    go (claim (s ∷ newest) s) refl (λ c is. agreed s x.by c t (find_id_at s newest s.id (same_id_refl s.id)) (found_past s newest history x.by x.found) is kept)
  where
    go : (c : Option Slip) → claim (s ∷ newest) s ≡ c → ((d : Slip) → claim (s ∷ newest) s ≡ Some d → agrees (s ∷ newest) d t ≡ true) → finality_clash newest s (Some t) ≡ None
    go None is says = rw is refl
    go (Some d) is says = let yes' = says d is in rw (is, yes') refl

no_clash_of : (newest : List Slip) (s p : Slip) → find_id newest s.parent_id ≡ Some p → p.num ≡ s.parent_num → IsHistory (s ∷ newest) → ClaimsAgree (s ∷ newest) → clash newest s ≡ None
no_clash_of newest s p named num history agreed =
    let e = eq-eqb p.num s.parent_num num in
    let step : parent_clash newest s (Some p) ≡ finality_clash newest s (final_tip newest) = rw e refl in
    ap (parent_clash newest s) named ∙ step ∙ no_finality newest s history agreed (final_tip newest) refl

follows : (s p t : Slip) (older : List Slip) → IsHistory (t ∷ older) → has_id (t ∷ older) s.id ≡ false → find_id (t ∷ older) s.parent_id ≡ Some p → p.num ≡ s.parent_num → p.num < s.num → IsHistory (s ∷ t ∷ older)
follows s p t older history new named num less = (record { fresh = λ h. both_ways _ new h; parent = rw named num; above = omega (arith, num, less) }, history)

-- the root of what was loaded is that of the old history
same_start : (first : ℕ) (newest blocks later earlier : List Slip) → IsSetting first newest blocks → later ++ earlier ≡ blocks → (h : List Slip) → root_of first earlier ≡ root h
    → (a b : Slip) → root h ≡ Some a → root newest ≡ Some b → a ≡ b
same_start first newest blocks later earlier set cut h ro a b ea eb =
    let one : root_of first blocks ≡ Some a = ap (root_of first) (sym cut) ∙ root_stays first later earlier a (ro ∙ ea) in
    let two : root_of first blocks ≡ Some b = subst (StartsAt first blocks) eb set.starts in
    same_Some a b (sym one ∙ two)

-- the two parents are one
pub record IsParentHeld (w : World) (newest : List Slip) (s p : Slip) : Type 0 where
  pub named : find_id w.history s.parent_id ≡ Some p
  pub old : IsParentOf newest s p

parent_held : (first : ℕ) (newest blocks : List Slip) → IsSetting first newest blocks → (w : World) → AllByRecursion (Among blocks) w.history → (s q : Slip) → has_id w.history s.parent_id ≡ true
    → IsParentOf newest s q → IsParentHeld w newest s q
parent_held first newest blocks set w from s q there old =
    let p = find_of w.history s.parent_id there in
    let ap' = found_among (Among blocks) w.history from p.0 s.parent_id p.1 in
    let ids : p.0.id ≡ q.id = id-find_id w.history s.parent_id p.0 p.1 ∙ sym (id-find_id newest s.parent_id q old.named) in
    let one : p.0 ≡ q = one_is blocks set.one_each p.0 q ap' (set.all q old.found) ids in
    record { named = p.1 ∙ ap (λ (x : Slip). Some x) one; old = old }

claims_from : (blocks : List Slip) (o : Option Slip) (r : Slip) → o ≡ Some r → ClaimsAgreeFrom blocks o → ClaimsAgreeFrom blocks (Some r)
claims_from blocks o r e h = subst (ClaimsAgreeFrom blocks) e h

-- a block of the old history whose parent is held, in a world that has begun
link_next : (first : ℕ) (newest blocks : List Slip) → IsSetting first newest blocks → (w : World) (t : Slip) (older : List Slip) → w.history ≡ t ∷ older → IsSound w
    → AllByRecursion (Among blocks) w.history → (r : Slip) → root newest ≡ Some r → root w.history ≡ Some r
    → (s q : Slip) → Among blocks s → IsParentHeld w newest s q → find_id w.history s.id ≡ None → IsLinked w s q
link_next first newest blocks set w t older is sound from r rn rw' s q member parent new =
    let lacks = none_found w.history s.id new in
    let next : IsHistory (s ∷ w.history) = subst (λ (h : List Slip). IsHistory (s ∷ h)) (sym is)
    (follows s q t older (subst IsHistory is sound.history) (subst (λ (h : List Slip). has_id h s.id ≡ false) is lacks) (subst (λ (h : List Slip). find_id h s.parent_id ≡ Some q) is parent.named) parent.old.num parent.old.less) in
    let roots : root (s ∷ w.history) ≡ Some r = ap (λ (h : List Slip). root (s ∷ h)) is ∙ sym (ap root is) ∙ rw' in
    let says : ClaimsAgreeFrom blocks (Some r) = claims_from blocks (root newest) r rn set.agreed in
    let agreed : ClaimsAgree (s ∷ w.history) = says (s ∷ w.history) next (member, from) roots in
    let low = root_least newest set.history q parent.old.found in
    let n1 = root_num_is newest r rn in
    let n2 = root_num_is w.history r rw' in
    let less : q.num < s.num = parent.old.less in
    record { parent = parent.named; fits = no_clash_of w.history s q parent.named parent.old.num next agreed; above = omega (arith, low, n1, n2, less) }

own_is : (first : ℕ) (newest blocks : List Slip) → IsSetting first newest blocks → (w : World) → AllByRecursion (Among blocks) w.history → (s : Slip) → Among blocks s
    → (g : Slip) → find_id w.history s.id ≡ Some g → g ≡ s
own_is first newest blocks set w from s member g e =
    one_is blocks set.one_each g s (found_among (Among blocks) w.history from g s.id e) member (id-find_id w.history s.id g e)

good_next : (first : ℕ) (newest blocks : List Slip) → IsSetting first newest blocks → (w : World) (t : Slip) (older : List Slip) → w.history ≡ t ∷ older → IsSound w → IsCalm w → w.first ≡ first
    → AllByRecursion (Among blocks) w.history → (r : Slip) → root newest ≡ Some r → root w.history ≡ Some r → (s : Slip) → IsFound newest s → Among blocks s → has_id w.history s.parent_id ≡ true → first ≤ s.num → IsGood w s
good_next first newest blocks set w t older is sound calm fi from r rn rw' s fs member there late = record {
  calm = calm;
  late = omega (arith, late, fi);
  own = own_is first newest blocks set w from s member;
  links = λ new. elim (root_or_parent newest set.history s fs) [
    | inl top ↦
        let same : r ≡ s = same_Some r s (sym rn ∙ top) in
        let found : IsFound w.history s = root_in w.history sound.history s (rw' ∙ ap (λ (x : Slip). Some x) same) in
        absurd (none_some (sym new ∙ found))
    | inr q ↦ inr (q.0, link_next first newest blocks set w t older is sound from r rn rw' s q.0 member (parent_held first newest blocks set w from s q.0 there q.1) new)
  ];
}
  where
    none_some : None ≡ Some s → ⊥
    none_some e = grind (arith, e)

good_first : (w : World) (s : Slip) → w.history ≡ [] → IsCalm w → w.first ≤ s.num → IsGood w s
good_first w s is calm late = record { calm = calm; late = late; own = λ g e. absurd (none_some g (ap (λ (h : List Slip). find_id h s.id) (sym is) ∙ e)); links = λ new. inl is }
  where
    none_some : (g : Slip) → None ≡ Some g → ⊥
    none_some g e = grind (arith, e)

-- after an offer that was answered, what was found is found
kept_found : (w : World) (s : Slip) (after : World) → IsSound after → Effect w s after → (x : Slip) → IsFound w.history x → IsFound after.history x
kept_found w s after sound eff x f =
    elim eff.history [
      | inl same ↦ subst (λ (h : List Slip). IsFound h x) (sym same) f
      | inr more ↦ subst (λ (h : List Slip). IsFound h x) (sym more) (found_past s w.history (subst IsHistory more sound.history) x f)
    ]

-- a good block is found after its offer
good_found : (w : World) (s : Slip) → IsSound (offered w s).world → Effect w s (offered w s).world → IsGood w s → if_full (offered w s).answer ≡ None → IsFound (offered w s).world.history s
good_found w s sound eff good ok =
    elim (judged_good w s good) [
      | inl found ↦ kept_found w s (offered w s).world sound eff s found
      | inr rest ↦ elim rest [
        | inl takes ↦
            let is : (offered w s).world.history ≡ s ∷ w.history = ap (λ (v : Verdict). (world_by w s v).history) takes ∙ taken_history w s good.calm in
            subst (λ (h : List Slip). IsFound h s) (sym is) (find_id_at s w.history s.id (same_id_refl s.id))
        | inr full ↦ absurd (passes_full w s full.0 full.1 ok)
      ]
    ]

found_lacks : (h : List Slip) (s : Slip) → has_id h s.parent_id ≡ false → (q : Slip) → q.id ≡ s.parent_id → IsFound h q → ⊥
found_lacks h s lacks q id f = both_ways _ lacks (subst (λ (i : List ℕ). has_id h i ≡ true) id (has_id-find_id h q.id q f))

-- what stays of a loading while a block is put by
put_step : (first : ℕ) (newest blocks later earlier : List Slip) (s : Slip) (l : Loading) → IsSetting first newest blocks → later ++ earlier ≡ blocks
    → (IsFound newest s → (p : Slip) → IsParentOf newest s p → Among earlier p) → IsLoading first newest earlier l → (t : Slip) (older : List Slip) → l.world.history ≡ t ∷ older
    → has_id l.world.history s.parent_id ≡ false → IsLoading first newest (s ∷ earlier) (record { world = l.world; put_by = s ∷ l.put_by; full = l.full })
put_step first newest blocks later earlier s l set cut parents i t older is lacks = record {
  sound = i.sound;
  calm = i.calm;
  first_is = i.first_is;
  from = all_more s earlier l.world.history i.from;
  put_from = (inl refl, all_more s earlier l.put_by i.put_from);
  has = λ x f a. elim a [ inl same ↦ subst (IsFound l.world.history) same (own (subst (IsFound newest) (sym same) f)) | inr below ↦ i.has x f below ];
  root_is = ap (λ (o : Option Slip). root_or o first s) (i.root_is ∙ some) ∙ sym some;
}
  where
    r : (x : Slip) × (root (t ∷ older) ≡ Some x)
    r = root_some t older

    some : root l.world.history ≡ Some r.0
    some = ap root is ∙ r.1

    own : IsFound newest s → IsFound l.world.history s
    own f =
        elim (root_or_parent newest set.history s f) [
          | inl top ↦
              let same : r.0 ≡ s = same_start first newest blocks later earlier set cut l.world.history i.root_is r.0 s some top in
              root_in l.world.history i.sound.history s (some ∙ ap (λ (x : Slip). Some x) same)
          | inr q ↦
              let held = i.has q.0 q.1.found (parents f q.0 q.1) in
              absurd (found_lacks l.world.history s lacks q.0 (id-find_id newest s.parent_id q.0 q.1.named) held)
        ]

-- and while one is offered
record Offers (l : Loading) (s : Slip) : Type 0 where
  sound : IsSound (offered l.world s).world
  effect : Effect l.world s (offered l.world s).world
  ok : if_full (offered l.world s).answer ≡ None

from_more : (s : Slip) (earlier : List Slip) (w after : World) → Effect w s after → AllByRecursion (Among earlier) w.history → AllByRecursion (Among (s ∷ earlier)) after.history
from_more s earlier w after eff from =
    elim eff.history [
      | inl same ↦ subst (AllByRecursion (Among (s ∷ earlier))) (sym same) (all_more s earlier w.history from)
      | inr more ↦ subst (AllByRecursion (Among (s ∷ earlier))) (sym more) (inl refl, all_more s earlier w.history from)
    ]

-- the root after an offer: in a history that had begun
root_begun : (first : ℕ) (earlier : List Slip) (s : Slip) (w after : World) → Effect w s after → root_of first earlier ≡ root w.history → (t : Slip) (older : List Slip) → w.history ≡ t ∷ older
    → root_of first (s ∷ earlier) ≡ root after.history
root_begun first earlier s w after eff ro t older is =
    let r = root_some t older in
    let some : root w.history ≡ Some r.0 = ap root is ∙ r.1 in
    let before : root_of first (s ∷ earlier) ≡ Some r.0 = ap (λ (o : Option Slip). root_or o first s) (ro ∙ some) in
    elim eff.history [
      | inl same ↦ before ∙ sym some ∙ sym (ap root same)
      | inr more ↦
          let e : root after.history ≡ Some r.0 = ap root more ∙ ap (λ (h : List Slip). root (s ∷ h)) is ∙ r.1 in
          before ∙ sym e
    ]

-- a block below the first number leaves an empty history as it is
early_stays : (w : World) (s : Slip) → IsCalm w → w.history ≡ [] → s.num < w.first → judge w s ≡ verdict.Early
early_stays w s calm is low =
    let e1 = calm.opened in
    let held : find_id (w.waiting ++ w.history) s.id ≡ None = ap (λ (r : List Slip). find_id (r ++ w.history) s.id) calm.none ∙ ap (λ (h : List Slip). find_id h s.id) is in
    let less = lt-ltb s.num w.first low in
    let step : judge_held w s None ≡ verdict.Early = rw less refl in
    let open' : judge w s ≡ judge_held w s (find_id (w.waiting ++ w.history) s.id) = rw e1 refl in
    open' ∙ ap (judge_held w s) held ∙ step

-- the root after the first offer
root_first : (first : ℕ) (earlier : List Slip) (s : Slip) (l : Loading) → Offers l s → IsCalm l.world → l.world.first ≡ first → root_of first earlier ≡ root l.world.history → l.world.history ≡ []
    → root_of first (s ∷ earlier) ≡ root (offered l.world s).world.history
root_first first earlier s l o calm fi ro is =
    let none : root_of first earlier ≡ None = ro ∙ ap root is in
    elim (cases_lt s.num first) [
      | inl low ↦
          let no' = leb_no first s.num low in
          let low' : s.num < l.world.first = omega (arith, low, fi) in
          let same : (offered l.world s).world.history ≡ [] = ap (λ (v : Verdict). (world_by l.world s v).history) (early_stays l.world s calm is low') ∙ is in
          let before : root_of first (s ∷ earlier) ≡ None = ap (λ (q : Option Slip). root_or q first s) none ∙ (rw no' refl) in
          before ∙ sym (ap root same)
      | inr late ↦
          let yes' = le-leb first s.num late in
          let before : root_of first (s ∷ earlier) ≡ Some s = ap (λ (q : Option Slip). root_or q first s) none ∙ (rw yes' refl) in
          let good = good_first l.world s is calm (omega (arith, late, fi)) in
          let found = good_found l.world s o.sound o.effect good o.ok in
          elim o.effect.history [
            | inl same ↦ absurd (no_found s (subst (λ (h : List Slip). IsFound h s) (same ∙ is) found))
            | inr more ↦ before ∙ sym (ap root more ∙ ap (λ (h : List Slip). root (s ∷ h)) is)
          ]
    ]

offer_step : (first : ℕ) (newest blocks later earlier : List Slip) (s : Slip) (l : Loading) → IsSetting first newest blocks → later ++ s ∷ earlier ≡ blocks → IsLoading first newest earlier l
    → is_offered l.world.history s ≡ true → (offer_one l s).full ≡ None → IsLoading first newest (s ∷ earlier) (offer_one l s)
offer_step first newest blocks later earlier s l set cut i now full = record {
  sound = o.sound;
  calm = record { opened = o.effect.opened ∙ i.calm.opened; none = o.effect.none };
  first_is = o.effect.first ∙ i.first_is;
  from = from_more s earlier l.world (offered l.world s).world o.effect i.from;
  put_from = all_more s earlier l.put_by i.put_from;
  has = λ x f a. elim a [
    | inl same ↦ subst (IsFound (offered l.world s).world.history) same (own l.world.history refl (subst (IsFound newest) (sym same) f))
    | inr below ↦ kept_found l.world s (offered l.world s).world o.sound o.effect x (i.has x f below)
  ];
  root_is = roots l.world.history refl;
}
  where
    member : Among blocks s
    member = subst (λ (xs : List Slip). Among xs s) cut (among_right later (s ∷ earlier) s (inl refl))

    o : Offers l s
    o = record {
      sound = offer_keeps l.world s i.sound (among_all IsBlock blocks set.blocks_are s member);
      effect = effect_by l.world s i.calm now (judge l.world s) refl;
      ok = (not_full l.full (offered l.world s).answer full).1;
    }

    wide : AllByRecursion (Among blocks) l.world.history
    wide = all_weaker (Among earlier) (Among blocks) (λ x h. subst (λ (xs : List Slip). Among xs x) cut (among_right later (s ∷ earlier) x (inr h))) l.world.history i.from

    roots : (h : List Slip) → l.world.history ≡ h → root_of first (s ∷ earlier) ≡ root (offered l.world s).world.history
    roots [] is = root_first first earlier s l o i.calm i.first_is i.root_is is
    roots (t ∷ older) is = root_begun first earlier s l.world (offered l.world s).world o.effect i.root_is t older is

    cut' : (later ++ s ∷ []) ++ earlier ≡ blocks
    cut' = append_assoc later (s ∷ []) earlier ∙ cut

    own : (h : List Slip) → l.world.history ≡ h → IsFound newest s → IsFound (offered l.world s).world.history s
    own [] is f =
        let r = root_at first newest blocks set s f in
        good_found l.world s o.sound o.effect (good_first l.world s is i.calm (omega (arith, r.3, i.first_is))) o.ok
    own (t ∷ older) is f =
        let r = root_at first newest blocks set s f in
        let a = root_some t older in
        let some : root l.world.history ≡ Some a.0 = ap root is ∙ a.1 in
        let same : a.0 ≡ r.0 = same_start first newest blocks (later ++ s ∷ []) earlier set cut' l.world.history i.root_is a.0 r.0 some r.1 in
        let there : has_id l.world.history s.parent_id ≡ true = ap (λ (h : List Slip). has_id h s.parent_id) is ∙ subst (λ (h : List Slip). is_offered h s ≡ true) is now in
        let good = good_next first newest blocks set l.world t older is i.sound i.calm i.first_is wide r.0 r.1 (some ∙ ap (λ (x : Slip). Some x) same) s f member there r.3 in
        good_found l.world s o.sound o.effect good o.ok

load_step : (first : ℕ) (newest blocks later earlier : List Slip) (s : Slip) (l : Loading) → IsSetting first newest blocks → later ++ s ∷ earlier ≡ blocks
    → (IsFound newest s → (p : Slip) → IsParentOf newest s p → Among earlier p) → IsLoading first newest earlier l → (load_one l s).full ≡ None → IsLoading first newest (s ∷ earlier) (load_one l s)
load_step first newest blocks later earlier s l set cut parents i full = go (is_offered l.world.history s) refl full
  where
    cut' : (later ++ s ∷ []) ++ earlier ≡ blocks
    cut' = append_assoc later (s ∷ []) earlier ∙ cut

    by_history : (h : List Slip) → l.world.history ≡ h → is_offered l.world.history s ≡ false → IsLoading first newest (s ∷ earlier) (record { world = l.world; put_by = s ∷ l.put_by; full = l.full })
    by_history [] is no' = absurd (both_ways _ (subst (λ (h : List Slip). is_offered h s ≡ false) is no') refl)
    by_history (t ∷ older) is no' =
        let lacks : has_id l.world.history s.parent_id ≡ false = ap (λ (h : List Slip). has_id h s.parent_id) is ∙ subst (λ (h : List Slip). is_offered h s ≡ false) is no' in
        put_step first newest blocks (later ++ s ∷ []) earlier s l set cut' parents i t older is lacks

    go : (b : Bool) → is_offered l.world.history s ≡ b → (cond b (offer_one l s) (record { world = l.world; put_by = s ∷ l.put_by; full = l.full })).full ≡ None
        → IsLoading first newest (s ∷ earlier) (cond b (offer_one l s) (record { world = l.world; put_by = s ∷ l.put_by; full = l.full }))
    go true e f = offer_step first newest blocks later earlier s l set cut i e f
    go false e f = by_history l.world.history refl e

-- the answer that the history is full stays
full_before : (l : Loading) (s : Slip) → (load_one l s).full ≡ None → l.full ≡ None
full_before l s e = go (is_offered l.world.history s) e
  where
    go : (b : Bool) → (cond b (offer_one l s) (record { world = l.world; put_by = s ∷ l.put_by; full = l.full })).full ≡ None → l.full ≡ None
    go true f = (not_full l.full (offered l.world s).answer f).0
    go false f = f

pub load_goes : (first : ℕ) (newest blocks : List Slip) → IsSetting first newest blocks → (l : Loading) → IsLoading first newest [] l → (later earlier : List Slip) → later ++ earlier ≡ blocks → ParentsBefore newest earlier
    → (load_all l earlier).full ≡ None → IsLoading first newest earlier (load_all l earlier)
load_goes first newest blocks set l i later [] cut parents full = i
load_goes first newest blocks set l i later (s ∷ earlier) cut parents full =
    let cut' : (later ++ s ∷ []) ++ earlier ≡ blocks = append_assoc later (s ∷ []) earlier ∙ cut in
    let before = load_goes first newest blocks set l i (later ++ s ∷ []) earlier cut' parents.1 (full_before (load_all l earlier) s full) in
    load_step first newest blocks later earlier s (load_all l earlier) set cut parents.0 before full
