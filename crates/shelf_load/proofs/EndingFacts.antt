-- What the last round leaves, what is stored late, and how many blocks are lost.
use Rattle.std.proofs.Common.{arith, Global, subst, ◌≡◌, ◌<◌, ◌≤◌, ◌+◌, ◌∙◌, ℕ, Bool, true, false, not, cond, ◌&&◌, ◌||◌, List, [], ◌∷◌, ◌++◌, length, map, reverse, take, drop, get_or, Option, Some, None, Ok, Err, Result, refl, sym, ap, ltb}
use Rattle.std.proofs.lemmas.List.{take_more, take-append-drop, reverse-append, map-append}
use Rattle.std.specs.List.{list_any}
use Rattle.std.specs.Prelude.{IfSome}
use Rattle.std.specs.declared.sync.Arc.{Arc}
use Rattle.std.specs.Arc.{arc_value}
use Rattle.block_record.specs.declared.blocks.Block.{Block}
use Rattle.block_record.specs.Slips.{slip}
use Rattle.relay_model.specs.declared.answers.Conflict.{Conflict as Clash}
use Rattle.block_record.specs.declared.blocks.Slip.{Slip}
use Rattle.relay_model.specs.Worlds.{World}
use Rattle.relay_model.specs.Offers.{Answer, HistoryFull, offered, tip_num}
use Rattle.bundle_model.specs.Shedding.{place_in, stored_after, stored_at}
use Rattle.one_block.specs.declared.faults.StoreFault.TheVariants as store
use Rattle.shelf_check.specs.declared.faults.LoadFault.{LoadFault}
use Rattle.shelf_check.specs.declared.faults.LoadFault.TheVariants as fault
use Rattle.store_model.specs.Loads.{Round, first_full, if_full, is_wait_full}
use Rattle.shelf_load.specs.declared.put_by.PutBy.{PutBy}
use Rattle.shelf_load.specs.Asides.{Put, put_seen}
use Rattle.shelf_load.specs.Taking.{SaidRefused}
use Rattle.shelf_load.specs.Ending.{AgainAnswers, FullAnswers, IsRounded, RoundRefused, is_again, lost_by, lost_count, offer_round, put_all, put_one, round_at}

-- ---- one block of the round

round_of_parts : (w v : World) (a b : Option Answer) (o p : Bool) → w ≡ v → a ≡ b → o ≡ p → (let r : Round = record { world = w; full = a; over = o } in r) ≡ record { world = v; full = b; over = p }
round_of_parts w v a b o p e f g = λ i. record { world = e i; full = f i; over = g i }

pub again_said : (old new : World) (p : Put) (mem : Bool) (r : Result Bool LoadFault) → ltb (tip_num old.history) p.slip.num ≡ true → p.kept ≡ true → FullAnswers (offered old p.slip).answer mem r
    → (mem ≡ false → new ≡ (offered old p.slip).world) → AgainAnswers old p new r
again_said old new p mem (Ok full) high kept said world =
    let e = round_of_parts (offered old p.slip).world new (if_full (offered old p.slip).answer) None (is_wait_full (offered old p.slip).answer) full (sym (world said.0)) said.1.room (sym said.1.full_is) in
    rw (high, kept) e
again_said old new p mem (Err refused) high kept said world = (rw (high, kept) refl, said)

-- the payload of a block that was put by is its own
pub own_slip : (p : PutBy) (b : Arc Block Global) → p.block ≡ Some b → p.slip ≡ slip (arc_value b)
own_slip p b e = subst (λ (o : Option (Arc Block Global)). IfSome o (λ x. p.slip ≡ slip (arc_value x))) e p.own

-- ---- the round

-- once it is over nothing is offered
over_one : (r : Round) (p : Put) → r.over ≡ true → put_one r p ≡ r
over_one r p e = rw e refl

pub over_all : (r : Round) (puts : List Put) → r.over ≡ true → put_all r puts ≡ r
over_all r [] e = refl
over_all r (p ∷ earlier) e = let ih = over_all r earlier e in ap (λ (q : Round). put_one q p) ih ∙ over_one r p e

-- the first answer that the history is full stays
full_one : (r : Round) (p : Put) (a : Answer) → r.full ≡ Some a → (put_one r p).full ≡ Some a
full_one r p a e = go (not r.over && is_again r.world p)
  where
    go : (b : Bool) → (cond b (offer_round r p.slip) r).full ≡ Some a
    go true = ap (λ (o : Option Answer). first_full o (offered r.world p.slip).answer) e
    go false = e

pub full_all : (r : Round) (puts : List Put) (a : Answer) → r.full ≡ Some a → (put_all r puts).full ≡ Some a
full_all r [] a e = e
full_all r (p ∷ earlier) a e = full_one (put_all r earlier) p a (full_all r earlier a e)

both_parts : (r : Round) (xs ys : List Put) → put_all r (xs ++ ys) ≡ put_all (put_all r ys) xs
both_parts r [] ys = refl
both_parts r (x ∷ xs) ys = ap (λ (q : Round). put_one q x) (both_parts r xs ys)

-- the blocks that were put by, of the first so many entries, the last first
abbrev pub puts_upto : ℕ → List PutBy → List Put
puts_upto i items = reverse (map put_seen (take i items))

pub upto_more : (items : List PutBy) (i : ℕ) (x : PutBy) → i < length items → x ≡ get_or items i x → puts_upto (i + 1) items ≡ put_seen x ∷ puts_upto i items
upto_more items i x within item =
    ap (λ (l : List PutBy). reverse (map put_seen l)) (take_more items i x within ∙ ap (λ (y : PutBy). take i items ++ y ∷ []) (sym item))
    ∙ ap reverse (map-append put_seen (take i items) (x ∷ []))
    ∙ reverse-append (map put_seen (take i items)) (put_seen x ∷ [])

upto_rest : (items : List PutBy) (i : ℕ) (x : PutBy) → i < length items → x ≡ get_or items i x → reverse (map put_seen items) ≡ reverse (map put_seen (drop (i + 1) items)) ++ puts_upto (i + 1) items
upto_rest items i x within item =
    ap (λ (l : List PutBy). reverse (map put_seen l)) (sym (take-append-drop (i + 1) items))
    ∙ ap reverse (map-append put_seen (take (i + 1) items) (drop (i + 1) items))
    ∙ reverse-append (map put_seen (take (i + 1) items)) (map put_seen (drop (i + 1) items))

-- the round so far
abbrev pub IsRoundAt : World → List PutBy → ℕ → World → Type 0
IsRoundAt old items i now = put_all (round_at old) (puts_upto i items) ≡ round_at now

next_at : (old now : World) (items : List PutBy) (i : ℕ) (x : PutBy) → i < length items → x ≡ get_or items i x → IsRoundAt old items i now → put_all (round_at old) (puts_upto (i + 1) items) ≡ put_one (round_at now) (put_seen x)
next_at old now items i x within item at =
    ap (put_all (round_at old)) (upto_more items i x within item) ∙ ap (λ (q : Round). put_one q (put_seen x)) at

pub round_more : (old now new : World) (items : List PutBy) (i : ℕ) (x : PutBy) (over : Bool) → i < length items → x ≡ get_or items i x → IsRoundAt old items i now
    → put_one (round_at now) (put_seen x) ≡ record { world = new; full = None; over = over } → over ≡ false → IsRoundAt old items (i + 1) new
round_more old now new items i x over within item at one go_on =
    next_at old now items i x within item at ∙ one ∙ ap (λ (b : Bool). record { world = new; full = None; over = b }) go_on

pub round_over : (old now new : World) (items : List PutBy) (i : ℕ) (x : PutBy) (over : Bool) → i < length items → x ≡ get_or items i x → IsRoundAt old items i now
    → put_one (round_at now) (put_seen x) ≡ record { world = new; full = None; over = over } → over ≡ true → IsRounded old (reverse (map put_seen items)) new
round_over old now new items i x over within item at one ends =
    let r : Round = record { world = new; full = None; over = over } in
    let rest = reverse (map put_seen (drop (i + 1) items)) in
    let whole : put_all (round_at old) (reverse (map put_seen items)) ≡ r =
    ap (put_all (round_at old)) (upto_rest items i x within item) ∙ both_parts (round_at old) rest (puts_upto (i + 1) items)
    ∙ ap (λ (q : Round). put_all q rest) (next_at old now items i x within item at ∙ one) ∙ over_all r rest ends in
    record { world = ap (λ (q : Round). q.world) whole; room = ap (λ (q : Round). q.full) whole }

pub round_refused : (old now : World) (items : List PutBy) (i : ℕ) (x : PutBy) (refused : LoadFault) → i < length items → x ≡ get_or items i x → IsRoundAt old items i now
    → (is_again now (put_seen x) ≡ true) × SaidRefused (offered now x.slip).answer refused → RoundRefused old (reverse (map put_seen items)) refused
round_refused old now items i x (fault.Store store.ShelfFault) within item at said = said.1
round_refused old now items i x (fault.Store (store.ShelfBad name place)) within item at said = said.1
round_refused old now items i x (fault.Store (store.Missing name)) within item at said = said.1
round_refused old now items i x (fault.Store (store.StoredOther kept read)) within item at said = said.1
round_refused old now items i x (fault.Store (store.NameClash held other)) within item at said = said.1
round_refused old now items i x (fault.Store store.Mem) within item at said = tt
round_refused old now items i x (fault.KindClash held other) within item at said = said.1
round_refused old now items i x (fault.HistoryFull len need) within item at said =
    let rest = reverse (map put_seen (drop (i + 1) items)) in
    let one : (put_one (round_at now) (put_seen x)).full ≡ Some (HistoryFull len need) = rw said.0 (ap (λ (a : Answer). if_full a) said.1) in
    ap (λ (l : List Put). (put_all (round_at old) l).full) (upto_rest items i x within item)
    ∙ ap (λ (q : Round). q.full) (both_parts (round_at old) rest (puts_upto (i + 1) items))
    ∙ full_all (put_all (round_at old) (puts_upto (i + 1) items)) rest (HistoryFull len need) (ap (λ (q : Round). q.full) (next_at old now items i x within item at) ∙ one)

-- ---- what is stored late

after_both : (newest : List Slip) (ps : List ℕ) (xs ys : List Slip) → stored_after newest ps (xs ++ ys) ≡ stored_after newest (stored_after newest ps xs) ys
after_both newest ps [] ys = refl
after_both newest ps (x ∷ xs) ys = after_both newest (stored_at ps (place_in newest x)) xs ys

-- a world in which these came to be stored
abbrev pub with_late : World → List Slip → World
with_late w xs = record w { stored = stored_after w.history w.stored xs }

pub late_more : (old now new : World) (xs : List Slip) (i : ℕ) (x s : Slip) → i < length xs → x ≡ get_or xs i x → s ≡ x → now ≡ with_late old (take i xs)
    → new ≡ record now { stored = stored_at now.stored (place_in now.history s) } → new ≡ with_late old (take (i + 1) xs)
late_more old now new xs i x s within item same at one =
    one
    ∙ ap (λ (w : World). record w { stored = stored_at w.stored (place_in w.history s) }) at
    ∙ ap (λ (y : Slip). record old { stored = stored_at (stored_after old.history old.stored (take i xs)) (place_in old.history y) }) same
    ∙ ap (λ (ps : List ℕ). record old { stored = ps }) (sym (after_both old.history old.stored (take i xs) (x ∷ [])))
    ∙ ap (with_late old) (ap (λ (y : Slip). take i xs ++ y ∷ []) item ∙ sym (take_more xs i x within))

-- ---- how many are lost

pub lost_most : (w : World) (s : Slip) (b : Bool) → cond b 0 1 ≤ 1
lost_most w s true = omega arith
lost_most w s false = omega arith

lost_push : (w : World) (xs : List Put) (p : Put) → lost_count w (xs ++ p ∷ []) ≡ lost_count w xs + lost_by w p.slip
lost_push w [] p = omega arith
lost_push w (x ∷ xs) p = let ih = lost_push w xs p in omega (arith, ih)

pub lost_more : (w : World) (items : List PutBy) (i count one : ℕ) (x : PutBy) → i < length items → x ≡ get_or items i x → count ≡ lost_count w (map put_seen (take i items)) → one ≡ lost_by w x.slip
    → count + one ≡ lost_count w (map put_seen (take (i + 1) items))
lost_more w items i count one x within item at is =
    let more = ap (λ (l : List PutBy). lost_count w (map put_seen l)) (take_more items i x within ∙ ap (λ (y : PutBy). take i items ++ y ∷ []) (sym item)) in
    let mapped = ap (lost_count w) (map-append put_seen (take i items) (x ∷ [])) in
    let push = lost_push w (map put_seen (take i items)) (put_seen x) in
    omega (arith, more, mapped, push, at, is)

-- whether one of a list passes a test does not depend on its order
any_push : (test : Clash → Bool) (xs : List Clash) (x : Clash) → list_any test (xs ++ x ∷ []) ≡ (test x || list_any test xs)
any_push test [] x = refl
any_push test (y ∷ ys) x = let ih = any_push test ys x in rw ih (go (test x) (test y))
  where
    go : (a b : Bool) → (b || (a || list_any test ys)) ≡ (a || (b || list_any test ys))
    go true true = refl
    go true false = refl
    go false b = refl

pub any_reverse : (test : Clash → Bool) (xs : List Clash) → list_any test (reverse xs) ≡ list_any test xs
any_reverse test [] = refl
any_reverse test (x ∷ xs) = ap (list_any test) (reverse-append (x ∷ []) xs) ∙ any_push test (reverse xs) x ∙ ap (λ b. test x || b) (any_reverse test xs)
