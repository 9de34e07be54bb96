-- What blocks bring one after another.
use Rattle.std.proofs.Common.{◌≡◌, ◌≤◌, ◌-◌, ℕ, Bool, true, false, cond, inl, inr, List, [], ◌∷◌, ◌++◌, refl, sym, ◌∙◌, ap, subst, arith, length, map, append_assoc}
use Rattle.std.proofs.lemmas.Bool.{false≢true}
use Rattle.std.proofs.lemmas.List.{append-nil, take_all}
use Rattle.std.specs.List.{slice_range}
use Rattle.std.specs.Prelude.{Ok}
use Rattle.block_record.specs.declared.blocks.Block.{Block}
use Rattle.block_record.specs.declared.blocks.Kind.{Kind}
use Rattle.block_record.specs.declared.blocks.Slip.{Slip}
use Rattle.block_record.specs.Slips.{slip}
use Rattle.block_relay.specs.Chronicle.{Told}
use Rattle.node_feed.specs.Feeding.{Brought, brought, told_after, is_refused, slip_lines, after_lines, feed_slips}
use Rattle.node_feed.specs.Outcomes.{Outside, IsBrought, IsSlipFed, IsSlipClash, SlipAnswers, IsFedUpTo, IsClashAmong, SlipsAnswer}

-- lines before lines before what is brought
lines_twice : (one two : List ℕ) (b : Brought) → after_lines one (after_lines two b) ≡ after_lines (one ++ two) b
lines_twice one two b = ap (λ l. brought b.told l b.over) (sym (append_assoc one two b.lines))

-- what one more block before these brings
step : (name : List ℕ) (b : Bool) (first rest all : Brought) (lines : List ℕ) (more : List Slip) → first.over ≡ true
    → (rest.over ≡ false → all ≡ after_lines rest.lines (feed_slips name rest.told more))
    → (cond b first (after_lines lines rest)).over ≡ false
    → cond b first (after_lines lines all) ≡ after_lines (cond b first (after_lines lines rest)).lines (feed_slips name (cond b first (after_lines lines rest)).told more)
step name true first rest all lines more is h unrefused = absurd (false≢true (sym unrefused ∙ is))
step name false first rest all lines more is h unrefused = ap (after_lines lines) (h unrefused) ∙ lines_twice lines rest.lines (feed_slips name rest.told more)

-- blocks none of which was refused, and then more
pub feed_slips-append : (name : List ℕ) (t : Told) (done more : List Slip) → (feed_slips name t done).over ≡ false
    → feed_slips name t (done ++ more) ≡ after_lines (feed_slips name t done).lines (feed_slips name (feed_slips name t done).told more)
feed_slips-append name t [] more unrefused = refl
feed_slips-append name t (s ∷ done) more unrefused =
    step name (is_refused t s) (brought (told_after t s) (slip_lines name t s) true) (feed_slips name (told_after t s) done) (feed_slips name (told_after t s) (done ++ more)) (slip_lines name t s) more refl
    (feed_slips-append name (told_after t s) done more) unrefused

-- one block
one_brought : (b : Bool) (t : Told) (lines : List ℕ) → cond b (brought t lines true) (after_lines lines (brought t [] false)) ≡ brought t lines b
one_brought true t lines = refl
one_brought false t lines = ap (λ l. brought t l false) (append-nil lines)

one_fed : (name : List ℕ) (s : Slip) (o n : Outside) (over : Bool) → IsSlipFed name s o n over → IsBrought (feed_slips name o.told (s ∷ [])) o n over
one_fed name s o n over h =
    subst (λ (b : Brought). IsBrought b o n over) (sym (one_brought (is_refused o.told s) (told_after o.told s) (slip_lines name o.told s)))
    (record { told = h.told; text = h.text; over_is = h.over_is })

-- some were brought, and then more
fed_then : (name : List ℕ) (done more : List Slip) (o m n : Outside) (over : Bool) → IsBrought (feed_slips name o.told done) o m false → IsBrought (feed_slips name m.told more) m n over
    → IsBrought (feed_slips name o.told (done ++ more)) o n over
fed_then name done more o m n over h g =
    let first = feed_slips name o.told done in
    let next : IsBrought (feed_slips name first.told more) m n over = subst (λ (t : Told). IsBrought (feed_slips name t more) m n over) h.told g in
    let all : feed_slips name o.told (done ++ more) ≡ after_lines first.lines (feed_slips name first.told more) = feed_slips-append name o.told done more (sym h.over_is) in
    subst (λ (b : Brought). IsBrought b o n over) (sym all)
    (record {
      told = next.told;
      text = next.text ∙ ap (λ l. l ++ (feed_slips name first.told more).lines) h.text ∙ append_assoc o.text first.lines (feed_slips name first.told more).lines;
      over_is = next.over_is;
    })

-- once one was refused, the others bring nothing
refused_all : (name : List ℕ) (t : Told) (done more : List Slip) → (feed_slips name t done).over ≡ true → feed_slips name t (done ++ more) ≡ feed_slips name t done
refused_all name t [] more over = absurd (false≢true over)
refused_all name t (s ∷ done) more over = go (is_refused t s) (refused_all name (told_after t s) done more) over
  where
    go : (b : Bool) → ((feed_slips name (told_after t s) done).over ≡ true → feed_slips name (told_after t s) (done ++ more) ≡ feed_slips name (told_after t s) done)
        → (cond b (brought (told_after t s) (slip_lines name t s) true) (after_lines (slip_lines name t s) (feed_slips name (told_after t s) done))).over ≡ true
        → cond b (brought (told_after t s) (slip_lines name t s) true) (after_lines (slip_lines name t s) (feed_slips name (told_after t s) (done ++ more)))
        ≡ cond b (brought (told_after t s) (slip_lines name t s) true) (after_lines (slip_lines name t s) (feed_slips name (told_after t s) done))
    go true ih is = refl
    go false ih is = ap (after_lines (slip_lines name t s)) (ih is)

-- ---- the loop over blocks

-- of all these, all but these are brought, and none was refused
pub record IsUnderWay (name : List ℕ) (all left : List Slip) (old new : Outside) : Type 0 where
  pub done : List Slip
  pub all_is : all ≡ done ++ left
  pub before : IsFedUpTo name done old new

-- they are all left at first
pub begun : (name : List ℕ) (all left : List Slip) (o : Outside) → all ≡ left → IsUnderWay name all left o o
begun name all left o e = record {
  done = [];
  all_is = e;
  before = record { fed = record { told = refl; text = sym (append-nil o.text); over_is = refl }; later = omega arith };
}

module _ (name : List ℕ) (all left : List Slip) (s : Slip) (o m n : Outside) (u : IsUnderWay name all (s ∷ left) o m) where
  -- one more was brought
  pub goes_on : IsSlipFed name s m n false → m.faults ≤ n.faults → IsUnderWay name all left o n
  goes_on h later = record {
    done = u.done ++ s ∷ [];
    all_is = u.all_is ∙ sym (append_assoc u.done (s ∷ []) left);
    before = record {
      fed = fed_then name u.done (s ∷ []) o m n false u.before.fed (one_fed name s m n false h);
      later = omega (arith, u.before.later);
    };
  }

  -- the next was refused
  pub refused : IsSlipFed name s m n true → IsBrought (feed_slips name o.told all) o n true
  refused h =
      let b : IsBrought (feed_slips name o.told (u.done ++ s ∷ [])) o n true = fed_then name u.done (s ∷ []) o m n true u.before.fed (one_fed name s m n true h) in
      let e : all ≡ (u.done ++ s ∷ []) ++ left = u.all_is ∙ sym (append_assoc u.done (s ∷ []) left) in
      subst (λ (x : Brought). IsBrought x o n true) (sym (ap (feed_slips name o.told) e ∙ refused_all name o.told (u.done ++ s ∷ []) left (sym b.over_is))) b

  -- its file's name is another block's
  pub clashed : IsSlipClash name s m n → IsClashAmong name all o n
  clashed h = record { done = u.done; next = s; left = left; all = u.all_is; between = m; before = u.before; clash = h }

-- ---- the loop's code

module _ (name : List ℕ) (all left : List Slip) (s : Slip) (o m n : Outside) (u : IsUnderWay name all (s ∷ left) o m) (k : Kind) where
  -- the reader is over with the next block
  pub ends : (over : Bool) → over ≡ true → SlipAnswers name k s m n (Ok over) → SlipsAnswer name k all o n (Ok true)
  ends over is (inl h) = inl (refused name all left s o m n u (subst (IsSlipFed name s m n) is h))
  ends over is (inr h) = inr (clashed name all left s o m n u h.0, refl)

  -- it is not
  pub goes : (over : Bool) → over ≡ false → m.faults ≤ n.faults → SlipAnswers name k s m n (Ok over) → IsUnderWay name all left o n
  goes over is later (inl h) = goes_on name all left s o m n u (subst (IsSlipFed name s m n) is h) later
  goes over is later (inr h) = absurd (false≢true (sym is ∙ h.1))

-- the next block of those that are left
pub next_left : (name : List ℕ) (all : List Slip) (o m : Outside) (blocks left : List Block) (b : Block) → blocks ≡ b ∷ left → IsUnderWay name all (map slip blocks) o m → IsUnderWay name all (slip b ∷ map slip left) o m
next_left name all o m blocks left b e u = subst (λ (l : List Block). IsUnderWay name all (map slip l) o m) e u

-- all of a list is the list
pub whole : (bs : List Block) (n : ℕ) → length bs ≤ n → slice_range bs 0 n ≡ bs
whole bs n h = take_all (n - 0) bs (omega (arith, h))
