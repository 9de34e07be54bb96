-- The lines of a piece that was stopped are a front of those that the whole piece brings.
use Rattle.std.proofs.Common.{◌≡◌, ℕ, Bool, true, false, cond, inl, inr, List, [], ◌++◌, Option, None, Some, refl, sym, ◌∙◌, ap, subst, append_assoc, ◌∷◌}
use Rattle.std.proofs.lemmas.List.{append-nil}
use Rattle.std.specs.Prelude.{Result, Ok, Err, OnErr}
use mathlib.Core.List.{IsPrefix}
use Rattle.block_record.specs.declared.blocks.Kind.{Kind}
use Rattle.block_record.specs.declared.blocks.Slip.{Slip}
use Rattle.block_record.specs.Words.{GrowsByFront}
use Rattle.fire_lines.specs.declared.faults.LineFault.{LineFault}
use Rattle.fire_lines.specs.Text.{received}
use Rattle.one_block.specs.declared.faults.StoreFault.{StoreFault}
use Rattle.replay_text.specs.Lines.{bad_line}
use Rattle.node_feed.specs.Feeding.{Brought, brought, feed_slips, told_greeted, clash_line, feed_kind, with_bad_line, further, fed_by}
use Rattle.node_feed.specs.Outcomes.{Outside, IsSlipStopped, IsStoppedAmong, IsStopped, when_greeted}
use Rattle.node_feed.specs.Readers.{NodeState, IsStoppedFeed}
use Rattle.node_feed.proofs.ListFacts.{feed_slips-append}

-- a block that stopped all added no line
same_text : (name : List ℕ) (k : Kind) (s : Slip) (o n : Outside) (f : StoreFault) → IsSlipStopped name k s o n f → n.text ≡ o.text
same_text name k s o n f h = elim h.why [ inl x ↦ x.text | inr x ↦ x.text ]

-- what stands before a bad line
bad_front : (name : List ℕ) (bad : Option LineFault) (b : Brought) → IsPrefix b.lines (with_bad_line name bad b).lines
bad_front name None b = ([], append-nil b.lines)
bad_front name (Some f) b = go b.over
  where
    go : (t : Bool) → IsPrefix b.lines (cond t b (brought b.told (b.lines ++ bad_line name f) true)).lines
    go true = ([], append-nil b.lines)
    go false = (bad_line name f, refl)

prefix_then : (a b c : List ℕ) → IsPrefix a b → IsPrefix b c → IsPrefix a c
prefix_then a b c p q = (p.0 ++ q.0, sym (append_assoc a p.0 q.0) ∙ ap (λ l. l ++ q.0) p.1 ∙ q.1)

among_front : (name : List ℕ) (k : Kind) (slips : List Slip) (o n : Outside) (f : StoreFault) → IsStoppedAmong name k slips o n f → GrowsByFront o.text n.text (feed_slips name o.told slips).lines
among_front name k slips o n f h =
    let b = feed_slips name o.told h.done in
    let all : (feed_slips name o.told slips).lines ≡ b.lines ++ (feed_slips name b.told (h.next ∷ h.left)).lines =
    ap (λ l. (feed_slips name o.told l).lines) h.all ∙ ap (λ x. x.lines) (feed_slips-append name o.told h.done (h.next ∷ h.left) (sym h.before.fed.over_is)) in
    (b.lines, ((feed_slips name b.told (h.next ∷ h.left)).lines, sym all), same_text name k h.next h.between n f h.stopped ∙ h.before.fed.text)

stopped_front : (name : List ℕ) (kind : Option Kind) (slips : List Slip) (o n : Outside) (f : StoreFault) → IsStopped name kind slips o n f → GrowsByFront o.text n.text (feed_kind name o.told kind slips).lines
stopped_front name kind slips o n f (inl h) = ([], ((feed_kind name o.told kind slips).lines, refl), ap (λ x. x.text) h.same ∙ sym (append-nil o.text))
stopped_front name kind slips o n f (inr (inl h)) =
    let e : feed_kind name o.told kind slips ≡ feed_slips name (told_greeted h.k o.told) slips =
    ap (λ x. feed_kind name o.told x slips) h.known ∙ ap (λ t. cond t (feed_slips name (told_greeted h.k o.told) slips) (brought o.told (clash_line name h.k o.told) true)) h.may in
    subst (λ (b : Brought). GrowsByFront o.text n.text b.lines) (sym e) (among_front name h.k slips (when_greeted h.k o) n f h.among)
stopped_front name kind slips o n f (inr (inr h)) = ((feed_kind name o.told kind slips).lines, ([], append-nil (feed_kind name o.told kind slips).lines), h.fed.text)

front_then : (old new front lines : List ℕ) → IsPrefix front lines → GrowsByFront old new front → GrowsByFront old new lines
front_then old new front lines p g = (g.0, prefix_then g.0 front lines g.1 p, g.2)

pub feed_front : (text piece : List ℕ) (r : NodeState) (o n : Outside) (f : StoreFault) → IsStoppedFeed text piece r o n f → GrowsByFront o.text n.text (fed_by r.name r.lines.max text piece o.told).lines
feed_front text piece r o n f h =
    let kind = (received r.lines.max (text ++ piece)).kind in
    let slips = further r.lines.max text piece in
    let b = feed_kind r.name o.told kind slips in
    front_then o.text n.text b.lines (fed_by r.name r.lines.max text piece o.told).lines (bad_front r.name (received r.lines.max (text ++ piece)).fault b) (stopped_front r.name kind slips o n f h)

-- a fact that holds, at an error
pub at_err : {T E : Type 0} (r : Result T E) {P : Type 0} → P → OnErr r P
at_err (Ok x) h = tt
at_err (Err e) h = h
