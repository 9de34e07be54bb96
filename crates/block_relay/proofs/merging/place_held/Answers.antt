use Rattle.std.proofs.Common.{◌≡◌, ℕ, true, Some, None, cond, ap, subst, sym, ◌∙◌}
use Rattle.std.specs.List.{slice_get}
use Rattle.std.proofs.lemmas.Option.{same_Some}
use Rattle.block_record.specs.SlipRefs.{slip_seen}
use Rattle.block_tree.proofs.public.PlaceFacts.{place_range}
use Rattle.stored_blocks.specs.Stored.{is_gone}
use Rattle.stored_blocks.proofs.public.HeldFacts.{held_gone, none_gone}
use Rattle.block_relay.proofs.StoredFacts.{none_some, place_missing, place_same}
use Rattle.block_relay.proofs.merging.place_held.Goals as goal

pub returns-in_default-clause-none : goal.returns-in_default-clause-none
returns-in_default-clause-none c =
    λ at _ k. absurd (none_some at (sym (place_missing c.args.db.now.history (slip_seen c.args.slip) (sym c.find.ensures ∙ c.in_default.is)) ∙ k))

pub slip-requires : goal.slip-requires
slip-requires c = place_range _ _ _ (sym c.find.ensures ∙ c.in-Some.is)

pub held-requires : goal.held-requires
held-requires c = place_range _ _ _ (sym c.find.ensures ∙ c.in-Some.is)

pub returns-then-not-is_same-clause-none : goal.returns-then-not-is_same-clause-none
returns-then-not-is_same-clause-none c =
    let s = slip_seen c.args.slip in
    let test = c.is_same.ensures in
    let place = place_same c.args.db.now.history s c.slip.result.now c.in-Some.at c.is_same.result c.len.ensures.sound (sym c.find.ensures ∙ c.in-Some.is) c.slip.ensures test in
    λ at _ k. absurd (none_some at (sym (ap (λ b. cond b (Some c.in-Some.at) None) c.if-not-is_same.true) ∙ sym place ∙ k))

pub returns-then-is_some-clause-some : goal.returns-then-is_some-clause-some
returns-then-is_some-clause-some c =
    let s = slip_seen c.args.slip in
    let test = c.is_same.ensures in
    let place = place_same c.args.db.now.history s c.slip.result.now c.in-Some.at c.is_same.result c.len.ensures.sound (sym c.find.ensures ∙ c.in-Some.is) c.slip.ensures test in
    place ∙ ap (λ b. cond b (Some c.in-Some.at) None) c.if-not-is_same.false

pub returns-then-is_some-clause-held : goal.returns-then-is_some-clause-held
returns-then-is_some-clause-held c = record {
  low = place_range _ _ _ (sym c.find.ensures ∙ c.in-Some.is);
  held = ap is_gone c.held.ensures.value ∙ held_gone _ c.held.result (sym c.is_some.ensures ∙ c.if-is_some.true);
}

pub returns-clause-none : goal.returns-clause-none
returns-clause-none c =
    let s = slip_seen c.args.slip in
    let test = c.is_same.ensures in
    let place = place_same c.args.db.now.history s c.slip.result.now c.in-Some.at c.is_same.result c.len.ensures.sound (sym c.find.ensures ∙ c.in-Some.is) c.slip.ensures test in
    let there = place ∙ ap (λ b. cond b (Some c.in-Some.at) None) c.if-not-is_same.false in
    let gone = ap is_gone c.held.ensures.value ∙ none_gone _ c.held.result (sym c.is_some.ensures ∙ c.if-is_some.false) in
    λ at _ k. subst (λ (n : ℕ). is_gone (slice_get c.args.db.now.held n) ≡ true) (same_Some c.in-Some.at at (sym there ∙ k)) gone
