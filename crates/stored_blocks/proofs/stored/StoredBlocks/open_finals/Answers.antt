use Rattle.std.proofs.Common.{arith, ◌≡◌, ◌<◌, ◌+◌, List, [], ◌∷◌, ◌++◌, drop, map, Some, IfSome, is_some, sym, subst, ap, ◌∙◌}
use Rattle.std.specs.Arc.{arc_value}
use Rattle.std.specs.Option.{option_map}
use Rattle.std.proofs.lemmas.List.{map-append}
use Rattle.std.proofs.lemmas.Option.{same_Some}
use Rattle.block_record.specs.Slips.{slip}
use Rattle.block_record.specs.declared.blocks.Slip.{Slip}
use Rattle.block_tree.specs.Places.{slip_at}
use Rattle.bundle_model.specs.Bundles.{finals_up}
use Rattle.stored_blocks.specs.BundlePlans.{open_until}
use Rattle.stored_blocks.specs.Stored.{is_given_up, is_gone}
use Rattle.stored_blocks.proofs.BundleLists.{open_broken, open_high, open_step}
use Rattle.stored_blocks.proofs.public.HeldFacts.{given_up_at, held_gone, none_gone}
use Rattle.stored_blocks.proofs.stored.StoredBlocks.open_finals.Goals as goal

pub returns-then-slip-end : goal.returns-then-slip-end
returns-then-slip-end c =
    let f = c.args.db.now in
    let done = map (λ b. slip (arc_value b)) c.loop-index.blocks.items in
    sym (open_high (is_given_up f) c.args.end done (finals_up f.history) c.loop-index.index c.slip.result.now (sym c.in-Some.ensures.value ∙ c.slip.ensures) c.if-slip-end.true) ∙ c.loop-index.invariant

pub returns-in_default-2 : goal.returns-in_default-2
returns-in_default-2 c =
    let f = c.args.db.now in
    let y = c.slip.result.now in
    let done = map (λ b. slip (arc_value b)) c.loop-index.blocks.items in
    let low : y.num < c.args.end = omega (arith, c.if-slip-end.false) in
    let stored = given_up_at f c.in-Some.at y c.len.ensures.sound c.slip.ensures ∙ ap is_gone c.in_ok-block.ensures.value ∙ none_gone _ c.in_ok-block.field-0 (ap is_some c.in_default-2.is) in
    sym (open_broken (is_given_up f) c.args.end done (finals_up f.history) c.loop-index.index y (sym c.in-Some.ensures.value ∙ c.slip.ensures) low stored) ∙ c.loop-index.invariant

pub loop-index-preserved : goal.loop-index-preserved
loop-index-preserved c =
    let f = c.args.db.now in
    let n = c.loop-index.index in
    let b = c.in-Some-2.block in
    let y = slip (arc_value b) in
    let own : slip_at f.history c.in-Some.at ≡ Some y = subst (λ o. IfSome o (λ x. slip_at f.history c.in-Some.at ≡ Some (slip (arc_value x)))) c.in-Some-2.is c.in_ok-block.ensures.own in
    let seen = same_Some c.slip.result.now y (sym c.slip.ensures ∙ own) in
    let low : y.num < c.args.end = omega (arith, c.if-slip-end.false, ap (λ (s : Slip). s.num) seen) in
    let open' = given_up_at f c.in-Some.at y c.len.ensures.sound own ∙ ap is_gone c.in_ok-block.ensures.value ∙ held_gone _ c.in_ok-block.field-0 (ap is_some c.in-Some-2.is) in
    let done = map (λ b. slip (arc_value b)) c.loop-index.blocks.items in
    let more : map (λ b. slip (arc_value b)) c.push.new.self.items ≡ done ++ y ∷ [] = ap (map (λ b. slip (arc_value b))) c.in_ok-push.ensures.items ∙ map-append (λ b. slip (arc_value b)) c.loop-index.blocks.items (b ∷ []) in
    let step = open_step (is_given_up f) c.args.end done (finals_up f.history) n y (sym c.in-Some.ensures.value ∙ own) low open' ∙ c.loop-index.invariant in
    subst (λ (l : List Slip). option_map (λ xs. l ++ xs) (open_until (is_given_up f) c.args.end (drop (n + 1) (finals_up f.history))) ≡ open_until (is_given_up f) c.args.end (drop c.args.self.now.front (finals_up f.history))) (sym more) step
