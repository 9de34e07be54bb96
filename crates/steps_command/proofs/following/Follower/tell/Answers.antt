use Rattle.std.proofs.Common.{rules, sym, ◌∙◌, ap, subst, ◌≡◌, ◌∷◌, ◌++◌, [], map, refl}
use Rattle.block_record.specs.Slips.{slip}
use Rattle.relay_model.specs.Offers.{offered}
use Rattle.block_intake.specs.Intakes.{unnoted}
use Rattle.step_text.specs.StepText.{tell, prepend}
use Rattle.step_text.specs.Taken.{IsTaken}
use Rattle.step_text.proofs.public.RunFacts.{told_on}
use Rattle.steps_command.proofs.TellFacts.{none_of, tell_alike, tells_refused, nothing_left}
use Rattle.steps_command.proofs.following.Follower.tell.Goals as goal

pub loop-block-init : goal.loop-block-init
loop-block-init c =
    let first : c.into_iter-block-iterator.result.rest.items ≡ c.args.blocks.items = search rules in
    λ more. ap (λ l. prepend c.args.text.now.items (tell (map slip l ++ more) c.args.self.now.world c.args.self.now.place)) first

pub loop-block-preserved : goal.loop-block-preserved
loop-block-preserved c =
    let split : c.loop-block.block-iterator.rest.items ≡ c.in-Some.block ∷ c.next.new.self.rest.items = search rules in
    let s = slip c.in-Some.block in
    let left = (offered c.loop-block.self.world s).world in
    λ more.
    let rest = map slip c.next.new.self.rest.items ++ more in
    ap (prepend c.offer.new.text.items) (ap (λ w. tell rest w c.offer.new.self.place) c.in_ok-refusal.ensures.world ∙ tell_alike rest (unnoted left) left c.offer.new.self.place (record { first = refl; limits = refl; history = refl; waiting = refl }) refl)
    ∙ told_on s rest c.loop-block.self.world left c.loop-block.self.place c.offer.new.self.place
    c.loop-block.text.items c.offer.new.text.items _
    (subst (IsTaken s c.loop-block.self.world left c.loop-block.self.place c.offer.new.self.place c.loop-block.text.items c.offer.new.text.items)
    (none_of c.in_ok-refusal.refusal c.is_some.result c.is_some.ensures c.if-is_some.false) c.in_ok-refusal.ensures.taken)
    (ap (λ l. prepend c.loop-block.text.items (tell (map slip l ++ more) c.loop-block.self.world c.loop-block.self.place)) (sym split) ∙ c.loop-block.invariant more)

pub returns-then-is_some : goal.returns-then-is_some
returns-then-is_some c =
    let split : c.loop-block.block-iterator.rest.items ≡ c.in-Some.block ∷ c.next.new.self.rest.items = search rules in
    λ more. tells_refused c.in_ok-refusal.refusal c.is_some.result (slip c.in-Some.block) (map slip c.next.new.self.rest.items ++ more) more c.loop-block.self.world (offered c.loop-block.self.world (slip c.in-Some.block)).world
    c.offer.new.self.world c.loop-block.self.place c.offer.new.self.place c.loop-block.text.items c.offer.new.text.items _ c.is_some.ensures c.if-is_some.true c.in_ok-refusal.ensures.taken
    (ap (λ l. prepend c.loop-block.text.items (tell (map slip l ++ more) c.loop-block.self.world c.loop-block.self.place)) (sym split) ∙ c.loop-block.invariant more)

pub returns : goal.returns
returns c =
    let done : c.loop-block.block-iterator.rest.items ≡ [] = nothing_left c.loop-block.block-iterator.rest.items c.loop-block.block-iterator.rest.len c.loop-block.block-iterator.rest.ok.0 c.in-None.ensures.steps.0 in
    λ more. sym (ap (λ l. prepend c.loop-block.text.items (tell (map slip l ++ more) c.loop-block.self.world c.loop-block.self.place)) (sym done) ∙ c.loop-block.invariant more)
