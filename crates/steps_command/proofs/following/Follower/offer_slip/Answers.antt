use Rattle.std.proofs.Common.{sym, subst}
use Rattle.relay_model.specs.Soundness.{IsBlock}
use Rattle.steps_command.proofs.TellFacts.{followed_on}
use Rattle.steps_command.proofs.following.Follower.offer_slip.Goals as goal

pub invariant_of-self : goal.invariant_of-self
invariant_of-self c =
    followed_on c.offer.result c.self.inside.intake c.offer.new.self c.into_slip.result c.self.inside.place c.self.invariant (subst IsBlock (sym c.into_slip.ensures) c.args.block.parent_first)
    c.offer.ensures.world c.offer.ensures.mem
