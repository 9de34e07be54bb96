use Rattle.std.proofs.Common.{◌∙◌, ap}
use Rattle.fork_db.specs.Forks.{Forks}
use Rattle.steps_command.proofs.TellFacts.{followed_told, reached_from, text_from}
use Rattle.steps_command.proofs.following.Follower.tell_steps.Goals as goal

pub invariant_of-self-2 : goal.invariant_of-self-2
invariant_of-self-2 c =
    followed_told c.self.inside.intake _ c.self.inside.place _ c.in_ok-self-inside.field-0 c.self.invariant (ap (λ (f : Forks). f.history) c.history.ensures) c.replace-place.ensures.value c.in_ok-self-inside.ensures.place

pub returns-clause-place : goal.returns-clause-place
returns-clause-place c =
    reached_from _ c.args.self.now.world.history c.args.self.now.place _ c.in_ok-self-inside.field-0 (ap (λ (f : Forks). f.history) c.history.ensures ∙ ap (λ v. v.world.history) c.self.view_is)
    (c.replace-place.ensures.value ∙ ap (λ v. v.place) c.self.view_is) c.in_ok-self-inside.ensures.place

pub returns-clause-text : goal.returns-clause-text
returns-clause-text c =
    text_from _ c.args.self.now.world.history c.args.self.now.place _ c.args.text.now.items _ (ap (λ (f : Forks). f.history) c.history.ensures ∙ ap (λ v. v.world.history) c.self.view_is)
    (c.replace-place.ensures.value ∙ ap (λ v. v.place) c.self.view_is) c.in_ok-self-inside.ensures.text
