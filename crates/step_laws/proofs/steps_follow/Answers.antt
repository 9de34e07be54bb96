use Rattle.step_laws.proofs.FollowFacts.{steps_follow}
use Rattle.step_laws.proofs.steps_follow.Goals as goal

pub returns : goal.returns
returns c = steps_follow
