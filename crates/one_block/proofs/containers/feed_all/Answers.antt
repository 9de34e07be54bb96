use Rattle.std.proofs.Common.{[], ◌++◌, ◌∙◌, ap}
use Rattle.one_block.proofs.public.ContainerFacts.{all_messages}
use Rattle.one_block.proofs.containers.feed_all.Goals as goal

pub returns-clause-state : goal.returns-clause-state
returns-clause-state c = (c.feed.ensures.read [] c.requires c.in_ok-unless_memory.ensures).state

pub returns-clause-messages : goal.returns-clause-messages
returns-clause-messages c =
    let r = c.feed.ensures.read [] c.requires c.in_ok-unless_memory.ensures in
    r.grows ∙ ap (λ l. c.args.messages.now.items ++ l) (all_messages c.args.text.now r.more r.further)
