use Rattle.std.proofs.Common.{◌∙◌, ap}
use Rattle.std.proofs.lemmas.List.{take_rest}
use Rattle.chain_model.specs.Steps.{keep_while, is_after}
use Rattle.chain_model.specs.Seen.{seen, steps_seen}
use Rattle.chain_model.proofs.public.ScanFacts.{all_steps}
use Rattle.chain_model.proofs.steps.between.Goals as goal

pub returns : goal.returns
returns c =
    all_steps _ _ _ _ _ _ c.args.lib.now _ _ _ _ _
    c.count_apart-undone.ensures.front c.count_apart-added.ensures.front
    (c.count_after-unmarked.ensures.front ∙ ap (keep_while (is_after c.args.lib.now)) (ap seen (take_rest c.args.wanted.now c.count_apart-added.result) ∙ c.count_apart-added.ensures.rest))
    (ap steps_seen c.new-steps.ensures.items) c.in_ok-push_down.ensures c.in_ok-push_up.ensures c.in_ok-push_up-2.ensures c.in_ok-push_up-3.ensures
