use Rattle.std.proofs.Common.{map, sym, ◌∙◌}
use Rattle.command_words.specs.Seen.{option_seen}
use Rattle.command_words.proofs.public.OptionFacts.{option_put}
use Rattle.node_command.specs.NodeWords.{found_with}
use Rattle.node_command.proofs.options.find_all.Goals as goal

pub loop-rest-preserved : goal.loop-rest-preserved
loop-rest-preserved c =
    let rest = map (λ w. w.items) c.loop-rest.rest.now in
    let more = map (λ w. w.items) c.in_ok-option.more.now in
    sym (option_put found_with c.loop-rest.found c.in_ok-found.found rest more (option_seen c.in_ok-option.option) (sym c.in_ok-option.ensures.option) (sym c.in_ok-found.ensures)) ∙ c.loop-rest.invariant
