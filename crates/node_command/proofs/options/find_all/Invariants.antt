use Rattle.std.proofs.Common.{◌≡◌, length, map}
use Rattle.command_words.specs.Options.{all_options}
use Rattle.node_command.specs.NodeWords.{found_with, none_found}
use Rattle.node_command.proofs.options.find_all.Given as goal

abbrev pub invariant-loop-rest : goal.invariant-loop-rest
invariant-loop-rest l = all_options found_with l.found (map (λ w. w.items) l.rest) ≡ all_options found_with none_found (map (λ w. w.items) l.words)

abbrev pub decreases-loop-rest : goal.decreases-loop-rest
decreases-loop-rest l = length l.rest
