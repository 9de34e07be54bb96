use Rattle.std.proofs.Common.{◌≡◌, take, reverse}
use Rattle.std.specs.List.{filter_map}
use Rattle.std.specs.Option.{option_copied}
use Rattle.chain_model.specs.Finality.{claim, greatest}
use Rattle.chain_model.proofs.scans.final_tip_of.Given as goal

abbrev pub invariant-loop-block : goal.invariant-loop-block
invariant-loop-block l = option_copied l.best ≡ greatest (filter_map (claim (reverse l.history)) (reverse (take l.block-index l.history)))
