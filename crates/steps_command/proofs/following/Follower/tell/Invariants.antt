use Rattle.std.proofs.Common.{◌≡◌, List, ◌++◌, map}
use Rattle.block_record.specs.declared.blocks.Slip.{Slip}
use Rattle.block_record.specs.Slips.{slip}
use Rattle.step_text.specs.StepText.{tell, prepend}
use Rattle.steps_command.proofs.following.Follower.tell.Given as goal

abbrev pub invariant-loop-block : goal.invariant-loop-block
invariant-loop-block l =
    (more : List Slip) → prepend l.text.items (tell (map slip l.block-iterator.rest.items ++ more) l.self.world l.self.place)
    ≡ prepend l.fn.text.items (tell (map slip l.fn.blocks.items ++ more) l.fn.self.world l.fn.self.place)
