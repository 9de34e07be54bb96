use Rattle.std.proofs.Common.{inr, sym, ◌∙◌, arith}
use Rattle.shelf_check.proofs.bundles.next_block.Goals as goal

pub returns-then-is_next : goal.returns-then-is_next
returns-then-is_next c = record { block = c.in_ok-block.block; record_is = c.in_ok-block.ensures; next = sym c.is_next.ensures ∙ c.if-is_next.true; tip_is = c.into_ref.ensures }

pub returns-else-is_next : goal.returns-else-is_next
returns-else-is_next c = inr (record { block = c.in_ok-block.block; record_is = c.in_ok-block.ensures; not_next = sym c.is_next.ensures ∙ c.if-is_next.false; at_is = omega arith })
