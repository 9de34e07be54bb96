use Rattle.std.proofs.Common.{not, sym, ◌∙◌}
use Rattle.std.specs.Arc.{arc_value}
use Rattle.block_record.specs.declared.blocks.Slip.{Slip}
use Rattle.block_record.specs.Ids.{same_id}
use Rattle.wait_room.proofs.public.LinkedFacts.{linked_taken, none_linked}
use Rattle.wait_room.proofs.public.RoomFacts.{found_kept, where_kept}
use Rattle.wait_room.proofs.room.WaitRoom.take_linked.Goals as goal

pub returns-clause-kept : goal.returns-clause-kept
returns-clause-kept g c = where_kept (λ (s : Slip). not (same_id s.id c.take_at.result.0.id)) c.args.self.now c.take_at.new.self c.take_at.ensures.room

pub returns-clause-given : goal.returns-clause-given
returns-clause-given g c = λ kept. found_kept arc_value c.args.self.now.waiting c.args.self.now.held c.take_at.result.0.id c.take_at.result.1 kept c.take_at.ensures.block

pub returns-clause-left : goal.returns-clause-left
returns-clause-left g c =
    c.requires ∙ linked_taken (g.H.Holds.history c.args.known.now) c.args.self.now.waiting c.take_at.new.self.waiting c.take_at.result.0 (sym c.take_at.ensures.slip ∙ c.in_ok-at.ensures.least) c.take_at.ensures.counts

pub returns-in_err-at-clause-none : goal.returns-in_err-at-clause-none
returns-in_err-at-clause-none g c =
    rw c.from_residual.ensures (c.requires ∙ none_linked (g.H.Holds.history c.args.known.now) c.args.self.now.waiting (sym c.in_err-at.ensures.least))
