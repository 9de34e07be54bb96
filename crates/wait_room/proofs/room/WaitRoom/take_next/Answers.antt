use Rattle.std.proofs.Common.{not}
use Rattle.std.specs.Arc.{arc_value}
use Rattle.block_record.specs.declared.blocks.Slip.{Slip}
use Rattle.block_record.specs.Ids.{same_id}
use Rattle.wait_room.proofs.public.RoomFacts.{found_kept, where_kept}
use Rattle.wait_room.proofs.room.WaitRoom.take_next.Goals as goal

pub returns-clause-kept : goal.returns-clause-kept
returns-clause-kept g c = where_kept (λ (s : Slip). not (same_id s.id c.take_at.result.0.id)) c.args.self.now c.take_at.new.self c.take_at.ensures.room

pub returns-clause-given : goal.returns-clause-given
returns-clause-given g c = λ kept. found_kept arc_value c.args.self.now.waiting c.args.self.now.held c.take_at.result.0.id c.take_at.result.1 kept c.take_at.ensures.block
