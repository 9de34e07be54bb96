use Rattle.std.proofs.Common.{arith, ◌≡◌, ◌<◌, ◌+◌, ◌-◌, ap, sym, ◌∙◌, length}
use Rattle.std.specs.Option.{option_copied}
use Rattle.wait_room.proofs.public.RoomFacts.{descends_end, descends_on}
use Rattle.wait_room.proofs.room.WaitRoom.descends.Goals as goal

pub returns-in-None : goal.returns-in-None
returns-in-None c =
    let room = c.args.self.now.waiting in
    let left : 0 < length room - c.loop.counter = omega arith in
    sym (descends_end (length room - c.loop.counter) room c.args.id.now c.loop.at.now left (sym c.eq.ensures ∙ c.if-eq.false) (sym c.find.ensures ∙ ap option_copied c.in-None.is) c.blocks-end.ensures.distinct)
    ∙ c.loop.invariant

pub loop-preserved : goal.loop-preserved
loop-preserved c =
    let room = c.args.self.now.waiting in
    let one : length room - c.loop.counter ≡ (length room - (c.loop.counter + 1)) + 1 = omega arith in
    sym (descends_on (length room - c.loop.counter) (length room - (c.loop.counter + 1)) room c.args.id.now c.loop.at.now c.in-Some.parent.now one (sym c.eq.ensures ∙ c.if-eq.false) (sym c.find.ensures ∙ ap option_copied c.in-Some.is) c.blocks-end.ensures.distinct)
    ∙ c.loop.invariant
