use Rattle.std.proofs.Common.{refl, ◌∙◌}
use Rattle.block_intake.specs.Intakes.{IsUnchanged, taken_in}
use Rattle.block_intake.proofs.public.IntakeFacts.{unchanged_sound}
use Rattle.block_intake.proofs.intake.Intake.make_room.Goals as goal

pub invariant_of-self : goal.invariant_of-self
invariant_of-self c =
    let t = c.self.inside in
    let v = taken_in t.first t.db t.room t.drops.spare in
    let new = taken_in t.first c.make_room.new.db t.room t.drops.spare in
    let u : IsUnchanged v new = record { first = refl; history = c.make_room.ensures.history; held = c.make_room.ensures.held; limit = c.make_room.ensures.limit; room = refl } in
    (unchanged_sound v new u c.self.invariant.0, c.self.invariant.1)

pub invariant_of-self-in_err-reserve : goal.invariant_of-self-in_err-reserve
invariant_of-self-in_err-reserve c =
    let t = c.self.inside in
    let v = taken_in t.first t.db t.room t.drops.spare in
    let new = taken_in t.first c.make_room.new.db t.room c.reserve.new.self.spare in
    let u : IsUnchanged v new = record { first = refl; history = c.make_room.ensures.history; held = c.make_room.ensures.held; limit = c.make_room.ensures.limit; room = refl } in
    (unchanged_sound v new u c.self.invariant.0, c.reserve.ensures.conflicts ∙ c.self.invariant.1)

pub invariant_of-self-2 : goal.invariant_of-self-2
invariant_of-self-2 c =
    let t = c.self.inside in
    let v = taken_in t.first t.db t.room t.drops.spare in
    let new = taken_in t.first c.make_room.new.db t.room c.reserve.new.self.spare in
    let u : IsUnchanged v new = record { first = refl; history = c.make_room.ensures.history; held = c.make_room.ensures.held; limit = c.make_room.ensures.limit; room = refl } in
    (unchanged_sound v new u c.self.invariant.0, c.reserve.ensures.conflicts ∙ c.self.invariant.1)
