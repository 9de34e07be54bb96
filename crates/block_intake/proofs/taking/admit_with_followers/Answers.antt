use Rattle.std.proofs.Common.{arith, ◌≡◌, ◌∷◌, [], refl, ap, sym, subst, ◌∙◌}
use Rattle.wait_room.specs.Rooms.{linked_in}
use Rattle.relay_model.specs.Offers.{Intake}
use Rattle.block_intake.specs.Taking.{CanTake, intake_of}
use Rattle.block_intake.proofs.TakingFacts.{children_linked, intake_by, start_can, start_fits}
use Rattle.block_intake.proofs.taking.admit_with_followers.Goals as goal

pub append_reserved-requires-clause-fits : goal.append_reserved-requires-clause-fits
append_reserved-requires-clause-fits c = start_fits c.args.db.now c.args.room.now c.args.slip c.requires.can

pub take_waiting-requires-clause-linked : goal.take_waiting-requires-clause-linked
take_waiting-requires-clause-linked c =
    let more : c.append_reserved.new.self.history ≡ c.args.slip ∷ c.args.db.now.history = c.append_reserved.ensures.appended.history in
    c.children-children.ensures ∙ sym (children_linked c.args.db.now c.args.room.now c.args.slip c.requires.can) ∙ ap (λ l. linked_in l c.args.room.now.waiting) (sym more)

pub take_waiting-requires-clause-can : goal.take_waiting-requires-clause-can
take_waiting-requires-clause-can c =
    let more = c.append_reserved.ensures.appended.history in
    let same : intake_of c.append_reserved.new.self c.args.room.now c.args.drops.now ≡ intake_by (c.args.slip ∷ c.args.db.now.history) c.args.room.now.waiting [] = rw (more, c.requires.empty) refl in
    subst (λ (e : Intake). CanTake e c.append_reserved.new.self.room) (sym same) (start_can c.args.db.now c.args.room.now c.args.slip c.append_reserved.new.self.room c.requires.can (omega (arith, c.append_reserved.ensures.room, c.requires.room)))

pub take_waiting-requires-clause-spare : goal.take_waiting-requires-clause-spare
take_waiting-requires-clause-spare c =
    let more = c.append_reserved.ensures.appended.history in
    let same : intake_of c.append_reserved.new.self c.args.room.now c.args.drops.now ≡ intake_by (c.args.slip ∷ c.args.db.now.history) c.args.room.now.waiting [] = rw (more, c.requires.empty) refl in
    subst (λ (e : Intake). CanTake e c.args.drops.now.spare) (sym same) (start_can c.args.db.now c.args.room.now c.args.slip c.args.drops.now.spare c.requires.can c.requires.spare)
