use Rattle.std.proofs.Common.{arith, rules, ◌≡◌, List, Result, Err, is_some, ap, ◌∙◌, refl, subst, sym}
use Rattle.block_intake.specs.declared.answers.Offered.{Offered}
use Rattle.block_intake.specs.declared.answers.OfferFault.{OfferFault}
use Rattle.block_record.specs.declared.blocks.Slip.{Slip}
use Rattle.fork_db.specs.Claims.{IsLinkOf}
use Rattle.relay_model.specs.Worlds.{World}
use Rattle.relay_model.specs.Offers.{judge}
use Rattle.relay_model.specs.Verdicts as verdict
use Rattle.block_intake.specs.Intakes.{IsOffered, world_taken}
use Rattle.block_intake.proofs.public.IntakeFacts.{admitted_offer, refused_room, takes_rule, unchanged_world}
use Rattle.block_intake.proofs.intake.Intake.take_linked.Goals as goal

pub admit-from-requires-clause-takes : goal.admit-from-requires-clause-takes
admit-from-requires-clause-takes c =
    ap (λ (w : World). judge w c.args.slip) (unchanged_world _ _ c.make_room.ensures.unchanged)
    ∙ takes_rule (world_taken c.args.self.now) c.args.slip c.requires.links (λ less. absurd (grind (arith, c.in_ok-make_room.ensures.limited less)))

pub admit-from-requires-clause-linked : goal.admit-from-requires-clause-linked
admit-from-requires-clause-linked c = subst (λ (l : List Slip). IsLinkOf l c.args.slip c.args.linked) (sym c.make_room.ensures.unchanged.history) c.requires.linked

pub admit-from-requires-clause-room : goal.admit-from-requires-clause-room
admit-from-requires-clause-room c = omega (arith, c.in_ok-make_room.ensures.ok.follow, c.in_ok-make_room.ensures.ok.history)

pub admit-from-requires-clause-spare : goal.admit-from-requires-clause-spare
admit-from-requires-clause-spare c = omega (arith, c.in_ok-make_room.ensures.ok.follow, c.in_ok-make_room.ensures.ok.spare)

pub returns : goal.returns
returns c =
    let rule : judge (world_taken c.args.self.now) c.args.slip ≡ verdict.Admitted =
    takes_rule (world_taken c.args.self.now) c.args.slip c.requires.links (λ less. absurd (grind (arith, c.in_ok-make_room.ensures.limited less))) in
    admitted_offer c.args.self.now c.make_room.new.self c.admit-from.new.self c.args.slip _ _ c.make_room.ensures.unchanged rule c.admit-from.ensures.said refl c.admit-from.ensures.world c.admit-from.ensures.held

pub returns-in_err-make_room : goal.returns-in_err-make_room
returns-in_err-make_room c =
    let is : c.from_residual.result ≡ Err c.in_err-make_room.field-0.0 = search rules in
    subst (λ (r : Result Offered OfferFault). IsOffered (judge (world_taken c.args.self.now) c.args.slip) c.args.slip (is_some c.args.block) c.args.self.now c.make_room.new.self r) (sym is)
    (refused_room c.args.self.now c.make_room.new.self c.args.slip (is_some c.args.block) c.in_err-make_room.field-0.0 c.in_err-make_room.ensures.unchanged c.in_err-make_room.ensures.faults c.requires.links
    (λ len need e. c.in_err-make_room.ensures.full len need (ap Err e)))
